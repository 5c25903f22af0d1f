use Rattle.std.proofs.Common.{◌≡◌, ◌+◌, ◌≤◌, ℕ, length, Ok, Err, subst, arith, rules}
use Rattle.sof_desk.specs.declared.calls.DeskFailed.{DeskFailed}
use Rattle.run_serve.specs.Reads.{Filled}
use Rattle.run_serve.proofs.ReadLaws.{within-more, brought-short, unread-head, brought-or}
use Rattle.run_serve.proofs.reading.read_record.Goals as goal

pub returns-in_err-there-clause-brought : goal.returns-in_err-there-clause-brought
returns-in_err-there-clause-brought g c =
    let out : c.from_residual.result ≡ Err c.in_err-there.field-0.0 = search rules in
    let filled : Filled {F = DeskFailed} g.D.Desk.means 0 8 c.args.bytes.now (Err c.in_err-there.field-0.0) c.fill.new.bytes c.args.desk.now c.fill.new.desk = rw c.in_err-there.was at c.fill.ensures.filled in
    rw out (unread-head g.D.Desk.means DeskFailed c.args.bytes.now c.args.desk.now c.in_err-there.field-0.0 c.fill.new.bytes c.fill.new.desk filled)

pub returns-then-there-lt8-clause-brought : goal.returns-then-there-lt8-clause-brought
returns-then-there-lt8-clause-brought g c =
    let filled : Filled {F = DeskFailed} g.D.Desk.means 0 8 c.args.bytes.now (Ok c.in_ok-there.there) c.fill.new.bytes c.args.desk.now c.fill.new.desk = rw c.in_ok-there.was at c.fill.ensures.filled in
    brought-short g.D.Desk.means DeskFailed c.args.bytes.now c.args.desk.now c.in_ok-there.there c.fill.new.bytes c.fill.new.desk c.if-there-lt8.true filled

pub returns-clause-within : goal.returns-clause-within
returns-clause-within g c = within-more c.fill-2.result (8 + c.size_after-size.result) 392 c.fill-2.ensures.within (omega (arith, c.size_after-size.ensures.few))

pub returns-clause-brought : goal.returns-clause-brought
returns-clause-brought g c =
    let means = g.D.Desk.means in
    let eight : c.in_ok-there.there ≡ 8 = omega (arith, c.in_ok-there.ensures.within, c.if-there-lt8.false) in
    let long : 8 ≤ length c.fill.new.bytes = omega arith in
    let there : Filled {F = DeskFailed} means 0 8 c.args.bytes.now (Ok c.in_ok-there.there) c.fill.new.bytes c.args.desk.now c.fill.new.desk = rw c.in_ok-there.was at c.fill.ensures.filled in
    let first = subst (λ (n : ℕ). Filled {F = DeskFailed} means 0 8 c.args.bytes.now (Ok n) c.fill.new.bytes c.args.desk.now c.fill.new.desk) eight there in
    brought-or means DeskFailed c.args.bytes.now c.args.desk.now c.size_after-size.result c.fill.new.bytes c.fill.new.desk long c.size_after-size.ensures.size c.fill-2.new.bytes c.fill-2.new.desk c.fill-2.result first c.fill-2.ensures.filled
