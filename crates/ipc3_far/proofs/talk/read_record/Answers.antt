use Rattle.std.proofs.Common.{◌≡◌, ℕ, subst, arith}
use Rattle.ipc3_far.specs.FarEnds.{ReadsOn}
use Rattle.ipc3_far.proofs.FarReads.{whole_or}
use Rattle.ipc3_far.proofs.talk.read_record.Goals as goal

pub returns-clause-read : goal.returns-clause-read
returns-clause-read g c =
    let old = g.R.Read.remaining c.args.from.now in
    let m = g.R.Read.remaining c.fill.new.from in
    let eight : c.in_ok-there.there ≡ 8 = omega (arith, c.in_ok-there.ensures.within, c.if-there-lt8.false) in
    let first : ReadsOn 0 8 c.args.bytes.now c.fill.new.bytes old m = subst (λ (n : ℕ). ReadsOn 0 n c.args.bytes.now c.fill.new.bytes old m) eight c.in_ok-there.ensures.read in
    whole_or c.args.bytes.now c.fill.new.bytes old m c.size_after-size.result c.fill-2.new.bytes (g.R.Read.remaining c.fill-2.new.from) (omega arith) c.size_after-size.ensures.size (omega (arith, c.size_after-size.ensures.few)) first c.fill-2.result c.fill-2.ensures.within c.fill-2.ensures.read
