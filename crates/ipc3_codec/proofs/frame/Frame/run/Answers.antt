use Rattle.std.proofs.Common.{◌≡◌, ◌+◌, ◌-◌, ◌*◌, refl, sym, ap, ◌∙◌, arith}
use Rattle.sof_base.specs.Slots.{word_at}
use Rattle.ipc3_codec.specs.Reading.{run_in}
use Rattle.ipc3_codec.proofs.Runs.{run_none, run_passes, run_fails}
use Rattle.ipc3_codec.proofs.frame.Frame.run.Goals as goal

pub loop-i-init : goal.loop-i-init
loop-i-init c =
    let e : c.args.at + c.args.width * 0 ≡ c.args.at = omega arith in
    let k : c.args.count - 0 ≡ c.args.count = omega arith in
    rw (e, k) refl

pub returns-then-saturating_sub-width : goal.returns-then-saturating_sub-width
returns-then-saturating_sub-width c =
    let size : c.self.inside.size ≡ word_at c.args.self.now 0 = rw (← c.self.view_is) c.self.invariant.0 in
    sym (c.loop-i.invariant ∙ run_fails c.args.self.now c.args.width c.args.at c.loop-i.i c.args.count c.loop-i-test.true (omega (arith, size)))

pub loop-i-preserved : goal.loop-i-preserved
loop-i-preserved c =
    let size : c.self.inside.size ≡ word_at c.args.self.now 0 = rw (← c.self.view_is) c.self.invariant.0 in
    c.loop-i.invariant ∙ run_passes c.args.self.now c.args.width c.args.at c.loop-i.i c.args.count c.loop-i-test.true (omega (arith, size))

pub returns : goal.returns
returns c =
    let k : c.args.count - c.loop-i.i ≡ 0 = omega arith in
    sym (c.loop-i.invariant ∙ ap (run_in c.args.self.now c.args.width (c.args.at + c.args.width * c.loop-i.i)) k ∙ run_none c.args.self.now c.args.width (c.args.at + c.args.width * c.loop-i.i))
