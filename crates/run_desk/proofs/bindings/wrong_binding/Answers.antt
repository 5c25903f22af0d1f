use Rattle.std.proofs.Common.{◌+◌, sym, ap, ◌∙◌}
use Rattle.run_desk.proofs.BindingLaws.{right_more}
use Rattle.run_desk.proofs.bindings.wrong_binding.Goals as goal

pub loop-binding-preserved : goal.loop-binding-preserved
loop-binding-preserved c =
    let right = rw c.loop-binding.invariant.place at (sym c.is_right.ensures ∙ c.if-not-is_right.false) in
    record {
      place = ap (λ n. n + 1) c.loop-binding.invariant.place;
      so_far = right_more c.args.plan.now c.args.bindings.now c.loop-binding.binding-index c.binding-item.result c.loop-binding-test.true c.binding-item.is right ∙ c.loop-binding.invariant.so_far;
    }
