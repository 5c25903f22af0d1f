use Rattle.std.proofs.Common.{length, ap, ◌∙◌, arith}
use Rattle.tplg_widgets.specs.Ends.{all_ends}
use Rattle.tplg_widgets.proofs.wiring.Wiring.of.Goals as goal

pub invariant_of-result : goal.invariant_of-result
invariant_of-result c =
    let count = ap length (c.in_ok-ends.ensures ∙ ap (λ es. all_ends es c.args.topology.now) c.in_ok-widgets.ensures) in
    omega (arith, count, c.requires.routes)
