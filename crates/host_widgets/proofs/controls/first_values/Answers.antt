use Rattle.std.proofs.Common.{replicate, ◌∙◌}
use Rattle.host_widgets.proofs.FirstSettings.{values-are}
use Rattle.host_widgets.proofs.controls.first_values.Goals as goal

pub returns : goal.returns
returns c = c.same_numbers.ensures ∙ (λ i. replicate (c.count.ensures i) (c.first_value.ensures i)) ∙ values-are c.args.kind.now
