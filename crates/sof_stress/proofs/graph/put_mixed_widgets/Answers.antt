use Rattle.std.proofs.Common.{◌++◌, ap, ◌∙◌, append_assoc}
use Rattle.sof_stress.specs.GraphParts.{up_to_equaliser, behind_equaliser}
use Rattle.sof_stress.proofs.graph.put_mixed_widgets.Goals as goal

pub returns : goal.returns
returns c =
    c.in_ok-put_behind_equaliser.ensures ∙ ap (λ xs. xs ++ behind_equaliser) c.in_ok-put_up_to_equaliser.ensures ∙ append_assoc c.args.widgets.now up_to_equaliser behind_equaliser
