use Rattle.std.proofs.Common.{◌++◌, ap, ◌∙◌, append_assoc}
use Rattle.sof_stress.specs.GraphParts.{up_to_volume, behind_volume}
use Rattle.sof_stress.proofs.graph.put_stream_widgets.Goals as goal

pub returns : goal.returns
returns c =
    let i = c.args.i in
    c.in_ok-put_behind_volume.ensures ∙ ap (λ xs. xs ++ behind_volume i) c.in_ok-put_up_to_volume.ensures ∙ append_assoc c.args.widgets.now (up_to_volume i) (behind_volume i)
