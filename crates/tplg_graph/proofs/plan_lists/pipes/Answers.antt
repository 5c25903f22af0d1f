use Rattle.std.proofs.Common.{sym, ap, ◌∙◌, ◌++◌}
use Rattle.std.specs.List.{filter_map, range_with_len}
use Rattle.std.specs.Option.{option_to_list}
use Rattle.tplg_graph.specs.PlanLists.{pipeline_at}
use Rattle.tplg_widgets.proofs.Indexed.{filter_map-next}
use Rattle.tplg_graph.proofs.plan_lists.pipes.Goals as goal

pub loop-id-preserved : goal.loop-id-preserved
loop-id-preserved c =
    c.in_ok-push_some.ensures
    ∙ ap (λ xs. xs ++ option_to_list c.pipeline_at-pipe.result) c.loop-id.invariant
    ∙ ap (λ o. filter_map (pipeline_at c.args.widgets.now c.args.parts.now) (range_with_len 0 c.loop-id.id) ++ option_to_list o) c.pipeline_at-pipe.ensures
    ∙ sym (filter_map-next (pipeline_at c.args.widgets.now c.args.parts.now) c.loop-id.id)
