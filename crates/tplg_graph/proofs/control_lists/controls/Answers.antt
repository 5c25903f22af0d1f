use Rattle.std.proofs.Common.{sym, ap, ◌∙◌, ◌++◌}
use Rattle.std.specs.List.{filter_map, range_with_len}
use Rattle.std.specs.Option.{option_to_list}
use Rattle.tplg_graph.specs.PlanLists.{entry_control}
use Rattle.tplg_widgets.proofs.Indexed.{filter_map-next}
use Rattle.tplg_graph.proofs.control_lists.controls.Goals as goal

pub loop-id-preserved : goal.loop-id-preserved
loop-id-preserved c =
    c.in_ok-push_some.ensures
    ∙ ap (λ xs. xs ++ option_to_list c.in_ok-control.control) c.loop-id.invariant
    ∙ ap (λ o. filter_map (entry_control c.args.parts.now) (range_with_len 0 c.loop-id.id) ++ option_to_list o) c.in_ok-control.ensures
    ∙ sym (filter_map-next (entry_control c.args.parts.now) c.loop-id.id)
