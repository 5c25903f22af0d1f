use Rattle.std.proofs.Common.{◌≡◌}
use Rattle.std.specs.List.{filter_map, range_with_len}
use Rattle.tplg_graph.specs.PlanLists.{entry_control}
use Rattle.tplg_graph.proofs.control_lists.controls.Given as goal

abbrev pub invariant-loop-id : goal.invariant-loop-id
invariant-loop-id l = l.out.items ≡ filter_map (entry_control l.parts) (range_with_len 0 l.id)
