use Rattle.std.proofs.Common.{◌≡◌}
use Rattle.std.specs.List.{filter_map, range_with_len}
use Rattle.tplg_graph.specs.PlanLists.{pipeline_at}
use Rattle.tplg_graph.proofs.plan_lists.pipes.Given as goal

abbrev pub invariant-loop-id : goal.invariant-loop-id
invariant-loop-id l = l.out.items ≡ filter_map (pipeline_at l.widgets l.parts) (range_with_len 0 l.id)
