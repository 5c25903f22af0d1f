use Rattle.std.proofs.Common.{◌≡◌, map, take}
use Rattle.std.specs.List.{AllByRecursion}
use Rattle.stream_law.specs.Order.{order}
use Rattle.fw_components.specs.Tables.{graph_of, view_by}
use Rattle.fw_schedule.specs.Schedules.{IsStepOf, ArePlaces}
use Rattle.fw_schedule.proofs.InletRooms.{all_ends}
use Rattle.fw_schedule.proofs.schedules.Schedule.of.Given as goal

-- the first components have their steps, inlets and what they feed, with places
abbrev pub invariant-loop-i : goal.invariant-loop-i
invariant-loop-i l = record {
  ids : map (λ s. s.id) l.steps.items ≡ take l.i (order (graph_of l.registry));
  ends : l.ends.ids.items ≡ all_ends (view_by l.registry) (take l.i (order (graph_of l.registry)));
  steps : AllByRecursion (IsStepOf (view_by l.registry) l.ends.ids.items) l.steps.items;
  places : ArePlaces (view_by l.registry) l.ends;
}
