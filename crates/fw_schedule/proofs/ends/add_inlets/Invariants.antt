use Rattle.std.proofs.Common.{◌≡◌, ◌++◌, map, filter, take}
use Rattle.fw_components.specs.Tables.{view_by}
use Rattle.fw_schedule.specs.Schedules.{ArePlaces}
use Rattle.fw_schedule.proofs.KeptEnds.{is_inlet}
use Rattle.fw_schedule.proofs.ends.add_inlets.Given as goal

abbrev pub invariant-loop-at : goal.invariant-loop-at
invariant-loop-at l = record {
  ids : l.ends.ids.items ≡ l.fn.ends.ids.items ++ map (λ c. c.id) (filter (is_inlet l.registry l.id l.chooses) (take l.at l.buffers));
  places : ArePlaces (view_by l.registry) l.ends;
}
