use Rattle.std.proofs.Common.{◌≡◌, ◌++◌, map, take, drop}
use Rattle.fw_units.specs.Changes.{set_at}
use Rattle.fw_units.proofs.table.set_stream_in.Given as goal

abbrev pub invariant-loop-component : goal.invariant-loop-component
invariant-loop-component l = l.component-items ≡ map (set_at l.id l.phase l.params) (take l.component-index l.initial.component-items) ++ drop l.component-index l.initial.component-items
