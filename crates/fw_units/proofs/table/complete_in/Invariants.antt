use Rattle.std.proofs.Common.{◌≡◌, ◌++◌, map, take, drop}
use Rattle.fw_units.specs.Changes.{completed_at}
use Rattle.fw_units.proofs.table.complete_in.Given as goal

abbrev pub invariant-loop-component : goal.invariant-loop-component
invariant-loop-component l = l.component-items ≡ map (completed_at l.id) (take l.component-index l.initial.component-items) ++ drop l.component-index l.initial.component-items
