use Rattle.std.proofs.Common.{◌≡◌, ◌++◌, map, take, drop}
use Rattle.fw_units.specs.Changes.{with_ended}
use Rattle.fw_units.proofs.table.end_in.Given as goal

abbrev pub invariant-loop-component : goal.invariant-loop-component
invariant-loop-component l = l.component-items ≡ map (with_ended l.id) (take l.component-index l.initial.component-items) ++ drop l.component-index l.initial.component-items
