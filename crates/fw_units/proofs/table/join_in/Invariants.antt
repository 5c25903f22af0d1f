use Rattle.std.proofs.Common.{◌≡◌, ◌++◌, map, take, drop}
use Rattle.fw_units.specs.Changes.{joined_at}
use Rattle.fw_units.proofs.table.join_in.Given as goal

abbrev pub invariant-loop-component : goal.invariant-loop-component
invariant-loop-component l = l.component-items ≡ map (joined_at l.join) (take l.component-index l.initial.component-items) ++ drop l.component-index l.initial.component-items
