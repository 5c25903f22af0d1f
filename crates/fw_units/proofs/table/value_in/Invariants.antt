use Rattle.std.proofs.Common.{◌≡◌, ◌++◌, map, take, drop}
use Rattle.fw_units.specs.Values.{valued_at}
use Rattle.fw_units.proofs.table.value_in.Given as goal

abbrev pub invariant-loop-component : goal.invariant-loop-component
invariant-loop-component l = l.component-items ≡ map (valued_at l.id l.values) (take l.component-index l.initial.component-items) ++ drop l.component-index l.initial.component-items
