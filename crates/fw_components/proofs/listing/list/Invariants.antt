use Rattle.std.proofs.Common.{◌≡◌, ◌++◌, map, take}
use Rattle.fw_components.proofs.listing.list.Given as goal

abbrev pub invariant-loop-component : goal.invariant-loop-component
invariant-loop-component l = l.ids.items ≡ l.initial.ids.items ++ map (λ c. c.id) (take l.component-index l.components)
