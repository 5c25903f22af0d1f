use Rattle.std.proofs.Common.{◌≡◌, ◌++◌, map, take}
use Rattle.host_dynamic.proofs.ids.list_comps.Given as goal

abbrev pub invariant-loop-comp : goal.invariant-loop-comp
invariant-loop-comp g l = l.ids.items ≡ l.initial.ids.items ++ map (λ c. c.id) (take l.comp-index l.comps)
