use Rattle.std.proofs.Common.{◌≡◌, map, take}
use Rattle.fw_places.specs.Walks.{by_places}
use Rattle.fw_places.proofs.places.resolve.Given as goal

abbrev pub invariant-loop-i : goal.invariant-loop-i
invariant-loop-i l = take l.i l.ends ≡ map (by_places l.ids) (take l.i l.joins)
