use Rattle.std.proofs.Common.{◌≡◌, map, take}
use Rattle.stream_law.specs.Waiting.{freed}
use Rattle.stream_law.proofs.turns.free.Given as goal

abbrev pub invariant-loop-e : goal.invariant-loop-e
invariant-loop-e l = l.left ≡ map (freed l.edges l.id (take l.e-index l.edges)) l.initial.left
