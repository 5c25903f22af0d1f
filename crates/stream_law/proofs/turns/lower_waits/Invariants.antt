use Rattle.std.proofs.Common.{◌≡◌, ◌++◌, map, take, drop}
use Rattle.stream_law.specs.Waiting.{lowered}
use Rattle.stream_law.proofs.turns.lower_waits.Given as goal

abbrev pub invariant-loop-turn : goal.invariant-loop-turn
invariant-loop-turn l = l.left ≡ map (lowered l.end) (take l.turn-index l.initial.left) ++ drop l.turn-index l.initial.left
