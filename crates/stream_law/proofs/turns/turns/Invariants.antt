use Rattle.std.proofs.Common.{◌≡◌, take}
use Rattle.stream_law.specs.Waiting.{turns_from}
use Rattle.stream_law.proofs.turns.turns.Given as goal

abbrev pub invariant-loop-k : goal.invariant-loop-k
invariant-loop-k l = l.left.items ≡ turns_from l.edges 0 (take l.k l.comps)
