use Rattle.std.proofs.Common.{◌≡◌, drop, None}
use Rattle.stream_law.specs.Waiting.{best_of}
use Rattle.stream_law.proofs.turns.next_turn.Given as goal

abbrev pub invariant-loop-turn : goal.invariant-loop-turn
invariant-loop-turn l = best_of None l.left ≡ best_of l.best (drop l.turn-index l.left)
