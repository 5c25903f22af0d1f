use Rattle.std.proofs.Common.{length}
use Rattle.stream_law.specs.BareOrder.{bare}
use Rattle.stream_law.proofs.Taking.{Taken}
use Rattle.stream_law.proofs.ordering.order_of.Given as goal

abbrev pub invariant-loop-turn : goal.invariant-loop-turn
invariant-loop-turn l = Taken (bare l.comps l.edges) l.places.items l.left.items

abbrev pub decreases-loop-turn : goal.decreases-loop-turn
decreases-loop-turn l = length l.left.items
