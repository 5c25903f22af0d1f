use Rattle.std.proofs.Common.{length}
use Rattle.stream_law.proofs.Taking.{Taken}
use Rattle.fw_components.specs.Tables.{graph_of}
use Rattle.fw_schedule.proofs.ordering.order.Given as goal

abbrev pub invariant-loop-turn : goal.invariant-loop-turn
invariant-loop-turn l = Taken (graph_of l.registry) l.places.items l.left.items

abbrev pub decreases-loop-turn : goal.decreases-loop-turn
decreases-loop-turn l = length l.left.items
