use Rattle.std.proofs.Common.{◌≡◌, take, map}
use Rattle.stream_law.specs.Waiting.{turns_from}
use Rattle.fw_units.specs.Units.{comp_by, edge_by}
use Rattle.fw_schedule.proofs.ordering.turns.Given as goal

abbrev pub invariant-loop-k : goal.invariant-loop-k
invariant-loop-k l = l.left.items ≡ turns_from (map edge_by l.buffers) 0 (take l.k (map comp_by l.comps))
