use Rattle.std.proofs.Common.{◌≡◌, map, take}
use Rattle.stream_law.specs.Waiting.{freed}
use Rattle.fw_units.specs.Units.{edge_by}
use Rattle.fw_schedule.proofs.ordering.free.Given as goal

abbrev pub invariant-loop-buffer : goal.invariant-loop-buffer
invariant-loop-buffer l = l.left ≡ map (freed (map edge_by l.buffers) l.id (take l.buffer-index (map edge_by l.buffers))) l.initial.left
