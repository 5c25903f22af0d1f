use Rattle.std.proofs.Common.{◌≡◌, map, take, length}
use Rattle.stream_law.specs.Moves.{least}
use Rattle.fw_components.specs.Tables.{held_frames}
use Rattle.fw_schedule.proofs.ticking.least_held.Given as goal

abbrev pub invariant-loop-i : goal.invariant-loop-i
invariant-loop-i l = l.n ≡ least l.most (map (λ b. length (held_frames l.registry b)) (take l.i l.looked))
