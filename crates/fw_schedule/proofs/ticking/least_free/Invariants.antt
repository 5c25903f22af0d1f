use Rattle.std.proofs.Common.{◌≡◌, ◌+◌, ◌-◌, ◌≤◌, map, take, length}
use Rattle.std.specs.List.{AllByRecursion}
use Rattle.stream_law.specs.Moves.{least}
use Rattle.fw_components.specs.Tables.{held_frames, capacity_at}
use Rattle.fw_schedule.proofs.ticking.least_free.Given as goal

abbrev pub invariant-loop-i : goal.invariant-loop-i
invariant-loop-i l = record {
  least : l.n ≡ least l.most (map (λ b. capacity_at l.registry b - length (held_frames l.registry b)) (take l.i l.fed));
  fit : AllByRecursion (λ b. l.n + length (held_frames l.registry b) ≤ capacity_at l.registry b) (take l.i l.fed);
}
