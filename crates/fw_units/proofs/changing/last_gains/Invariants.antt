use Rattle.std.proofs.Common.{◌≡◌, ◌-◌, take, map, get_or, length}
use Rattle.std.specs.List.{range_with_len}
use Rattle.sof_base.specs.Ramps.{ramp_gain}
use Rattle.fw_units.proofs.changing.last_gains.Given as goal

-- so many gains are those at the last frame
abbrev pub invariant-loop-k : goal.invariant-loop-k
invariant-loop-k l = record {
  long : length l.gains ≡ 8;
  so_far : take l.k l.gains ≡ map (λ k. ramp_gain (get_or l.from k 0) (get_or l.to k 0) l.count (l.done - 1)) (range_with_len 0 l.k);
}
