use Rattle.std.proofs.Common.{◌≡◌, ℕ, ◌-◌, ◌<◌, ◌≤◌, map, length, get_or, pos}
use Rattle.sof_base.specs.Samples.{sat}
use Rattle.sof_base.specs.Equations.{exact_sum}
use Rattle.fw_moves.specs.Moving.{samples_in}
use Rattle.fw_moves.proofs.mixing.mix_by.Given as goal

-- the sums up to a place are written
abbrev pub invariant-loop-done : goal.invariant-loop-done
invariant-loop-done g l = record {
  within : l.done ≤ length l.samples;
  long : length l.samples ≡ length l.fn.samples;
  made : (k : ℕ) → k < l.done → get_or l.samples k (pos 0) ≡ sat 32 (exact_sum k (map (samples_in l.buffers l.n) l.looked));
}

abbrev pub decreases-loop-done : goal.decreases-loop-done
decreases-loop-done g l = length l.samples - l.done
