use Rattle.std.proofs.Common.{◌≡◌, ℕ, ◌*◌, ◌<◌, map, length, get_or, pos}
use Rattle.sof_base.specs.Samples.{sat}
use Rattle.sof_base.specs.Equations.{exact_sum}
use Rattle.fw_mixer.proofs.mixing.mix_parts.Given as goal

abbrev pub invariant-loop-k : goal.invariant-loop-k
invariant-loop-k l = record {
  long : length l.y ≡ length l.fn.y;
  made : (k : ℕ) → k < 8 * l.k → get_or l.y k (pos 0) ≡ sat 32 (exact_sum k (map (λ part. part.now) l.parts));
}

abbrev pub invariant-loop-i : goal.invariant-loop-i
invariant-loop-i l = record {
  long : length l.y ≡ length l.fn.y;
  made : (k : ℕ) → k < l.i → get_or l.y k (pos 0) ≡ sat 32 (exact_sum k (map (λ part. part.now) l.parts));
}
