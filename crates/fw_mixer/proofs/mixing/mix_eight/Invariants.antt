use Rattle.std.proofs.Common.{◌≡◌, ℕ, ◌+◌, ◌<◌, map, take, length, get_or}
use Rattle.sof_base.specs.Equations.{exact_sum}
use Rattle.fw_mixer.proofs.SumLaws.{IsSum}
use Rattle.fw_mixer.proofs.mixing.mix_eight.Given as goal

abbrev pub invariant-loop-part : goal.invariant-loop-part
invariant-loop-part l = record {
  wrapped : length l.wrapped ≡ 8;
  upper : length l.upper ≡ 8;
  sums : (i : ℕ) → i < 8 → IsSum l.part-index (exact_sum (l.at + i) (map (λ part. part.now) (take l.part-index l.parts))) (get_or l.wrapped i 0) (get_or l.upper i 0);
}
