use Rattle.std.proofs.Common.{◌≡◌, ◌*◌, ◌^◌, ◌≤◌, map, take, nat_abs}
use Rattle.sof_base.specs.Equations.{exact_sum}
use Rattle.fw_mixer.proofs.mixing.mix_one.Given as goal

abbrev pub invariant-loop-part : goal.invariant-loop-part
invariant-loop-part l = record {
  sum : l.sum ≡ exact_sum l.at (map (λ part. part.now) (take l.part-index l.parts));
  near : nat_abs l.sum ≤ l.part-index * 2 ^ 31;
}
