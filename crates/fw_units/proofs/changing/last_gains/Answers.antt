use Rattle.std.proofs.Common.{◌≡◌, ap, ◌∙◌, ◌-◌, ◌<◌, ℕ, List, length, get_or, arith}
use Rattle.std.proofs.lemmas.List.{length-set}
use Rattle.sof_base.specs.Ramps.{ramp_gain}
use Rattle.fw_gain.proofs.KernelLaws.{written-more}
use Rattle.fw_units.proofs.changing.last_gains.Goals as goal

pub loop-k-preserved : goal.loop-k-preserved
loop-k-preserved c =
    let k : ℕ = c.loop-k.k in let gains : List ℕ = c.loop-k.gains in
    let from : List ℕ = c.args.from.now in let to : List ℕ = c.args.to.now in let count : ℕ = c.args.count in let last : ℕ = c.args.done - 1 in
    let many : length c.items-ends.result.now ≡ length to = ap (λ (l : List ℕ). length l) c.items-ends.ensures.value in
    let below : k < length gains = omega (arith, c.loop-k-test.true, many, c.items-ends.ensures.fits, c.loop-k.invariant.long) in
    record {
      long = omega (arith, length-set {A = ℕ}, c.loop-k.invariant.long);
      so_far = written-more (λ k. ramp_gain (get_or from k 0) (get_or to k 0) count last) gains k _ below c.loop-k.invariant.so_far
          (c.gain_of_frame.ensures
          ∙ ap (λ (g : ℕ). ramp_gain g (get_or c.items-ends.result.now k 0) count last) c.gain_or_none.ensures
          ∙ (λ i. ramp_gain (get_or (c.items.ensures.value i) k 0) (get_or (c.items-ends.ensures.value i) k 0) count last));
    }
