use Rattle.std.proofs.Common.{◌≡◌, sym, ap, ◌∙◌, ℕ, ◌<◌, ◌%◌, List, map, take, length, arith, rules, ℤ, pos, w32, FitsSigned}
use Rattle.std.specs.List.{range_with_len}
use Rattle.std.proofs.lemmas.Int.{to_z-of_z}
use Rattle.std.proofs.lemmas.List.{length-set, take_all}
use Rattle.sof_base.specs.Equations.{channel_gain}
use Rattle.fw_gain.proofs.KernelLaws.{written-more, next-channel, first-channel}
use Rattle.fw_gain.proofs.amplifying.factors_each.Goals as goal
use Rattle.fw_gain.proofs.amplifying.factors_each.Goals.{then-channel-channels, else-channel-channels}

pub loop-k-preserved : goal.loop-k-preserved
loop-k-preserved c =
    let factors = c.loop-k.factors in let k = c.loop-k.k in let channels = c.args.channels in let gains = c.args.gains.now in
    let made = λ (k : ℕ). pos (channel_gain gains (k % channels)) in
    let fit : FitsSigned w32 c.factor_of.result = search rules in
    let below : k < length factors = omega (arith, c.loop-k-test.true, c.loop-k.invariant.long) in
    let is = to_z-of_z w32 c.factor_of.result fit ∙ c.factor_of.ensures ∙ ap (λ (k : ℕ). pos (channel_gain gains k)) c.loop-k.invariant.channel in
    record {
      long = omega (arith, length-set {A = ℤ}, c.loop-k.invariant.long);
      channel = elim c.if-channel-channels.branch [
        | then-channel-channels w ↦ (w.channel-is ∙ first-channel k channels c.loop-k.channel c.loop-k.invariant.channel w.if-channel-channels.true)
        | else-channel-channels w ↦ (w.channel-is ∙ next-channel k channels c.loop-k.channel c.requires.channels.0 c.loop-k.invariant.channel w.if-channel-channels.false)
      ];
      so_far = written-more made factors k _ below c.loop-k.invariant.so_far is;
    }

pub returns : goal.returns
returns c =
    let factors : List ℤ = c.loop-k.factors in let k : ℕ = c.loop-k.k in let channels = c.args.channels in let gains = c.args.gains.now in
    let all : k ≡ 8 = omega (arith, c.loop-k-test.false, c.loop-k.auto.k-end) in
    sym (take_all 8 factors (omega (arith, c.loop-k.invariant.long)))
    ∙ ap (λ (n : ℕ). take n factors) (sym all)
    ∙ c.loop-k.invariant.so_far
    ∙ ap (λ (n : ℕ). map (λ k. pos (channel_gain gains (k % channels))) (range_with_len 0 n)) all
