use Rattle.std.proofs.Common.{ap, ◌∙◌, ℕ, ◌<◌, ◌%◌, length, get_or, arith, rules, ℤ, pos, w32, FitsSigned}
use Rattle.std.proofs.lemmas.Int.{to_z-of_z}
use Rattle.std.proofs.lemmas.List.{length-set}
use Rattle.sof_base.specs.Samples.{sample_of}
use Rattle.sof_base.specs.Masks.{kept_sample}
use Rattle.fw_gain.proofs.KernelLaws.{written-more, next-channel, first-channel}
use Rattle.fw_demux.proofs.splitting.keep_each.Goals as goal
use Rattle.fw_demux.proofs.splitting.keep_each.Goals.{then-channel-channels, else-channel-channels}

pub loop-i-preserved : goal.loop-i-preserved
loop-i-preserved c =
    let x = c.args.x.now in let y = c.loop-i.y in let i = c.loop-i.i in let channels = c.args.channels in let mask = c.args.mask in
    let made = λ (i : ℕ). kept_sample mask (i % channels) (sample_of x i) in
    let fit_sample : FitsSigned w32 (get_or x i (pos 0)) = search rules in
    let fit_made : FitsSigned w32 c.keep.result = search rules in
    let below : i < length y = omega (arith, c.loop-i-test.true, c.loop-i.invariant.long) in
    let is = to_z-of_z w32 c.keep.result fit_made ∙ c.keep.ensures
    ∙ ap (kept_sample mask c.loop-i.channel) (to_z-of_z w32 (get_or x i (pos 0)) fit_sample)
    ∙ ap (λ (k : ℕ). kept_sample mask k (get_or x i (pos 0))) c.loop-i.invariant.channel in
    record {
      long = omega (arith, length-set {A = ℤ}, c.loop-i.invariant.long);
      channel = elim c.if-channel-channels.branch [
        | then-channel-channels w ↦ (w.channel-is ∙ first-channel i channels c.loop-i.channel c.loop-i.invariant.channel w.if-channel-channels.true)
        | else-channel-channels w ↦ (w.channel-is ∙ next-channel i channels c.loop-i.channel c.requires.channels.0 c.loop-i.invariant.channel w.if-channel-channels.false)
      ];
      so_far = written-more made y i _ below c.loop-i.invariant.so_far is;
    }
