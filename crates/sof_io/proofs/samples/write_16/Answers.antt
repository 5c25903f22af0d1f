use Rattle.std.proofs.Common.{◌≡◌, refl, ◌∙◌, ap, ◌+◌, ◌-◌, ◌≤◌, length, take, get_or, arith, rules, ℤ, pos, w32, FitsSigned}
use Rattle.std.proofs.lemmas.Int.{to_z-of_z}
use borrow.Rule.Slice.PartMut.{put_mid}
use Rattle.sof_base.specs.declared.format.Format.TheVariants.{S16}
use Rattle.sof_base.specs.Samples.{sample_out_of}
use Rattle.sof_io.proofs.SampleRuns.{write-more}
use Rattle.sof_io.proofs.samples.write_16.Goals as goal

pub loop-word-preserved : goal.loop-word-preserved
loop-word-preserved c =
    let words = c.args.words.now in let bytes = c.loop-word.bytes in let i = c.loop-word.word-index in let at = c.loop-word.at in
    let part = c.sample_out.new.bytes in let x : ℤ = get_or words i (pos 0) in
    let fit : FitsSigned w32 x = search rules in
    let fits : at ≤ length bytes = omega (arith, c.loop-word-test.true, c.requires, c.loop-word.invariant.place, c.loop-word.auto.bytes) in
    let span : at + 2 - at ≡ 2 = omega arith in
    let made : part ≡ sample_out_of S16 x = c.sample_out.ensures ∙ ap (sample_out_of S16) (to_z-of_z w32 x fit) in
    record {
      place = omega (arith, c.loop-word.invariant.place);
      so_far = (λ j. take (at + 2) (put_mid at (span j) bytes part)) ∙ write-more S16 words i at bytes part x c.loop-word-test.true fits c.loop-word.invariant.so_far refl made;
    }
