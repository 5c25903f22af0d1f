use Rattle.std.proofs.Common.{◌≡◌, ◌∙◌, ap, ℕ, ◌+◌, ◌-◌, ◌<◌, ◌≤◌, length, take, drop, set, arith, rules, ℤ, w32, FitsSigned}
use Rattle.std.proofs.lemmas.Int.{to_z-of_z}
use Rattle.sof_base.specs.declared.format.Format.TheVariants.{S24}
use Rattle.sof_base.specs.Samples.{sample_in_of}
use Rattle.fw_ring.proofs.ReadRuns.{read-more}
use Rattle.fw_ring.proofs.samples.read_24.Goals as goal

pub loop-word-preserved : goal.loop-word-preserved
loop-word-preserved c =
    let bytes = c.args.bytes.now in let words = c.loop-word.words in let i = c.loop-word.word-index in let at = c.loop-word.at in
    let fit : FitsSigned w32 c.sample_in.result = search rules in
    let lt : i < length words = omega (arith, c.loop-word-test.true, c.loop-word.auto.words) in
    let fits : at + 4 ≤ length bytes = omega (arith, c.loop-word-test.true, c.requires, c.loop-word.invariant.place) in
    let span : at + 4 - at ≡ 4 = omega arith in
    let is : c.sample_in.result ≡ sample_in_of S24 (take 4 (drop at bytes)) 0 =
    c.sample_in.ensures ∙ ap (λ (n : ℕ). sample_in_of S24 (take n (drop at bytes)) 0) span in
    record {
      place = omega (arith, c.loop-word.invariant.place);
      so_far = ap (λ (x : ℤ). take (i + 1) (set words i x)) (to_z-of_z w32 c.sample_in.result fit) ∙ read-more S24 bytes words i at c.sample_in.result lt c.loop-word.invariant.place fits c.loop-word.invariant.so_far is;
    }
