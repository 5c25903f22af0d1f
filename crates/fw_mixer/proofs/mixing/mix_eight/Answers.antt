use Rattle.std.proofs.Common.{◌≡◌, sym, ap, subst, ◌∙◌, ℕ, ◌+◌, ◌-◌, ◌<◌, ◌≤◌, List, [], map, take, drop, length, get_or, ℤ, pos, arith, w32, to_z, FitsSigned, Bor, length-drop}
use Rattle.std.specs.List.{range_with_len}
use Rattle.std.specs.Simd.Lanes.{put_chunk}
use Rattle.std.proofs.lemmas.List.{take_all}
use Rattle.std.proofs.lemmas.List.FromFn.{get_or-map-range_with_len}
use Rattle.std.proofs.lemmas.Simd.{get_or-put_chunk_below, get_or-put_chunk_at}
use Rattle.sof_base.specs.Samples.{sat}
use Rattle.sof_base.specs.Equations.{exact_sum}
use Rattle.fw_mixer.proofs.SumLaws.{all-at, part-more, IsSum, more_wrapped, more_upper, length-wrapped, length-upper, lanes-more, holds, samples-are}
use Rattle.fw_mixer.proofs.mixing.mix_eight.Goals as goal

pub loop-part-preserved : goal.loop-part-preserved
loop-part-preserved c =
    let parts = c.args.parts.now in let p : ℕ = c.loop-part.part-index in let at : ℕ = c.args.at in
    let wrapped : List ℕ = c.loop-part.wrapped in let upper : List ℕ = c.loop-part.upper in let so = c.loop-part.invariant in
    let below : p < length parts = c.loop-part-test.true in
    let xs : List ℤ = (get_or parts p (record { ref_ptr = (0, 0); now = [] })).now in
    let fits : at + 8 ≤ length xs = all-at (λ (part : Bor (List ℤ)). at + 8 ≤ length part.now) parts p (record { ref_ptr = (0, 0); now = [] }) below c.requires.long in
    let all : take (length xs - at) (drop at xs) ≡ drop at xs = take_all (length xs - at) (drop at xs) (omega (arith, length-drop at xs)) in
    let few : p ≤ 127 = omega (arith, below, c.requires.few) in
    record {
      wrapped = ap (λ (ys : List ℤ). length (more_wrapped wrapped (take 8 ys))) all ∙ length-wrapped wrapped xs at so.wrapped fits;
      upper = ap (λ (ys : List ℤ). length (more_upper upper (take 8 ys))) all ∙ length-upper upper xs at so.upper fits;
      sums = λ i low.
          let fit : FitsSigned w32 (get_or xs (at + i) (pos 0)) = all-at (FitsSigned w32) xs (at + i) (pos 0) (omega (arith, fits, low)) c.are_samples.ensures in
          subst (λ (ys : List ℤ). IsSum (p + 1) (exact_sum (at + i) (map (λ (part : Bor (List ℤ)). part.now) (take (p + 1) parts))) (get_or (more_wrapped wrapped (take 8 ys)) i 0) (get_or (more_upper upper (take 8 ys)) i 0)) (sym all)
          (subst (λ (s : ℤ). IsSum (p + 1) s (get_or (more_wrapped wrapped (take 8 (drop at xs))) i 0) (get_or (more_upper upper (take 8 (drop at xs))) i 0)) (sym (part-more (λ (part : Bor (List ℤ)). part.now) parts p (record { ref_ptr = (0, 0); now = [] }) (at + i) below))
          (lanes-more wrapped upper xs at i p (exact_sum (at + i) (map (λ (part : Bor (List ℤ)). part.now) (take p parts))) so.wrapped so.upper fits low few fit (so.sums i low)));
    }

pub returns-clause-before : goal.returns-clause-before
returns-clause-before c = λ k low. get_or-put_chunk_below c.args.at c.args.y.now (map (to_z w32) (holds c.loop-part.wrapped c.loop-part.upper)) k (pos 0) low

pub returns-clause-made : goal.returns-clause-made
returns-clause-made c = λ k least low.
    let parts = c.args.parts.now in let at : ℕ = c.args.at in let y : List ℤ = c.args.y.now in
    let p : ℕ = c.loop-part.part-index in let so = c.loop-part.invariant in
    let wrapped : List ℕ = c.loop-part.wrapped in let upper : List ℕ = c.loop-part.upper in
    let past : length parts ≤ p = omega (arith, c.loop-part-test.false) in
    let few : p ≤ 128 = omega (arith, c.loop-part.auto.part-index-end, c.requires.few) in
    let j : ℕ = k - at in
    let under : j < 8 = omega (arith, least, low) in
    let sum : ℕ → ℤ = λ i. exact_sum (at + i) (map (λ (part : Bor (List ℤ)). part.now) (take p parts)) in
    let lanes : List ℤ = map (to_z w32) (holds wrapped upper) in
    let is : lanes ≡ map (λ i. sat 32 (sum i)) (range_with_len 0 8) = samples-are wrapped upper p sum so.wrapped so.upper few so.sums in
    let long : length lanes ≡ 8 = ap (λ (l : List ℤ). length l) is in
    let place : at + j ≡ k = omega (arith, least) in
    ap (λ (n : ℕ). get_or (put_chunk at y lanes) n (pos 0)) (sym place)
    ∙ get_or-put_chunk_at at y lanes j (pos 0) (omega (arith, long, under)) (omega (arith, long, c.requires.there))
    ∙ ap (λ (l : List ℤ). get_or l j (pos 0)) is
    ∙ get_or-map-range_with_len (λ i. sat 32 (sum i)) 0 8 j j (pos 0) under (omega arith)
    ∙ (λ i. sat 32 (exact_sum (place i) (map (λ (part : Bor (List ℤ)). part.now) (take_all p parts past i))))
