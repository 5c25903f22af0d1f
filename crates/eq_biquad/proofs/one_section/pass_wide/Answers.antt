use Rattle.std.proofs.Common.{◌≡◌, ap, sym, subst, refl, ◌∙◌, ◌+◌, ◌*◌, ◌^◌, ◌≤◌, [], ◌∷◌, ℕ, ℤ, pos, ◌+ℤ◌, ◌*ℤ◌, nat_abs, get_or, arith, rules, w32, FitsSigned, to_z, of_z}
use mir.Syntax.{w128}
use Rattle.std.proofs.lemmas.Int.{to_z-of_z}
use Rattle.sof_base.specs.Samples.{sat, rounded}
use Rattle.sof_base.specs.Equations.{section_output}
use Rattle.stream_law.specs.Equaliser.{next_inner}
use Rattle.eq_blob.specs.Sections.{law_section}
use Rattle.eq_biquad.proofs.ArithLaws.{same-128, abs-sum}
use Rattle.eq_biquad.proofs.StepLaws.{passes-more, passes-all}
use Rattle.eq_biquad.proofs.one_section.pass_wide.Goals as goal

pub loop-frame-preserved : goal.loop-frame-preserved
loop-frame-preserved c =
    let section = c.args.section.now in let s = law_section section in let at = c.args.at in
    let now = c.loop-frame.samples in let j = c.loop-frame.frame in let p : ℕ = j * at.channels + at.channel in let x : ℤ = get_or now p (pos 0) in
    let first : ℤ = to_z w128 c.loop-frame.first-bits in let second : ℤ = to_z w128 c.loop-frame.second-bits in
    let so = c.loop-frame.invariant.so in let within = c.loop-frame.invariant.within in
    let fit_x : FitsSigned w32 x = search rules in
    let fit_w : FitsSigned w32 c.inner-w.result = search rules in
    let fit_y : FitsSigned w32 c.scaled.result = search rules in
    let fit_gain : FitsSigned w32 section.gain = search rules in
    let fit_b1 : FitsSigned w32 section.b1 = search rules in
    let fit_a1 : FitsSigned w32 section.a1 = search rules in
    let fit_b2 : FitsSigned w32 section.b2 = search rules in
    let fit_a2 : FitsSigned w32 section.a2 = search rules in
    let sample : to_z w32 (of_z w32 x) ≡ x = to_z-of_z w32 x fit_x in
    let inner : to_z w32 (of_z w32 c.inner-w.result) ≡ next_inner s first x = to_z-of_z w32 c.inner-w.result fit_w ∙ c.inner-w.ensures ∙ ap (next_inner s first) sample in
    let out : to_z w32 (of_z w32 c.scaled.result) ≡ section_output s (next_inner s first x) =
    to_z-of_z w32 c.scaled.result fit_y ∙ c.scaled.ensures ∙ (λ i. sat 32 (rounded (c.bits_of-bits.ensures.value i) (inner i *ℤ to_z-of_z w32 section.gain fit_gain i))) in
    let one : c.products.result ≡ (s.b1 *ℤ x) +ℤ (s.a1 *ℤ next_inner s first x) = c.products.ensures.value ∙ (λ i. (to_z-of_z w32 section.b1 fit_b1 i *ℤ sample i) +ℤ (to_z-of_z w32 section.a1 fit_a1 i *ℤ inner i)) in
    let two : c.products-second.result ≡ (s.b2 *ℤ x) +ℤ (s.a2 *ℤ next_inner s first x) = c.products-second.ensures.value ∙ (λ i. (to_z-of_z w32 section.b2 fit_b2 i *ℤ sample i) +ℤ (to_z-of_z w32 section.a2 fit_a2 i *ℤ inner i)) in
    let low : nat_abs (c.products.result +ℤ second) ≤ 2 ^ 63 + 2 ^ 63 = abs-sum c.products.result second (2 ^ 63) (2 ^ 63) c.products.ensures.within within.1 in
    let sum : to_z w128 (of_z w128 (to_z w128 (of_z w128 c.products.result) +ℤ second)) ≡ c.products.result +ℤ second =
    (λ i. to_z w128 (of_z w128 (same-128 c.products.result (omega (arith, c.products.ensures.within)) i +ℤ second))) ∙ same-128 (c.products.result +ℤ second) (omega (arith, low)) in
    let kept : to_z w128 (of_z w128 c.products-second.result) ≡ c.products-second.result = same-128 c.products-second.result (omega (arith, c.products-second.ensures.within)) in
    record {
      so = passes-more s (c.args.numbers.first ∷ c.args.numbers.second ∷ []) at.channels at.channel at.frames c.args.samples.now c.requires.lane.0 c.requires.lane.2
          now first second j x _ _ _ so (omega (arith, c.loop-frame-test.true, c.loop-frame.auto.frame-end)) refl out (sum ∙ ap (λ z. z +ℤ second) one) (kept ∙ two);
      within = (subst (λ z. nat_abs z ≤ 2 ^ 64) (sym sum) (omega (arith, low)), subst (λ z. nat_abs z ≤ 2 ^ 63) (sym kept) c.products-second.ensures.within);
    }

pub returns-clause-lane : goal.returns-clause-lane
returns-clause-lane c =
    let at = c.args.at in
    (passes-all (law_section c.args.section.now) (c.args.numbers.first ∷ c.args.numbers.second ∷ []) at.channels at.channel at.frames c.args.samples.now c.requires.lane.0 c.requires.lane.2
    c.loop-frame.samples (to_z w128 c.loop-frame.first-bits) (to_z w128 c.loop-frame.second-bits) c.loop-frame.frame c.loop-frame.invariant.so (omega (arith, c.loop-frame-test.false, c.loop-frame.auto.frame-end))).0

pub returns-clause-numbers : goal.returns-clause-numbers
returns-clause-numbers c =
    let at = c.args.at in
    (passes-all (law_section c.args.section.now) (c.args.numbers.first ∷ c.args.numbers.second ∷ []) at.channels at.channel at.frames c.args.samples.now c.requires.lane.0 c.requires.lane.2
    c.loop-frame.samples (to_z w128 c.loop-frame.first-bits) (to_z w128 c.loop-frame.second-bits) c.loop-frame.frame c.loop-frame.invariant.so (omega (arith, c.loop-frame-test.false, c.loop-frame.auto.frame-end))).1
