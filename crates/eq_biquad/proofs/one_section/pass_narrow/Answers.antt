use Rattle.std.proofs.Common.{◌≡◌, ap, sym, subst, refl, ◌∙◌, ◌+◌, ◌*◌, ◌^◌, ◌≤◌, [], ◌∷◌, ℕ, ℤ, pos, ◌+ℤ◌, ◌-ℤ◌, ◌*ℤ◌, nat_abs, get_or, arith, rules, w32, w64, FitsSigned, to_z, of_z}
use mir.Syntax.{w128}
use Rattle.std.proofs.lemmas.Int.{to_z-of_z}
use Rattle.sof_base.specs.Samples.{sat, rounded}
use Rattle.sof_base.specs.Equations.{section_output}
use Rattle.stream_law.specs.Equaliser.{next_inner}
use Rattle.eq_blob.specs.Sections.{law_section}
use Rattle.eq_biquad.proofs.ArithLaws.{same-128}
use Rattle.eq_biquad.proofs.NearLaws.{wider, kept-64, first-is, first-within, joined_parts, joined-is, joined-fits, less-half, with-half, less-within}
use Rattle.eq_biquad.proofs.StepLaws.{Passes, passes-none, passes-more, passes-all}
use Rattle.eq_biquad.proofs.one_section.pass_narrow.Goals as goal

pub loop-frame-init : goal.loop-frame-init
loop-frame-init c =
    let section = c.args.section.now in let s = law_section section in let at = c.args.at in let numbers = c.args.numbers in let old = c.args.samples.now in
    let narrow = c.requires.narrow in
    let one = first-is numbers.first narrow.first_within in
    let two = kept-64 numbers.second (omega (arith, narrow.second_within, narrow.ahead)) in
    record {
      so = subst (λ (v : ℤ × ℤ). Passes s (numbers.first ∷ numbers.second ∷ []) at.channels at.channel at.frames old old v.0 v.1 0) (λ i. (sym one i, sym two i)) (passes-none s numbers.first numbers.second at.channels at.channel at.frames old);
      sum = first-within numbers.first narrow.first_within section.b0 narrow.input;
      second = subst (λ z. nat_abs z ≤ (nat_abs section.b2 + nat_abs section.a2) * 2 ^ 31) (sym two) narrow.second_within;
    }

pub loop-frame-preserved : goal.loop-frame-preserved
loop-frame-preserved c =
    let section = c.args.section.now in let s = law_section section in let at = c.args.at in let near = c.loop-frame.near in
    let now = c.loop-frame.samples in let j = c.loop-frame.frame in let p : ℕ = j * at.channels + at.channel in let x : ℤ = get_or now p (pos 0) in
    let first : ℤ = (near.ahead +ℤ near.fed) -ℤ pos 536870912 in
    let so = c.loop-frame.invariant.so in let after = c.next_near-near.ensures in
    let fit_x : FitsSigned w32 x = search rules in
    let fit_y : FitsSigned w32 c.scaled.result = search rules in
    let fit_gain : FitsSigned w32 section.gain = search rules in
    let fit_second : FitsSigned w64 near.second = search rules in
    let fit_ahead : FitsSigned w64 near.ahead = search rules in
    let fit_fed : FitsSigned w64 near.fed = search rules in
    let same : to_z w64 (of_z w64 near.ahead) +ℤ to_z w64 (of_z w64 near.fed) ≡ near.ahead +ℤ near.fed = λ i. to_z-of_z w64 near.ahead fit_ahead i +ℤ to_z-of_z w64 near.fed fit_fed i in
    let held = c.inner_near-w.ensures.held in
    let sample : to_z w32 (of_z w32 x) ≡ x = to_z-of_z w32 x fit_x in
    let inner : c.inner_near-w.result ≡ next_inner s first x = c.inner_near-w.ensures.inner first (same ∙ with-half near.ahead near.fed) ∙ ap (next_inner s first) sample in
    let inner_64 : to_z w64 (of_z w64 c.inner_near-w.result) ≡ next_inner s first x = wider c.inner_near-w.result held ∙ inner in
    let inner_32 : to_z w32 (of_z w32 (to_z w64 (of_z w64 c.inner_near-w.result))) ≡ next_inner s first x = ap (λ z. to_z w32 (of_z w32 z)) (wider c.inner_near-w.result held) ∙ to_z-of_z w32 c.inner_near-w.result held ∙ inner in
    let out : to_z w32 (of_z w32 c.scaled.result) ≡ section_output s (next_inner s first x) =
    to_z-of_z w32 c.scaled.result fit_y ∙ c.scaled.ensures ∙ (λ i. sat 32 (rounded (c.bits_of-bits.ensures.value i) (inner_32 i *ℤ to_z-of_z w32 section.gain fit_gain i))) in
    let second = to_z-of_z w64 near.second fit_second in
    let sum = after.first ∙ (λ i. (((s.b1 *ℤ sample i) +ℤ (s.a1 *ℤ inner_64 i)) +ℤ second i) +ℤ pos 536870912) in
    let one = less-half c.next_near-near.result.ahead c.next_near-near.result.fed (((s.b1 *ℤ x) +ℤ (s.a1 *ℤ next_inner s first x)) +ℤ near.second) sum in
    let two = after.second ∙ (λ i. (s.b2 *ℤ sample i) +ℤ (s.a2 *ℤ inner_64 i)) in
    record {
      so = passes-more s (c.args.numbers.first ∷ c.args.numbers.second ∷ []) at.channels at.channel at.frames c.args.samples.now c.requires.lane.0 c.requires.lane.2
          now first near.second j x _ _ _ so (omega (arith, c.loop-frame-test.true, c.loop-frame.auto.frame-end)) refl out one two;
      sum = omega (arith, after.within.0, c.requires.narrow.all);
      second = after.within.1;
    }

pub overflow_sub-result : goal.overflow_sub-result
overflow_sub-result c =
    let near = c.loop-frame.near in
    let fit_ahead : FitsSigned w64 near.ahead = search rules in
    let fit_fed : FitsSigned w64 near.fed = search rules in
    let ahead : c.from.result ≡ near.ahead = search rules in
    let fed : c.from-2.result ≡ near.fed = search rules in
    joined-fits c.from.result c.from-2.result (subst (FitsSigned w64) (sym ahead) fit_ahead) (subst (FitsSigned w64) (sym fed) fit_fed)

pub returns-clause-lane : goal.returns-clause-lane
returns-clause-lane c =
    let at = c.args.at in let near = c.loop-frame.near in
    (passes-all (law_section c.args.section.now) (c.args.numbers.first ∷ c.args.numbers.second ∷ []) at.channels at.channel at.frames c.args.samples.now c.requires.lane.0 c.requires.lane.2
    c.loop-frame.samples ((near.ahead +ℤ near.fed) -ℤ pos 536870912) near.second c.loop-frame.frame c.loop-frame.invariant.so (omega (arith, c.loop-frame-test.false, c.loop-frame.auto.frame-end))).0

pub returns-clause-numbers : goal.returns-clause-numbers
returns-clause-numbers c =
    let at = c.args.at in let near = c.loop-frame.near in
    let fit_ahead : FitsSigned w64 near.ahead = search rules in
    let fit_fed : FitsSigned w64 near.fed = search rules in
    let ahead : c.from.result ≡ near.ahead = search rules in
    let fed : c.from-2.result ≡ near.fed = search rules in
    let second : c.from-3.result ≡ near.second = search rules in
    let low = c.loop-frame.invariant.second in
    let one : joined_parts c.from.result c.from-2.result ≡ (near.ahead +ℤ near.fed) -ℤ pos 536870912 = (λ i. joined_parts (ahead i) (fed i)) ∙ joined-is near.ahead near.fed fit_ahead fit_fed in
    let two : to_z w128 (of_z w128 c.from-3.result) ≡ near.second = ap (λ z. to_z w128 (of_z w128 z)) second ∙ same-128 near.second (omega (arith, low, c.requires.narrow.ahead)) in
    (λ i. one i ∷ two i ∷ [])
    ∙ (passes-all (law_section c.args.section.now) (c.args.numbers.first ∷ c.args.numbers.second ∷ []) at.channels at.channel at.frames c.args.samples.now c.requires.lane.0 c.requires.lane.2
    c.loop-frame.samples ((near.ahead +ℤ near.fed) -ℤ pos 536870912) near.second c.loop-frame.frame c.loop-frame.invariant.so (omega (arith, c.loop-frame-test.false, c.loop-frame.auto.frame-end))).1

pub returns-clause-within : goal.returns-clause-within
returns-clause-within c =
    let near = c.loop-frame.near in
    let fit_ahead : FitsSigned w64 near.ahead = search rules in
    let fit_fed : FitsSigned w64 near.fed = search rules in
    let ahead : c.from.result ≡ near.ahead = search rules in
    let fed : c.from-2.result ≡ near.fed = search rules in
    let second : c.from-3.result ≡ near.second = search rules in
    let low = c.loop-frame.invariant.second in let sum = c.loop-frame.invariant.sum in
    let one : joined_parts c.from.result c.from-2.result ≡ (near.ahead +ℤ near.fed) -ℤ pos 536870912 = (λ i. joined_parts (ahead i) (fed i)) ∙ joined-is near.ahead near.fed fit_ahead fit_fed in
    let two : to_z w128 (of_z w128 c.from-3.result) ≡ near.second = ap (λ z. to_z w128 (of_z w128 z)) second ∙ same-128 near.second (omega (arith, low, c.requires.narrow.ahead)) in
    (subst (λ z. nat_abs z ≤ 2 ^ 64) (sym one) (less-within near.ahead near.fed (omega (arith, sum))), subst (λ z. nat_abs z ≤ 2 ^ 63) (sym two) (omega (arith, low, c.requires.narrow.ahead)))
