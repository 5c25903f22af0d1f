use Rattle.std.proofs.Common.{◌≡◌, ap, sym, subst, ◌∙◌, arith, rules, ℕ, ◌+◌, ◌*◌, ◌^◌, ◌<◌, ◌≤◌, ℤ, pos, ◌+ℤ◌, ◌*ℤ◌, nat_abs, w32, w64, FitsSigned, to_z, of_z}
use Rattle.std.specs.Int.{int_div_euclid}
use Rattle.std.proofs.lemmas.Int.{ints, to_z-of_z}
use Rattle.sof_base.specs.Samples.{sat}
use Rattle.stream_law.specs.Equaliser.{next_inner}
use Rattle.eq_blob.specs.Sections.{law_section}
use Rattle.eq_biquad.proofs.NearLaws.{shifted, near-inner, wider, fits, product-within}
use Rattle.eq_biquad.proofs.arithmetic.inner_near.Goals as goal

sum-within : (p a f : ℤ) (m n : ℕ) → nat_abs p ≤ m → nat_abs (a +ℤ f) + m < n → nat_abs ((p +ℤ a) +ℤ f) < n
sum-within p a f m n low all = omega (arith, ints, low, all)

same-sum : (p a f b first : ℤ) → p ≡ b → a +ℤ f ≡ first +ℤ pos 536870912 → (p +ℤ a) +ℤ f ≡ (b +ℤ first) +ℤ pos 536870912
same-sum p a f b first is parts = omega (arith, ints, is, parts)

pub inner_again-requires : goal.inner_again-requires
inner_again-requires c =
    let same : to_z w64 (of_z w64 c.args.ahead) +ℤ to_z w64 (of_z w64 c.args.fed) ≡ c.args.ahead +ℤ c.args.fed = λ i. to_z-of_z w64 c.args.ahead c.ranges.ahead i +ℤ to_z-of_z w64 c.args.fed c.ranges.fed i in
    subst (λ z. nat_abs z < 7 * 2 ^ 61) (sym same) (omega (arith, c.requires))

pub returns-then-w-le2147483647-clause-inner : goal.returns-then-w-le2147483647-clause-inner
returns-then-w-le2147483647-clause-inner c = λ first parts.
    let p = c.times.result in let ahead = c.args.ahead in let fed = c.args.fed in
    let fit_b0 : FitsSigned w32 c.args.section.now.b0 = search rules in
    let is : p ≡ c.args.section.now.b0 *ℤ c.args.x = search rules in
    let low = product-within c.args.section.now.b0 c.args.x p is c.ranges.x in
    let fit_ahead : FitsSigned w64 ahead = search rules in
    let fit_fed : FitsSigned w64 fed = search rules in
    let held : FitsSigned w32 (shifted p ahead fed) = search rules in
    near-inner p ahead fed (fits p (omega (arith, c.times.ensures.within))) fit_ahead fit_fed (sum-within p ahead fed (nat_abs c.args.section.now.b0 * 2 ^ 31) (7 * 2 ^ 61) low c.requires) held
    ∙ ap (λ z. sat 32 (int_div_euclid z (pos 1073741824))) (same-sum p ahead fed (c.args.section.now.b0 *ℤ c.args.x) first is parts)

pub returns-else-w-geminus2147483648-clause-inner : goal.returns-else-w-geminus2147483648-clause-inner
returns-else-w-geminus2147483648-clause-inner c = λ first parts.
    let same : to_z w64 (of_z w64 c.args.ahead) +ℤ to_z w64 (of_z w64 c.args.fed) ≡ c.args.ahead +ℤ c.args.fed = λ i. to_z-of_z w64 c.args.ahead c.ranges.ahead i +ℤ to_z-of_z w64 c.args.fed c.ranges.fed i in
    wider c.inner_again.result c.inner_again.ensures.held ∙ c.inner_again.ensures.inner first (same ∙ parts) ∙ ap (next_inner (law_section c.args.section.now) first) (to_z-of_z w32 c.args.x c.ranges.x)
