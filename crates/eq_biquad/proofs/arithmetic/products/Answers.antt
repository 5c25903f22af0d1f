use Rattle.std.proofs.Common.{◌≡◌, ap, ◌∙◌, ◌≤◌, ◌+◌, ◌^◌, ◌+ℤ◌, ◌*ℤ◌, nat_abs, arith, w32, to_z, of_z}
use mir.Syntax.{w128}
use Rattle.std.proofs.lemmas.Int.{to_z-of_z}
use Rattle.eq_biquad.proofs.ArithLaws.{same-64, same-128, abs-sum}
use Rattle.eq_biquad.proofs.arithmetic.products.Goals as goal

pub returns-clause-value : goal.returns-clause-value
returns-clause-value c =
    let p = c.times.result in let q = c.times-2.result in
    let one : to_z w128 (of_z w128 c.from.result) ≡ p = ap (λ z. to_z w128 (of_z w128 z)) (c.from.ensures ∙ same-64 p (omega (arith, c.times.ensures.within))) ∙ same-128 p (omega (arith, c.times.ensures.within)) in
    let two : to_z w128 (of_z w128 c.from-2.result) ≡ q = ap (λ z. to_z w128 (of_z w128 z)) (c.from-2.ensures ∙ same-64 q (omega (arith, c.times-2.ensures.within))) ∙ same-128 q (omega (arith, c.times-2.ensures.within)) in
    let low : nat_abs (p +ℤ q) ≤ 2 ^ 62 + 2 ^ 62 = abs-sum p q (2 ^ 62) (2 ^ 62) c.times.ensures.within c.times-2.ensures.within in
    (λ i. to_z w128 (of_z w128 (one i +ℤ two i))) ∙ same-128 (p +ℤ q) (omega (arith, low))
    ∙ (λ i. (c.times.ensures.value ∙ (λ i. to_z-of_z w32 c.args.a c.ranges.a i *ℤ to_z-of_z w32 c.args.x c.ranges.x i)) i +ℤ (c.times-2.ensures.value ∙ (λ i. to_z-of_z w32 c.args.b c.ranges.b i *ℤ to_z-of_z w32 c.args.y c.ranges.y i)) i)
