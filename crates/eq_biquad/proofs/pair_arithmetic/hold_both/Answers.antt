use Rattle.std.proofs.Common.{◌≡◌, ap, sym, subst, ◌∙◌, [], ◌∷◌, ℕ, ℤ, ◌+ℤ◌, List, map, w32, w64, to_z, of_z, FitsSigned}
use Rattle.std.specs.Simd.Lanes.{Each1}
use Rattle.eq_biquad.specs.Pairs.{left_number, right_number, inner_of_sum}
use Rattle.eq_biquad.proofs.PairLaws.{hold-is, pair-is, pair_held, inner-of-sum-fits, inner-of-sum-wide, inner-of-sum-narrow}
use Rattle.eq_biquad.proofs.pair_arithmetic.hold_both.Goals as goal

pub overflow_cast-result : goal.overflow_cast-result
overflow_cast-result c =
    let a : List ℤ = c.args.a in let b : List ℤ = c.args.b in
    let one : ℤ = left_number a +ℤ left_number b in let two : ℤ = right_number a +ℤ right_number b in
    let is : pair_held a b ≡ of_z w64 (inner_of_sum one) ∷ of_z w64 (inner_of_sum two) ∷ [] =
    (λ i. pair_held (pair-is a c.requires.first.0 i) (pair-is b c.requires.second.0 i))
    ∙ (λ i. hold-is (left_number a) (left_number b) c.requires.first.1.0 c.requires.second.1.0 c.requires.sums.0 i ∷ hold-is (right_number a) (right_number b) c.requires.first.1.1 c.requires.second.1.1 c.requires.sums.1 i ∷ []) in
    subst (Each1 (λ n. FitsSigned w32 (to_z w64 n))) (sym is)
    (subst (FitsSigned w32) (sym (inner-of-sum-wide one)) (inner-of-sum-fits one), (subst (FitsSigned w32) (sym (inner-of-sum-wide two)) (inner-of-sum-fits two), tt))

pub returns : goal.returns
returns c =
    let a : List ℤ = c.args.a in let b : List ℤ = c.args.b in
    let one : ℤ = left_number a +ℤ left_number b in let two : ℤ = right_number a +ℤ right_number b in
    let is : pair_held a b ≡ of_z w64 (inner_of_sum one) ∷ of_z w64 (inner_of_sum two) ∷ [] =
    (λ i. pair_held (pair-is a c.requires.first.0 i) (pair-is b c.requires.second.0 i))
    ∙ (λ i. hold-is (left_number a) (left_number b) c.requires.first.1.0 c.requires.second.1.0 c.requires.sums.0 i ∷ hold-is (right_number a) (right_number b) c.requires.first.1.1 c.requires.second.1.1 c.requires.sums.1 i ∷ []) in
    ap (λ (l : List ℕ). map (to_z w32) (map (λ n. of_z w32 (to_z w64 n)) l)) is
    ∙ (λ i. inner-of-sum-narrow one i ∷ inner-of-sum-narrow two i ∷ [])
