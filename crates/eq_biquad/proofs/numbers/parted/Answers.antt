use Rattle.std.proofs.Common.{◌≡◌, ap, ◌∙◌, sym, subst, ◌≤◌, ◌<◌, ◌^◌, ℕ, ℤ, nat_abs, arith, w32, to_z, of_z}
use mir.Syntax.{w128}
use Rattle.std.proofs.lemmas.Int.{to_z-of_z}
use Rattle.eq_biquad.specs.PieceWords.{wide_number}
use Rattle.eq_biquad.proofs.ArithLaws.{same-128, fits-32, bits-again, joined-top}
use Rattle.eq_biquad.proofs.numbers.parted.Goals as goal

pub returns : goal.returns
returns c =
    let z = c.args.number in
    let h = c.halved-high.result.0 in let a = c.halved-high.result.1 in
    let h' = c.halved-high-2.result.0 in let b = c.halved-high-2.result.1 in
    let h'' = c.halved-high-3.result.0 in let d = c.halved-high-3.result.1 in
    let low_a : a < 2 ^ 32 = omega (arith, c.halved-high.type_inv) in
    let low_b : b < 2 ^ 32 = omega (arith, c.halved-high-2.type_inv) in
    let low_d : d < 2 ^ 32 = omega (arith, c.halved-high-3.type_inv) in
    let low : nat_abs h ≤ 2 ^ 32 = c.halved-high.ensures.within in
    let low' : nat_abs h' ≤ 2 ^ 32 = c.halved-high-2.ensures.within in
    let one : z ≡ wide_number h a = sym (same-128 z (omega (arith, c.requires))) ∙ c.halved-high.ensures.value in
    let two : h ≡ wide_number h' b = sym (same-128 h (omega (arith, low))) ∙ c.halved-high-2.ensures.value in
    let three : h' ≡ wide_number h'' d = sym (same-128 h' (omega (arith, low'))) ∙ c.halved-high-3.ensures.value in
    let small : nat_abs h'' ≤ 2 = joined-top h'' d low_d (subst (λ z. nat_abs z ≤ 2 ^ 32) three low') in
    let top : to_z w32 (of_z w32 (to_z w128 (of_z w128 h''))) ≡ h'' = ap (λ z. to_z w32 (of_z w32 z)) (same-128 h'' (omega (arith, small))) ∙ to_z-of_z w32 h'' (fits-32 h'' (omega (arith, small))) in
    let again = λ (r : ℤ) (n : ℕ) (is : r ≡ to_z w32 n) (low : n < 2 ^ 32). ap (λ z. of_z w32 (to_z w32 (of_z w32 z))) is ∙ bits-again n low in
    one ∙ (λ i. wide_number ((two ∙ (λ j. wide_number ((three ∙ (λ k. wide_number (sym top k) (sym (again c.cast_signed-3.result d c.cast_signed-3.ensures low_d) k))) j) (sym (again c.cast_signed-2.result b c.cast_signed-2.ensures low_b) j))) i) (sym (again c.cast_signed.result a c.cast_signed.ensures low_a) i))
