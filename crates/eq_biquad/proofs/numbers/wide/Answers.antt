use Rattle.std.proofs.Common.{◌≡◌, ap, ◌∙◌, subst, sym, ◌+◌, ◌^◌, ◌≤◌, ℤ, pos, nat_abs, get_or, arith, rules, w32, FitsSigned, to_z, of_z}
use mir.Syntax.{w128}
use Rattle.std.proofs.lemmas.Int.{to_z-of_z}
use Rattle.eq_blob.specs.WordBytes.{bits_at}
use Rattle.eq_biquad.specs.PieceWords.{wide_number}
use Rattle.eq_blob.proofs.ByteLaws.{bits-below}
use Rattle.eq_biquad.proofs.ArithLaws.{abs-below, same-128, joined-high}
use Rattle.eq_biquad.proofs.numbers.wide.Goals as goal

pub below-requires-2 : goal.below-requires-2
below-requires-2 c =
    let ws = c.args.words.now in let p = c.args.place in
    let top : ℤ = get_or ws (p + 3) (pos 0) in
    let fit3 : FitsSigned w32 top = search rules in
    let fit2 : FitsSigned w32 (get_or ws (p + 2) (pos 0)) = search rules in
    let fit1 : FitsSigned w32 (get_or ws (p + 1) (pos 0)) = search rules in
    let fit0 : FitsSigned w32 (get_or ws p (pos 0)) = search rules in
    let low : nat_abs top ≤ 2 ^ 31 = abs-below top fit3 in
    let is : to_z w128 (of_z w128 c.from.result) ≡ top = ap (λ z. to_z w128 (of_z w128 z)) (c.from.ensures ∙ to_z-of_z w32 top fit3) ∙ same-128 top (omega (arith, low)) in
    let two : c.cast_unsigned.result ≡ bits_at ws (p + 2) = c.cast_unsigned.ensures ∙ ap (of_z w32) (to_z-of_z w32 (get_or ws (p + 2) (pos 0)) fit2) in
    let one : c.cast_unsigned-2.result ≡ bits_at ws (p + 1) = c.cast_unsigned-2.ensures ∙ ap (of_z w32) (to_z-of_z w32 (get_or ws (p + 1) (pos 0)) fit1) in
    let high : nat_abs c.below-high.result ≤ 2 ^ 64 = omega (arith, c.below-high.ensures.within, ap nat_abs is, low) in
    let first : c.below-high.result ≡ wide_number top (bits_at ws (p + 2)) = c.below-high.ensures.value ∙ (λ i. wide_number (is i) (two i)) in
    let second : c.below.result ≡ wide_number (wide_number top (bits_at ws (p + 2))) (bits_at ws (p + 1)) =
    c.below.ensures.value ∙ (λ i. wide_number ((same-128 c.below-high.result (omega (arith, high)) ∙ first) i) (one i)) in
    let small : nat_abs (wide_number (wide_number top (bits_at ws (p + 2))) (bits_at ws (p + 1))) ≤ 2 ^ 33 = joined-high (wide_number (wide_number top (bits_at ws (p + 2))) (bits_at ws (p + 1))) (bits_at ws p) (bits-below (get_or ws p (pos 0)) fit0) c.requires.within in
    let within : nat_abs c.below.result ≤ 2 ^ 33 = subst (λ z. nat_abs z ≤ 2 ^ 33) (sym second) small in
    subst (λ z. nat_abs z ≤ 2 ^ 94) (sym (same-128 c.below.result (omega (arith, within)))) (omega (arith, within))
