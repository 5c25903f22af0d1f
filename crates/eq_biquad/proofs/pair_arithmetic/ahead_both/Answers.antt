use Rattle.std.proofs.Common.{◌≡◌, refl, sym, subst, ◌∙◌, ◌*◌, ◌^◌, [], ◌∷◌, ℤ, pos, ◌+ℤ◌, ◌*ℤ◌, nat_abs, List, w32, w64, FitsSigned, arith}
use Rattle.eq_biquad.specs.Pairs.{left_number, right_number, BothAre}
use Rattle.eq_biquad.proofs.PairLaws.{pair-again, known-again, product-low, product-fits, sizes-fit, half-fits}
use Rattle.eq_biquad.proofs.pair_arithmetic.ahead_both.Goals as goal

pub add_both-sum-requires-clause-sums : goal.add_both-sum-requires-clause-sums
add_both-sum-requires-clause-sums c =
    let b1 : List ℤ = c.args.b1 in let x : List ℤ = c.args.x in let second : List ℤ = c.args.second in
    let p : ℤ = left_number b1 *ℤ left_number x in let q : ℤ = right_number b1 *ℤ right_number x in
    let ab = pair-again w32 b1 c.requires.factors in let ax = pair-again w32 x c.requires.inputs in let ag = pair-again w64 second c.requires.second in
    let ins : c.times_both.result ≡ p ∷ q ∷ [] = c.times_both.ensures ∙ (λ i. (left_number (ab i) *ℤ left_number (ax i)) ∷ (right_number (ab i) *ℤ right_number (ax i)) ∷ []) in
    let ai = known-again w64 c.times_both.result p q ins (product-fits (left_number b1) (left_number x) c.requires.factors.1.0 c.requires.inputs.1.0) (product-fits (right_number b1) (right_number x) c.requires.factors.1.1 c.requires.inputs.1.1) in
    let low_p = product-low (left_number b1) (left_number x) c.requires.inputs.1.0 in let low_q = product-low (right_number b1) (right_number x) c.requires.inputs.1.1 in
    let fit_p : FitsSigned w64 (p +ℤ left_number second) = sizes-fit p (left_number second) (nat_abs (left_number b1) * 2 ^ 31) low_p (omega (arith, c.requires.room.0)) in
    let fit_q : FitsSigned w64 (q +ℤ right_number second) = sizes-fit q (right_number second) (nat_abs (right_number b1) * 2 ^ 31) low_q (omega (arith, c.requires.room.1)) in
    subst (λ (v : List ℤ × List ℤ). FitsSigned w64 (left_number v.0 +ℤ left_number v.1) × FitsSigned w64 (right_number v.0 +ℤ right_number v.1)) (λ i. (sym ai i, sym ag i)) (fit_p, fit_q)

pub add_both-requires-clause-first : goal.add_both-requires-clause-first
add_both-requires-clause-first c =
    let b1 : List ℤ = c.args.b1 in let x : List ℤ = c.args.x in let second : List ℤ = c.args.second in
    let p : ℤ = left_number b1 *ℤ left_number x in let q : ℤ = right_number b1 *ℤ right_number x in
    let ab = pair-again w32 b1 c.requires.factors in let ax = pair-again w32 x c.requires.inputs in let ag = pair-again w64 second c.requires.second in
    let ins : c.times_both.result ≡ p ∷ q ∷ [] = c.times_both.ensures ∙ (λ i. (left_number (ab i) *ℤ left_number (ax i)) ∷ (right_number (ab i) *ℤ right_number (ax i)) ∷ []) in
    let ai = known-again w64 c.times_both.result p q ins (product-fits (left_number b1) (left_number x) c.requires.factors.1.0 c.requires.inputs.1.0) (product-fits (right_number b1) (right_number x) c.requires.factors.1.1 c.requires.inputs.1.1) in
    let low_p = product-low (left_number b1) (left_number x) c.requires.inputs.1.0 in let low_q = product-low (right_number b1) (right_number x) c.requires.inputs.1.1 in
    let fit_p : FitsSigned w64 (p +ℤ left_number second) = sizes-fit p (left_number second) (nat_abs (left_number b1) * 2 ^ 31) low_p (omega (arith, c.requires.room.0)) in
    let fit_q : FitsSigned w64 (q +ℤ right_number second) = sizes-fit q (right_number second) (nat_abs (right_number b1) * 2 ^ 31) low_q (omega (arith, c.requires.room.1)) in
    let sums : c.add_both-sum.result ≡ (p +ℤ left_number second) ∷ (q +ℤ right_number second) ∷ [] = c.add_both-sum.ensures ∙ (λ i. (left_number (ai i) +ℤ left_number (ag i)) ∷ (right_number (ai i) +ℤ right_number (ag i)) ∷ []) in
    let au = known-again w64 c.add_both-sum.result (p +ℤ left_number second) (q +ℤ right_number second) sums fit_p fit_q in
    let fit_half : FitsSigned w64 (pos 536870912) = record { sfits = omega arith } in
    let ah = known-again w64 c.wide_both.result (pos 536870912) (pos 536870912) c.wide_both.ensures fit_half fit_half in
    let fit_one = half-fits p (left_number second) (nat_abs (left_number b1) * 2 ^ 31) low_p c.requires.room.0 in
    let fit_two = half-fits q (right_number second) (nat_abs (right_number b1) * 2 ^ 31) low_q c.requires.room.1 in
    subst (BothAre (FitsSigned w64)) (sym au) (refl, (fit_p, fit_q))

pub add_both-requires-clause-sums : goal.add_both-requires-clause-sums
add_both-requires-clause-sums c =
    let b1 : List ℤ = c.args.b1 in let x : List ℤ = c.args.x in let second : List ℤ = c.args.second in
    let p : ℤ = left_number b1 *ℤ left_number x in let q : ℤ = right_number b1 *ℤ right_number x in
    let ab = pair-again w32 b1 c.requires.factors in let ax = pair-again w32 x c.requires.inputs in let ag = pair-again w64 second c.requires.second in
    let ins : c.times_both.result ≡ p ∷ q ∷ [] = c.times_both.ensures ∙ (λ i. (left_number (ab i) *ℤ left_number (ax i)) ∷ (right_number (ab i) *ℤ right_number (ax i)) ∷ []) in
    let ai = known-again w64 c.times_both.result p q ins (product-fits (left_number b1) (left_number x) c.requires.factors.1.0 c.requires.inputs.1.0) (product-fits (right_number b1) (right_number x) c.requires.factors.1.1 c.requires.inputs.1.1) in
    let low_p = product-low (left_number b1) (left_number x) c.requires.inputs.1.0 in let low_q = product-low (right_number b1) (right_number x) c.requires.inputs.1.1 in
    let fit_p : FitsSigned w64 (p +ℤ left_number second) = sizes-fit p (left_number second) (nat_abs (left_number b1) * 2 ^ 31) low_p (omega (arith, c.requires.room.0)) in
    let fit_q : FitsSigned w64 (q +ℤ right_number second) = sizes-fit q (right_number second) (nat_abs (right_number b1) * 2 ^ 31) low_q (omega (arith, c.requires.room.1)) in
    let sums : c.add_both-sum.result ≡ (p +ℤ left_number second) ∷ (q +ℤ right_number second) ∷ [] = c.add_both-sum.ensures ∙ (λ i. (left_number (ai i) +ℤ left_number (ag i)) ∷ (right_number (ai i) +ℤ right_number (ag i)) ∷ []) in
    let au = known-again w64 c.add_both-sum.result (p +ℤ left_number second) (q +ℤ right_number second) sums fit_p fit_q in
    let fit_half : FitsSigned w64 (pos 536870912) = record { sfits = omega arith } in
    let ah = known-again w64 c.wide_both.result (pos 536870912) (pos 536870912) c.wide_both.ensures fit_half fit_half in
    let fit_one = half-fits p (left_number second) (nat_abs (left_number b1) * 2 ^ 31) low_p c.requires.room.0 in
    let fit_two = half-fits q (right_number second) (nat_abs (right_number b1) * 2 ^ 31) low_q c.requires.room.1 in
    subst (λ (v : List ℤ × List ℤ). FitsSigned w64 (left_number v.0 +ℤ left_number v.1) × FitsSigned w64 (right_number v.0 +ℤ right_number v.1)) (λ i. (sym au i, sym ah i)) (fit_one, fit_two)

pub returns : goal.returns
returns c =
    let b1 : List ℤ = c.args.b1 in let x : List ℤ = c.args.x in let second : List ℤ = c.args.second in
    let p : ℤ = left_number b1 *ℤ left_number x in let q : ℤ = right_number b1 *ℤ right_number x in
    let ab = pair-again w32 b1 c.requires.factors in let ax = pair-again w32 x c.requires.inputs in let ag = pair-again w64 second c.requires.second in
    let ins : c.times_both.result ≡ p ∷ q ∷ [] = c.times_both.ensures ∙ (λ i. (left_number (ab i) *ℤ left_number (ax i)) ∷ (right_number (ab i) *ℤ right_number (ax i)) ∷ []) in
    let ai = known-again w64 c.times_both.result p q ins (product-fits (left_number b1) (left_number x) c.requires.factors.1.0 c.requires.inputs.1.0) (product-fits (right_number b1) (right_number x) c.requires.factors.1.1 c.requires.inputs.1.1) in
    let low_p = product-low (left_number b1) (left_number x) c.requires.inputs.1.0 in let low_q = product-low (right_number b1) (right_number x) c.requires.inputs.1.1 in
    let fit_p : FitsSigned w64 (p +ℤ left_number second) = sizes-fit p (left_number second) (nat_abs (left_number b1) * 2 ^ 31) low_p (omega (arith, c.requires.room.0)) in
    let fit_q : FitsSigned w64 (q +ℤ right_number second) = sizes-fit q (right_number second) (nat_abs (right_number b1) * 2 ^ 31) low_q (omega (arith, c.requires.room.1)) in
    let sums : c.add_both-sum.result ≡ (p +ℤ left_number second) ∷ (q +ℤ right_number second) ∷ [] = c.add_both-sum.ensures ∙ (λ i. (left_number (ai i) +ℤ left_number (ag i)) ∷ (right_number (ai i) +ℤ right_number (ag i)) ∷ []) in
    let au = known-again w64 c.add_both-sum.result (p +ℤ left_number second) (q +ℤ right_number second) sums fit_p fit_q in
    let fit_half : FitsSigned w64 (pos 536870912) = record { sfits = omega arith } in
    let ah = known-again w64 c.wide_both.result (pos 536870912) (pos 536870912) c.wide_both.ensures fit_half fit_half in
    let fit_one = half-fits p (left_number second) (nat_abs (left_number b1) * 2 ^ 31) low_p c.requires.room.0 in
    let fit_two = half-fits q (right_number second) (nat_abs (right_number b1) * 2 ^ 31) low_q c.requires.room.1 in
    known-again w64 c.add_both.result ((p +ℤ left_number second) +ℤ pos 536870912) ((q +ℤ right_number second) +ℤ pos 536870912) (c.add_both.ensures ∙ (λ i. (left_number (au i) +ℤ left_number (ah i)) ∷ (right_number (au i) +ℤ right_number (ah i)) ∷ [])) fit_one fit_two
