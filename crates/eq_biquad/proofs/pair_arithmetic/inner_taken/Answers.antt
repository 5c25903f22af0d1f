use Rattle.std.proofs.Common.{◌≡◌, sym, subst, ◌∙◌, ◌*◌, ◌^◌, ◌<◌, [], ◌∷◌, ℤ, ◌+ℤ◌, ◌*ℤ◌, nat_abs, List, w32, w64, FitsSigned}
use Rattle.eq_biquad.specs.Pairs.{left_number, right_number, BothAre, inner_of_sum}
use Rattle.eq_biquad.proofs.PairLaws.{pair-again, known-again, product-low, product-fits, sizes-fit, three-low}
use Rattle.eq_biquad.proofs.pair_arithmetic.inner_taken.Goals as goal

pub add_both-requires-clause-sums : goal.add_both-requires-clause-sums
add_both-requires-clause-sums c =
    let b0 : List ℤ = c.args.b0 in let x : List ℤ = c.args.x in let fed : List ℤ = c.args.fed in let ahead : List ℤ = c.args.ahead in
    let p : ℤ = left_number b0 *ℤ left_number x in let q : ℤ = right_number b0 *ℤ right_number x in
    let low_p = product-low (left_number b0) (left_number x) c.requires.inputs.1.0 in let low_q = product-low (right_number b0) (right_number x) c.requires.inputs.1.1 in
    let ab = pair-again w32 b0 c.requires.factors in let ax = pair-again w32 x c.requires.inputs in
    let af = pair-again w64 fed c.requires.fed in
    let products : c.times_both.result ≡ p ∷ q ∷ [] = c.times_both.ensures ∙ (λ i. (left_number (ab i) *ℤ left_number (ax i)) ∷ (right_number (ab i) *ℤ right_number (ax i)) ∷ []) in
    let at = known-again w64 c.times_both.result p q products (product-fits (left_number b0) (left_number x) c.requires.factors.1.0 c.requires.inputs.1.0) (product-fits (right_number b0) (right_number x) c.requires.factors.1.1 c.requires.inputs.1.1) in
    let fit_p : FitsSigned w64 (p +ℤ left_number fed) = sizes-fit p (left_number fed) (nat_abs (left_number b0) * 2 ^ 31) low_p c.requires.even.0 in
    let fit_q : FitsSigned w64 (q +ℤ right_number fed) = sizes-fit q (right_number fed) (nat_abs (right_number b0) * 2 ^ 31) low_q c.requires.even.1 in
    subst (λ (v : List ℤ × List ℤ). FitsSigned w64 (left_number v.0 +ℤ left_number v.1) × FitsSigned w64 (right_number v.0 +ℤ right_number v.1)) (λ i. (sym at i, sym af i)) (fit_p, fit_q)

pub take_both-requires-clause-second : goal.take_both-requires-clause-second
take_both-requires-clause-second c = subst (BothAre (FitsSigned w64)) (sym (pair-again w64 c.args.ahead c.requires.ahead)) c.requires.ahead

pub take_both-requires-clause-sums : goal.take_both-requires-clause-sums
take_both-requires-clause-sums c =
    let b0 : List ℤ = c.args.b0 in let x : List ℤ = c.args.x in let fed : List ℤ = c.args.fed in let ahead : List ℤ = c.args.ahead in
    let p : ℤ = left_number b0 *ℤ left_number x in let q : ℤ = right_number b0 *ℤ right_number x in
    let low_p = product-low (left_number b0) (left_number x) c.requires.inputs.1.0 in let low_q = product-low (right_number b0) (right_number x) c.requires.inputs.1.1 in
    let ab = pair-again w32 b0 c.requires.factors in let ax = pair-again w32 x c.requires.inputs in
    let af = pair-again w64 fed c.requires.fed in
    let products : c.times_both.result ≡ p ∷ q ∷ [] = c.times_both.ensures ∙ (λ i. (left_number (ab i) *ℤ left_number (ax i)) ∷ (right_number (ab i) *ℤ right_number (ax i)) ∷ []) in
    let at = known-again w64 c.times_both.result p q products (product-fits (left_number b0) (left_number x) c.requires.factors.1.0 c.requires.inputs.1.0) (product-fits (right_number b0) (right_number x) c.requires.factors.1.1 c.requires.inputs.1.1) in
    let fit_p : FitsSigned w64 (p +ℤ left_number fed) = sizes-fit p (left_number fed) (nat_abs (left_number b0) * 2 ^ 31) low_p c.requires.even.0 in
    let fit_q : FitsSigned w64 (q +ℤ right_number fed) = sizes-fit q (right_number fed) (nat_abs (right_number b0) * 2 ^ 31) low_q c.requires.even.1 in
    let sums : c.add_both.result ≡ (p +ℤ left_number fed) ∷ (q +ℤ right_number fed) ∷ [] = c.add_both.ensures ∙ (λ i. (left_number (at i) +ℤ left_number (af i)) ∷ (right_number (at i) +ℤ right_number (af i)) ∷ []) in
    let ag = known-again w64 c.add_both.result (p +ℤ left_number fed) (q +ℤ right_number fed) sums fit_p fit_q in
    let aa = pair-again w64 ahead c.requires.ahead in
    subst (λ (v : List ℤ × List ℤ). (nat_abs (left_number v.0 +ℤ left_number v.1) < 7 * 2 ^ 61) × (nat_abs (right_number v.0 +ℤ right_number v.1) < 7 * 2 ^ 61)) (λ i. (sym ag i, sym aa i))
    (three-low p (left_number fed) (left_number ahead) (nat_abs (left_number b0) * 2 ^ 31) low_p c.requires.sums.0, three-low q (right_number fed) (right_number ahead) (nat_abs (right_number b0) * 2 ^ 31) low_q c.requires.sums.1)

pub returns-clause-left : goal.returns-clause-left
returns-clause-left c = λ clear.
    let b0 : List ℤ = c.args.b0 in let x : List ℤ = c.args.x in let fed : List ℤ = c.args.fed in let ahead : List ℤ = c.args.ahead in
    let p : ℤ = left_number b0 *ℤ left_number x in let q : ℤ = right_number b0 *ℤ right_number x in
    let low_p = product-low (left_number b0) (left_number x) c.requires.inputs.1.0 in let low_q = product-low (right_number b0) (right_number x) c.requires.inputs.1.1 in
    let ab = pair-again w32 b0 c.requires.factors in let ax = pair-again w32 x c.requires.inputs in
    let af = pair-again w64 fed c.requires.fed in
    let products : c.times_both.result ≡ p ∷ q ∷ [] = c.times_both.ensures ∙ (λ i. (left_number (ab i) *ℤ left_number (ax i)) ∷ (right_number (ab i) *ℤ right_number (ax i)) ∷ []) in
    let at = known-again w64 c.times_both.result p q products (product-fits (left_number b0) (left_number x) c.requires.factors.1.0 c.requires.inputs.1.0) (product-fits (right_number b0) (right_number x) c.requires.factors.1.1 c.requires.inputs.1.1) in
    let fit_p : FitsSigned w64 (p +ℤ left_number fed) = sizes-fit p (left_number fed) (nat_abs (left_number b0) * 2 ^ 31) low_p c.requires.even.0 in
    let fit_q : FitsSigned w64 (q +ℤ right_number fed) = sizes-fit q (right_number fed) (nat_abs (right_number b0) * 2 ^ 31) low_q c.requires.even.1 in
    let sums : c.add_both.result ≡ (p +ℤ left_number fed) ∷ (q +ℤ right_number fed) ∷ [] = c.add_both.ensures ∙ (λ i. (left_number (at i) +ℤ left_number (af i)) ∷ (right_number (at i) +ℤ right_number (af i)) ∷ []) in
    let ag = known-again w64 c.add_both.result (p +ℤ left_number fed) (q +ℤ right_number fed) sums fit_p fit_q in
    let aa = pair-again w64 ahead c.requires.ahead in
    c.take_both.ensures.left clear
    ∙ (λ i. inner_of_sum (left_number (ag i) +ℤ left_number (aa i)))

pub returns-clause-right : goal.returns-clause-right
returns-clause-right c = λ clear.
    let b0 : List ℤ = c.args.b0 in let x : List ℤ = c.args.x in let fed : List ℤ = c.args.fed in let ahead : List ℤ = c.args.ahead in
    let p : ℤ = left_number b0 *ℤ left_number x in let q : ℤ = right_number b0 *ℤ right_number x in
    let low_p = product-low (left_number b0) (left_number x) c.requires.inputs.1.0 in let low_q = product-low (right_number b0) (right_number x) c.requires.inputs.1.1 in
    let ab = pair-again w32 b0 c.requires.factors in let ax = pair-again w32 x c.requires.inputs in
    let af = pair-again w64 fed c.requires.fed in
    let products : c.times_both.result ≡ p ∷ q ∷ [] = c.times_both.ensures ∙ (λ i. (left_number (ab i) *ℤ left_number (ax i)) ∷ (right_number (ab i) *ℤ right_number (ax i)) ∷ []) in
    let at = known-again w64 c.times_both.result p q products (product-fits (left_number b0) (left_number x) c.requires.factors.1.0 c.requires.inputs.1.0) (product-fits (right_number b0) (right_number x) c.requires.factors.1.1 c.requires.inputs.1.1) in
    let fit_p : FitsSigned w64 (p +ℤ left_number fed) = sizes-fit p (left_number fed) (nat_abs (left_number b0) * 2 ^ 31) low_p c.requires.even.0 in
    let fit_q : FitsSigned w64 (q +ℤ right_number fed) = sizes-fit q (right_number fed) (nat_abs (right_number b0) * 2 ^ 31) low_q c.requires.even.1 in
    let sums : c.add_both.result ≡ (p +ℤ left_number fed) ∷ (q +ℤ right_number fed) ∷ [] = c.add_both.ensures ∙ (λ i. (left_number (at i) +ℤ left_number (af i)) ∷ (right_number (at i) +ℤ right_number (af i)) ∷ []) in
    let ag = known-again w64 c.add_both.result (p +ℤ left_number fed) (q +ℤ right_number fed) sums fit_p fit_q in
    let aa = pair-again w64 ahead c.requires.ahead in
    c.take_both.ensures.right clear
    ∙ (λ i. inner_of_sum (right_number (ag i) +ℤ right_number (aa i)))

pub returns-clause-fit : goal.returns-clause-fit
returns-clause-fit c = c.take_both.ensures.fit

pub returns-clause-marks : goal.returns-clause-marks
returns-clause-marks c = c.take_both.ensures.marks
