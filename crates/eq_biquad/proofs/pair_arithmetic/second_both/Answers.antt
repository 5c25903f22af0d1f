use Rattle.std.proofs.Common.{◌≡◌, sym, subst, ◌∙◌, ◌*◌, ◌^◌, [], ◌∷◌, ℤ, ◌+ℤ◌, ◌*ℤ◌, nat_abs, List, w32, w64, FitsSigned, arith}
use Rattle.eq_biquad.specs.Pairs.{left_number, right_number}
use Rattle.eq_biquad.proofs.PairLaws.{pair-again, known-again, product-low, product-fits, sizes-fit}
use Rattle.eq_biquad.proofs.pair_arithmetic.second_both.Goals as goal

pub add_both-requires-clause-sums : goal.add_both-requires-clause-sums
add_both-requires-clause-sums c =
    let b2 : List ℤ = c.args.b2 in let x : List ℤ = c.args.x in let a2 : List ℤ = c.args.a2 in let w : List ℤ = c.args.w in
    let p : ℤ = left_number b2 *ℤ left_number x in let q : ℤ = right_number b2 *ℤ right_number x in let r : ℤ = left_number a2 *ℤ left_number w in let t : ℤ = right_number a2 *ℤ right_number w in
    let ab = pair-again w32 b2 c.requires.factors.0 in let ax = pair-again w32 x c.requires.inputs.0 in
    let aa = pair-again w32 a2 c.requires.factors.1 in let aw = pair-again w32 w c.requires.inputs.1 in
    let ins : c.times_both.result ≡ p ∷ q ∷ [] = c.times_both.ensures ∙ (λ i. (left_number (ab i) *ℤ left_number (ax i)) ∷ (right_number (ab i) *ℤ right_number (ax i)) ∷ []) in
    let backs : c.times_both-2.result ≡ r ∷ t ∷ [] = c.times_both-2.ensures ∙ (λ i. (left_number (aa i) *ℤ left_number (aw i)) ∷ (right_number (aa i) *ℤ right_number (aw i)) ∷ []) in
    let ai = known-again w64 c.times_both.result p q ins (product-fits (left_number b2) (left_number x) c.requires.factors.0.1.0 c.requires.inputs.0.1.0) (product-fits (right_number b2) (right_number x) c.requires.factors.0.1.1 c.requires.inputs.0.1.1) in
    let ak = known-again w64 c.times_both-2.result r t backs (product-fits (left_number a2) (left_number w) c.requires.factors.1.1.0 c.requires.inputs.1.1.0) (product-fits (right_number a2) (right_number w) c.requires.factors.1.1.1 c.requires.inputs.1.1.1) in
    let low_p = product-low (left_number b2) (left_number x) c.requires.inputs.0.1.0 in let low_q = product-low (right_number b2) (right_number x) c.requires.inputs.0.1.1 in
    let low_r = product-low (left_number a2) (left_number w) c.requires.inputs.1.1.0 in let low_t = product-low (right_number a2) (right_number w) c.requires.inputs.1.1.1 in
    let fit_one : FitsSigned w64 (p +ℤ r) = sizes-fit p r (nat_abs (left_number b2) * 2 ^ 31) low_p (omega (arith, low_r, c.requires.room.0)) in
    let fit_two : FitsSigned w64 (q +ℤ t) = sizes-fit q t (nat_abs (right_number b2) * 2 ^ 31) low_q (omega (arith, low_t, c.requires.room.1)) in
    subst (λ (v : List ℤ × List ℤ). FitsSigned w64 (left_number v.0 +ℤ left_number v.1) × FitsSigned w64 (right_number v.0 +ℤ right_number v.1)) (λ i. (sym ai i, sym ak i)) (fit_one, fit_two)

pub returns : goal.returns
returns c =
    let b2 : List ℤ = c.args.b2 in let x : List ℤ = c.args.x in let a2 : List ℤ = c.args.a2 in let w : List ℤ = c.args.w in
    let p : ℤ = left_number b2 *ℤ left_number x in let q : ℤ = right_number b2 *ℤ right_number x in let r : ℤ = left_number a2 *ℤ left_number w in let t : ℤ = right_number a2 *ℤ right_number w in
    let ab = pair-again w32 b2 c.requires.factors.0 in let ax = pair-again w32 x c.requires.inputs.0 in
    let aa = pair-again w32 a2 c.requires.factors.1 in let aw = pair-again w32 w c.requires.inputs.1 in
    let ins : c.times_both.result ≡ p ∷ q ∷ [] = c.times_both.ensures ∙ (λ i. (left_number (ab i) *ℤ left_number (ax i)) ∷ (right_number (ab i) *ℤ right_number (ax i)) ∷ []) in
    let backs : c.times_both-2.result ≡ r ∷ t ∷ [] = c.times_both-2.ensures ∙ (λ i. (left_number (aa i) *ℤ left_number (aw i)) ∷ (right_number (aa i) *ℤ right_number (aw i)) ∷ []) in
    let ai = known-again w64 c.times_both.result p q ins (product-fits (left_number b2) (left_number x) c.requires.factors.0.1.0 c.requires.inputs.0.1.0) (product-fits (right_number b2) (right_number x) c.requires.factors.0.1.1 c.requires.inputs.0.1.1) in
    let ak = known-again w64 c.times_both-2.result r t backs (product-fits (left_number a2) (left_number w) c.requires.factors.1.1.0 c.requires.inputs.1.1.0) (product-fits (right_number a2) (right_number w) c.requires.factors.1.1.1 c.requires.inputs.1.1.1) in
    let low_p = product-low (left_number b2) (left_number x) c.requires.inputs.0.1.0 in let low_q = product-low (right_number b2) (right_number x) c.requires.inputs.0.1.1 in
    let low_r = product-low (left_number a2) (left_number w) c.requires.inputs.1.1.0 in let low_t = product-low (right_number a2) (right_number w) c.requires.inputs.1.1.1 in
    let fit_one : FitsSigned w64 (p +ℤ r) = sizes-fit p r (nat_abs (left_number b2) * 2 ^ 31) low_p (omega (arith, low_r, c.requires.room.0)) in
    let fit_two : FitsSigned w64 (q +ℤ t) = sizes-fit q t (nat_abs (right_number b2) * 2 ^ 31) low_q (omega (arith, low_t, c.requires.room.1)) in
    known-again w64 c.add_both.result (p +ℤ r) (q +ℤ t) (c.add_both.ensures ∙ (λ i. (left_number (ai i) +ℤ left_number (ak i)) ∷ (right_number (ai i) +ℤ right_number (ak i)) ∷ [])) fit_one fit_two
