use Rattle.std.proofs.Common.{refl, sym, subst, ◌∙◌, ◌+◌, ◌*◌, ◌^◌, ◌<◌, ℤ, ◌+ℤ◌, ◌*ℤ◌, nat_abs, List, rules, arith, w32, w64, FitsSigned}
use Rattle.eq_biquad.specs.Pairs.{left_number, right_number, BothAre, BothMeet, inner_of_sum}
use Rattle.eq_blob.specs.Sections.{law_section}
use Rattle.eq_biquad.proofs.PairLaws.{pair-again}
use Rattle.eq_biquad.proofs.PairNumbers.{coefficients-again, inner-next}
use Rattle.eq_biquad.proofs.stages.inners_taken.Goals as goal

pub inner_taken-requires-clause-factors : goal.inner_taken-requires-clause-factors
inner_taken-requires-clause-factors c =
    let fit : FitsSigned w32 c.args.left.b0 = search rules in let fit_right : FitsSigned w32 c.args.right.b0 = search rules in
    subst (BothAre (FitsSigned w32)) (sym (coefficients-again c.both.result c.args.left.b0 c.args.right.b0 c.both.ensures fit fit_right)) (refl, (fit, fit_right))

pub inner_taken-requires-clause-inputs : goal.inner_taken-requires-clause-inputs
inner_taken-requires-clause-inputs c = subst (BothAre (FitsSigned w32)) (sym (pair-again w32 c.args.x c.requires.inputs)) c.requires.inputs

pub inner_taken-requires-clause-fed : goal.inner_taken-requires-clause-fed
inner_taken-requires-clause-fed c = subst (BothAre (FitsSigned w64)) (sym (pair-again w64 c.args.near.fed c.requires.near.parts.fed)) c.requires.near.parts.fed

pub inner_taken-requires-clause-ahead : goal.inner_taken-requires-clause-ahead
inner_taken-requires-clause-ahead c = subst (BothAre (FitsSigned w64)) (sym (pair-again w64 c.args.near.ahead c.requires.near.parts.ahead)) c.requires.near.parts.ahead

pub inner_taken-requires-clause-even : goal.inner_taken-requires-clause-even
inner_taken-requires-clause-even c =
    let fit : FitsSigned w32 c.args.left.b0 = search rules in let fit_right : FitsSigned w32 c.args.right.b0 = search rules in
    let factors = coefficients-again c.both.result c.args.left.b0 c.args.right.b0 c.both.ensures fit fit_right in
    let fed = pair-again w64 c.args.near.fed c.requires.near.parts.fed in
    subst (λ (v : List ℤ × List ℤ). BothMeet (λ b f. nat_abs b * 2 ^ 31 + nat_abs f < 2 ^ 63) v.0 v.1) (λ i. (sym factors i, sym fed i))
    (omega (arith, c.requires.near.left.fed, c.requires.beside.0.even), omega (arith, c.requires.near.right.fed, c.requires.beside.1.even))

pub inner_taken-requires-clause-sums : goal.inner_taken-requires-clause-sums
inner_taken-requires-clause-sums c =
    let fit : FitsSigned w32 c.args.left.b0 = search rules in let fit_right : FitsSigned w32 c.args.right.b0 = search rules in
    let factors = coefficients-again c.both.result c.args.left.b0 c.args.right.b0 c.both.ensures fit fit_right in
    let fed = pair-again w64 c.args.near.fed c.requires.near.parts.fed in
    let ahead = pair-again w64 c.args.near.ahead c.requires.near.parts.ahead in
    subst (λ (v : List ℤ × (List ℤ × List ℤ)). (nat_abs (left_number v.1.0 +ℤ left_number v.1.1) + nat_abs (left_number v.0) * 2 ^ 31 < 7 * 2 ^ 61) × (nat_abs (right_number v.1.0 +ℤ right_number v.1.1) + nat_abs (right_number v.0) * 2 ^ 31 < 7 * 2 ^ 61))
    (λ i. (sym factors i, (sym ahead i, sym fed i))) (c.requires.near.left.sum, c.requires.near.right.sum)

pub returns-clause-left : goal.returns-clause-left
returns-clause-left c = λ clear.
    let s = law_section c.args.left in let t = law_section c.args.right in let near = c.args.near in let x : List ℤ = c.args.x in
    let fit : FitsSigned w32 c.args.left.b0 = search rules in let fit_right : FitsSigned w32 c.args.right.b0 = search rules in
    let factors = coefficients-again c.both.result c.args.left.b0 c.args.right.b0 c.both.ensures fit fit_right in
    let inputs = pair-again w32 x c.requires.inputs in
    let fed = pair-again w64 near.fed c.requires.near.parts.fed in
    let ahead = pair-again w64 near.ahead c.requires.near.parts.ahead in
    c.inner_taken.ensures.left clear
    ∙ (λ i. inner_of_sum (((left_number (factors i) *ℤ left_number (inputs i)) +ℤ left_number (fed i)) +ℤ left_number (ahead i)))
    ∙ inner-next (s.b0 *ℤ left_number x) (left_number near.fed) (left_number near.ahead)

pub returns-clause-right : goal.returns-clause-right
returns-clause-right c = λ clear.
    let s = law_section c.args.left in let t = law_section c.args.right in let near = c.args.near in let x : List ℤ = c.args.x in
    let fit : FitsSigned w32 c.args.left.b0 = search rules in let fit_right : FitsSigned w32 c.args.right.b0 = search rules in
    let factors = coefficients-again c.both.result c.args.left.b0 c.args.right.b0 c.both.ensures fit fit_right in
    let inputs = pair-again w32 x c.requires.inputs in
    let fed = pair-again w64 near.fed c.requires.near.parts.fed in
    let ahead = pair-again w64 near.ahead c.requires.near.parts.ahead in
    c.inner_taken.ensures.right clear
    ∙ (λ i. inner_of_sum (((right_number (factors i) *ℤ right_number (inputs i)) +ℤ right_number (fed i)) +ℤ right_number (ahead i)))
    ∙ inner-next (t.b0 *ℤ right_number x) (right_number near.fed) (right_number near.ahead)

pub returns-clause-fit : goal.returns-clause-fit
returns-clause-fit c = c.inner_taken.ensures.fit

pub returns-clause-marks : goal.returns-clause-marks
returns-clause-marks c = c.inner_taken.ensures.marks
