use Rattle.std.proofs.Common.{◌∙◌, [], ◌∷◌, ◌+ℤ◌, pos, arith, rules, w64, FitsSigned}
use Rattle.std.proofs.lemmas.Int.{to_z-of_z}
use Rattle.eq_biquad.proofs.NearLaws.{kept-64, fits}
use Rattle.eq_biquad.proofs.ArithLaws.{same-128}
use Rattle.eq_biquad.proofs.PairLaws.{known-again}
use Rattle.eq_biquad.proofs.PairNumbers.{begun-fits}
use Rattle.eq_biquad.proofs.pair_numbers.parts_of.Goals as goal

pub returns-clause-fed : goal.returns-clause-fed
returns-clause-fed c =
    let zero : FitsSigned w64 (pos 0) = record { sfits = omega arith } in
    known-again w64 c.wide_both.result (pos 0) (pos 0) c.wide_both.ensures zero zero

pub returns-clause-ahead : goal.returns-clause-ahead
returns-clause-ahead c =
    let left = c.args.left.first in let right = c.args.right.first in
    let fit : FitsSigned w64 c.ahead_of.result = search rules in let fit_right : FitsSigned w64 c.ahead_of-2.result = search rules in
    known-again w64 c.wide_both-2.result (left +ℤ pos 536870912) (right +ℤ pos 536870912)
    (c.wide_both-2.ensures
    ∙ (λ i. to_z-of_z w64 c.ahead_of.result fit i ∷ to_z-of_z w64 c.ahead_of-2.result fit_right i ∷ [])
    ∙ (λ i. c.ahead_of.ensures i ∷ c.ahead_of-2.ensures i ∷ [])
    ∙ (λ i. (same-128 left (omega (arith, c.requires.firsts.0)) i +ℤ pos 536870912) ∷ (same-128 right (omega (arith, c.requires.firsts.1)) i +ℤ pos 536870912) ∷ []))
    (begun-fits left c.requires.firsts.0) (begun-fits right c.requires.firsts.1)

pub returns-clause-second : goal.returns-clause-second
returns-clause-second c =
    let left = c.args.left.second in let right = c.args.right.second in
    known-again w64 c.wide_both-3.result left right
    (c.wide_both-3.ensures ∙ (λ i. kept-64 left c.requires.seconds.0 i ∷ kept-64 right c.requires.seconds.1 i ∷ []))
    (fits left c.requires.seconds.0) (fits right c.requires.seconds.1)
