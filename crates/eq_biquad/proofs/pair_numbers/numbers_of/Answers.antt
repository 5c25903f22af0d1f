use Rattle.std.proofs.Common.{ap, sym, subst, ◌∙◌, pos, ◌+ℤ◌, ◌-ℤ◌, w64, FitsSigned, to_z, of_z}
use Rattle.std.proofs.lemmas.Int.{to_z-of_z}
use Rattle.eq_biquad.specs.Pairs.{left_number, right_number, BothAre}
use Rattle.eq_biquad.proofs.PairLaws.{pair-again}
use Rattle.eq_biquad.proofs.pair_numbers.numbers_of.Goals as goal

pub returns-clause-left : goal.returns-clause-left
returns-clause-left c =
    let near = c.args.near in let parts = c.requires in
    let ahead = c.wide_parts-ahead.ensures ∙ pair-again w64 near.ahead parts.ahead in let fed = c.wide_parts-fed.ensures ∙ pair-again w64 near.fed parts.fed in let second = c.wide_parts-second.ensures ∙ pair-again w64 near.second parts.second in (
      c.joined.ensures.first
          ∙ (λ i. (to_z w64 (of_z w64 (left_number (ahead i))) +ℤ to_z w64 (of_z w64 (left_number (fed i)))) -ℤ pos 536870912)
          ∙ (λ i. (to_z-of_z w64 (left_number near.ahead) parts.ahead.1.0 i +ℤ to_z-of_z w64 (left_number near.fed) parts.fed.1.0 i) -ℤ pos 536870912),
      c.joined.ensures.second ∙ ap (λ v. to_z w64 (of_z w64 (left_number v))) second ∙ to_z-of_z w64 (left_number near.second) parts.second.1.0,
    )

pub returns-clause-right : goal.returns-clause-right
returns-clause-right c =
    let near = c.args.near in let parts = c.requires in
    let ahead = c.wide_parts-ahead.ensures ∙ pair-again w64 near.ahead parts.ahead in let fed = c.wide_parts-fed.ensures ∙ pair-again w64 near.fed parts.fed in let second = c.wide_parts-second.ensures ∙ pair-again w64 near.second parts.second in (
      c.joined-2.ensures.first
          ∙ (λ i. (to_z w64 (of_z w64 (right_number (ahead i))) +ℤ to_z w64 (of_z w64 (right_number (fed i)))) -ℤ pos 536870912)
          ∙ (λ i. (to_z-of_z w64 (right_number near.ahead) parts.ahead.1.1 i +ℤ to_z-of_z w64 (right_number near.fed) parts.fed.1.1 i) -ℤ pos 536870912),
      c.joined-2.ensures.second ∙ ap (λ v. to_z w64 (of_z w64 (right_number v))) second ∙ to_z-of_z w64 (right_number near.second) parts.second.1.1,
    )

pub wide_parts-ahead-requires : goal.wide_parts-ahead-requires
wide_parts-ahead-requires c = subst (BothAre (FitsSigned w64)) (sym (pair-again w64 c.args.near.ahead c.requires.ahead)) c.requires.ahead

pub wide_parts-fed-requires : goal.wide_parts-fed-requires
wide_parts-fed-requires c = subst (BothAre (FitsSigned w64)) (sym (pair-again w64 c.args.near.fed c.requires.fed)) c.requires.fed

pub wide_parts-second-requires : goal.wide_parts-second-requires
wide_parts-second-requires c = subst (BothAre (FitsSigned w64)) (sym (pair-again w64 c.args.near.second c.requires.second)) c.requires.second
