use Rattle.std.proofs.Common.{◌∙◌, [], ◌∷◌, ℤ, List, map, w64, to_z}
use Rattle.eq_biquad.specs.Pairs.{left_number, right_number}
use Rattle.eq_biquad.proofs.PairLaws.{sum-fits, pair-is, pair_sums}
use Rattle.eq_biquad.proofs.pair_arithmetic.add_both.Goals as goal

pub returns : goal.returns
returns c =
    let a : List ℤ = c.args.a in let b : List ℤ = c.args.b in
    (λ i. map (to_z w64) (pair_sums (pair-is a c.requires.first.0 i) (pair-is b c.requires.second.0 i)))
    ∙ (λ i. sum-fits (left_number a) (left_number b) c.requires.first.1.0 c.requires.second.1.0 c.requires.sums.0 i ∷ sum-fits (right_number a) (right_number b) c.requires.first.1.1 c.requires.second.1.1 c.requires.sums.1 i ∷ [])
