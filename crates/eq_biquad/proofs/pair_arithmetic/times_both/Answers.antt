use Rattle.std.proofs.Common.{◌∙◌, ◌*◌, ◌%◌, ◌^◌, [], ◌∷◌, ℤ, List, map, w32, w64, to_z, of_z}
use Rattle.std.specs.Simd.Lanes.{zip2}
use Rattle.eq_biquad.specs.Pairs.{left_number, right_number}
use Rattle.eq_biquad.proofs.PairLaws.{times-is, pair-is}
use Rattle.eq_biquad.proofs.pair_arithmetic.times_both.Goals as goal

pub returns : goal.returns
returns c =
    let a : List ℤ = c.args.a in let b : List ℤ = c.args.b in
    (λ i. map (to_z w64) (zip2 (λ x y. x * y % 2 ^ 64) (map (λ x. of_z w64 (to_z w32 x)) (map (of_z w32) (pair-is a c.requires.first.0 i))) (map (λ x. of_z w64 (to_z w32 x)) (map (of_z w32) (pair-is b c.requires.second.0 i)))))
    ∙ (λ i. times-is (left_number a) (left_number b) c.requires.first.1.0 c.requires.second.1.0 i ∷ times-is (right_number a) (right_number b) c.requires.first.1.1 c.requires.second.1.1 i ∷ [])
