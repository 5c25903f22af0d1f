-- Slots that rise are distinct.
use Rattle.std.proofs.Common.{◌≡◌, ℕ, suc, ◌+◌, ◌<◌, List, [], ◌∷◌, ◌==◌, false, subst, arith}
use Rattle.std.proofs.lemmas.Bool.{false_from_ne_true, eqb-true}
use Rattle.std.specs.Prelude.{slice_index}
use Rattle.std.specs.List.{IsDistinct, AllByRecursion}
use Rattle.std.specs.List.Sorted.{IsStrictlyIncreasing}
use Rattle.row_laws.proofs.Growing.{all-by}

rest-rises : (x : ℕ) (ys : List ℕ) → IsStrictlyIncreasing (x ∷ ys) → IsStrictlyIncreasing ys
rest-rises x ys rises k lt =
    let next : suc k + 1 ≡ suc (k + 1) = omega arith in
    subst (λ n. slice_index ys k < slice_index (x ∷ ys) n) next (rises (suc k) (omega (arith, lt)))

above : (x : ℕ) (ys : List ℕ) → IsStrictlyIncreasing (x ∷ ys) → AllByRecursion (λ y. x < y) ys
above x [] rises = tt
above x (y ∷ ys) rises =
    let first : x < y = rises 0 (omega arith) in
    (first, all-by (λ z. y < z) (λ z. x < z) (λ z more. omega (arith, first, more)) ys (above y ys (rest-rises x (y ∷ ys) rises)))

-- numbers that rise differ
pub rising-distinct : (xs : List ℕ) → IsStrictlyIncreasing xs → IsDistinct (λ m n. m == n) xs
unfolding IsDistinct
rising-distinct [] rises = tt
rising-distinct (x ∷ xs) rises =
    (all-by (λ y. x < y) (λ y. (x == y) ≡ false) (λ y more. false_from_ne_true (x == y) (λ e. let same : x ≡ y = eqb-true x y e in omega (arith, same, more))) xs (above x xs rises), rising-distinct xs (rest-rises x xs rises))
