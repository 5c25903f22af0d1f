-- Lists of marks.
use Rattle.std.proofs.Common.{◌≡◌, refl, ap, ℕ, zero, suc, ◌<◌, ◌≤◌, List, [], ◌∷◌, Bool, true, false, length, get_or, set, replicate, arith}
use Rattle.std.proofs.lemmas.Bool.{true≢false}
use Rattle.std.specs.List.{AllByRecursion}
use Rattle.fw_places.specs.Walks.{unmarked}

-- a place that is marked anew leaves one less
pub unmarked-set : (marks : List Bool) (k : ℕ) → k < length marks → get_or marks k false ≡ false → suc (unmarked (set marks k true)) ≡ unmarked marks
unmarked-set [] k low is = absurd (omega (arith, low))
unmarked-set (true ∷ marks) zero low is = absurd (true≢false is)
unmarked-set (false ∷ marks) zero low is = refl
unmarked-set (true ∷ marks) (suc k) low is = unmarked-set marks k (omega (arith, low)) is
unmarked-set (false ∷ marks) (suc k) low is = ap suc (unmarked-set marks k (omega (arith, low)) is)

-- no more are not marked than there are
pub unmarked-most : (marks : List Bool) → unmarked marks ≤ length marks
unmarked-most [] = omega arith
unmarked-most (true ∷ marks) = omega (arith, unmarked-most marks)
unmarked-most (false ∷ marks) = omega (arith, unmarked-most marks)

-- what is so of all is so at each place
pub all-at : {X : Type 0} (P : X → Type 0) (xs : List X) (k : ℕ) (d : X) → k < length xs → AllByRecursion P xs → P (get_or xs k d)
all-at P [] k d low all = absurd (omega (arith, low))
all-at P (x ∷ xs) zero d low all = all.0
all-at P (x ∷ xs) (suc k) d low all = all-at P xs k d (omega (arith, low)) all.1

-- and what is so at each place is so of all
pub each-at : {X : Type 0} (P : X → Type 0) (xs : List X) (d : X) → ((k : ℕ) → k < length xs → P (get_or xs k d)) → AllByRecursion P xs
each-at P [] d at = tt
each-at P (x ∷ xs) d at = (at 0 (omega arith), each-at P xs d (λ k low. at (suc k) (omega (arith, low))))

-- none is marked
pub none-marked : (n k : ℕ) → get_or (replicate n false) k false ≡ false
none-marked zero k = refl
none-marked (suc n) zero = refl
none-marked (suc n) (suc k) = none-marked n k
