-- Lists of records that have a number as their key.
use Rattle.std.specs.Prelude.{ℕ, ◌<◌, List, [], ◌∷◌, map, if◌then◌else◌, ◌==◌, nat_lt}
use Rattle.std.specs.List.{IsDistinct}

-- x is put into a list that ascends, before the first greater key
abbrev pub placed : {X : Type 0} → (X → ℕ) → X → List X → List X
placed key x [] = x ∷ []
placed key x (y ∷ ys) = if nat_lt (key x) (key y) then x ∷ y ∷ ys else y ∷ placed key x ys

-- each key is above n
unfoldable pub AreAbove : {X : Type 0} → (X → ℕ) → ℕ → List X → Type 0
AreAbove key n [] = Unit {0}
AreAbove key n (x ∷ xs) = (n < key x) × AreAbove key n xs

-- each key is below those after it
unfoldable pub Ascends : {X : Type 0} → (X → ℕ) → List X → Type 0
Ascends key [] = Unit {0}
Ascends key (x ∷ xs) = AreAbove key (key x) xs × Ascends key xs

-- no key comes twice
abbrev pub HasDistinct : {X : Type 0} → (X → ℕ) → List X → Type 0
HasDistinct key xs = IsDistinct (λ m n. m == n) (map key xs)
