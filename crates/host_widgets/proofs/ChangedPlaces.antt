-- Records that go with a plan's list: to change the one of a place's key is to put another at the place.
use Rattle.std.proofs.Common.{◌≡◌, ℕ, zero, suc, ◌<◌, List, [], ◌∷◌, length, get_or, set, Bool, true, false, ◌==◌, refl, sym, ap, arith, if◌then◌else◌}
use Rattle.std.proofs.lemmas.Bool.{eqb-true, eq-eqb}
use Rattle.stream_law.specs.Placed.{AreAbove, Ascends}
use Rattle.host_widgets.specs.Kept.{changed}

module _ {X Y : Type 0} (key : X → ℕ) (f : Y → Y) (d : X) (e : Y) where
  -- a key below all of these is none of them
  none-here : (n : ℕ) (xs : List X) → AreAbove key n xs → (ys : List Y) → changed key n f xs ys ≡ ys
  unfolding AreAbove
  none-here n [] above ys = refl
  none-here n (x ∷ xs) above [] = refl
  none-here n (x ∷ xs) above (y ∷ ys) = by (key x == n) refl (none-here n xs above.1 ys)
    where
      by : (b : Bool) → (key x == n) ≡ b → changed key n f xs ys ≡ ys → (if b then f y else y) ∷ changed key n f xs ys ≡ y ∷ ys
      by true is rest = absurd (let same : key x ≡ n = eqb-true (key x) n is in omega (arith, same, above.0))
      by false is rest = ap (λ (zs : List Y). y ∷ zs) rest

  above-at : (n : ℕ) (xs : List X) → AreAbove key n xs → (k : ℕ) → k < length xs → n < key (get_or xs k d)
  unfolding AreAbove
  above-at n [] above k low = absurd (omega (arith, low))
  above-at n (x ∷ xs) above zero low = above.0
  above-at n (x ∷ xs) above (suc k) low = above-at n xs above.1 k (omega (arith, low))

  pub changed-at : (xs : List X) → Ascends key xs → (ys : List Y) (k : ℕ) → k < length xs → k < length ys → set ys k (f (get_or ys k e)) ≡ changed key (key (get_or xs k d)) f xs ys
  unfolding Ascends
  changed-at [] up ys k low under = absurd (omega (arith, low))
  changed-at (x ∷ xs) up [] k low under = absurd (omega (arith, under))
  changed-at (x ∷ xs) up (y ∷ ys) zero low under = λ i. (if sym (eq-eqb (key x) (key x) refl) i then f y else y) ∷ sym (none-here (key x) xs up.0 ys) i
  changed-at (x ∷ xs) up (y ∷ ys) (suc k) low under = by (key x == key (get_or xs k d)) refl (changed-at xs up.1 ys k (omega (arith, low)) (omega (arith, under)))
    where
      by : (b : Bool) → (key x == key (get_or xs k d)) ≡ b → set ys k (f (get_or ys k e)) ≡ changed key (key (get_or xs k d)) f xs ys →
          y ∷ set ys k (f (get_or ys k e)) ≡ (if b then f y else y) ∷ changed key (key (get_or xs k d)) f xs ys
      by true is rest = absurd (let same : key x ≡ key (get_or xs k d) = eqb-true (key x) (key (get_or xs k d)) is in let above = above-at (key x) xs up.0 k (omega (arith, low)) in omega (arith, same, above))
      by false is rest = ap (λ (zs : List Y). y ∷ zs) rest
