-- Lemmas on lists that ascend by a key, and on what is put into one or let go from it.
use Rattle.std.proofs.Common.{◌≡◌, refl, sym, ap, ◌∙◌, ℕ, ◌<◌, ◌≤◌, ◌≢◌, suc, List, [], ◌∷◌, map, filter, length, Some, Bool, true, false, cond, ◌==◌, ◌||◌, arith}
use Rattle.std.proofs.lemmas.Bool.{true≢false, false_from_ne_true, eqb-true, eq-eqb, ltb-true, ltb-false, or_parts}
use Rattle.std.specs.Prelude.{nat_lt}
use Rattle.std.specs.List.{list_any, find, AllByRecursion, IsDistinct}
use Rattle.stream_law.specs.Placed.{placed, AreAbove, Ascends, HasDistinct}

-- ---- what is in the list

-- some record of the list passes a test: the one that was put in, or one that was there
pub list_any-placed : {X : Type 0} (p : X → Bool) (key : X → ℕ) (x : X) (xs : List X) → list_any p (placed key x xs) ≡ (p x || list_any p xs)
list_any-placed p key x [] = refl
list_any-placed {X} p key x (y ∷ ys) = by_place (nat_lt (key x) (key y)) (list_any-placed p key x ys)
  where
    swapped : (a b c : Bool) → (a || (b || c)) ≡ (b || (a || c))
    swapped true true c = refl
    swapped true false c = refl
    swapped false b c = refl

    by_place : (h : Bool) → list_any p (placed key x ys) ≡ (p x || list_any p ys) → list_any p (cond h (x ∷ y ∷ ys) (y ∷ placed key x ys)) ≡ (p x || (p y || list_any p ys))
    by_place true rest = refl
    by_place false rest = ap (λ t. p y || t) rest ∙ swapped (p y) (p x) (list_any p ys)

-- what alone passes a test is found
pub find-placed_there : {X : Type 0} (p : X → Bool) (key : X → ℕ) (x : X) (xs : List X) → p x ≡ true → list_any p xs ≡ false → find p (placed key x xs) ≡ Some x
find-placed_there p key x [] there gone = ap (λ h. cond h (Some x) (find p [])) there
find-placed_there {X} p key x (y ∷ ys) there gone = by_place (nat_lt (key x) (key y)) (find-placed_there p key x ys there parts.1)
  where
    parts : (p y ≡ false) × (list_any p ys ≡ false)
    parts = or_parts (p y) (list_any p ys) gone

    by_place : (h : Bool) → find p (placed key x ys) ≡ Some x → find p (cond h (x ∷ y ∷ ys) (y ∷ placed key x ys)) ≡ Some x
    by_place true rest = ap (λ t. cond t (Some x) (find p (y ∷ ys))) there
    by_place false rest = ap (λ t. cond t (Some y) (find p (placed key x ys))) parts.0 ∙ rest

-- what does not pass a test changes nothing that is found by it
pub find-placed_apart : {X : Type 0} (p : X → Bool) (key : X → ℕ) (x : X) (xs : List X) → p x ≡ false → find p (placed key x xs) ≡ find p xs
find-placed_apart p key x [] apart = ap (λ h. cond h (Some x) (find p [])) apart
find-placed_apart {X} p key x (y ∷ ys) apart = by_place (nat_lt (key x) (key y)) (find-placed_apart p key x ys apart)
  where
    by_place : (h : Bool) → find p (placed key x ys) ≡ find p ys → find p (cond h (x ∷ y ∷ ys) (y ∷ placed key x ys)) ≡ find p (y ∷ ys)
    by_place true rest = ap (λ t. cond t (Some x) (find p (y ∷ ys))) apart
    by_place false rest = ap (cond (p y) (Some y)) rest

-- a look-up by key: the new record at its key, where no other has it, and elsewhere what was there
pub find-placed : {X : Type 0} (key : X → ℕ) (x : X) (xs : List X) (id : ℕ) → list_any (λ y. key y == key x) xs ≡ false → find (λ y. key y == id) (placed key x xs) ≡ cond (key x == id) (Some x) (find (λ y. key y == id) xs)
find-placed {X} key x xs id gone = by_key (key x == id) refl
  where
    by_key : (h : Bool) → (key x == id) ≡ h → find (λ y. key y == id) (placed key x xs) ≡ cond h (Some x) (find (λ y. key y == id) xs)
    by_key true e = find-placed_there (λ y. key y == id) key x xs e (ap (λ k. list_any (λ y. key y == k) xs) (sym (eqb-true (key x) id e)) ∙ gone)
    by_key false e = find-placed_apart (λ y. key y == id) key x xs e

pub length-placed : {X : Type 0} (key : X → ℕ) (x : X) (xs : List X) → length (placed key x xs) ≡ suc (length xs)
length-placed key x [] = refl
length-placed {X} key x (y ∷ ys) = by_place (nat_lt (key x) (key y)) (length-placed key x ys)
  where
    by_place : (h : Bool) → length (placed key x ys) ≡ suc (length ys) → length (cond h (x ∷ y ∷ ys) (y ∷ placed key x ys)) ≡ suc (suc (length ys))
    by_place true rest = refl
    by_place false rest = ap suc rest

-- a map that keeps keys puts in what it makes of x
pub map-placed : {X Y : Type 0} (f : X → Y) (key : X → ℕ) (name : Y → ℕ) → ((x : X) → name (f x) ≡ key x) → (x : X) (xs : List X) → map f (placed key x xs) ≡ placed name (f x) (map f xs)
map-placed f key name same x [] = refl
map-placed {X} {Y} f key name same x (y ∷ ys) =
    by_place (nat_lt (key x) (key y)) (map-placed f key name same x ys)
    ∙ ap (λ (k : ℕ × ℕ). cond (nat_lt k.0 k.1) (f x ∷ f y ∷ map f ys) (f y ∷ placed name (f x) (map f ys))) (λ i. (sym (same x) i, sym (same y) i))
  where
    by_place : (h : Bool) → map f (placed key x ys) ≡ placed name (f x) (map f ys) → map f (cond h (x ∷ y ∷ ys) (y ∷ placed key x ys)) ≡ cond h (f x ∷ f y ∷ map f ys) (f y ∷ placed name (f x) (map f ys))
    by_place true rest = refl
    by_place false rest = ap (λ l. f y ∷ l) rest

-- ---- order

-- what is above a number is above each lower one
pub AreAbove-below : {X : Type 0} (key : X → ℕ) (m n : ℕ) (xs : List X) → m < n → AreAbove key n xs → AreAbove key m xs
unfolding AreAbove
AreAbove-below key m n [] low above = tt
AreAbove-below key m n (x ∷ xs) low above = (omega (arith, low, above.0), AreAbove-below key m n xs low above.1)

pub AreAbove-placed : {X : Type 0} (key : X → ℕ) (n : ℕ) (x : X) (xs : List X) → n < key x → AreAbove key n xs → AreAbove key n (placed key x xs)
unfolding AreAbove
AreAbove-placed key n x [] low above = (low, tt)
AreAbove-placed {X} key n x (y ∷ ys) low above = by_place (nat_lt (key x) (key y)) (AreAbove-placed key n x ys low above.1)
  where
    by_place : (h : Bool) → AreAbove key n (placed key x ys) → AreAbove key n (cond h (x ∷ y ∷ ys) (y ∷ placed key x ys))
    by_place true rest = (low, above)
    by_place false rest = (above.0, rest)

pub AreAbove-filter : {X : Type 0} (p : X → Bool) (key : X → ℕ) (n : ℕ) (xs : List X) → AreAbove key n xs → AreAbove key n (filter p xs)
unfolding AreAbove
AreAbove-filter p key n [] above = tt
AreAbove-filter {X} p key n (x ∷ xs) above = kept (p x) (AreAbove-filter p key n xs above.1)
  where
    kept : (h : Bool) → AreAbove key n (filter p xs) → AreAbove key n (cond h (x ∷ filter p xs) (filter p xs))
    kept true rest = (above.0, rest)
    kept false rest = rest

-- a list that ascends still does with one record more, of a key that was not there
pub Ascends-placed : {X : Type 0} (key : X → ℕ) (x : X) (xs : List X) → list_any (λ y. key y == key x) xs ≡ false → Ascends key xs → Ascends key (placed key x xs)
unfolding AreAbove Ascends
Ascends-placed key x [] gone up = (tt, tt)
Ascends-placed {X} key x (y ∷ ys) gone up = by_place (nat_lt (key x) (key y)) refl (Ascends-placed key x ys parts.1 up.1)
  where
    parts : ((key y == key x) ≡ false) × (list_any (λ z. key z == key x) ys ≡ false)
    parts = or_parts (key y == key x) (list_any (λ z. key z == key x) ys) gone

    differs : key y ≢ key x
    differs e = true≢false (sym (eq-eqb (key y) (key x) e) ∙ parts.0)

    by_place : (h : Bool) → nat_lt (key x) (key y) ≡ h → Ascends key (placed key x ys) → Ascends key (cond h (x ∷ y ∷ ys) (y ∷ placed key x ys))
    by_place true e rest = let low : key x < key y = ltb-true (key x) (key y) e in ((low, AreAbove-below key (key x) (key y) ys low up.0), up)
    by_place false e rest = let high : key y ≤ key x = ltb-false (key x) (key y) e in (AreAbove-placed key (key y) x ys (omega (arith, high, differs)) up.0, rest)

-- and with some records let go
pub Ascends-filter : {X : Type 0} (p : X → Bool) (key : X → ℕ) (xs : List X) → Ascends key xs → Ascends key (filter p xs)
unfolding Ascends
Ascends-filter p key [] up = tt
Ascends-filter {X} p key (x ∷ xs) up = kept (p x) (Ascends-filter p key xs up.1)
  where
    kept : (h : Bool) → Ascends key (filter p xs) → Ascends key (cond h (x ∷ filter p xs) (filter p xs))
    kept true rest = (AreAbove-filter p key (key x) xs up.0, rest)
    kept false rest = rest

-- ---- no key twice

-- in a list that ascends no key comes twice
pub Ascends-distinct : {X : Type 0} (key : X → ℕ) (xs : List X) → Ascends key xs → HasDistinct key xs
unfolding Ascends AreAbove IsDistinct
Ascends-distinct key [] up = tt
Ascends-distinct {X} key (x ∷ xs) up = (apart xs up.0, Ascends-distinct key xs up.1)
  where
    apart : (ys : List X) → AreAbove key (key x) ys → AllByRecursion (λ n. (key x == n) ≡ false) (map key ys)
    apart [] above = tt
    apart (y ∷ ys) above = (false_from_ne_true (key x == key y) (λ e. let same : key x ≡ key y = eqb-true (key x) (key y) e in omega (arith, same, above.0)), apart ys above.1)

-- nor with one record more, of a key that was not there
pub HasDistinct-placed : {X : Type 0} (key : X → ℕ) (x : X) (xs : List X) → list_any (λ y. key y == key x) xs ≡ false → HasDistinct key xs → HasDistinct key (placed key x xs)
unfolding IsDistinct
HasDistinct-placed key x [] gone distinct = (tt, tt)
HasDistinct-placed {X} key x (y ∷ ys) gone distinct = by_place (nat_lt (key x) (key y)) (HasDistinct-placed key x ys parts.1 distinct.1)
  where
    parts : ((key y == key x) ≡ false) × (list_any (λ z. key z == key x) ys ≡ false)
    parts = or_parts (key y == key x) (list_any (λ z. key z == key x) ys) gone

    turned : (m n : ℕ) → (m == n) ≡ false → (n == m) ≡ false
    turned m n e = false_from_ne_true (n == m) (λ h. true≢false (sym (eq-eqb m n (sym (eqb-true n m h))) ∙ e))

    apart : (zs : List X) → list_any (λ z. key z == key x) zs ≡ false → AllByRecursion (λ n. (key x == n) ≡ false) (map key zs)
    apart [] none = tt
    apart (z ∷ zs) none = let both = or_parts (key z == key x) (list_any (λ z. key z == key x) zs) none in (turned (key z) (key x) both.0, apart zs both.1)

    behind : (zs : List X) → AllByRecursion (λ n. (key y == n) ≡ false) (map key zs) → AllByRecursion (λ n. (key y == n) ≡ false) (map key (placed key x zs))
    behind [] all = (parts.0, tt)
    behind (z ∷ zs) all = at_place (nat_lt (key x) (key z)) (behind zs all.1)
      where
        at_place : (h : Bool) → AllByRecursion (λ n. (key y == n) ≡ false) (map key (placed key x zs)) → AllByRecursion (λ n. (key y == n) ≡ false) (map key (cond h (x ∷ z ∷ zs) (z ∷ placed key x zs)))
        at_place true rest = (parts.0, all)
        at_place false rest = (all.0, rest)

    by_place : (h : Bool) → HasDistinct key (placed key x ys) → HasDistinct key (cond h (x ∷ y ∷ ys) (y ∷ placed key x ys))
    by_place true rest = (apart (y ∷ ys) gone, distinct)
    by_place false rest = (behind ys distinct.0, rest)
