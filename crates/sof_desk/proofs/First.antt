-- The first item of a list that passes a test.
use Rattle.std.proofs.Common.{◌≡◌, ◌<◌, ◌≤◌, ◌+◌, ◌∙◌, ℕ, zero, suc, Bool, true, false, List, [], ◌∷◌, ◌++◌, length, get_or, set, find, position, slice_get, Some, None, refl, ap, map, arith, if◌then◌else◌}
use Rattle.std.specs.List.{position_or_len}
use Rattle.std.proofs.lemmas.List.Quantifiers.{position-Some}
use Rattle.std.proofs.lemmas.List.{length-map}
use Rattle.sof_desk.specs.Edits.{changed_first, put_first}

-- an item is the first that passes
pub record IsFirst {X : Type 0} (p : X → Bool) (xs : List X) (i : ℕ) (d : X) : Type 0 where
  pub within : i < length xs
  pub passes : p (get_or xs i d) ≡ true
  pub before : (k : ℕ) → k < i → p (get_or xs k d) ≡ false

pub is_first : {X : Type 0} (p : X → Bool) (xs : List X) (i : ℕ) (d : X) → position p xs ≡ Some i → IsFirst p xs i d
is_first p xs i d found =
    let facts = position-Some p xs i d found in record { within = facts.0; passes = facts.1; before = facts.2 }

pub later : {X : Type 0} (p : X → Bool) (x : X) (xs : List X) (i : ℕ) (d : X) → IsFirst p (x ∷ xs) (suc i) d → IsFirst p xs i d
later p x xs i d first =
    record {
      within = omega (arith, first.within);
      passes = first.passes;
      before = λ k lt. first.before (suc k) (omega arith);
    }

pub changed_first-at : {X : Type 0} (p : X → Bool) (change : X → X) (xs : List X) (i : ℕ) (d : X) → IsFirst p xs i d → changed_first p change xs ≡ set xs i (change (get_or xs i d))
changed_first-at p change [] i d first = absurd (omega (arith, first.within))
changed_first-at p change (x ∷ xs) zero d first = rw first.passes refl
changed_first-at p change (x ∷ xs) (suc i) d first =
    rw (first.before 0 (omega arith)) (ap (λ ys. x ∷ ys) (changed_first-at p change xs i d (later p x xs i d first)))

pub put_first-at : {X : Type 0} (p : X → Bool) (new : X) (xs : List X) (i : ℕ) (d : X) → IsFirst p xs i d → put_first p new xs ≡ set xs i new
put_first-at p new [] i d first = absurd (omega (arith, first.within))
put_first-at p new (x ∷ xs) zero d first = rw first.passes refl
put_first-at p new (x ∷ xs) (suc i) d first =
    rw (first.before 0 (omega arith)) (ap (λ ys. x ∷ ys) (put_first-at p new xs i d (later p x xs i d first)))

pub find-at : {X : Type 0} (p : X → Bool) (xs : List X) (i : ℕ) (d : X) → IsFirst p xs i d → find p xs ≡ Some (get_or xs i d)
find-at p [] i d first = absurd (omega (arith, first.within))
find-at p (x ∷ xs) zero d first = rw first.passes refl
find-at p (x ∷ xs) (suc i) d first = rw (first.before 0 (omega arith)) (find-at p xs i d (later p x xs i d first))

pub none_passes : {X : Type 0} (p : X → Bool) (xs : List X) → position p xs ≡ None → length xs ≤ position_or_len p xs
none_passes p xs nowhere = grind arith

pub head_fails : {X : Type 0} (p : X → Bool) (x : X) (xs : List X) → suc (length xs) ≤ position_or_len p (x ∷ xs) → (p x ≡ false) × (length xs ≤ position_or_len p xs)
head_fails p x xs fails = grind arith

put_first-past : {X : Type 0} (p : X → Bool) (new : X) (xs : List X) → length xs ≤ position_or_len p xs → put_first p new xs ≡ xs ++ new ∷ []
put_first-past p new [] fails = refl
put_first-past p new (x ∷ xs) fails =
    let both = head_fails p x xs fails in rw both.0 (ap (λ ys. x ∷ ys) (put_first-past p new xs both.1))

pub put_first-none : {X : Type 0} (p : X → Bool) (new : X) (xs : List X) → position p xs ≡ None → put_first p new xs ≡ xs ++ new ∷ []
put_first-none p new xs nowhere = put_first-past p new xs (none_passes p xs nowhere)

find-past : {X : Type 0} (p : X → Bool) (xs : List X) → length xs ≤ position_or_len p xs → find p xs ≡ None
find-past p [] fails = refl
find-past p (x ∷ xs) fails = let both = head_fails p x xs fails in rw both.0 (find-past p xs both.1)

pub find-none : {X : Type 0} (p : X → Bool) (xs : List X) → position p xs ≡ None → find p xs ≡ None
find-none p xs nowhere = find-past p xs (none_passes p xs nowhere)

changed_first-past : {X : Type 0} (p : X → Bool) (change : X → X) (xs : List X) → length xs ≤ position_or_len p xs → changed_first p change xs ≡ xs
changed_first-past p change [] fails = refl
changed_first-past p change (x ∷ xs) fails =
    let both = head_fails p x xs fails in rw both.0 (ap (λ ys. x ∷ ys) (changed_first-past p change xs both.1))

pub changed_first-none : {X : Type 0} (p : X → Bool) (change : X → X) (xs : List X) → position p xs ≡ None → changed_first p change xs ≡ xs
changed_first-none p change xs nowhere = changed_first-past p change xs (none_passes p xs nowhere)

position_or_len-map : {X : Type 0} (p : X → Bool) (f : X → X) → ((x : X) → p (f x) ≡ p x) → (xs : List X) → position_or_len p (map f xs) ≡ position_or_len p xs
position_or_len-map p f same [] = refl
position_or_len-map p f same (x ∷ xs) = rw (same x, position_or_len-map p f same xs) refl

pub position-map : {X : Type 0} (p : X → Bool) (f : X → X) → ((x : X) → p (f x) ≡ p x) → (xs : List X) → position p (map f xs) ≡ position p xs
position-map p f same xs = rw (position_or_len-map p f same xs, length-map xs f) refl

-- an item that passes in the place of the first one is the first
pub find-set : {X : Type 0} (p : X → Bool) (xs : List X) (i : ℕ) (d y : X) → IsFirst p xs i d → p y ≡ true → find p (set xs i y) ≡ Some y
find-set p [] i d y first is = absurd (omega (arith, first.within))
find-set p (x ∷ xs) zero d y first is = rw is refl
find-set p (x ∷ xs) (suc i) d y first is =
    rw (first.before 0 (omega arith)) (find-set p xs i d y (later p x xs i d first) is)

-- an item and one in its place, neither of which passes
pub find-set-beside : {X : Type 0} (q : X → Bool) (xs : List X) (i : ℕ) (d y : X) → i < length xs → q (get_or xs i d) ≡ false → q y ≡ false → find q (set xs i y) ≡ find q xs
find-set-beside q [] i d y within was is = absurd (omega (arith, within))
find-set-beside q (x ∷ xs) zero d y within was is = rw (was, is) refl
find-set-beside q (x ∷ xs) (suc i) d y within was is =
    let rest = find-set-beside q xs i d y (omega (arith, within)) was is in
    elim (q x) as (λ b. (if b then Some x else find q (set xs i y)) ≡ (if b then Some x else find q xs)) [ true ↦ refl | false ↦ rest ]

-- an item that does not pass, after all others
pub find-push : {X : Type 0} (q : X → Bool) (xs : List X) (y : X) → q y ≡ false → find q (xs ++ y ∷ []) ≡ find q xs
find-push q [] y is = rw is refl
find-push q (x ∷ xs) y is =
    let rest = find-push q xs y is in
    elim (q x) as (λ b. (if b then Some x else find q (xs ++ y ∷ [])) ≡ (if b then Some x else find q xs)) [ true ↦ refl | false ↦ rest ]

-- what stands at the first place that passes is what is found
pub slice_get-first : {X : Type 0} (p : X → Bool) (xs : List X) → slice_get xs (position_or_len p xs) ≡ find p xs
slice_get-first p [] = refl
slice_get-first {X} p (x ∷ xs) = by_test (p x) refl (slice_get-first p xs)
  where
    by_test : (b : Bool) → p x ≡ b → slice_get xs (position_or_len p xs) ≡ find p xs → slice_get (x ∷ xs) (position_or_len p (x ∷ xs)) ≡ find p (x ∷ xs)
    by_test true passes rest = rw passes refl
    by_test false fails rest =
        rw fails (let behind : 1 + position_or_len p xs ≡ suc (position_or_len p xs) = omega arith in ap (slice_get (x ∷ xs)) behind ∙ rest)

pub find-put_first : {X : Type 0} (p : X → Bool) (new : X) (xs : List X) → p new ≡ true → find p (put_first p new xs) ≡ Some new
find-put_first p new [] is = rw is refl
find-put_first p new (x ∷ xs) is = by_test (p x) refl (find-put_first p new xs is)
  where
    by_test : (b : Bool) → p x ≡ b → find p (put_first p new xs) ≡ Some new → find p (put_first p new (x ∷ xs)) ≡ Some new
    by_test true passes rest = rw passes (rw is refl)
    by_test false fails rest = rw fails (rw fails rest)

pub find-put_first-beside : {X : Type 0} (q p : X → Bool) (new : X) (xs : List X) → q new ≡ false → ((x : X) → p x ≡ true → q x ≡ false) → find q (put_first p new xs) ≡ find q xs
find-put_first-beside q p new [] is apart = rw is refl
find-put_first-beside {X} q p new (x ∷ xs) is apart = by_test (p x) refl (find-put_first-beside q p new xs is apart)
  where
    by_test : (b : Bool) → p x ≡ b → find q (put_first p new xs) ≡ find q xs → find q (put_first p new (x ∷ xs)) ≡ find q (x ∷ xs)
    by_test true passes rest = rw passes (rw (is, apart x passes) refl)
    by_test false fails rest =
        rw fails (elim (q x) as (λ b. (if b then Some x else find q (put_first p new xs)) ≡ (if b then Some x else find q xs)) [ true ↦ refl | false ↦ rest ])
