-- The place that a search for a slot finds.
use Rattle.std.proofs.Common.{◌≡◌, ℕ, suc, ◌+◌, ◌≤◌, ◌<◌, Bool, true, false, cond, ltb, List, [], ◌∷◌, length, get_or, set, Option, Some, None, is_some, unwrap_or, refl, sym, ap, ◌∙◌, inl, inr, arith}
use Rattle.std.proofs.lemmas.Bool.{cases_Bool, cases_lt, ltb-true, lt-ltb, le-ltb, or_parts}
use Rattle.std.specs.List.{position, position_or_len, list_any}

-- the first place that passes, or the length
abbrev pub place : {X : Type 0} → (X → Bool) → List X → ℕ
place p [] = 0
place p (x ∷ xs) = cond (p x) 0 (suc (place p xs))

place_is : {X : Type 0} (p : X → Bool) (xs : List X) → position_or_len p xs ≡ place p xs
place_is p [] = refl
place_is p (x ∷ xs) =
    elim (cases_Bool (p x)) [
      | inl here ↦ rw here refl
      | inr later ↦
          let e = place_is p xs in
          let one : 1 + position_or_len p xs ≡ suc (place p xs) = omega arith in
          rw later one
    ]

pub place_le : {X : Type 0} (p : X → Bool) (xs : List X) → place p xs ≤ length xs
place_le p [] = omega arith
place_le p (x ∷ xs) =
    elim (cases_Bool (p x)) [
      | inl here ↦ rw here (omega arith)
      | inr later ↦ rw later (omega (arith, place_le p xs))
    ]

cond_found : (b : Bool) (at k : ℕ) → cond b (Some at) None ≡ Some k → (b ≡ true) × (at ≡ k)
cond_found true at k e = (refl, cc)
cond_found false at k e = absurd cc

-- the first place that passes is found
pub found_place : {X : Type 0} (p : X → Bool) (xs : List X) (k : ℕ) → place p xs ≡ k → k < length xs → position p xs ≡ Some k
found_place {X} p xs k is low =
    let at : position_or_len p xs ≡ k = place_is p xs ∙ is in
    (λ i. cond (ltb (at i) (length xs)) (Some (at i)) None) ∙ ap (λ h. cond h (Some k) None) (lt-ltb k (length xs) low)

-- what was found is the first place that passes
pub place_found : {X : Type 0} (p : X → Bool) (xs : List X) (k : ℕ) → position p xs ≡ Some k → (place p xs ≡ k) × (place p xs < length xs)
place_found p xs k e =
    let r = cond_found (ltb (position_or_len p xs) (length xs)) (position_or_len p xs) k e in
    let lt = ltb-true (position_or_len p xs) (length xs) r.0 in
    let is = place_is p xs in
    (omega (arith, r.1), omega arith)

-- what a search of a list answered, where the list is xs
pub answer_at : {X : Type 0} (p : X → Bool) (xs seen : List X) (r s : Option ℕ) → seen ≡ xs → r ≡ position p seen → r ≡ s → position p xs ≡ s
answer_at p xs seen r s e f g = cc

any_place : {X : Type 0} (p : X → Bool) (xs : List X) → list_any p xs ≡ true → place p xs < length xs
any_place p [] e = absurd cc
any_place p (x ∷ xs) e =
    elim (cases_Bool (p x)) [
      | inl here ↦ rw here (omega arith)
      | inr later ↦
          let e' : list_any p xs ≡ true = rw later at e in
          rw later (omega (arith, any_place p xs e'))
    ]

none_place : {X : Type 0} (p : X → Bool) (xs : List X) → list_any p xs ≡ false → length xs ≤ place p xs
none_place p [] e = omega arith
none_place p (x ∷ xs) e =
    elim (cases_Bool (p x)) [
      | inl here ↦ absurd (let e' : true ≡ false = rw here at e in cc)
      | inr later ↦
          let e' : list_any p xs ≡ false = rw later at e in
          rw later (omega (arith, none_place p xs e'))
    ]

-- something is found exactly where one passes
pub some_place : {X : Type 0} (p : X → Bool) (xs : List X) → is_some (position p xs) ≡ list_any p xs
some_place p xs =
    elim (cases_Bool (list_any p xs)) [
      | inl any ↦ rw (any, lt-ltb (position_or_len p xs) (length xs) (omega (arith, any_place p xs any, place_is p xs))) refl
      | inr none ↦ rw (none, le-ltb (position_or_len p xs) (length xs) (omega (arith, none_place p xs none, place_is p xs))) refl
    ]

-- the place that was found, or the length
pub place_or_length : {X : Type 0} (p : X → Bool) (xs : List X) → unwrap_or (position p xs) (length xs) ≡ place p xs
place_or_length p xs =
    elim (cases_lt (position_or_len p xs) (length xs)) [
      | inl lt ↦ rw (lt-ltb (position_or_len p xs) (length xs) lt) (place_is p xs)
      | inr le ↦ rw (le-ltb (position_or_len p xs) (length xs) le) (omega (arith, place_is p xs, place_le p xs))
    ]

pub seen_at : {X : Type 0} (p : X → Bool) (xs seen : List X) (r : Option ℕ) → seen ≡ xs → r ≡ position p seen → r ≡ position p xs
seen_at p xs seen r e f = cc

-- ---- what stands at the first place that passes

-- what is read of the first that passes, or something else where none does
abbrev pub first_of : {X Y : Type 0} → (X → Bool) → (X → Y) → Y → List X → Y
first_of p g none [] = none
first_of p g none (x ∷ xs) = cond (p x) (g x) (first_of p g none xs)

-- the list with the first that passes changed
abbrev pub changed : {X : Type 0} → (X → Bool) → (X → X) → List X → List X
changed p f [] = []
changed p f (x ∷ xs) = cond (p x) (f x ∷ xs) (x ∷ changed p f xs)

first_of-place : {X Y : Type 0} (p : X → Bool) (g : X → Y) (none : Y) (xs : List X) (d : X) → place p xs < length xs → first_of p g none xs ≡ g (get_or xs (place p xs) d)
first_of-place p g none [] d h = absurd (omega arith)
first_of-place p g none (x ∷ xs) d h =
    elim (cases_Bool (p x)) [
      | inl here ↦ rw here refl
      | inr later ↦
          let h' : suc (place p xs) < suc (length xs) = rw later at h in
          rw later (first_of-place p g none xs d (omega arith))
    ]

changed-place : {X : Type 0} (p : X → Bool) (f : X → X) (xs : List X) (d : X) → place p xs < length xs → changed p f xs ≡ set xs (place p xs) (f (get_or xs (place p xs) d))
changed-place p f [] d h = absurd (omega arith)
changed-place {X} p f (x ∷ xs) d h =
    elim (cases_Bool (p x)) [
      | inl here ↦ rw here refl
      | inr later ↦
          let h' : suc (place p xs) < suc (length xs) = rw later at h in
          rw later (ap (λ (rest : List X). x ∷ rest) (changed-place p f xs d (omega arith)))
    ]

first_of-none : {X Y : Type 0} (p : X → Bool) (g : X → Y) (none : Y) (xs : List X) → list_any p xs ≡ false → first_of p g none xs ≡ none
first_of-none p g none [] e = refl
first_of-none p g none (x ∷ xs) e =
    let parts = or_parts (p x) (list_any p xs) e in
    rw parts.0 (first_of-none p g none xs parts.1)

changed-none : {X : Type 0} (p : X → Bool) (f : X → X) (xs : List X) → list_any p xs ≡ false → changed p f xs ≡ xs
changed-none p f [] e = refl
changed-none {X} p f (x ∷ xs) e =
    let parts = or_parts (p x) (list_any p xs) e in
    rw parts.0 (ap (λ (rest : List X). x ∷ rest) (changed-none p f xs parts.1))

none_passes : {X : Type 0} (p : X → Bool) (xs : List X) → position p xs ≡ None → list_any p xs ≡ false
none_passes p xs none = sym (some_place p xs) ∙ ap is_some none

-- it stands at the place that was found
pub first_of-found : {X Y : Type 0} (p : X → Bool) (g : X → Y) (none : Y) (k : ℕ) (xs : List X) (here : X) → position p xs ≡ Some k → here ≡ get_or xs k here → first_of p g none xs ≡ g here
first_of-found p g none k xs here found is =
    let at = place_found p xs k found in
    let e = first_of-place p g none xs here at.1 in
    rw (at.0, ← is) at e

pub changed-found : {X : Type 0} (p : X → Bool) (f : X → X) (k : ℕ) (xs : List X) (before after : X) → position p xs ≡ Some k → before ≡ get_or xs k before → after ≡ f before → set xs k after ≡ changed p f xs
changed-found p f k xs before after found is e =
    let at = place_found p xs k found in
    let there = changed-place p f xs before at.1 in
    rw (at.0, ← is, ← e) at (sym there)

-- and where none was found there is none
pub first_of-missing : {X Y : Type 0} (p : X → Bool) (g : X → Y) (none : Y) (xs : List X) → position p xs ≡ None → first_of p g none xs ≡ none
first_of-missing p g none xs missing = first_of-none p g none xs (none_passes p xs missing)

pub changed-missing : {X : Type 0} (p : X → Bool) (f : X → X) (xs : List X) → position p xs ≡ None → changed p f xs ≡ xs
changed-missing p f xs missing = changed-none p f xs (none_passes p xs missing)
