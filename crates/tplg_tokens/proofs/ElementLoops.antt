-- Reading and writing elements one after the other, as a loop does.
use Rattle.std.proofs.Common.{◌≡◌, ℕ, suc, ◌+◌, ◌*◌, ◌≤◌, ◌<◌, List, [], ◌∷◌, ◌++◌, length, take, get_or, refl, sym, ap, ◌∙◌, arith, length-append, append-nil, append_assoc}
use Rattle.std.proofs.lemmas.List.{take_more, take_at, take-take, flat_map_more}
use Rattle.std.specs.List.{flat_map}
use Rattle.tplg_model.specs.ArrayReading.{elements_at}

-- elements are read, and n are still to be read from a place on
pub record ReadSoFar {A : Type 0} (size : ℕ) (element : List ℕ → ℕ → A) (n : ℕ) (bytes : List ℕ) (place : ℕ) (xs all : List A) : Type 0 where
  pub room : place + n * size ≤ length bytes
  pub whole : xs ++ elements_at size element n bytes place ≡ all

module _ {A : Type 0} (size : ℕ) (element : List ℕ → ℕ → A) where
  pub Read-none : (n : ℕ) (bytes : List ℕ) (place : ℕ) → place + n * size ≤ length bytes → ReadSoFar size element n bytes place [] (elements_at size element n bytes place)
  Read-none n bytes place room = record { room = room; whole = refl }

  pub Read-fits : (n m : ℕ) (bytes : List ℕ) (place : ℕ) (xs all : List A) → n ≡ suc m → ReadSoFar size element n bytes place xs all → place + size ≤ length bytes
  Read-fits n m bytes place xs all k s =
      let product : suc m * size ≡ size + m * size = omega arith in
      let room : place + suc m * size ≤ length bytes = rw k at s.room in
      omega (arith, product, room)

  pub Read-more : (n m : ℕ) (bytes : List ℕ) (place : ℕ) (xs all : List A) → n ≡ suc m → ReadSoFar size element n bytes place xs all → ReadSoFar size element m bytes (place + size) (xs ++ element bytes place ∷ []) all
  unfolding elements_at
  Read-more n m bytes place xs all k s =
      let product : suc m * size ≡ size + m * size = omega arith in
      let room : place + suc m * size ≤ length bytes = rw k at s.room in
      let whole : xs ++ elements_at size element (suc m) bytes place ≡ all = ap (λ (c : ℕ). xs ++ elements_at size element c bytes place) (sym k) ∙ s.whole in
      record { room = omega (arith, product, room); whole = append_assoc xs (element bytes place ∷ []) (elements_at size element m bytes (place + size)) ∙ whole }

  pub Read-all : (n : ℕ) (bytes : List ℕ) (place : ℕ) (xs all : List A) → n ≡ 0 → ReadSoFar size element n bytes place xs all → xs ≡ all
  unfolding elements_at
  Read-all n bytes place xs all k s =
      sym (append-nil xs) ∙ ap (λ (c : ℕ). xs ++ elements_at size element c bytes place) (sym k) ∙ s.whole

-- one more item's bytes are written
pub Write-more : {A : Type 0} (spelling : A → List ℕ) (old : List ℕ) (xs : List A) (i : ℕ) (x : A) → i < length xs → x ≡ get_or xs i x → (old ++ flat_map spelling (take i xs)) ++ spelling x ≡ old ++ flat_map spelling (take (i + 1) xs)
Write-more spelling old xs i x lt e =
    let next : take (i + 1) xs ≡ take i xs ++ x ∷ [] = take_more xs i x lt ∙ ap (λ y. take i xs ++ y ∷ []) (sym e) in
    append_assoc old (flat_map spelling (take i xs)) (spelling x) ∙ ap (λ (t : List ℕ). old ++ t) (flat_map_more spelling [] (take i xs) x ∙ ap (flat_map spelling) (sym next))

-- what begins with bytes that begin with the old ones begins with the old ones
pub kept_along : (old more middle new : List ℕ) → middle ≡ old ++ more → take (length middle) new ≡ middle → take (length old) new ≡ old
kept_along old more middle new e k =
    let le : length old ≤ length middle = omega (arith, ap length e, length-append old more) in
    sym (take-take (length old) (length middle) new le) ∙ ap (take (length old)) k ∙ ap (take (length old)) e ∙ take_at old more (length old) refl
