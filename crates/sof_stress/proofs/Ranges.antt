-- Lists over the numbers from 0 on, one number more.
use Rattle.std.proofs.Common.{◌≡◌, ℕ, ◌+◌, List, [], ◌∷◌, ◌++◌, map, ap, sym, ◌∙◌, append_assoc, refl, zero-add}
use Rattle.std.proofs.lemmas.List.{append-nil}
use Rattle.std.specs.List.{flat_map, range_with_len}
use Rattle.std.proofs.lemmas.List.FromFn.{map-range_with_len_more}
use Rattle.std.proofs.lemmas.List.Folds.{flat_map-map}
use Rattle.std.proofs.lemmas.Grind.{flat_map-append}

-- after other elements, by a list for each number
pub flat-more : {A : Type 0} (f : ℕ → List A) (first : List A) (n : ℕ) → (first ++ flat_map f (range_with_len 0 n)) ++ f n ≡ first ++ flat_map f (range_with_len 0 (n + 1))
flat-more f first n =
    append_assoc first (flat_map f (range_with_len 0 n)) (f n)
    ∙ ap (λ xs. first ++ xs) (sym (more f n))
  where
    same : {A : Type 0} (g : ℕ → List A) (xs : List ℕ) → flat_map g (map (λ x. x) xs) ≡ flat_map g xs
    same g xs = flat_map-map g (λ x. x) xs

    more : {A : Type 0} (g : ℕ → List A) (m : ℕ) → flat_map g (range_with_len 0 (m + 1)) ≡ flat_map g (range_with_len 0 m) ++ g m
    more g m =
        sym (same g (range_with_len 0 (m + 1)))
        ∙ ap (flat_map g) (map-range_with_len_more (λ x. x) 0 m m (zero-add m))
        ∙ flat_map-append g (map (λ x. x) (range_with_len 0 m)) (m ∷ [])
        ∙ (λ i. same g (range_with_len 0 m) i ++ append-nil (g m) i)

-- by an element for each number
pub map-more : {A : Type 0} (f : ℕ → A) (first : List A) (a n : ℕ) → (first ++ map f (range_with_len a n)) ++ f (a + n) ∷ [] ≡ first ++ map f (range_with_len a (n + 1))
map-more f first a n =
    append_assoc first (map f (range_with_len a n)) (f (a + n) ∷ [])
    ∙ ap (λ xs. first ++ xs) (sym (map-range_with_len_more f a n (a + n) refl))

-- from 0 on
pub map-next : {A : Type 0} (f : ℕ → A) (first : List A) (n : ℕ) → (first ++ map f (range_with_len 0 n)) ++ f n ∷ [] ≡ first ++ map f (range_with_len 0 (n + 1))
map-next f first n =
    append_assoc first (map f (range_with_len 0 n)) (f n ∷ [])
    ∙ ap (λ xs. first ++ xs) (sym (map-range_with_len_more f 0 n n (zero-add n)))
