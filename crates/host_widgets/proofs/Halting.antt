-- Streams of which the first so many have changed, as when they are halted.
use Rattle.std.proofs.Common.{◌≡◌, ℕ, suc, ◌+◌, ◌<◌, ◌≤◌, List, [], ◌∷◌, ◌++◌, map, take, drop, length, get_or, set, refl, sym, ap, ◌∙◌, arith, append_assoc, append-nil, ◌-◌}
use Rattle.std.proofs.lemmas.List.{take_more, drop_more, map-append, set_at, length-map, take_all, drop_all, length-take-le, get_or-append_right}
use Rattle.host_widgets.specs.declared.kept.StreamRec.{StreamRec}
use Rattle.host_widgets.specs.HostRecord.{closed}

abbrev pub so_far : (StreamRec → StreamRec) → List StreamRec → ℕ → List StreamRec
so_far change xs i = map change (take i xs) ++ drop i xs

front : (change : StreamRec → StreamRec) (xs : List StreamRec) (i : ℕ) → i ≤ length xs → length (map change (take i xs)) ≡ i
front change xs i le = length-map (take i xs) change ∙ length-take-le i xs le

module _ (change : StreamRec → StreamRec) (xs : List StreamRec) (i : ℕ) (d : StreamRec) (within : i < length xs) where
  next : so_far change xs i ≡ map change (take i xs) ++ get_or xs i d ∷ drop (i + 1) xs
  next = ap (λ (ys : List StreamRec). map change (take i xs) ++ ys) (drop_more xs i d within)

  pub at-place : get_or (so_far change xs i) i d ≡ get_or xs i d
  at-place = ap (λ (ys : List StreamRec). get_or ys i d) next ∙ get_or-append_right (map change (take i xs)) (get_or xs i d ∷ drop (i + 1) xs) i i d (front change xs i (omega (arith, within))) (omega arith) ∙ ap (λ (n : ℕ). get_or (get_or xs i d ∷ drop (i + 1) xs) n d) (let none : i - i ≡ 0 = omega arith in none)

  pub one-more : set (so_far change xs i) i (change (get_or xs i d)) ≡ so_far change xs (i + 1)
  one-more =
      ap (λ (ys : List StreamRec). set ys i (change (get_or xs i d))) next
      ∙ set_at (map change (take i xs)) (get_or xs i d) (drop (i + 1) xs) (change (get_or xs i d)) i (front change xs i (omega (arith, within)))
      ∙ sym (append_assoc (map change (take i xs)) (change (get_or xs i d) ∷ []) (drop (i + 1) xs))
      ∙ ap (λ (ys : List StreamRec). ys ++ drop (i + 1) xs) (sym (map-append change (take i xs) (get_or xs i d ∷ [])) ∙ ap (map change) (sym (take_more xs i d within)))

-- all are
pub all-changed : (change : StreamRec → StreamRec) (xs : List StreamRec) (i : ℕ) → length xs ≤ i → so_far change xs i ≡ map change xs
all-changed change xs i le =
    ap (λ (ys : List StreamRec). map change ys ++ drop i xs) (take_all i xs le) ∙ ap (λ (ys : List StreamRec). map change xs ++ ys) (drop_all i xs le) ∙ append-nil (map change xs)

-- streams that are all closed are those of any other list as long
pub closed-alike : {A : Type 0} (xs : List StreamRec) (ys : List A) → length xs ≡ length ys → map (λ s. closed) xs ≡ map (λ s. closed) ys
closed-alike [] [] long = refl
closed-alike [] (y ∷ ys) long = absurd (let no : 0 ≡ suc (length ys) = long in omega (arith, no))
closed-alike (x ∷ xs) [] long = absurd (let no : suc (length xs) ≡ 0 = long in omega (arith, no))
closed-alike (x ∷ xs) (y ∷ ys) long =
    let less : suc (length xs) ≡ suc (length ys) = long in
    ap (λ (rs : List StreamRec). closed ∷ rs) (closed-alike xs ys (omega (arith, less)))
