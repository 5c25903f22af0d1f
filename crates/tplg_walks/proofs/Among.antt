-- What is among a list, and where.
use Rattle.std.proofs.Common.{◌≡◌, refl, sym, ap, ◌∙◌, ℕ, ◌≤◌, List, [], ◌∷◌, ◌++◌, length, true, false, ◌==◌, ◌||◌, ◌⊎◌, inl, inr, Option, Some, None, nat_eq}
use Rattle.std.specs.List.{list_any, IsDistinct}
use Rattle.std.specs.Cmp.{nat_eq_equiv}
use Rattle.std.proofs.lemmas.Bool.{false≢true, eqb-true, eq-eqb, or_left, or_right, or_cases}
use Rattle.std.proofs.lemmas.Bool.Decides.{same_from_decides, Decides-eqb, Decides-like}
use Rattle.std.proofs.lemmas.List.Folds.{list_any-append}
use Rattle.std.proofs.lemmas.Map.Keys.{IsDistinct-push}
use Rattle.std.proofs.lemmas.Map.Made.{length-le_from_is_member}
use Rattle.stream_law.specs.Ways.{is_end}
use Rattle.stream_law.specs.Order.{is_among}

eqb_turned : (x y : ℕ) → (x == y) ≡ (y == x)
eqb_turned x y = same_from_decides (x == y) (y == x) (Decides-eqb x y) (Decides-like (y == x) sym sym (Decides-eqb y x))

-- std's word for the same
pub member_among : (xs : List ℕ) (x : ℕ) → list_any (nat_eq x) xs ≡ is_among xs x
member_among [] x = refl
member_among (y ∷ ys) x = ap (λ t. t || list_any (nat_eq x) ys) (eqb_turned x y) ∙ ap (λ t. (y == x) || t) (member_among ys x)

pub is_among-push : (xs : List ℕ) (y x : ℕ) → is_among (xs ++ y ∷ []) x ≡ (is_among xs x || ((y == x) || false))
is_among-push xs y x = list_any-append (λ (id : ℕ). id == x) xs (y ∷ [])

pub among_front : (xs : List ℕ) (y x : ℕ) → is_among xs x ≡ true → is_among (xs ++ y ∷ []) x ≡ true
among_front xs y x h = is_among-push xs y x ∙ or_left (is_among xs x) _ h

pub among_last : (xs : List ℕ) (y : ℕ) → is_among (xs ++ y ∷ []) y ≡ true
among_last xs y = is_among-push xs y y ∙ or_right (is_among xs y) _ (or_left (y == y) false (eq-eqb y y refl))

pub push_cases : (xs : List ℕ) (y x : ℕ) → is_among (xs ++ y ∷ []) x ≡ true → (is_among xs x ≡ true) ⊎ (y ≡ x)
push_cases xs y x h = first (or_cases (is_among xs x) ((y == x) || false) (sym (is_among-push xs y x) ∙ h))
  where
    second : ((y == x) ≡ true) ⊎ (false ≡ true) → (is_among xs x ≡ true) ⊎ (y ≡ x)
    second (inl e) = inr (eqb-true y x e)
    second (inr e) = absurd (false≢true e)

    first : (is_among xs x ≡ true) ⊎ (((y == x) || false) ≡ true) → (is_among xs x ≡ true) ⊎ (y ≡ x)
    first (inl k) = inl k
    first (inr k) = second (or_cases (y == x) false k)

pub distinct-push : (xs : List ℕ) (y : ℕ) → IsDistinct nat_eq xs → is_among xs y ≡ false → IsDistinct nat_eq (xs ++ y ∷ [])
distinct-push xs y d apart = IsDistinct-push nat_eq_equiv xs y d (member_among xs y ∙ apart)

-- distinct ids of a list are no more than it has
pub distinct-le : (xs ids : List ℕ) → IsDistinct nat_eq xs → ((x : ℕ) → is_among xs x ≡ true → is_among ids x ≡ true) → length xs ≤ length ids
distinct-le xs ids d there = length-le_from_is_member nat_eq_equiv xs ids d (λ q h. member_among ids q ∙ there q (sym (member_among xs q) ∙ h))

-- an end that is a component
pub is_end-some : (end : Option ℕ) (a : ℕ) → is_end end a ≡ true → end ≡ Some a
is_end-some None a h = absurd (false≢true h)
is_end-some (Some b) a h = ap Some (eqb-true b a h)
