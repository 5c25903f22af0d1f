-- What the files of a list were given, after one of them has changed.
use Rattle.std.proofs.Common.{◌≡◌, ◌⊎◌, inl, inr, ◌<◌, ◌≤◌, ◌+◌, ◌∙◌, ℕ, zero, suc, Bool, true, false, nat_eq, List, [], ◌∷◌, ◌++◌, length, get_or, set, find, position, Some, refl, sym, ap, subst, arith, if◌then◌else◌}
use Rattle.std.proofs.KnownBytes.{Keeps-refl, Keeps-trans}
use Rattle.std.specs.Io.KnownBytes.{Keeps}
use Rattle.std.specs.List.{AllWithin}
use Rattle.std.proofs.lemmas.List.{get_or_default, get_or-set_other}
use Rattle.std.proofs.lemmas.Grind.{get_or-set_at}
use Rattle.sof_files.specs.OutFiles.{OutView, given_of, given_at, SameBeside, SameGiven, UntouchedFrom, Untouched}
use Rattle.sof_desk.proofs.CountLaws.{same_number}
use Rattle.sof_desk.proofs.First.{IsFirst, find-at, find-set}
use Rattle.sof_files.proofs.OpenSlots.{under, beside-set, beside-push}

-- the file that stands in the place of the first one of its slot
pub given-set : (slot : ℕ) (xs : List OutView) (i : ℕ) (d y : OutView) → IsFirst (under (λ f. f.slot) slot) xs i d → nat_eq y.slot slot ≡ true → given_at slot (set xs i y) ≡ y.given
given-set slot xs i d y first is = ap given_of (find-set (under (λ f. f.slot) slot) xs i d y first is)

pub given-at : (slot : ℕ) (xs : List OutView) (i : ℕ) (d : OutView) → IsFirst (under (λ f. f.slot) slot) xs i d → given_at slot xs ≡ (get_or xs i d).given
given-at slot xs i d first = ap given_of (find-at (under (λ f. f.slot) slot) xs i d first)

-- a file of the same slot that was given the same, in the place of one
same_head : (slot : ℕ) (x y : OutView) (xs ys : List OutView) → y.slot ≡ x.slot → Keeps x.given y.given → Keeps (given_at slot xs) (given_at slot ys) → Keeps (given_at slot (x ∷ xs)) (given_at slot (y ∷ ys))
same_head slot x y xs ys slots keeps rest =
    subst (λ n. Keeps (given_of (if nat_eq x.slot slot then Some x else find (λ f. nat_eq f.slot slot) xs)) (given_of (if nat_eq n slot then Some y else find (λ f. nat_eq f.slot slot) ys))) (sym slots)
    (elim (nat_eq x.slot slot) as (λ b. Keeps (given_of (if b then Some x else find (λ f. nat_eq f.slot slot) xs)) (given_of (if b then Some y else find (λ f. nat_eq f.slot slot) ys))) [ true ↦ keeps | false ↦ rest ])

pub same-set : (xs : List OutView) (i : ℕ) (d y : OutView) → y.slot ≡ (get_or xs i d).slot → Keeps (get_or xs i d).given y.given → SameGiven xs (set xs i y)
same-set [] i d y slots keeps slot = tt
same-set (x ∷ xs) zero d y slots keeps slot = same_head slot x y xs xs slots keeps (Keeps-refl _)
same-set (x ∷ xs) (suc i) d y slots keeps slot = same_head slot x x xs (set xs i y) refl (Keeps-refl _) (same-set xs i d y slots keeps slot)

pub same_itself : (xs : List OutView) → SameGiven xs xs
same_itself xs slot = Keeps-refl _

pub same_again : (xs ys zs : List OutView) → SameGiven xs ys → SameGiven ys zs → SameGiven xs zs
same_again xs ys zs first second slot = Keeps-trans _ _ _ (first slot) (second slot)

pub none-set : (xs : List OutView) (n : ℕ) (y : OutView) → n < length xs → y.kept ≡ [] → AllWithin (λ f. f.kept ≡ []) xs 0 n → AllWithin (λ f. f.kept ≡ []) (set xs n y) 0 (n + 1)
none-set [] n y within kept none k d low high = absurd (omega (arith, within))
none-set (x ∷ xs) zero y within kept none zero d low high = kept
none-set (x ∷ xs) zero y within kept none (suc k) d low high = absurd (omega (arith, high))
none-set (x ∷ xs) (suc n) y within kept none zero d low high = none 0 d low (omega arith)
none-set (x ∷ xs) (suc n) y within kept none (suc k) d low high =
    none-set xs n y (omega (arith, within)) kept (λ j e l h. none (suc j) e (omega arith) (omega (arith, h))) k d (omega arith) (omega (arith, high))

-- a file in the place of the first one of its slot leaves the other slots alone
pub beside : (slot : ℕ) (xs : List OutView) (i : ℕ) (y : OutView) → position (under (λ f. f.slot) slot) xs ≡ Some i → y.slot ≡ slot → SameBeside slot xs (set xs i y)
beside slot xs i y found is other apart = ap given_of (beside-set (λ f. f.slot) slot xs i y found is other apart)

pub beside_new : (slot : ℕ) (xs : List OutView) (y : OutView) → y.slot ≡ slot → SameBeside slot xs (xs ++ y ∷ [])
beside_new slot xs y is other apart = ap given_of (beside-push (λ f. f.slot) slot xs y is other apart)

-- a file in the place of the next one: it is the same where no byte was kept for it
pub untouched-set : (old xs : List OutView) (n : ℕ) (d y : OutView) → n < length xs → UntouchedFrom n old xs → ((get_or xs n d).kept ≡ [] → y ≡ get_or xs n d) → UntouchedFrom (n + 1) old (set xs n y)
untouched-set old xs n d y within so same i e why = by_place (nat_eq n i) refl
  where
    was : get_or xs n d ≡ get_or old n e
    was = get_or_default xs n d e within ∙ so n e (inr (omega arith))

    none : i ≡ n → (((get_or old i e).kept ≡ []) ⊎ (n + 1 ≤ i)) → (get_or xs n d).kept ≡ []
    none here (inl kept) = ap (λ (f : OutView). f.kept) was ∙ ap (λ j. (get_or old j e).kept) (sym here) ∙ kept
    none here (inr past) = absurd (omega (arith, here, past))

    before : (((get_or old i e).kept ≡ []) ⊎ (n + 1 ≤ i)) → (((get_or old i e).kept ≡ []) ⊎ (n ≤ i))
    before (inl kept) = inl kept
    before (inr past) = inr (omega (arith, past))

    by_place : (b : Bool) → nat_eq n i ≡ b → get_or (set xs n y) i e ≡ get_or old i e
    by_place true is =
        let here : i ≡ n = sym (same_number n i is) in
        get_or-set_at xs n i y e here within ∙ same (none here why) ∙ was ∙ ap (λ j. get_or old j e) (sym here)
    by_place false is = get_or-set_other xs n i y e (λ here. grind arith) ∙ so i e (before why)

pub untouched-all : (n : ℕ) (old new : List OutView) → UntouchedFrom n old new → Untouched old new
untouched-all n old new so i d kept = so i d (inl kept)
