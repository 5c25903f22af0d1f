-- Slots that ascend.
use Rattle.std.proofs.Common.{◌≡◌, ℕ, ◌<◌, Bool, true, false, cond, ◌||◌, eqb, ltb, List, [], ◌∷◌, refl, ap, ◌∙◌, inl, inr, arith}
use Rattle.std.proofs.lemmas.Bool.{cases_Bool, ltb-true, ltb-false, lt-ltb, eqb-false, ne_eqb, or_parts}
use Rattle.std.proofs.lemmas.Map.Keys.{IsStrictlyIncreasing-from_sorted, sorted_from_strictly_increasing}
use Rattle.std.specs.List.{AllByRecursion, IsDistinct}
use Rattle.std.specs.List.Sorted.{IsStrictlyIncreasing, IsStrictlySortedBy}
use Rattle.std.specs.Ordering.{nat_cmp}
use Rattle.std.specs.declared.cmp.Ordering.TheVariants.{Less, Equal, Greater}
use Rattle.sof_io.specs.Bound.{has_slot}

-- the slots with one more, put before the first that is above it
abbrev pub slots_with : ℕ → List ℕ → List ℕ
slots_with slot [] = slot ∷ []
slots_with slot (other ∷ slots) = cond (ltb slot other) (slot ∷ other ∷ slots) (other ∷ slots_with slot slots)

lt_less : (a b : ℕ) → a < b → nat_cmp a b ≡ Less
lt_less a b h = rw (lt-ltb a b h) refl

not_less : (b : Bool) → cond b Equal Greater ≡ Less → ⊥
not_less true e = cc
not_less false e = cc

less_lt : (a b : ℕ) → nat_cmp a b ≡ Less → a < b
less_lt a b h =
    elim (cases_Bool (ltb a b)) [
      | inl lt ↦ ltb-true a b lt
      | inr ge ↦ absurd (not_less (eqb a b) (rw ge at h))
    ]

-- each slot is above a slot
abbrev AllAbove : ℕ → List ℕ → Type 0
AllAbove slot slots = AllByRecursion (λ (other : ℕ). nat_cmp slot other ≡ Less) slots

all_above : (slot least : ℕ) (slots : List ℕ) → slot < least → AllAbove least slots → AllAbove slot slots
all_above slot least [] h all = tt
all_above slot least (other ∷ slots) h all =
    let lt = less_lt least other all.0 in
    (lt_less slot other (omega arith), all_above slot least slots h all.1)

all_more : (least slot : ℕ) (slots : List ℕ) → least < slot → AllAbove least slots → AllAbove least (slots_with slot slots)
all_more least slot [] h all = (lt_less least slot h, tt)
all_more least slot (other ∷ slots) h all =
    elim (cases_Bool (ltb slot other)) [
      | inl above ↦ rw above (lt_less least slot h, all)
      | inr below ↦ rw below (all.0, all_more least slot slots h all.1)
    ]

sorted_more : (slot : ℕ) (slots : List ℕ) → IsStrictlySortedBy nat_cmp slots → has_slot slot slots ≡ false → IsStrictlySortedBy nat_cmp (slots_with slot slots)
unfolding IsStrictlySortedBy
sorted_more slot [] h new = (tt, tt)
sorted_more slot (other ∷ slots) h new =
    let parts = or_parts (eqb other slot) (has_slot slot slots) new in
    elim (cases_Bool (ltb slot other)) [
      | inl above ↦
          let lt = ltb-true slot other above in
          rw above ((lt_less slot other lt, all_above slot other slots lt h.0), h)
      | inr below ↦
          let le = ltb-false slot other below in
          let differs = eqb-false other slot parts.0 in
          let lt : other < slot = omega arith in
          rw below (all_more other slot slots lt h.0, sorted_more slot slots h.1 parts.1)
    ]

-- one more slot, which was not there, is put in order
pub ascending_more : (slot : ℕ) (slots : List ℕ) → IsStrictlyIncreasing slots → has_slot slot slots ≡ false → IsStrictlyIncreasing (slots_with slot slots)
ascending_more slot slots h new = IsStrictlyIncreasing-from_sorted (slots_with slot slots) (sorted_more slot slots (sorted_from_strictly_increasing slots h) new)

-- no slots ascend
pub ascending_none : IsStrictlyIncreasing []
unfolding IsStrictlySortedBy
ascending_none = IsStrictlyIncreasing-from_sorted [] tt

apart : (slot : ℕ) (slots : List ℕ) → AllAbove slot slots → AllByRecursion (λ (other : ℕ). eqb slot other ≡ false) slots
apart slot [] all = tt
apart slot (other ∷ slots) all =
    let lt = less_lt slot other all.0 in
    (ne_eqb slot other (omega arith), apart slot slots all.1)

distinct_sorted : (slots : List ℕ) → IsStrictlySortedBy nat_cmp slots → IsDistinct eqb slots
unfolding IsStrictlySortedBy IsDistinct
distinct_sorted [] h = tt
distinct_sorted (slot ∷ slots) h = (apart slot slots h.0, distinct_sorted slots h.1)

-- slots that ascend are distinct
pub ascending_distinct : (slots : List ℕ) → IsStrictlyIncreasing slots → IsDistinct eqb slots
ascending_distinct slots h = distinct_sorted slots (sorted_from_strictly_increasing slots h)

or_swap : (a b c : Bool) → (a || (b || c)) ≡ (b || (a || c))
or_swap true true c = refl
or_swap true false c = refl
or_swap false true c = refl
or_swap false false c = refl

-- one more slot is there, and each other is there as before
pub has_slot-slots_with : (other slot : ℕ) (slots : List ℕ) → has_slot other (slots_with slot slots) ≡ (eqb slot other || has_slot other slots)
has_slot-slots_with other slot [] = refl
has_slot-slots_with other slot (first ∷ slots) =
    elim (cases_Bool (ltb slot first)) [
      | inl above ↦ rw above refl
      | inr below ↦ rw below (ap (λ (b : Bool). eqb first other || b) (has_slot-slots_with other slot slots) ∙ or_swap (eqb first other) (eqb slot other) (has_slot other slots))
    ]
