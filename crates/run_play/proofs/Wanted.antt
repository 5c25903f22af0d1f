-- The input that is read next, and what a read leaves to be read.
use Rattle.std.proofs.Common.{◌≡◌, ℕ, suc, ◌+◌, ◌-◌, ◌<◌, Bool, true, false, not, eqb, nat_eq, nat_lt, if◌then◌else◌, List, [], ◌∷◌, length, Some, refl, sym, subst, inl, inr, arith}
use Rattle.std.proofs.lemmas.Bool.{cases_Bool, and_parts, eq-eqb, eqb-true}
use Rattle.std.proofs.lemmas.Bool.Decides.{nat_tests}
use Rattle.std.proofs.lemmas.List.{length-append}
use Rattle.std.specs.List.{AllByRecursion, IsDistinct}
use Rattle.sof_base.specs.Ports.{InputView}
use Rattle.sof_io.specs.Bound.{has_slot}
use Rattle.sof_io.specs.Takes.{input_slots}
use Rattle.sof_io.specs.Fills.{wanting, filled_at, ended_at}
use Rattle.sof_io.specs.Takes.{is_wanting}
use Rattle.sof_io.specs.Takes.{held_at, has_ended}
use Rattle.sof_session.specs.Fills.{next_read, after_read}

-- the slot is there, more bytes of it may come, and it holds fewer than a level
pub record IsWanted (level slot : ℕ) (inputs : List InputView) : Type 0 where
  pub there : has_slot slot (input_slots inputs) ≡ true
  pub more : has_ended slot inputs ≡ false
  pub below : held_at slot inputs < level

-- a slot that is there is not one that is apart from all
not_among : (x slot : ℕ) (slots : List ℕ) → AllByRecursion (λ y. nat_eq x y ≡ false) slots → has_slot slot slots ≡ true → nat_eq x slot ≡ false
not_among x slot [] all there = absurd (cc there)
not_among x slot (y ∷ slots) all there =
    elim (cases_Bool (eqb y slot)) [
      | inl same ↦ subst (λ z. nat_eq x z ≡ false) (eqb-true y slot same) all.0
      | inr other ↦
          let later : has_slot slot slots ≡ true = rw other at there in
          not_among x slot slots all.1 later
    ]

below_level : (n level : ℕ) → nat_lt n level ≡ true → n < level
below_level n level is = grind (arith, nat_tests)

not_true : (x : Bool) → not x ≡ true → x ≡ false
not_true true is = cc is
not_true false is = refl

one_slot : (n m : ℕ) → Some n ≡ Some m → n ≡ m
one_slot n m e = cc e

pub wanted : (level slot : ℕ) (inputs : List InputView) → IsDistinct nat_eq (input_slots inputs) → wanting level inputs ≡ Some slot → IsWanted level slot inputs
unfolding IsDistinct
wanted level slot [] distinct is = absurd (cc is)
wanted level slot (input ∷ inputs) distinct is =
    elim (cases_Bool (is_wanting level input)) [
      | inl first ↦
          let same : input.slot ≡ slot = one_slot input.slot slot (rw first at is) in
          let here : eqb input.slot slot ≡ true = eq-eqb input.slot slot same in
          let parts = and_parts (nat_lt (length input.left) level) (not input.ended) first in
          record { there = rw here refl; more = rw here (not_true input.ended parts.1); below = rw here (below_level (length input.left) level parts.0) }
      | inr other ↦
          let later : wanting level inputs ≡ Some slot = rw other at is in
          let rest = wanted level slot inputs distinct.1 later in
          let apart : eqb input.slot slot ≡ false = not_among input.slot slot (input_slots inputs) distinct.0 rest.there in
          record { there = rw apart rest.there; more = rw apart rest.more; below = rw apart rest.below }
    ]

-- ---- what is left to be read

-- how many bytes an input lacks of what a unit may take, and one more where it may get none of them
abbrev lacks : InputView → ℕ
lacks input = if input.ended then 0 else suc (983040 - length input.left)

abbrev pub lacking : List InputView → ℕ
lacking [] = 0
lacking (input ∷ inputs) = lacks input + lacking inputs

lacking-ended : (slot : ℕ) (inputs : List InputView) → has_slot slot (input_slots inputs) ≡ true → has_ended slot inputs ≡ false → lacking (ended_at slot inputs) < lacking inputs
lacking-ended slot [] there more = absurd (cc there)
lacking-ended slot (input ∷ inputs) there more =
    elim (cases_Bool (eqb input.slot slot)) [
      | inl same ↦
          let going : input.ended ≡ false = rw same at more in
          rw (same, going) (omega arith)
      | inr other ↦
          let there' : has_slot slot (input_slots inputs) ≡ true = rw other at there in
          let more' : has_ended slot inputs ≡ false = rw other at more in
          rw other (omega (arith, lacking-ended slot inputs there' more'))
    ]

less_left : (a n : ℕ) → a < 983040 → 0 < n → suc (983040 - (a + n)) < suc (983040 - a)
less_left a n below some = omega (arith, below, some)

lacking-filled : (slot : ℕ) (piece : List ℕ) (inputs : List InputView) → 0 < length piece → IsWanted 983040 slot inputs → lacking (filled_at slot piece inputs) < lacking inputs
lacking-filled slot piece [] some is = absurd (cc is.there)
lacking-filled slot piece (input ∷ inputs) some is =
    elim (cases_Bool (eqb input.slot slot)) [
      | inl same ↦
          let going : input.ended ≡ false = rw same at is.more in
          let below : length input.left < 983040 = rw same at is.below in
          rw (same, going, length-append input.left piece) (omega (arith, less_left (length input.left) (length piece) below some))
      | inr other ↦
          let there : has_slot slot (input_slots inputs) ≡ true = rw other at is.there in
          let going : has_ended slot inputs ≡ false = rw other at is.more in
          let below : held_at slot inputs < 983040 = rw other at is.below in
          rw other (omega (arith, lacking-filled slot piece inputs some record { there = there; more = going; below = below }))
    ]

pub lacking-read : (slot : ℕ) (bytes : List ℕ) (inputs : List InputView) → IsWanted 983040 slot inputs → lacking (after_read slot bytes inputs) < lacking inputs
lacking-read slot [] inputs is = lacking-ended slot inputs is.there is.more
lacking-read slot (byte ∷ bytes) inputs is = lacking-filled slot (byte ∷ bytes) inputs (omega arith) is

-- the same where the slots are those of other inputs, which are distinct
pub wanted_of : (slot : ℕ) (whole inputs : List InputView) → IsDistinct nat_eq (input_slots whole) → input_slots inputs ≡ input_slots whole → Some slot ≡ next_read inputs → IsWanted 983040 slot inputs
wanted_of slot whole inputs distinct same next = wanted 983040 slot inputs (subst (IsDistinct nat_eq) (sym same) distinct) (sym next)
