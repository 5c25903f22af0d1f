-- The inputs after bytes were taken.
use Rattle.std.proofs.Common.{◌≡◌, ◌≢◌, ℕ, ◌+◌, ◌-◌, ◌<◌, Bool, true, false, ◌||◌, eqb, ltb, if◌then◌else◌, List, [], ◌∷◌, ◌++◌, length, get_or, drop, replicate, refl, sym, ap, ◌∙◌, inl, inr, arith, length-append, length-drop}
use Rattle.std.proofs.lemmas.Bool.{cases_Bool, eqb-true, ne_eqb, or_parts}
use Rattle.std.proofs.lemmas.List.{drop-drop, drop_all}
use Rattle.sof_base.specs.Ports.{InputView, moved_on}
use Rattle.sof_io.specs.Bound.{has_slot}
use Rattle.sof_io.specs.Takes.{input_slots}
use Rattle.sof_io.specs.Takes.{after_input, next_bytes, left_at, position_at, bytes_given, taken}
use Rattle.sof_io.specs.Fills.{with_input, filled_at, ended_at}
use Rattle.sof_io.specs.Takes.{held_at, has_ended}
use Rattle.sof_io.proofs.Ascending.{slots_with, has_slot-slots_with}
use Rattle.sof_io.proofs.NextBytes.{length-next_bytes, next_bytes-none, next_bytes-more, next_bytes-at}

-- as many bytes are given as were asked for
pub length-given : (slot n : ℕ) (inputs : List InputView) → length (bytes_given slot n inputs) ≡ n
length-given slot n inputs = length-next_bytes n (left_at slot inputs)

-- the slots stay
pub slots-taken : (slot n : ℕ) (inputs : List InputView) → input_slots (taken slot n inputs) ≡ input_slots inputs
slots-taken slot n [] = refl
slots-taken slot n (input ∷ inputs) =
    elim (cases_Bool (eqb input.slot slot)) [
      | inl same ↦ rw same refl
      | inr other ↦ rw other (ap (λ (slots : List ℕ). input.slot ∷ slots) (slots-taken slot n inputs))
    ]

pub length-taken : (slot n : ℕ) (inputs : List InputView) → length (taken slot n inputs) ≡ length inputs
length-taken slot n [] = refl
length-taken slot n (input ∷ inputs) =
    elim (cases_Bool (eqb input.slot slot)) [
      | inl same ↦ rw same refl
      | inr other ↦ rw other (omega (arith, length-taken slot n inputs))
    ]

-- what is left of the slot loses its front
pub left_at-taken : (slot n : ℕ) (inputs : List InputView) → left_at slot (taken slot n inputs) ≡ drop n (left_at slot inputs)
left_at-taken slot n [] = sym (drop_all n [] (omega arith))
left_at-taken slot n (input ∷ inputs) =
    elim (cases_Bool (eqb input.slot slot)) [
      | inl same ↦ rw (same, same) refl
      | inr other ↦ rw (other, other) (left_at-taken slot n inputs)
    ]

pub length-left_at-taken : (slot n : ℕ) (inputs : List InputView) → length (left_at slot (taken slot n inputs)) ≡ length (left_at slot inputs) - n
length-left_at-taken slot n inputs = ap length (left_at-taken slot n inputs) ∙ length-drop n (left_at slot inputs)

-- its position moves on
pub position_at-taken : (slot n : ℕ) (inputs : List InputView) → has_slot slot (input_slots inputs) ≡ true → position_at slot (taken slot n inputs) ≡ moved_on (position_at slot inputs) n
position_at-taken slot n [] there = absurd cc
position_at-taken slot n (input ∷ inputs) there =
    elim (cases_Bool (eqb input.slot slot)) [
      | inl same ↦ rw (same, same) refl
      | inr other ↦
          let there' : has_slot slot (input_slots inputs) ≡ true = rw other at there in
          rw (other, other) (position_at-taken slot n inputs there')
    ]

-- the other slots stay as they are
pub left_at-taken_other : (slot n other : ℕ) (inputs : List InputView) → other ≢ slot → left_at other (taken slot n inputs) ≡ left_at other inputs
left_at-taken_other slot n other [] apart = refl
left_at-taken_other slot n other (input ∷ inputs) apart =
    elim (cases_Bool (eqb input.slot slot)) [
      | inl same ↦
          let e : input.slot ≡ slot = eqb-true input.slot slot same in
          let differs : eqb input.slot other ≡ false = ne_eqb input.slot other (λ f. apart (sym f ∙ e)) in
          rw (same, differs) refl
      | inr differs ↦ rw differs (ap (λ (rest : List ℕ). if eqb input.slot other then input.left else rest) (left_at-taken_other slot n other inputs apart))
    ]

pub position_at-taken_other : (slot n other : ℕ) (inputs : List InputView) → other ≢ slot → position_at other (taken slot n inputs) ≡ position_at other inputs
position_at-taken_other slot n other [] apart = refl
position_at-taken_other slot n other (input ∷ inputs) apart =
    elim (cases_Bool (eqb input.slot slot)) [
      | inl same ↦
          let e : input.slot ≡ slot = eqb-true input.slot slot same in
          let differs : eqb input.slot other ≡ false = ne_eqb input.slot other (λ f. apart (sym f ∙ e)) in
          rw (same, differs) refl
      | inr differs ↦ rw differs (ap (λ (rest : ℕ). if eqb input.slot other then input.position else rest) (position_at-taken_other slot n other inputs apart))
    ]

pub given-taken_other : (slot n other m : ℕ) (inputs : List InputView) → other ≢ slot → bytes_given other m (taken slot n inputs) ≡ bytes_given other m inputs
given-taken_other slot n other m inputs apart = ap (next_bytes m) (left_at-taken_other slot n other inputs apart)

-- an unknown slot gives zeros and changes nothing
pub left_at-unknown : (slot : ℕ) (inputs : List InputView) → has_slot slot (input_slots inputs) ≡ false → left_at slot inputs ≡ []
left_at-unknown slot [] missing = refl
left_at-unknown slot (input ∷ inputs) missing =
    let parts = or_parts (eqb input.slot slot) (has_slot slot (input_slots inputs)) missing in
    rw parts.0 (left_at-unknown slot inputs parts.1)

pub given-unknown : (slot n : ℕ) (inputs : List InputView) → has_slot slot (input_slots inputs) ≡ false → bytes_given slot n inputs ≡ replicate n 0
given-unknown slot n inputs missing = ap (next_bytes n) (left_at-unknown slot inputs missing) ∙ next_bytes-none n

pub taken-unknown : (slot n : ℕ) (inputs : List InputView) → has_slot slot (input_slots inputs) ≡ false → taken slot n inputs ≡ inputs
taken-unknown slot n [] missing = refl
taken-unknown slot n (input ∷ inputs) missing =
    let parts = or_parts (eqb input.slot slot) (has_slot slot (input_slots inputs)) missing in
    rw parts.0 (ap (λ (rest : List InputView). input ∷ rest) (taken-unknown slot n inputs parts.1))

after_input-more : (m n : ℕ) (input : InputView) → after_input n (after_input m input) ≡ after_input (m + n) input
after_input-more m n input =
    let moved : moved_on (moved_on input.position m) n ≡ moved_on input.position (m + n) = omega arith in
    rw (drop-drop n m input.left, moved) refl

-- taking in two steps is taking at once
pub taken-taken : (slot m n : ℕ) (inputs : List InputView) → taken slot n (taken slot m inputs) ≡ taken slot (m + n) inputs
taken-taken slot m n [] = refl
taken-taken slot m n (input ∷ inputs) =
    elim (cases_Bool (eqb input.slot slot)) [
      | inl same ↦ rw (same, same) (ap (λ (first : InputView). first ∷ inputs) (after_input-more m n input))
      | inr other ↦ rw (other, other) (ap (λ (rest : List InputView). input ∷ rest) (taken-taken slot m n inputs))
    ]

pub given-more : (slot m n : ℕ) (inputs : List InputView) → bytes_given slot (m + n) inputs ≡ bytes_given slot m inputs ++ bytes_given slot n (taken slot m inputs)
given-more slot m n inputs =
    next_bytes-more m n (left_at slot inputs) ∙ ap (λ (left : List ℕ). bytes_given slot m inputs ++ next_bytes n left) (sym (left_at-taken slot m inputs))

-- byte by byte they are those that are left, with zeros past the end
pub given-at : (slot n k : ℕ) (inputs : List InputView) → k < n → get_or (bytes_given slot n inputs) k 0 ≡ get_or (left_at slot inputs) k 0
given-at slot n k inputs lt = next_bytes-at n k (left_at slot inputs) lt

pub has_ended-taken : (slot n other : ℕ) (inputs : List InputView) → has_ended other (taken slot n inputs) ≡ has_ended other inputs
has_ended-taken slot n other [] = refl
has_ended-taken slot n other (input ∷ inputs) =
    elim (cases_Bool (eqb input.slot slot)) [
      | inl same ↦ rw same refl
      | inr differs ↦ rw differs (ap (λ (rest : Bool). if eqb input.slot other then input.ended else rest) (has_ended-taken slot n other inputs))
    ]

-- ---- bytes put after a slot

-- the slots stay
pub slots-filled_at : (slot : ℕ) (piece : List ℕ) (inputs : List InputView) → input_slots (filled_at slot piece inputs) ≡ input_slots inputs
slots-filled_at slot piece [] = refl
slots-filled_at slot piece (input ∷ inputs) =
    elim (cases_Bool (eqb input.slot slot)) [
      | inl same ↦ rw same refl
      | inr other ↦ rw other (ap (λ (slots : List ℕ). input.slot ∷ slots) (slots-filled_at slot piece inputs))
    ]

-- what is left of the slot grows by the piece
pub left_at-filled_at : (slot : ℕ) (piece : List ℕ) (inputs : List InputView) → has_slot slot (input_slots inputs) ≡ true → left_at slot (filled_at slot piece inputs) ≡ left_at slot inputs ++ piece
left_at-filled_at slot piece [] there = absurd cc
left_at-filled_at slot piece (input ∷ inputs) there =
    elim (cases_Bool (eqb input.slot slot)) [
      | inl same ↦ rw (same, same) refl
      | inr other ↦
          let there' : has_slot slot (input_slots inputs) ≡ true = rw other at there in
          rw (other, other) (left_at-filled_at slot piece inputs there')
    ]

pub held_at-filled_at : (slot : ℕ) (piece : List ℕ) (inputs : List InputView) → has_slot slot (input_slots inputs) ≡ true → held_at slot (filled_at slot piece inputs) ≡ held_at slot inputs + length piece
held_at-filled_at slot piece inputs there = ap length (left_at-filled_at slot piece inputs there) ∙ length-append (left_at slot inputs) piece

-- that of the other slots stays
pub left_at-filled_other : (slot : ℕ) (piece : List ℕ) (other : ℕ) (inputs : List InputView) → other ≢ slot → left_at other (filled_at slot piece inputs) ≡ left_at other inputs
left_at-filled_other slot piece other [] apart = refl
left_at-filled_other slot piece other (input ∷ inputs) apart =
    elim (cases_Bool (eqb input.slot slot)) [
      | inl same ↦
          let e : input.slot ≡ slot = eqb-true input.slot slot same in
          let differs : eqb input.slot other ≡ false = ne_eqb input.slot other (λ f. apart (sym f ∙ e)) in
          rw (same, differs) refl
      | inr differs ↦ rw differs (ap (λ (rest : List ℕ). if eqb input.slot other then input.left else rest) (left_at-filled_other slot piece other inputs apart))
    ]

-- and so do all positions, and which have ended
pub position_at-filled_at : (slot : ℕ) (piece : List ℕ) (other : ℕ) (inputs : List InputView) → position_at other (filled_at slot piece inputs) ≡ position_at other inputs
position_at-filled_at slot piece other [] = refl
position_at-filled_at slot piece other (input ∷ inputs) =
    elim (cases_Bool (eqb input.slot slot)) [
      | inl same ↦ rw same refl
      | inr differs ↦ rw differs (ap (λ (rest : ℕ). if eqb input.slot other then input.position else rest) (position_at-filled_at slot piece other inputs))
    ]

pub has_ended-filled_at : (slot : ℕ) (piece : List ℕ) (other : ℕ) (inputs : List InputView) → has_ended other (filled_at slot piece inputs) ≡ has_ended other inputs
has_ended-filled_at slot piece other [] = refl
has_ended-filled_at slot piece other (input ∷ inputs) =
    elim (cases_Bool (eqb input.slot slot)) [
      | inl same ↦ rw same refl
      | inr differs ↦ rw differs (ap (λ (rest : Bool). if eqb input.slot other then input.ended else rest) (has_ended-filled_at slot piece other inputs))
    ]

-- ---- no more to come of a slot

-- the slots stay
pub slots-ended_at : (slot : ℕ) (inputs : List InputView) → input_slots (ended_at slot inputs) ≡ input_slots inputs
slots-ended_at slot [] = refl
slots-ended_at slot (input ∷ inputs) =
    elim (cases_Bool (eqb input.slot slot)) [
      | inl same ↦ rw same refl
      | inr other ↦ rw other (ap (λ (slots : List ℕ). input.slot ∷ slots) (slots-ended_at slot inputs))
    ]

-- and so does what is left, and each position
pub left_at-ended_at : (slot other : ℕ) (inputs : List InputView) → left_at other (ended_at slot inputs) ≡ left_at other inputs
left_at-ended_at slot other [] = refl
left_at-ended_at slot other (input ∷ inputs) =
    elim (cases_Bool (eqb input.slot slot)) [
      | inl same ↦ rw same refl
      | inr differs ↦ rw differs (ap (λ (rest : List ℕ). if eqb input.slot other then input.left else rest) (left_at-ended_at slot other inputs))
    ]

pub position_at-ended_at : (slot other : ℕ) (inputs : List InputView) → position_at other (ended_at slot inputs) ≡ position_at other inputs
position_at-ended_at slot other [] = refl
position_at-ended_at slot other (input ∷ inputs) =
    elim (cases_Bool (eqb input.slot slot)) [
      | inl same ↦ rw same refl
      | inr differs ↦ rw differs (ap (λ (rest : ℕ). if eqb input.slot other then input.position else rest) (position_at-ended_at slot other inputs))
    ]

-- the slot has ended
pub has_ended-ended_at : (slot : ℕ) (inputs : List InputView) → has_slot slot (input_slots inputs) ≡ true → has_ended slot (ended_at slot inputs) ≡ true
has_ended-ended_at slot [] there = absurd cc
has_ended-ended_at slot (input ∷ inputs) there =
    elim (cases_Bool (eqb input.slot slot)) [
      | inl same ↦ rw (same, same) refl
      | inr other ↦
          let there' : has_slot slot (input_slots inputs) ≡ true = rw other at there in
          rw (other, other) (has_ended-ended_at slot inputs there')
    ]

-- and the others have where they had
pub has_ended-ended_other : (slot other : ℕ) (inputs : List InputView) → other ≢ slot → has_ended other (ended_at slot inputs) ≡ has_ended other inputs
has_ended-ended_other slot other [] apart = refl
has_ended-ended_other slot other (input ∷ inputs) apart =
    elim (cases_Bool (eqb input.slot slot)) [
      | inl same ↦
          let e : input.slot ≡ slot = eqb-true input.slot slot same in
          let differs : eqb input.slot other ≡ false = ne_eqb input.slot other (λ f. apart (sym f ∙ e)) in
          rw (same, differs) refl
      | inr differs ↦ rw differs (ap (λ (rest : Bool). if eqb input.slot other then input.ended else rest) (has_ended-ended_other slot other inputs apart))
    ]

-- ---- one more slot

-- it is put in order
pub slots-with_input : (slot : ℕ) (inputs : List InputView) → input_slots (with_input slot inputs) ≡ slots_with slot (input_slots inputs)
slots-with_input slot [] = refl
slots-with_input slot (input ∷ inputs) =
    elim (cases_Bool (ltb slot input.slot)) [
      | inl above ↦ rw above refl
      | inr below ↦ rw below (ap (λ (slots : List ℕ). input.slot ∷ slots) (slots-with_input slot inputs))
    ]

-- it is there, and each other slot is there as before
pub has_slot-with_input : (other slot : ℕ) (inputs : List InputView) → has_slot other (input_slots (with_input slot inputs)) ≡ (eqb slot other || has_slot other (input_slots inputs))
has_slot-with_input other slot inputs = ap (has_slot other) (slots-with_input slot inputs) ∙ has_slot-slots_with other slot (input_slots inputs)
