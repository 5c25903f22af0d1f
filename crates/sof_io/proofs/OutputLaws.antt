-- The outputs after a piece was put, a slot was added, or all were drained.
use Rattle.std.proofs.Common.{◌≡◌, ◌≢◌, ℕ, ◌+◌, ◌-◌, ◌^◌, true, false, ◌||◌, eqb, ltb, if◌then◌else◌, List, [], ◌∷◌, ◌++◌, length, refl, sym, ap, ◌∙◌, inl, inr, arith, length-append, append_assoc}
use Rattle.std.proofs.lemmas.Bool.{cases_Bool, eqb-true, ne_eqb, or_parts}
use Rattle.sof_base.specs.Ports.{OutputView}
use Rattle.sof_base.specs.DrainedOutputs.{drained}
use Rattle.sof_io.specs.Bound.{output_slots, has_slot}
use Rattle.sof_io.specs.Puts.{bytes_at, room_at, with_piece}
use Rattle.sof_io.specs.Bound.{new_output, with_slot}
use Rattle.sof_io.proofs.Ascending.{slots_with, has_slot-slots_with}

-- ---- a piece

-- the slots stay
pub slots-with_piece : (slot : ℕ) (piece : List ℕ) (outputs : List OutputView) → output_slots (with_piece slot piece outputs) ≡ output_slots outputs
slots-with_piece slot piece [] = refl
slots-with_piece slot piece (output ∷ outputs) =
    elim (cases_Bool (eqb output.slot slot)) [
      | inl same ↦ rw same refl
      | inr other ↦ rw other (ap (λ (slots : List ℕ). output.slot ∷ slots) (slots-with_piece slot piece outputs))
    ]

pub length-with_piece : (slot : ℕ) (piece : List ℕ) (outputs : List OutputView) → length (with_piece slot piece outputs) ≡ length outputs
length-with_piece slot piece [] = refl
length-with_piece slot piece (output ∷ outputs) =
    elim (cases_Bool (eqb output.slot slot)) [
      | inl same ↦ rw same refl
      | inr other ↦ rw other (omega (arith, length-with_piece slot piece outputs))
    ]

-- the slot's bytes grow by the piece
pub bytes_at-with_piece : (slot : ℕ) (piece : List ℕ) (outputs : List OutputView) → has_slot slot (output_slots outputs) ≡ true → bytes_at slot (with_piece slot piece outputs) ≡ bytes_at slot outputs ++ piece
bytes_at-with_piece slot piece [] there = absurd cc
bytes_at-with_piece slot piece (output ∷ outputs) there =
    elim (cases_Bool (eqb output.slot slot)) [
      | inl same ↦ rw (same, same) refl
      | inr other ↦
          let there' : has_slot slot (output_slots outputs) ≡ true = rw other at there in
          rw (other, other) (bytes_at-with_piece slot piece outputs there')
    ]

-- and its room shrinks by the piece's length
pub room_at-with_piece : (slot : ℕ) (piece : List ℕ) (outputs : List OutputView) → has_slot slot (output_slots outputs) ≡ true → room_at slot (with_piece slot piece outputs) ≡ room_at slot outputs - length piece
room_at-with_piece slot piece [] there = absurd cc
room_at-with_piece slot piece (output ∷ outputs) there =
    elim (cases_Bool (eqb output.slot slot)) [
      | inl same ↦ rw (same, same) (omega (arith, length-append output.bytes piece))
      | inr other ↦
          let there' : has_slot slot (output_slots outputs) ≡ true = rw other at there in
          rw (other, other) (room_at-with_piece slot piece outputs there')
    ]

-- the other slots stay as they are
pub bytes_at-with_piece_other : (slot : ℕ) (piece : List ℕ) (other : ℕ) (outputs : List OutputView) → other ≢ slot → bytes_at other (with_piece slot piece outputs) ≡ bytes_at other outputs
bytes_at-with_piece_other slot piece other [] apart = refl
bytes_at-with_piece_other slot piece other (output ∷ outputs) apart =
    elim (cases_Bool (eqb output.slot slot)) [
      | inl same ↦
          let e : output.slot ≡ slot = eqb-true output.slot slot same in
          let differs : eqb output.slot other ≡ false = ne_eqb output.slot other (λ f. apart (sym f ∙ e)) in
          rw (same, differs) refl
      | inr differs ↦ rw differs (ap (λ (rest : List ℕ). if eqb output.slot other then output.bytes else rest) (bytes_at-with_piece_other slot piece other outputs apart))
    ]

pub room_at-with_piece_other : (slot : ℕ) (piece : List ℕ) (other : ℕ) (outputs : List OutputView) → other ≢ slot → room_at other (with_piece slot piece outputs) ≡ room_at other outputs
room_at-with_piece_other slot piece other [] apart = refl
room_at-with_piece_other slot piece other (output ∷ outputs) apart =
    elim (cases_Bool (eqb output.slot slot)) [
      | inl same ↦
          let e : output.slot ≡ slot = eqb-true output.slot slot same in
          let differs : eqb output.slot other ≡ false = ne_eqb output.slot other (λ f. apart (sym f ∙ e)) in
          rw (same, differs) refl
      | inr differs ↦ rw differs (ap (λ (rest : ℕ). if eqb output.slot other then 1048576 - length output.bytes else rest) (room_at-with_piece_other slot piece other outputs apart))
    ]

-- an unknown slot drops the piece
pub with_piece-unknown : (slot : ℕ) (piece : List ℕ) (outputs : List OutputView) → has_slot slot (output_slots outputs) ≡ false → with_piece slot piece outputs ≡ outputs
with_piece-unknown slot piece [] missing = refl
with_piece-unknown slot piece (output ∷ outputs) missing =
    let parts = or_parts (eqb output.slot slot) (has_slot slot (output_slots outputs)) missing in
    rw parts.0 (ap (λ (rest : List OutputView). output ∷ rest) (with_piece-unknown slot piece outputs parts.1))

pub bytes_at-unknown : (slot : ℕ) (outputs : List OutputView) → has_slot slot (output_slots outputs) ≡ false → bytes_at slot outputs ≡ []
bytes_at-unknown slot [] missing = refl
bytes_at-unknown slot (output ∷ outputs) missing =
    let parts = or_parts (eqb output.slot slot) (has_slot slot (output_slots outputs)) missing in
    rw parts.0 (bytes_at-unknown slot outputs parts.1)

pub room_at-unknown : (slot : ℕ) (outputs : List OutputView) → has_slot slot (output_slots outputs) ≡ false → room_at slot outputs ≡ 2 ^ 64 - 1
room_at-unknown slot [] missing = refl
room_at-unknown slot (output ∷ outputs) missing =
    let parts = or_parts (eqb output.slot slot) (has_slot slot (output_slots outputs)) missing in
    rw parts.0 (room_at-unknown slot outputs parts.1)

-- two pieces at a slot are one
pub with_piece-with_piece : (slot : ℕ) (first second : List ℕ) (outputs : List OutputView) → with_piece slot second (with_piece slot first outputs) ≡ with_piece slot (first ++ second) outputs
with_piece-with_piece slot first second [] = refl
with_piece-with_piece slot first second (output ∷ outputs) =
    elim (cases_Bool (eqb output.slot slot)) [
      | inl same ↦ rw (same, same, append_assoc output.bytes first second) refl
      | inr other ↦ rw (other, other) (ap (λ (rest : List OutputView). output ∷ rest) (with_piece-with_piece slot first second outputs))
    ]

-- ---- drained outputs

pub slots-drained : (outputs : List OutputView) → output_slots (drained outputs) ≡ output_slots outputs
slots-drained [] = refl
slots-drained (output ∷ outputs) = ap (λ (slots : List ℕ). output.slot ∷ slots) (slots-drained outputs)

pub length-drained : (outputs : List OutputView) → length (drained outputs) ≡ length outputs
length-drained [] = refl
length-drained (output ∷ outputs) = omega (arith, length-drained outputs)

pub drained-drained : (outputs : List OutputView) → drained (drained outputs) ≡ drained outputs
drained-drained [] = refl
drained-drained (output ∷ outputs) = ap (λ (rest : List OutputView). new_output output.slot ∷ rest) (drained-drained outputs)

pub drained-with_piece : (slot : ℕ) (piece : List ℕ) (outputs : List OutputView) → drained (with_piece slot piece outputs) ≡ drained outputs
drained-with_piece slot piece [] = refl
drained-with_piece slot piece (output ∷ outputs) =
    elim (cases_Bool (eqb output.slot slot)) [
      | inl same ↦ rw same refl
      | inr other ↦ rw other (ap (λ (rest : List OutputView). new_output output.slot ∷ rest) (drained-with_piece slot piece outputs))
    ]

pub bytes_at-drained : (slot : ℕ) (outputs : List OutputView) → bytes_at slot (drained outputs) ≡ []
bytes_at-drained slot [] = refl
bytes_at-drained slot (output ∷ outputs) =
    elim (cases_Bool (eqb output.slot slot)) [
      | inl same ↦ rw same refl
      | inr other ↦ rw other (bytes_at-drained slot outputs)
    ]

-- ---- one more slot

pub length-with_slot : (slot : ℕ) (outputs : List OutputView) → length (with_slot slot outputs) ≡ length outputs + 1
length-with_slot slot [] = refl
length-with_slot slot (output ∷ outputs) =
    elim (cases_Bool (ltb slot output.slot)) [
      | inl above ↦ rw above (omega arith)
      | inr below ↦ rw below (omega (arith, length-with_slot slot outputs))
    ]

-- it has no bytes
pub drained-with_slot : (slot : ℕ) (outputs : List OutputView) → drained (with_slot slot outputs) ≡ with_slot slot (drained outputs)
drained-with_slot slot [] = refl
drained-with_slot slot (output ∷ outputs) =
    elim (cases_Bool (ltb slot output.slot)) [
      | inl above ↦ rw above refl
      | inr below ↦ rw below (ap (λ (rest : List OutputView). new_output output.slot ∷ rest) (drained-with_slot slot outputs))
    ]

-- its slot is put in order
pub slots-with_slot : (slot : ℕ) (outputs : List OutputView) → output_slots (with_slot slot outputs) ≡ slots_with slot (output_slots outputs)
slots-with_slot slot [] = refl
slots-with_slot slot (output ∷ outputs) =
    elim (cases_Bool (ltb slot output.slot)) [
      | inl above ↦ rw above refl
      | inr below ↦ rw below (ap (λ (slots : List ℕ). output.slot ∷ slots) (slots-with_slot slot outputs))
    ]

-- it is there, and each other slot is there as before
pub has_slot-with_slot : (other slot : ℕ) (outputs : List OutputView) → has_slot other (output_slots (with_slot slot outputs)) ≡ (eqb slot other || has_slot other (output_slots outputs))
has_slot-with_slot other slot outputs = ap (has_slot other) (slots-with_slot slot outputs) ∙ has_slot-slots_with other slot (output_slots outputs)
