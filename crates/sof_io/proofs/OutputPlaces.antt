-- What the search for a slot says of the outputs.
use Rattle.std.proofs.Common.{◌≡◌, ℕ, zero, suc, ◌+◌, ◌-◌, ◌^◌, ◌≤◌, ◌<◌, Bool, false, ◌||◌, eqb, ltb, List, [], ◌∷◌, ◌++◌, length, get_or, set, take, drop, Some, None, is_some, refl, sym, ap, ◌∙◌, inl, inr, arith}
use Rattle.std.proofs.lemmas.Bool.{cases_Bool}
use Rattle.std.proofs.lemmas.List.{append-nil, drop_all, take_all}
use Rattle.std.specs.List.{list_any, position, insert}
use Rattle.sof_base.specs.Ports.{OutputView, HasRoom}
use Rattle.sof_base.specs.DrainedOutputs.{drained}
use Rattle.sof_io.specs.Bound.{output_slots, has_slot}
use Rattle.sof_io.specs.Puts.{longer_output, bytes_at, room_at, with_piece}
use Rattle.sof_io.specs.Bound.{new_output, with_slot}
use Rattle.sof_io.proofs.Places.{place, place_found, some_place}
use Rattle.sof_io.proofs.OutputLaws.{with_piece-unknown, bytes_at-unknown, room_at-unknown}
use Rattle.sof_io.proofs.RoomLaws.{HasRoom-at}

-- the output of a slot
abbrev pub is_output : ℕ → OutputView → Bool
is_output slot output = eqb output.slot slot

-- an output whose slot is above a slot
abbrev pub is_above : ℕ → OutputView → Bool
is_above slot output = ltb slot output.slot

with_piece-place : (slot : ℕ) (piece : List ℕ) (outputs : List OutputView) (d : OutputView) → place (is_output slot) outputs < length outputs → with_piece slot piece outputs ≡ set outputs (place (is_output slot) outputs) (longer_output piece (get_or outputs (place (is_output slot) outputs) d))
with_piece-place slot piece [] d h = absurd (omega arith)
with_piece-place slot piece (output ∷ outputs) d h =
    elim (cases_Bool (eqb output.slot slot)) [
      | inl same ↦ rw same refl
      | inr other ↦
          let h' : suc (place (is_output slot) outputs) < suc (length outputs) = rw other at h in
          rw other (ap (λ (rest : List OutputView). output ∷ rest) (with_piece-place slot piece outputs d (omega arith)))
    ]

bytes_at-place : (slot : ℕ) (outputs : List OutputView) (d : OutputView) → place (is_output slot) outputs < length outputs → bytes_at slot outputs ≡ (get_or outputs (place (is_output slot) outputs) d).bytes
bytes_at-place slot [] d h = absurd (omega arith)
bytes_at-place slot (output ∷ outputs) d h =
    elim (cases_Bool (eqb output.slot slot)) [
      | inl same ↦ rw same refl
      | inr other ↦
          let h' : suc (place (is_output slot) outputs) < suc (length outputs) = rw other at h in
          rw other (bytes_at-place slot outputs d (omega arith))
    ]

room_at-place : (slot : ℕ) (outputs : List OutputView) (d : OutputView) → place (is_output slot) outputs < length outputs → room_at slot outputs ≡ 1048576 - length (get_or outputs (place (is_output slot) outputs) d).bytes
room_at-place slot [] d h = absurd (omega arith)
room_at-place slot (output ∷ outputs) d h =
    elim (cases_Bool (eqb output.slot slot)) [
      | inl same ↦ rw same refl
      | inr other ↦
          let h' : suc (place (is_output slot) outputs) < suc (length outputs) = rw other at h in
          rw other (room_at-place slot outputs d (omega arith))
    ]

-- a slot is there exactly where an output has it
pub has_output : (slot : ℕ) (outputs : List OutputView) → list_any (is_output slot) outputs ≡ has_slot slot (output_slots outputs)
has_output slot [] = refl
has_output slot (output ∷ outputs) = ap (λ (b : Bool). eqb output.slot slot || b) (has_output slot outputs)

not_there : (slot : ℕ) (outputs : List OutputView) → position (is_output slot) outputs ≡ None → has_slot slot (output_slots outputs) ≡ false
not_there slot outputs none = sym (some_place (is_output slot) outputs ∙ has_output slot outputs) ∙ ap is_some none

-- the output at the place that was found gets the piece
pub with_piece-found : (slot k : ℕ) (piece : List ℕ) (outputs : List OutputView) (before after : OutputView) → position (is_output slot) outputs ≡ Some k → before ≡ get_or outputs k before → after ≡ longer_output piece before → set outputs k after ≡ with_piece slot piece outputs
with_piece-found slot k piece outputs before after found is longer =
    let p = place_found (is_output slot) outputs k found in
    let e = with_piece-place slot piece outputs before p.1 in
    rw (p.0, ← is, ← longer) at (sym e)

pub with_piece-missing : (slot : ℕ) (piece : List ℕ) (outputs : List OutputView) → position (is_output slot) outputs ≡ None → with_piece slot piece outputs ≡ outputs
with_piece-missing slot piece outputs none = with_piece-unknown slot piece outputs (not_there slot outputs none)

-- its bytes and its room are the slot's
pub bytes_at-found : (slot k : ℕ) (outputs : List OutputView) (here : OutputView) → position (is_output slot) outputs ≡ Some k → here ≡ get_or outputs k here → bytes_at slot outputs ≡ here.bytes
bytes_at-found slot k outputs here found is =
    let p = place_found (is_output slot) outputs k found in
    let e = bytes_at-place slot outputs here p.1 in
    rw (p.0, ← is) at e

pub bytes_at-missing : (slot : ℕ) (outputs : List OutputView) → position (is_output slot) outputs ≡ None → bytes_at slot outputs ≡ []
bytes_at-missing slot outputs none = bytes_at-unknown slot outputs (not_there slot outputs none)

pub room_at-found : (slot k : ℕ) (outputs : List OutputView) (here : OutputView) → position (is_output slot) outputs ≡ Some k → here ≡ get_or outputs k here → room_at slot outputs ≡ 1048576 - length here.bytes
room_at-found slot k outputs here found is =
    let p = place_found (is_output slot) outputs k found in
    let e = room_at-place slot outputs here p.1 in
    rw (p.0, ← is) at e

pub room_at-missing : (slot : ℕ) (outputs : List OutputView) → position (is_output slot) outputs ≡ None → room_at slot outputs ≡ 2 ^ 64 - 1
room_at-missing slot outputs none = room_at-unknown slot outputs (not_there slot outputs none)

-- a slot goes before the first that is above it
pub with_slot-place : (slot : ℕ) (outputs : List OutputView) → insert outputs (place (is_above slot) outputs) (new_output slot) ≡ with_slot slot outputs
with_slot-place slot [] = refl
with_slot-place slot (output ∷ outputs) =
    elim (cases_Bool (ltb slot output.slot)) [
      | inl above ↦ rw above refl
      | inr below ↦ rw below (ap (λ (rest : List OutputView). output ∷ rest) (with_slot-place slot outputs))
    ]

-- it holds at most 1048576 bytes
pub within-found : (slot k : ℕ) (outputs : List OutputView) (here : OutputView) → position (is_output slot) outputs ≡ Some k → here ≡ get_or outputs k here → HasRoom 0 outputs → length here.bytes ≤ 1048576
within-found slot k outputs here found is h =
    let p = place_found (is_output slot) outputs k found in
    let e : length here.bytes ≡ length (get_or outputs k here).bytes = ap (λ (output : OutputView). length output.bytes) is in
    omega (arith, e, HasRoom-at 0 k outputs here (omega arith) h)

drained_more : (i : ℕ) (outputs : List OutputView) (d : OutputView) → i < length outputs → set (drained (take i outputs) ++ drop i outputs) i (new_output (get_or (drained (take i outputs) ++ drop i outputs) i d).slot) ≡ drained (take (suc i) outputs) ++ drop (suc i) outputs
drained_more i [] d lt = absurd (omega arith)
drained_more zero (output ∷ outputs) d lt = refl
drained_more (suc i) (output ∷ outputs) d lt = ap (λ (rest : List OutputView). new_output output.slot ∷ rest) (drained_more i outputs d (omega arith))

-- one more output is drained
pub drained_step : (i : ℕ) (outputs now : List OutputView) (here after : OutputView) → i < length outputs → now ≡ drained (take i outputs) ++ drop i outputs → after ≡ new_output (get_or now i here).slot → set now i after ≡ drained (take (i + 1) outputs) ++ drop (i + 1) outputs
drained_step i outputs now here after lt so_far empty =
    let one : i + 1 ≡ suc i = omega arith in
    rw (one, empty, so_far) (drained_more i outputs here lt)

-- and then all
pub drained_all : (i : ℕ) (outputs now : List OutputView) → length outputs ≤ i → now ≡ drained (take i outputs) ++ drop i outputs → now ≡ drained outputs
drained_all i outputs now le so_far =
    so_far ∙ ap (λ (rest : List OutputView). drained (take i outputs) ++ rest) (drop_all i outputs le) ∙ append-nil (drained (take i outputs)) ∙ ap drained (take_all i outputs le)
