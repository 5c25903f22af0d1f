-- Room in every output.
use Rattle.std.proofs.Common.{ℕ, zero, suc, ◌+◌, ◌-◌, ◌^◌, ◌≤◌, ◌<◌, eqb, ltb, List, [], ◌∷◌, length, get_or, inl, inr, arith, length-append}
use Rattle.std.proofs.lemmas.Bool.{cases_Bool}
use Rattle.sof_base.specs.Ports.{OutputView, HasRoom}
use Rattle.sof_base.specs.DrainedOutputs.{drained}
use Rattle.sof_io.specs.Puts.{room_at, with_piece}
use Rattle.sof_io.specs.Bound.{with_slot}

-- room for n bytes is room for fewer
pub HasRoom-less : (m n : ℕ) (outputs : List OutputView) → m ≤ n → HasRoom n outputs → HasRoom m outputs
HasRoom-less m n [] le h = tt
HasRoom-less m n (output ∷ outputs) le h = (omega (arith, h.0), HasRoom-less m n outputs le h.1)

-- a piece takes its length of the room
pub HasRoom-with_piece : (n slot : ℕ) (piece : List ℕ) (outputs : List OutputView) → HasRoom (n + length piece) outputs → HasRoom n (with_piece slot piece outputs)
HasRoom-with_piece n slot piece [] h = tt
HasRoom-with_piece n slot piece (output ∷ outputs) h =
    elim (cases_Bool (eqb output.slot slot)) [
      | inl same ↦ rw same (omega (arith, h.0, length-append output.bytes piece), HasRoom-less n (n + length piece) outputs (omega arith) h.1)
      | inr other ↦ rw other (omega (arith, h.0), HasRoom-with_piece n slot piece outputs h.1)
    ]

-- outputs with no bytes have room for 1048576
pub HasRoom-drained : (n : ℕ) (outputs : List OutputView) → n ≤ 1048576 → HasRoom n (drained outputs)
HasRoom-drained n [] le = tt
HasRoom-drained n (output ∷ outputs) le = (omega arith, HasRoom-drained n outputs le)

-- as has a new output
pub HasRoom-with_slot : (n slot : ℕ) (outputs : List OutputView) → n ≤ 1048576 → HasRoom n outputs → HasRoom n (with_slot slot outputs)
HasRoom-with_slot n slot [] le h = (omega arith, tt)
HasRoom-with_slot n slot (output ∷ outputs) le h =
    elim (cases_Bool (ltb slot output.slot)) [
      | inl above ↦ rw above (omega arith, h)
      | inr below ↦ rw below (h.0, HasRoom-with_slot n slot outputs le h.1)
    ]

-- room in every output is room at each slot, also at an unknown one
pub room_at-HasRoom : (n slot : ℕ) (outputs : List OutputView) → n < 2 ^ 64 → HasRoom n outputs → n ≤ room_at slot outputs
room_at-HasRoom n slot [] small h = omega arith
room_at-HasRoom n slot (output ∷ outputs) small h =
    elim (cases_Bool (eqb output.slot slot)) [
      | inl same ↦ rw same (omega (arith, h.0))
      | inr other ↦ rw other (room_at-HasRoom n slot outputs small h.1)
    ]

-- the room of the output at a place
pub HasRoom-at : (n k : ℕ) (outputs : List OutputView) (d : OutputView) → k < length outputs → HasRoom n outputs → length (get_or outputs k d).bytes + n ≤ 1048576
HasRoom-at n k [] d lt h = absurd (omega arith)
HasRoom-at n zero (output ∷ outputs) d lt h = h.0
HasRoom-at n (suc k) (output ∷ outputs) d lt h = HasRoom-at n k outputs d (omega arith) h.1

-- a piece that fits leaves each output within 1048576 bytes
pub HasRoom-put : (slot : ℕ) (piece : List ℕ) (outputs : List OutputView) → HasRoom 0 outputs → length piece ≤ room_at slot outputs → HasRoom 0 (with_piece slot piece outputs)
HasRoom-put slot piece [] h fits = tt
HasRoom-put slot piece (output ∷ outputs) h fits =
    elim (cases_Bool (eqb output.slot slot)) [
      | inl same ↦
          let fits' : length piece ≤ 1048576 - length output.bytes = rw same at fits in
          rw same (omega (arith, h.0, length-append output.bytes piece), h.1)
      | inr other ↦
          let fits' : length piece ≤ room_at slot outputs = rw other at fits in
          rw other (h.0, HasRoom-put slot piece outputs h.1 fits')
    ]
