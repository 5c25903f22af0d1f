-- The positions of inputs stay in range.
use Rattle.std.proofs.Common.{ℕ, zero, suc, eqb, ltb, List, [], ◌∷◌, inl, inr, arith}
use Rattle.std.proofs.lemmas.Bool.{cases_Bool}
use Rattle.std.specs.Prelude.{All}
use Rattle.sof_base.specs.Ports.{InputView}
use Rattle.sof_io.specs.Takes.{HasPosition}
use Rattle.sof_io.specs.Takes.{after_input, taken}
use Rattle.sof_io.specs.Fills.{new_input}
use Rattle.sof_io.specs.Fills.{with_input, filled_at, ended_at}
use Rattle.sof_io.specs.Takes.{fuller_input, ended_input}

positions-one : (input : InputView) (inputs : List InputView) → HasPosition input → All HasPosition inputs → All HasPosition (input ∷ inputs)
positions-one input inputs first rest zero d lt = first
positions-one input inputs first rest (suc k) d lt = rest k d (omega (arith, lt))

positions-first : (input : InputView) (inputs : List InputView) → All HasPosition (input ∷ inputs) → HasPosition input
positions-first input inputs all = all 0 input (omega arith)

positions-rest : (input : InputView) (inputs : List InputView) → All HasPosition (input ∷ inputs) → All HasPosition inputs
positions-rest input inputs all k d lt = all (suc k) d (omega (arith, lt))

pub positions-none : All HasPosition []
positions-none k d lt = absurd (omega (arith, lt))

-- an input after more bytes of it
positions-after : (n : ℕ) (input : InputView) → HasPosition (after_input n input)
positions-after n input = omega arith

-- a new input among the others
pub positions-with_input : (slot : ℕ) (inputs : List InputView) → All HasPosition inputs → All HasPosition (with_input slot inputs)
positions-with_input slot [] all = positions-one (new_input slot) [] (omega arith) positions-none
positions-with_input slot (input ∷ inputs) all =
    elim (cases_Bool (ltb slot input.slot)) [
      | inl above ↦ rw above (positions-one (new_input slot) (input ∷ inputs) (omega arith) all)
      | inr below ↦ rw below (positions-one input (with_input slot inputs) (positions-first input inputs all) (positions-with_input slot inputs (positions-rest input inputs all)))
    ]

-- bytes put after a slot
pub positions-filled_at : (slot : ℕ) (piece : List ℕ) (inputs : List InputView) → All HasPosition inputs → All HasPosition (filled_at slot piece inputs)
positions-filled_at slot piece [] all = positions-none
positions-filled_at slot piece (input ∷ inputs) all =
    elim (cases_Bool (eqb input.slot slot)) [
      | inl same ↦ rw same (positions-one (fuller_input piece input) inputs (positions-first input inputs all) (positions-rest input inputs all))
      | inr other ↦ rw other (positions-one input (filled_at slot piece inputs) (positions-first input inputs all) (positions-filled_at slot piece inputs (positions-rest input inputs all)))
    ]

-- no more to come of a slot
pub positions-ended_at : (slot : ℕ) (inputs : List InputView) → All HasPosition inputs → All HasPosition (ended_at slot inputs)
positions-ended_at slot [] all = positions-none
positions-ended_at slot (input ∷ inputs) all =
    elim (cases_Bool (eqb input.slot slot)) [
      | inl same ↦ rw same (positions-one (ended_input input) inputs (positions-first input inputs all) (positions-rest input inputs all))
      | inr other ↦ rw other (positions-one input (ended_at slot inputs) (positions-first input inputs all) (positions-ended_at slot inputs (positions-rest input inputs all)))
    ]

-- bytes taken of a slot
pub positions-taken : (slot n : ℕ) (inputs : List InputView) → All HasPosition inputs → All HasPosition (taken slot n inputs)
positions-taken slot n [] all = positions-none
positions-taken slot n (input ∷ inputs) all =
    elim (cases_Bool (eqb input.slot slot)) [
      | inl same ↦ rw same (positions-one (after_input n input) inputs (positions-after n input) (positions-rest input inputs all))
      | inr other ↦ rw other (positions-one input (taken slot n inputs) (positions-first input inputs all) (positions-taken slot n inputs (positions-rest input inputs all)))
    ]
