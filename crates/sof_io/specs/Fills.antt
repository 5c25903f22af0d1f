-- How inputs begin, grow and end, and which of them wants more.
use Rattle.std.specs.Prelude.{ℕ, ◌==◌, true, false, ◌&&◌, not, nat_lt, List, [], ◌∷◌, ◌++◌, length, Option, Some, None, if◌then◌else◌}
use Rattle.sof_base.specs.Ports.{InputView}

-- an input with no bytes, of which more may come
abbrev pub new_input : ℕ → InputView
new_input slot = record { slot = slot; position = 0; left = []; ended = false }

-- the inputs with one more slot, put before the first that is above it
abbrev pub with_input : ℕ → List InputView → List InputView
with_input slot [] = new_input slot ∷ []
with_input slot (input ∷ inputs) = if nat_lt slot input.slot then new_input slot ∷ input ∷ inputs else input ∷ with_input slot inputs

-- the inputs with a piece more at a slot; the same for an unknown slot
abbrev pub filled_at : ℕ → List ℕ → List InputView → List InputView
filled_at slot piece [] = []
filled_at slot piece (input ∷ inputs) = if input.slot == slot then record input { left = input.left ++ piece } ∷ inputs else input ∷ filled_at slot piece inputs

-- the inputs with no more to come of a slot; the same for an unknown slot
abbrev pub ended_at : ℕ → List InputView → List InputView
ended_at slot [] = []
ended_at slot (input ∷ inputs) = if input.slot == slot then record input { ended = true } ∷ inputs else input ∷ ended_at slot inputs

-- the slot of the first input that holds fewer bytes than a level and has not ended
abbrev pub wanting : ℕ → List InputView → Option ℕ
wanting level [] = None
wanting level (input ∷ inputs) = if nat_lt (length input.left) level && not input.ended then Some input.slot else wanting level inputs
