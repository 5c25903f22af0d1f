-- What an output holds, and its room.
use Rattle.std.specs.Prelude.{ℕ, ◌-◌, ◌^◌, ◌==◌, List, [], ◌∷◌, ◌++◌, length, if◌then◌else◌}
use Rattle.sof_base.specs.Ports.{OutputView}
use Rattle.sof_base.specs.declared.limits.TheConstants.{OUTPUT_BYTES}

-- an output with a piece more
abbrev pub longer_output : List ℕ → OutputView → OutputView
longer_output piece output = record { slot = output.slot; bytes = output.bytes ++ piece }

-- the bytes of a slot; none of an unknown slot
abbrev pub bytes_at : ℕ → List OutputView → List ℕ
bytes_at slot [] = []
bytes_at slot (output ∷ outputs) = if output.slot == slot then output.bytes else bytes_at slot outputs

-- how many more bytes a slot can hold, of 1048576; an unknown slot drops any number
abbrev pub room_at : ℕ → List OutputView → ℕ
room_at slot [] = 2 ^ 64 - 1
room_at slot (output ∷ outputs) = if output.slot == slot then OUTPUT_BYTES - length output.bytes else room_at slot outputs

-- the outputs with a piece more at a slot; the same for an unknown slot
abbrev pub with_piece : ℕ → List ℕ → List OutputView → List OutputView
with_piece slot piece [] = []
with_piece slot piece (output ∷ outputs) = if output.slot == slot then longer_output piece output ∷ outputs else output ∷ with_piece slot piece outputs
