-- Which slots are bound, and how outputs begin.
use Rattle.std.specs.Prelude.{ℕ, ◌==◌, Bool, List, map, nat_lt, [], ◌∷◌, if◌then◌else◌}
use Rattle.std.specs.List.{list_any}
use Rattle.sof_base.specs.Ports.{OutputView}

-- the slots of the outputs, in their order
abbrev pub output_slots : List OutputView → List ℕ
output_slots outputs = map (λ (output : OutputView). output.slot) outputs

-- whether a slot is one of these
abbrev pub has_slot : ℕ → List ℕ → Bool
has_slot slot slots = list_any (λ (other : ℕ). other == slot) slots

-- an output with no bytes
abbrev pub new_output : ℕ → OutputView
new_output slot = record { slot = slot; bytes = [] }

-- the outputs with one more slot, put before the first that is above it
abbrev pub with_slot : ℕ → List OutputView → List OutputView
with_slot slot [] = new_output slot ∷ []
with_slot slot (output ∷ outputs) = if nat_lt slot output.slot then new_output slot ∷ output ∷ outputs else output ∷ with_slot slot outputs
