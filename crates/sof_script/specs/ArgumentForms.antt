-- The lines of one or two arguments, form by form.
use Rattle.std.specs.Prelude.{ℕ, Bool, List, [], ◌∷◌, Result, Ok, Err}
use Rattle.sof_script.specs.declared.script.Command.TheVariants as command
use Rattle.sof_script.specs.declared.items.Item.{Item}
use Rattle.sof_script.specs.declared.items.Item.TheVariants.{Bind, Do}
use Rattle.sof_script.specs.declared.fault_causes.Cause.{Cause}
use Rattle.sof_script.specs.declared.fault_causes.Cause.TheVariants as causes
use Rattle.sof_script.specs.ValueForms.{number_value, error_value, hex_value, name_value, file_value}
use Rattle.sof_script.specs.Commands.{◌⊛◌, message_number}

-- one token, a name
abbrev pub one_name : List (List ℕ) → Result (List ℕ) Cause
one_name (name ∷ []) = name_value name
one_name _ = Err causes.Count

-- one token, a number from 1 on
abbrev pub one_number : ℕ → List (List ℕ) → Result ℕ Cause
one_number most (number ∷ []) = number_value 1 most number
one_number most _ = Err causes.Count

-- `in` and `out`: an endpoint and a file
abbrev pub bound : Bool → List (List ℕ) → Result Item Cause
bound input (endpoint ∷ file ∷ []) = Ok (λ e f. Bind input e f) ⊛ name_value endpoint ⊛ file_value file
bound input _ = Err causes.Count

-- `bytes`: a control and hex
abbrev pub hex_item : List (List ℕ) → Result Item Cause
hex_item (control ∷ hex ∷ []) = Ok (λ c bytes. Do (command.Bytes c bytes)) ⊛ name_value control ⊛ hex_value hex
hex_item _ = Err causes.Count

-- `refuse`: a message and an error number
abbrev pub error_item : List (List ℕ) → Result Item Cause
error_item (message ∷ error ∷ []) = Ok (λ k e. Do (command.Refuse k e)) ⊛ message_number message ⊛ error_value error
error_item _ = Err causes.Count

-- `lag`: a message and ticks
abbrev pub lag_item : List (List ℕ) → Result Item Cause
lag_item (message ∷ ticks ∷ []) = Ok (λ k n. Do (command.Lag k n)) ⊛ message_number message ⊛ number_value 1 16 ticks
lag_item _ = Err causes.Count
