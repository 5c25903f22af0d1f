-- The bindings and the commands that the lines of a script are.
use Rattle.std.specs.Prelude.{ℕ, ◌+◌, Bool, true, false, nat_le, if◌then◌else◌, List, [], ◌∷◌, length, codes, Option, Some, None, Result, Ok, Err}
use Rattle.std.specs.Str.{bytes_eq}
use Rattle.sof_script.specs.declared.script.Command.{Command}
use Rattle.sof_script.specs.declared.script.Command.TheVariants as command
use Rattle.sof_script.specs.declared.script.Numbered.{Numbered}
use Rattle.sof_script.specs.declared.items.Item.{Item}
use Rattle.sof_script.specs.declared.items.Item.TheVariants.{Nothing, Bind, Do}
use Rattle.sof_script.specs.declared.reading.ScriptFault.{ScriptFault}
use Rattle.sof_script.specs.declared.reading.ScriptFault.TheVariants.{Line}
use Rattle.sof_script.specs.declared.fault_causes.Cause.{Cause}
use Rattle.sof_script.specs.declared.fault_causes.Cause.TheVariants as causes
use Rattle.sof_script.specs.Splitting.{lines_of, without_return, is_skipped, all_plain, tokens_of}
use Rattle.sof_script.specs.Causes.{cause_number, least_cause}
use Rattle.sof_script.specs.ValueForms.{number_value, error_value, format_value, hex_value, name_value, file_value}

-- ---- one line

-- what is made of one more value; of two causes the lesser counts
infixl 10 ◌⊛◌
abbrev pub ◌⊛◌ : {A B : Type 0} → Result (A → B) Cause → Result A Cause → Result B Cause
Ok make ⊛ Ok value = Ok (make value)
Ok make ⊛ Err cause = Err cause
Err cause ⊛ Ok value = Err cause
Err first ⊛ Err second = Err (least_cause first second)

-- any u32
abbrev pub any_number : List ℕ → Result ℕ Cause
any_number token = number_value 0 4294967295 token

-- the number of a message
abbrev pub message_number : List ℕ → Result ℕ Cause
message_number token = number_value 1 100000 token

-- the numbers of tokens
abbrev pub number_values : List (List ℕ) → Result (List ℕ) Cause
number_values [] = Ok []
number_values (token ∷ tokens) = Ok (λ n ns. n ∷ ns) ⊛ any_number token ⊛ number_values tokens

-- a word without arguments
abbrev pub alone : Command → List (List ℕ) → Result Item Cause
alone command [] = Ok (Do command)
alone command _ = Err causes.Count

-- one token, and the command that its value makes
abbrev pub one_value : {A : Type 0} → (List ℕ → Result A Cause) → (A → Command) → List (List ℕ) → Result Item Cause
one_value read make (token ∷ []) = Ok (λ value. Do (make value)) ⊛ read token
one_value read make _ = Err causes.Count

-- two tokens, and what their values make
abbrev pub two_values : {A B : Type 0} → (List ℕ → Result A Cause) → (List ℕ → Result B Cause) → (A → B → Item) → List (List ℕ) → Result Item Cause
two_values first second make (token ∷ other ∷ []) = Ok make ⊛ first token ⊛ second other
two_values first second make _ = Err causes.Count

-- `params`: a stream, frames a second, channels, and the format of a sample
abbrev pub params_item : List (List ℕ) → Result Item Cause
params_item (stream ∷ rate ∷ channels ∷ format ∷ []) =
    Ok (λ s r c f. Do (command.Params s (record { rate = r; channels = c; format = f })))
    ⊛ name_value stream ⊛ any_number rate ⊛ number_value 0 255 channels ⊛ format_value format
params_item _ = Err causes.Count

-- `set`: a control and one to eight numbers
abbrev pub values_item : List (List ℕ) → Result Item Cause
values_item (control ∷ value ∷ values) =
    if nat_le (length values) 7
    then Ok (λ c vs. Do (command.Set c vs)) ⊛ name_value control ⊛ number_values (value ∷ values)
    else Err causes.Count
values_item _ = Err causes.Count

-- what a first token and the tokens after it say; a first token that is none of these words is a fault
abbrev pub said_by : List ℕ → List (List ℕ) → Result Item Cause
said_by word args =
    if bytes_eq word (codes "in") then two_values name_value file_value (λ e f. Bind true e f) args
    else if bytes_eq word (codes "out") then two_values name_value file_value (λ e f. Bind false e f) args
    else if bytes_eq word (codes "load") then alone command.Load args
    else if bytes_eq word (codes "unload") then alone command.Unload args
    else if bytes_eq word (codes "suspend") then alone command.Suspend args
    else if bytes_eq word (codes "resume") then alone command.Resume args
    else if bytes_eq word (codes "show") then alone command.Show args
    else if bytes_eq word (codes "open") then one_value name_value command.Open args
    else if bytes_eq word (codes "start") then one_value name_value command.Start args
    else if bytes_eq word (codes "stop") then one_value name_value command.Stop args
    else if bytes_eq word (codes "pause") then one_value name_value command.Pause args
    else if bytes_eq word (codes "release") then one_value name_value command.Release args
    else if bytes_eq word (codes "close") then one_value name_value command.Close args
    else if bytes_eq word (codes "get") then one_value name_value command.Get args
    else if bytes_eq word (codes "read") then one_value name_value command.Read args
    else if bytes_eq word (codes "params") then params_item args
    else if bytes_eq word (codes "set") then values_item args
    else if bytes_eq word (codes "bytes") then two_values name_value hex_value (λ c bytes. Do (command.Bytes c bytes)) args
    else if bytes_eq word (codes "tick") then one_value (number_value 1 60000) command.Tick args
    else if bytes_eq word (codes "refuse") then two_values message_number error_value (λ k e. Do (command.Refuse k e)) args
    else if bytes_eq word (codes "drop") then one_value (number_value 1 100000) command.Drop args
    else if bytes_eq word (codes "lose") then one_value (number_value 1 100000) command.Lose args
    else if bytes_eq word (codes "lag") then two_values message_number (number_value 1 16) (λ k n. Do (command.Lag k n)) args
    else Err causes.Word

-- tokens; none where the quotes of the line are broken
abbrev pub item_of : Option (List (List ℕ)) → Result Item Cause
item_of None = Err causes.Quote
item_of (Some []) = Ok Nothing
item_of (Some (word ∷ args)) = said_by word args

-- what a line is, or its least cause
abbrev pub line_item : List ℕ → Result Item Cause
line_item line = if is_skipped line then Ok Nothing else if all_plain line then item_of (tokens_of line) else Err causes.Byte

-- ---- all lines

-- a binding with its file's bytes
pub record Bound : Type 0 where
  pub line : ℕ
  pub input : Bool
  pub endpoint : List ℕ
  pub file : List ℕ

-- bindings and commands
pub record Read : Type 0 where
  pub bindings : List Bound
  pub commands : List Numbered

-- a line's item before what the lines after it are; the first line at fault decides
abbrev pub with_item : ℕ → Result Item Cause → Result Read ScriptFault → Result Read ScriptFault
with_item line (Err cause) rest = Err (Line line (cause_number cause))
with_item line (Ok item) (Err fault) = Err fault
with_item line (Ok Nothing) (Ok read) = Ok read
with_item line (Ok (Bind input endpoint file)) (Ok read) =
    Ok (record { bindings = record { line = line; input = input; endpoint = endpoint; file = file } ∷ read.bindings; commands = read.commands })
with_item line (Ok (Do c)) (Ok read) = Ok (record { bindings = read.bindings; commands = record { line = line; command = c } ∷ read.commands })

-- lines, numbered from a number on
unfoldable pub lines_read : ℕ → List (List ℕ) → Result Read ScriptFault
lines_read number [] = Ok (record { bindings = []; commands = [] })
lines_read number (line ∷ lines) = with_item number (line_item (without_return line)) (lines_read (number + 1) lines)

-- the script of bytes, or its first line at fault with the number of the least cause there
abbrev pub script_of : List ℕ → Result Read ScriptFault
script_of bytes = lines_read 1 (lines_of bytes)
