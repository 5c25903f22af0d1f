-- The line of a command.
use Rattle.std.specs.Prelude.{ℕ, List, [], ◌∷◌, ◌++◌, codes, decimal}
use Rattle.std.specs.Fmt.{signed_decimal}
use Rattle.std.specs.List.{flat_map}
use Rattle.hex.specs.Hex.{encode_lower}
use Rattle.host_widgets.specs.declared.answers.Answer.{Answer}
use Rattle.host_widgets.specs.declared.answers.Answer.TheVariants as answer
use Rattle.host_widgets.specs.declared.answers.HostFault.{HostFault}
use Rattle.host_widgets.specs.declared.answers.HostFault.TheVariants as fault
use Rattle.host_widgets.specs.declared.kept.Found.{Found}
use Rattle.host_widgets.specs.declared.kept.Found.TheVariants as found

-- each number in decimal, after a blank
abbrev pub values_words : List ℕ → List ℕ
values_words values = flat_map (λ value. codes " " ++ decimal value) values

-- bytes in hex, in lower case; `-` where there are none
abbrev pub bytes_word : List ℕ → List ℕ
bytes_word [] = codes "-"
bytes_word (b ∷ bytes) = encode_lower (b ∷ bytes)

-- how something stands
abbrev pub found_word : Found → List ℕ
found_word found.Closed = codes "closed"
found_word found.Open = codes "open"
found_word found.Prepared = codes "prepared"
found_word found.Running = codes "running"
found_word found.Paused = codes "paused"
found_word found.On = codes "on"

-- a fault's words, each after a blank
abbrev pub fault_words : HostFault → List ℕ
fault_words fault.NotLoaded = codes " not loaded"
fault_words fault.Loaded = codes " loaded"
fault_words (fault.NoSuch name) = codes " no such " ++ name
fault_words (fault.State stand) = codes " state " ++ found_word stand
fault_words fault.Off = codes " off"
fault_words (fault.Range value) = codes " range " ++ decimal value
fault_words (fault.Refused error) = codes " refused " ++ signed_decimal error.0
fault_words fault.LinkDown = codes " link down"
fault_words (fault.Blob number) = codes " blob " ++ decimal number

-- an answer's words, each after a blank
abbrev pub answer_words : Answer → List ℕ
answer_words answer.Done = codes " ok"
answer_words (answer.Values values) = codes " value" ++ values_words values
answer_words (answer.Bytes bytes) = codes " bytes " ++ bytes_word bytes
answer_words (answer.Fault f) = fault_words f
answer_words answer.PlanFull = codes " plan full"
answer_words answer.Show = codes " show"

-- the number of the command's line, and the answer's words
abbrev pub answer_line : ℕ → Answer → List ℕ
answer_line number a = decimal number ++ answer_words a
