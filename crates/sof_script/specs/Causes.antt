-- The causes of a line at fault: their numbers, and what is said of them.
use Rattle.std.specs.Prelude.{ℕ, ◌==◌, nat_le, if◌then◌else◌, List, codes}
use Rattle.sof_script.specs.declared.fault_causes.Cause.{Cause}
use Rattle.sof_script.specs.declared.fault_causes.Cause.TheVariants.{Byte, Quote, Word, Count, Number, Hex, Name}

-- the number that is reported of a cause
abbrev pub cause_number : Cause → ℕ
cause_number Byte = 1
cause_number Quote = 2
cause_number Word = 3
cause_number Count = 4
cause_number Number = 5
cause_number Hex = 6
cause_number Name = 7

-- of two causes, the one with the lesser number
abbrev pub least_cause : Cause → Cause → Cause
least_cause first second = if nat_le (cause_number first) (cause_number second) then first else second

-- what is said of a cause, from its number
abbrev pub cause_words : ℕ → List ℕ
cause_words n =
    if n == 1 then codes "byte"
    else if n == 2 then codes "quote"
    else if n == 3 then codes "word"
    else if n == 4 then codes "count"
    else if n == 5 then codes "number"
    else if n == 6 then codes "hex"
    else codes "name"
