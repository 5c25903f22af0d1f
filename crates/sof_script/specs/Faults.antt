-- What it means that a line of a script is reported.
use Rattle.std.specs.Prelude.{◌≡◌, ℕ, ◌+◌, List, [], ◌∷◌, ◌++◌, length, Ok, Err}
use Rattle.sof_script.specs.declared.fault_causes.Cause.{Cause}
use Rattle.sof_script.specs.declared.items.Item.{Item}
use Rattle.sof_script.specs.declared.reading.ScriptFault.{ScriptFault}
use Rattle.sof_script.specs.declared.reading.ScriptFault.TheVariants.{Line, OutOfMemory}
use Rattle.sof_script.specs.Splitting.{lines_of, without_return}
use Rattle.sof_script.specs.Causes.{cause_number}
use Rattle.sof_script.specs.Commands.{line_item}

-- no line has a fault
abbrev pub AllRight : List (List ℕ) → Type 0
AllRight [] = Unit {0}
AllRight (line ∷ lines) = ((item : Item) × (line_item (without_return line) ≡ Ok item)) × AllRight lines

-- the first line at fault has this number, from 1, and this cause
pub record IsFirstFault (bytes : List ℕ) (number : ℕ) (cause : Cause) : Type 0 where
  pub before : List (List ℕ)
  pub line : List ℕ
  pub behind : List (List ℕ)
  pub lines : lines_of bytes ≡ before ++ line ∷ behind
  pub right : AllRight before
  pub count : number ≡ length before + 1
  pub fault : line_item (without_return line) ≡ Err cause

-- what a fault tells of bytes: a line's number, and that of its cause; want of memory tells nothing
abbrev pub IsToldOf : List ℕ → ScriptFault → Type 0
IsToldOf bytes (Line number told) = (cause : Cause) × (told ≡ cause_number cause) × IsFirstFault bytes number cause
IsToldOf bytes OutOfMemory = Unit {0}
