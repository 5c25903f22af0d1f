-- Parts of lines and pieces, as code makes them.
use Rattle.std.specs.Prelude.{◌≡◌, ◌⊎◌, ℕ, Bool, true, false, List, ◌∷◌, map, Option}
use Rattle.sof_desk.specs.Desk.{DeskPlace, Slot, Spoken}
use Rattle.sof_script.specs.declared.script.Command.{Command}
use Rattle.sof_script.specs.declared.script.Command.TheVariants.{Show}
use Rattle.sof_script.specs.Text.{answer_line}
use Rattle.sof_script.specs.Tasks.{Written, Out}
use Rattle.run_desk.specs.Lines.{with_newline}
use Rattle.run_play.specs.Pieces.{Piece, opened}

-- whether a command shows how everything stands
abbrev pub is_show : Command → Bool
is_show Show = true
is_show command = false

-- what was written to an output is one piece
abbrev pub slot_pieces : List Written → List Piece
slot_pieces written = map (λ w. (Slot w.0, w.1)) written

-- each line is one piece
abbrev pub line_pieces : List (List ℕ) → List Piece
line_pieces lines = map (λ line. (Spoken, with_newline line)) lines

-- a place is as it was, or as it is once these slots' files are created
abbrev pub IsKeptOrOpened : List ℕ → DeskPlace → Option (List ℕ) → Option (List ℕ) → Type 0
IsKeptOrOpened slots place old new = (new ≡ old) ⊎ (new ≡ opened slots place old)

-- the lines of a command: its answer, and what it shows
abbrev pub spoken : ℕ → Out → List (List ℕ)
spoken number out = answer_line number out.answer ∷ out.shown
