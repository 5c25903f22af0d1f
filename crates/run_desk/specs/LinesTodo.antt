-- Lines that are to be said.
use Rattle.std.specs.Prelude.{ℕ, List, [], ◌∷◌}
use Rattle.sof_desk.specs.Desk.{Put, Spoken}
use Rattle.run_desk.specs.Todo.{Todo, Do}
use Rattle.run_desk.specs.Lines.{with_newline}

-- one say for each line
abbrev pub lines_todo : List (List ℕ) → Todo → Todo
lines_todo [] rest = rest
lines_todo (line ∷ lines) rest = Do (Put Spoken (with_newline line)) (lines_todo lines rest)
