-- What `check` and `graph` have to do, by the bytes of the file that their words name: the lines differ.
use Rattle.std.specs.Prelude.{ℕ, List, [], ◌∷◌, Result, Ok, Err, codes}
use Rattle.sof_desk.specs.Desk.{Put, Spoken}
use Rattle.tplg_model.specs.declared.block.Topology.{Topology}
use Rattle.run_desk.specs.declared.preparing.Halt.{Halt}
use Rattle.run_desk.specs.Todo.{Todo, End, Stop, Ask, Do, Free}
use Rattle.run_desk.specs.Lines.{halt_line, halt_status}
use Rattle.run_desk.specs.Prepared.{checked}

-- one say for each line, which has its newline
abbrev pub said_todo : List (List ℕ) → Todo → Todo
said_todo [] rest = rest
said_todo (line ∷ lines) rest = Do (Put Spoken line) (said_todo lines rest)

-- what is to do then
abbrev pub checked_todo : (Topology → List (List ℕ)) → Result Topology Halt → Todo
checked_todo lines (Ok t) = said_todo (lines t) End
checked_todo lines (Err why) = Stop (halt_line why) (halt_status why)

-- the file is loaded and checked, and these lines of its topology are said
abbrev pub check : (Topology → List (List ℕ)) → List ℕ → Todo
check lines name = Ask name 1048576 (codes "too long topology\n") (λ bytes. Free (checked_todo lines (checked bytes)))
