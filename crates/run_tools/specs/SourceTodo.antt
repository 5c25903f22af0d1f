-- What `source` has to do, by the bytes of the topology that its words name.
use Rattle.std.specs.Prelude.{ℕ, List, Option, Some, None, Result, Ok, Err, codes}
use Rattle.tplg_model.specs.declared.block.Topology.{Topology}
use Rattle.tplg_source.specs.Outcome.{source_for}
use Rattle.run_desk.specs.declared.preparing.Halt.{Halt}
use Rattle.run_desk.specs.Todo.{Todo, End, Stop, Ask, Free}
use Rattle.run_desk.specs.Lines.{halt_line, halt_status}
use Rattle.run_desk.specs.Prepared.{checked}
use Rattle.run_tools.specs.CompileTodo.{file_todo}
use Rattle.run_words.specs.ToolForms.{SourceFiles}
use Rattle.run_tools.specs.Sourcing.{no_source_line}

-- the file of a source is made, where there is one
abbrev pub kept_todo : List ℕ → Option (List ℕ) → Todo
kept_todo out (Some text) = file_todo out text End
kept_todo out None = Stop no_source_line 2

-- what is to do with what the bytes come to
abbrev pub sourced_todo : List ℕ → Result Topology Halt → Todo
sourced_todo out (Ok t) = kept_todo out (source_for t)
sourced_todo out (Err why) = Stop (halt_line why) (halt_status why)

-- the topology is loaded and checked, and its source is made
abbrev pub make_source : SourceFiles → Todo
make_source files = Ask files.topology 1048576 (codes "too long topology\n") (λ bytes. Free (sourced_todo files.out (checked bytes)))
