-- What `compile` has to do, by the bytes of the source that its words name.
use Rattle.std.specs.Prelude.{◌≡◌, ℕ, List, [], ◌∷◌, Some, Result, Ok, Err, codes}
use Rattle.sof_desk.specs.Desk.{DeskMeaning, Create, Put, Slot}
use Rattle.tplg_model.specs.declared.block.Topology.{Topology}
use Rattle.tplg_model.specs.File.{IsTopology, spelling}
use Rattle.tplg_compile.specs.declared.source_fault.SourceFault.{SourceFault}
use Rattle.tplg_compile.specs.InOrder.{compiled_of}
use Rattle.run_desk.specs.Todo.{Todo, End, Stop, Ask, Do, Free}
use Rattle.run_desk.specs.LinesTodo.{lines_todo}
use Rattle.run_words.specs.ToolForms.{CompileNames, compile_of}
use Rattle.run_tools.specs.Compiling.{source_line, source_status, wrote_line}

-- where the desk tells the source that the words of `compile` name
pub record Sourced {D : Type 0} (means : DeskMeaning D) (words : List (List ℕ)) (old : D) (names : CompileNames) (text : List ℕ) : Type 0 where
  pub named : compile_of words ≡ Some names
  pub told : means.holds old names.source ≡ Some text

-- the file is created in slot 0, all its bytes are appended at once, and their number is said
abbrev pub file_todo : List ℕ → List ℕ → Todo → Todo
file_todo out bytes rest = Do (Create 0 out) (Do (Put (Slot 0) bytes) (lines_todo (wrote_line bytes ∷ []) rest))

-- what is to do with the topology of a source, or with its fault
abbrev pub compiled_todo : List ℕ → Result Topology SourceFault → Todo
compiled_todo out (Ok t) = file_todo out (spelling t) End
compiled_todo out (Err fault) = Stop (source_line fault) (source_status fault)

-- the source is loaded and compiled
abbrev pub compile : CompileNames → Todo
compile names = Ask names.source 1048576 (codes "too long source\n") (λ text. Free (compiled_todo names.out (compiled_of text)))

-- what was made of the source is a topology of the program
abbrev pub MakesTopology : {D : Type 0} → DeskMeaning D → List (List ℕ) → D → ℕ → Type 0
MakesTopology means words old status =
    (names : CompileNames) (text : List ℕ) (t : Topology) → Sourced means words old names text → compiled_of text ≡ Ok t → status ≡ 0 → IsTopology t
