-- The lines that `compile` says.
use Rattle.std.specs.Prelude.{ℕ, List, ◌++◌, length, codes, decimal}
use Rattle.tplg_compile.specs.declared.source_fault.List.{List as SourceList}
use Rattle.tplg_compile.specs.declared.source_fault.List.TheVariants.{Top, Widget, Route, Pcm}
use Rattle.tplg_compile.specs.declared.source_fault.SourceFault.{SourceFault}
use Rattle.tplg_compile.specs.declared.source_fault.SourceFault.TheVariants.{Syntax, Shape, Rule, OutOfMemory}
use Rattle.run_desk.specs.Lines.{no_memory_line, with_newline, count_line}

-- the word of a list of a source
abbrev pub list_word : SourceList → List ℕ
list_word Top = codes "top"
list_word Widget = codes "widget"
list_word Route = codes "route"
list_word Pcm = codes "pcm"

-- the line of a source that is refused
abbrev pub source_line : SourceFault → List ℕ
source_line Syntax = codes "source syntax\n"
source_line (Shape list entry) = with_newline (codes "source shape " ++ list_word list ++ codes " " ++ decimal entry)
source_line (Rule rule item) = with_newline (codes "source rule " ++ decimal rule ++ codes " " ++ decimal item)
source_line OutOfMemory = no_memory_line

-- and the status
abbrev pub source_status : SourceFault → ℕ
source_status OutOfMemory = 7
source_status fault = 4

-- how many bytes the file has
abbrev pub wrote_line : List ℕ → List ℕ
wrote_line bytes = count_line (codes "wrote ") (length bytes)
