-- Forms and names of files, as code makes them.
use Rattle.std.specs.Prelude.{ℕ, Bool, List, Option}
use Rattle.run_words.specs.Words.{Form}
use Rattle.run_words.specs.ToolForms.{CompileNames, SourceFiles}

-- a form of these parts
abbrev pub form : Bool → ℕ → List ℕ → List ℕ → Option (List ℕ) → Form
form on_use heap topology script trace = record { on_use = on_use; heap = heap; topology = topology; script = script; trace = trace }

-- these names
abbrev pub names : List ℕ → List ℕ → CompileNames
names source out = record { source = source; out = out }

abbrev pub source_files : List ℕ → List ℕ → SourceFiles
source_files topology out = record { topology = topology; out = out }
