-- The words of `check`, `graph`, `compile`, `source` and `stress`.
use Rattle.std.specs.Prelude.{ℕ, List, [], ◌∷◌, Option, codes, ◌&&◌, Some, None, if◌then◌else◌}
use Rattle.run_words.specs.Words.{named_by, is_file_name}
use Rattle.std.specs.Str.{bytes_eq}
use Rattle.std.specs.Result.{result_ok}
use Rattle.sof_script.specs.ValueForms.{number_value}

-- `check TOPOLOGY`: the name of its file
abbrev pub check_of : List (List ℕ) → Option (List ℕ)
check_of words = named_by (codes "check") words

-- `graph TOPOLOGY`: the name of its file
abbrev pub graph_file_of : List (List ℕ) → Option (List ℕ)
graph_file_of words = named_by (codes "graph") words

-- what `compile` is given: the names of a source and of the file that is made
pub record CompileNames : Type 0 where
  pub source : List ℕ
  pub out : List ℕ

-- `compile SOURCE OUT`
abbrev pub compile_of : List (List ℕ) → Option CompileNames
compile_of (verb ∷ source ∷ out ∷ []) =
    if bytes_eq verb (codes "compile") && (is_file_name source && is_file_name out) then Some (record { source = source; out = out }) else None
compile_of _ = None

-- what `source` is given: the names of a topology and of the source that is made
pub record SourceFiles : Type 0 where
  pub topology : List ℕ
  pub out : List ℕ

-- `source TOPOLOGY OUT`
abbrev pub source_files_of : List (List ℕ) → Option SourceFiles
source_files_of (verb ∷ topology ∷ out ∷ []) =
    if bytes_eq verb (codes "source") && (is_file_name topology && is_file_name out) then Some (record { topology = topology; out = out }) else None
source_files_of _ = None

-- `stress N`, of a number from 1 to 1000
abbrev pub stress_of : List (List ℕ) → Option ℕ
stress_of (verb ∷ number ∷ []) = if bytes_eq verb (codes "stress") then result_ok (number_value 1 1000 number) else None
stress_of _ = None
