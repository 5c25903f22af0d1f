-- The words of `serve`, and the lines that it says.
use Rattle.std.specs.Prelude.{ℕ, ◌&&◌, List, [], ◌∷◌, Option, Some, None, codes, if◌then◌else◌}
use Rattle.std.specs.Str.{bytes_eq}
use Rattle.ipc3_trace.specs.declared.fault.TraceFault.{TraceFault}
use Rattle.ipc3_trace.specs.declared.fault.TraceFault.TheVariants.{Short, Kind, Size}
use Rattle.ipc3_trace.specs.declared.fault.ReplayFault.TheVariants as faults
use Rattle.ipc3_trace.specs.FaultLines.{replay_fault_line, trace_fault_line}
use Rattle.run_words.specs.Words.{is_file_name}
use Rattle.run_serve.specs.declared.lines.Wrong.{Wrong}
use Rattle.run_serve.specs.declared.lines.Wrong.TheVariants.{Broken, Order}

-- ---- the words

-- what `serve` is given: the names of the file of a driver's records, and of that of what comes back
pub record ServeNames : Type 0 where
  pub requests : List ℕ
  pub replies : List ℕ

abbrev pub serve_names : List ℕ → List ℕ → ServeNames
serve_names requests replies = record { requests = requests; replies = replies }

-- `serve REQUESTS REPLIES`
abbrev pub serve_of : List (List ℕ) → Option ServeNames
serve_of (verb ∷ requests ∷ replies ∷ []) =
    if bytes_eq verb (codes "serve") && (is_file_name requests && is_file_name replies) then Some (serve_names requests replies) else None
serve_of _ = None

-- ---- what is said

-- a fault whose record stands at a place of the file
abbrev pub fault_at : ℕ → TraceFault → TraceFault
fault_at at (Short place) = Short at
fault_at at (Kind place number) = Kind at number
fault_at at (Size place) = Size at

-- of a record at fault, which stands at a place of the file: as `decode` and `replay` say it
abbrev pub wrong_line : Wrong → ℕ → List ℕ
wrong_line (Broken fault) at = trace_fault_line (fault_at at fault)
wrong_line Order at = replay_fault_line (faults.Order at)

abbrev pub too_long_line : List ℕ
too_long_line = codes "too long trace\n"
