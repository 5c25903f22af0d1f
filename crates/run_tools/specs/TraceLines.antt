-- What is said of a trace: the lines of its records, and the line of its first fault.
use Rattle.std.specs.Prelude.{ℕ, List, [], ◌∷◌, ◌++◌, map, Option, Some, None}
use Rattle.ipc3_trace.specs.declared.entry.Entry.{Entry}
use Rattle.ipc3_trace.specs.declared.fault.TraceFault.{TraceFault}
use Rattle.ipc3_trace.specs.EntryLines.{entry_line}
use Rattle.ipc3_trace.specs.FaultLines.{trace_fault_line}
use Rattle.run_desk.specs.Lines.{with_newline}

abbrev pub fault_lines : Option TraceFault → List (List ℕ)
fault_lines None = []
fault_lines (Some fault) = trace_fault_line fault ∷ []

-- one line for each record, and one for the fault after them
abbrev pub trace_lines : List Entry → Option TraceFault → List (List ℕ)
trace_lines es fault = map (λ e. with_newline (entry_line e)) es ++ fault_lines fault

-- and the status
abbrev pub trace_status : Option TraceFault → ℕ
trace_status None = 0
trace_status (Some fault) = 2
