-- What `decode` has to do, by the bytes of the file that its words name.
use Rattle.std.specs.Prelude.{ℕ, List, map, Option, Some, None, codes}
use Rattle.ipc3_trace.specs.declared.entry.Entry.{Entry}
use Rattle.ipc3_trace.specs.declared.fault.TraceFault.{TraceFault}
use Rattle.ipc3_trace.specs.EntryLines.{entry_line}
use Rattle.ipc3_trace.specs.Reading.{trace_in}
use Rattle.ipc3_trace.specs.FaultLines.{trace_fault_line}
use Rattle.run_desk.specs.Todo.{Todo, End, Stop, Ask}
use Rattle.run_desk.specs.LinesTodo.{lines_todo}

-- the first fault is reported, where there is one
abbrev pub fault_todo : Option TraceFault → Todo
fault_todo None = End
fault_todo (Some fault) = Stop (trace_fault_line fault) 2

-- a line for each record comes before
abbrev pub decoded_todo : List Entry → Option TraceFault → Todo
decoded_todo es fault = lines_todo (map entry_line es) (fault_todo fault)

-- the file is loaded and described
abbrev pub decode : List ℕ → Todo
decode name = Ask name 16777216 (codes "too long trace\n") (λ bytes. decoded_todo (trace_in bytes).0 (trace_in bytes).1)
