-- The line of the first record at fault of a trace, or of one that is given to a device.
use Rattle.std.specs.Prelude.{ℕ, List, ◌++◌, codes, decimal}
use Rattle.ipc3_trace.specs.declared.fault.TraceFault.{TraceFault}
use Rattle.ipc3_trace.specs.declared.fault.TraceFault.TheVariants.{Short, Kind, Size}
use Rattle.ipc3_trace.specs.declared.fault.ReplayFault.{ReplayFault}
use Rattle.ipc3_trace.specs.declared.fault.ReplayFault.TheVariants.{Broken, Order, Lost, Replied}

-- the first fault of bytes with the place of its record, and the number of a kind that is none
abbrev pub trace_fault_words : TraceFault → List ℕ
trace_fault_words (Short at) = codes "short " ++ decimal at
trace_fault_words (Kind at number) = codes "kind " ++ decimal at ++ codes " " ++ decimal number
trace_fault_words (Size at) = codes "size " ++ decimal at

-- or a record that can't come where it stands, or is not what the device does, with its place
abbrev pub replay_fault_words : ReplayFault → List ℕ
replay_fault_words (Broken fault) = trace_fault_words fault
replay_fault_words (Order at) = codes "order " ++ decimal at
replay_fault_words (Lost at) = codes "lost " ++ decimal at
replay_fault_words (Replied at) = codes "reply " ++ decimal at

-- with its newline
abbrev pub replay_fault_line : ReplayFault → List ℕ
replay_fault_line fault = codes "trace " ++ replay_fault_words fault ++ codes "\n"

abbrev pub trace_fault_line : TraceFault → List ℕ
trace_fault_line fault = replay_fault_line (Broken fault)
