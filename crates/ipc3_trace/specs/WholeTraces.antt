-- Bytes as a whole trace.
use Rattle.std.specs.Prelude.{◌≡◌, ℕ, ◌≤◌, List, length, take, Option, Some, None}
use Rattle.std.specs.List.{AllByRecursion}
use Rattle.ipc3_trace.specs.declared.entry.Entry.{Entry}
use Rattle.ipc3_trace.specs.declared.fault.TraceFault.{TraceFault}
use Rattle.ipc3_trace.specs.Records.{IsEntry, records_bytes}
use Rattle.ipc3_trace.specs.TraceFaults.{IsFaultAt}

-- bytes end at a place, or are at fault there
abbrev pub IsOverAt : List ℕ → ℕ → Option TraceFault → Type 0
IsOverAt bytes at None = at ≡ length bytes
IsOverAt bytes at (Some fault) = (at ≤ length bytes) × IsFaultAt bytes at fault

-- bytes are these records, one after the other, up to their end or to their first fault
pub record IsTraceOf (bytes : List ℕ) (es : List Entry) (fault : Option TraceFault) : Type 0 where
  pub are : AllByRecursion IsEntry es
  pub stand : take (length (records_bytes es)) bytes ≡ records_bytes es
  pub ends : IsOverAt bytes (length (records_bytes es)) fault
