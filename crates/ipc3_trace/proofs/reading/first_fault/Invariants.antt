use Rattle.std.proofs.Common.{◌≤◌, ◌-◌, length}
use Rattle.ipc3_trace.specs.Reading.{trace_in}
use Rattle.ipc3_trace.proofs.WholeLaws.{EndFrom}
use Rattle.ipc3_trace.proofs.reading.first_fault.Given as goal

-- the records that are left end as all of them do
abbrev pub invariant-records : goal.invariant-records
invariant-records l = record {
  within : l.at ≤ length l.bytes;
  left : EndFrom l.bytes l.at (trace_in l.bytes).1;
}

abbrev pub decreases-records : goal.decreases-records
decreases-records l = length l.bytes - l.at
