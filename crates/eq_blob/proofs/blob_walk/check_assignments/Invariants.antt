use Rattle.std.proofs.Common.{◌≡◌, ◌≤◌, ◌+◌, ◌*◌, length, None}
use Rattle.std.specs.List.{flat_map, range_with_len}
use Rattle.sof_base.specs.BlobFaults.{first_fault, assignment_tests}
use Rattle.eq_blob.proofs.blob_walk.check_assignments.Given as goal

-- the assignments so far have no fault
abbrev pub invariant-loop-channel : goal.invariant-loop-channel
invariant-loop-channel l = record {
  none : first_fault (flat_map (assignment_tests l.blob) (range_with_len 0 l.channel)) ≡ None;
  end : 60 + 4 * l.channel ≤ length l.blob;
}
