use Rattle.std.proofs.Common.{◌≡◌, ◌≤◌, length, None}
use Rattle.std.specs.List.{flat_map, range_with_len}
use Rattle.sof_base.specs.Blob.{response_at}
use Rattle.sof_base.specs.BlobFaults.{first_fault, response_tests}
use Rattle.eq_blob.proofs.blob_walk.check_responses.Given as goal

-- the responses so far have no fault
abbrev pub invariant-loop-response : goal.invariant-loop-response
invariant-loop-response l = record {
  none : first_fault (flat_map (response_tests l.blob) (range_with_len 0 l.response)) ≡ None;
  at : l.place ≡ response_at l.blob l.response;
  there : l.place ≤ length l.blob;
}
