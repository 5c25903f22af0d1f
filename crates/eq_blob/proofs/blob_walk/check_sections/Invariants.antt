use Rattle.std.proofs.Common.{◌≡◌, ◌≤◌, ◌+◌, ◌*◌, length, None}
use Rattle.std.specs.List.{flat_map, range_with_len}
use Rattle.sof_base.specs.BlobFaults.{first_fault, section_tests}
use Rattle.eq_blob.proofs.blob_walk.check_sections.Given as goal

-- the sections so far have no fault
abbrev pub invariant-loop-section : goal.invariant-loop-section
invariant-loop-section l = record {
  none : first_fault (flat_map (section_tests l.blob l.response) (range_with_len 0 l.section)) ≡ None;
  end : l.place + 24 + 28 * l.section ≤ length l.blob;
}
