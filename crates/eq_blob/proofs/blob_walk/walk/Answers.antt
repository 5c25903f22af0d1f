use Rattle.std.proofs.Common.{rules, ◌≡◌, ◌∙◌, ◌++◌, Err, sym, ap}
use Rattle.sof_base.specs.Blob as form
use Rattle.sof_base.specs.BlobFaults.{blob_fault, head_tests, assignment_tests, response_tests}
use Rattle.sof_base.proofs.FirstFaults.{tests_of, first-append, first-found}
use Rattle.eq_blob.specs.Faults.{said, told}
use Rattle.eq_blob.proofs.blob_walk.walk.Goals as goal

pub returns-in_err-check_assignments : goal.returns-in_err-check_assignments
unfolding blob_fault
returns-in_err-check_assignments c =
    let b = c.args.blob.now in
    let assignments = tests_of (assignment_tests b) 0 (form.blob_channels b) in
    let responses = tests_of (response_tests b) 0 (form.blob_responses b) in
    let out : c.from_residual-in_err-check_assignments.result ≡ Err c.in_err-check_assignments.field-0.0 = search rules in
    ap told out
    ∙ sym (first-append (head_tests b) (assignments ++ responses) (sym c.in_ok-check_head.ensures)
    ∙ first-found assignments responses (said c.in_err-check_assignments.field-0.0) (sym c.in_err-check_assignments.ensures.told))

pub returns : goal.returns
unfolding blob_fault
returns c =
    let b = c.args.blob.now in
    let assignments = tests_of (assignment_tests b) 0 (form.blob_channels b) in
    let responses = tests_of (response_tests b) 0 (form.blob_responses b) in
    c.check_responses.ensures
    ∙ sym (first-append (head_tests b) (assignments ++ responses) (sym c.in_ok-check_head.ensures)
    ∙ first-append assignments responses (sym c.in_ok-check_assignments.ensures.told))
