use Rattle.std.proofs.Common.{rules, ◌≡◌, ◌<◌, ◌∙◌, None, Err, sym, ap, subst, arith}
use Rattle.sof_base.specs.Blob as form
use Rattle.sof_base.specs.BlobFaults.{first_fault, response_tests}
use Rattle.sof_base.proofs.FirstFaults.{tests_of, first-more, first-at}
use Rattle.eq_blob.specs.Faults.{said, told}
use Rattle.eq_blob.proofs.blob_walk.check_responses.Goals as goal

pub returns-in_err-place : goal.returns-in_err-place
returns-in_err-place c =
    let b = c.args.blob.now in
    let out : c.from_residual.result ≡ Err c.in_err-place.field-0.0 = search rules in
    let low : c.loop-response.response < form.blob_responses b = subst (λ n. c.loop-response.response < n) c.word-response-end.ensures c.loop-response-test.true in
    ap told out
    ∙ sym (first-at (response_tests b) c.loop-response.response (form.blob_responses b) (said c.in_err-place.field-0.0) low c.loop-response.invariant.none (sym c.in_err-place.ensures.told))

pub loop-response-preserved : goal.loop-response-preserved
loop-response-preserved c = record {
  none = first-more (response_tests c.args.blob.now) c.loop-response.response c.loop-response.invariant.none (sym c.in_ok-place.ensures.told);
  at = c.in_ok-place.ensures.end.0;
  there = c.in_ok-place.ensures.end.1;
}

pub returns : goal.returns
returns c =
    let b = c.args.blob.now in
    let all : c.loop-response.response ≡ c.word-response-end.result = omega (arith, c.loop-response-test.false, c.loop-response.auto.response-end) in
    sym (subst (λ n. first_fault (tests_of (response_tests b) 0 n) ≡ None) (all ∙ c.word-response-end.ensures) c.loop-response.invariant.none)
