use Rattle.std.proofs.Common.{rules, ◌≡◌, ◌≤◌, ◌<◌, ◌+◌, ◌*◌, ◌∙◌, length, None, Err, sym, ap, subst, arith}
use Rattle.sof_base.specs.Blob as form
use Rattle.sof_base.specs.BlobFaults.{first_fault, assignment_tests}
use Rattle.sof_base.proofs.FirstFaults.{tests_of, first-more, first-at}
use Rattle.eq_blob.specs.Faults.{said, told}
use Rattle.eq_blob.proofs.blob_walk.check_assignments.Goals as goal

pub returns-in_err-check_assignment-clause-told : goal.returns-in_err-check_assignment-clause-told
returns-in_err-check_assignment-clause-told c =
    let out : c.from_residual.result ≡ Err c.in_err-check_assignment.field-0.0 = search rules in
    let low : c.loop-channel.channel < form.blob_channels c.args.blob.now = omega (arith, c.loop-channel-test.true, c.word-channels.ensures) in
    ap told out
    ∙ sym (first-at (assignment_tests c.args.blob.now) c.loop-channel.channel (form.blob_channels c.args.blob.now) (said c.in_err-check_assignment.field-0.0) low c.loop-channel.invariant.none (sym c.in_err-check_assignment.ensures.told))

pub loop-channel-preserved : goal.loop-channel-preserved
loop-channel-preserved c = record {
  none = first-more (assignment_tests c.args.blob.now) c.loop-channel.channel c.loop-channel.invariant.none (sym c.in_ok-check_assignment.ensures.told);
  end = let end : 60 + 4 * c.loop-channel.channel + 4 ≤ length c.args.blob.now = c.in_ok-check_assignment.ensures.end in omega (arith, end);
}

pub returns-clause-told : goal.returns-clause-told
returns-clause-told c =
    let all : c.loop-channel.channel ≡ form.blob_channels c.args.blob.now = omega (arith, c.loop-channel-test.false, c.loop-channel.auto.channel-end, c.word-channels.ensures) in
    sym (subst (λ n. first_fault (tests_of (assignment_tests c.args.blob.now) 0 n) ≡ None) all c.loop-channel.invariant.none)

pub returns-clause-end : goal.returns-clause-end
returns-clause-end c = omega (arith, c.loop-channel-test.false, c.loop-channel.auto.channel-end, c.word-channels.ensures, c.loop-channel.invariant.end)
