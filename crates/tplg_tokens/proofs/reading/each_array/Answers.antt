use Rattle.std.proofs.lemmas.Result.{err_from_is_err_and}
use Rattle.tplg_model.proofs.ArrayListLaws.{SoFar-none, SoFar-more, SoFar-all}
use Rattle.tplg_tokens.proofs.ArrayLoops.{stops}
use Rattle.tplg_tokens.proofs.reading.each_array.Goals as goal

pub loop-used-init : goal.loop-used-init
loop-used-init c = rw c.new-arrays.ensures (SoFar-none c.args.bytes.now)

pub returns-in_err-size : goal.returns-in_err-size
returns-in_err-size c =
    let p = err_from_is_err_and c.from_residual.result c.from_residual.ensures.1 in
    rw (p.1, p.2) (stops c.args.bytes.now c.loop-used.arrays c.loop-used.used c.in_err-size.field-0.0 c.loop-used-test.true c.loop-used.invariant (rw c.split_at.ensures.back at c.in_err-size.ensures.fault))

pub loop-used-preserved : goal.loop-used-preserved
loop-used-preserved c =
    let whole = rw c.split_at.ensures.back at c.in_ok-size.ensures.whole in
    rw (c.in_ok-push.ensures.ok, c.in_ok-read_array.ensures, whole.1, c.split_at.ensures.back) (SoFar-more c.args.bytes.now c.loop-used.arrays c.loop-used.used c.loop-used-test.true c.loop-used.invariant whole.0)

pub returns : goal.returns
returns c = SoFar-all c.args.bytes.now c.loop-used.arrays c.loop-used.used c.loop-used-test.false c.loop-used.invariant
