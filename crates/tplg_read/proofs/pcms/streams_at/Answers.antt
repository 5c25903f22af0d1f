use Rattle.std.proofs.lemmas.Result.{err_from_is_err_and}
use Rattle.tplg_model.specs.Reading.{stream_step, streams_step}
use Rattle.tplg_model.proofs.PartLaws.{Parts-none, Parts-more, Parts-fails, Parts-all}
use Rattle.tplg_read.proofs.pcms.streams_at.Goals as goal

pub loop-k-init : goal.loop-k-init
loop-k-init c = rw c.new-streams.ensures (Parts-none 72 (stream_step c.args.at c.args.bytes.now) 8 112)

pub returns-in_err-stream : goal.returns-in_err-stream
unfolding streams_step
returns-in_err-stream c =
    let p = err_from_is_err_and c.from_residual.result c.from_residual.ensures.1 in
    rw (p.1, p.2) (Parts-fails 72 (stream_step c.args.at c.args.bytes.now) 8 c.loop-k.k 112 c.loop-k.streams c.in_err-stream.field-0.0 c.loop-k-test.true c.loop-k.invariant c.in_err-stream.ensures)

pub loop-k-preserved : goal.loop-k-preserved
loop-k-preserved c = rw c.in_ok-push.ensures.ok (Parts-more 72 (stream_step c.args.at c.args.bytes.now) 8 c.loop-k.k 112 c.loop-k.streams c.in_ok-stream.stream c.loop-k-test.true c.loop-k.invariant c.in_ok-stream.ensures)

pub returns : goal.returns
unfolding streams_step
returns c = rw c.of.ensures (Parts-all 72 (stream_step c.args.at c.args.bytes.now) 8 c.loop-k.k 112 c.loop-k.streams c.loop-k-test.false c.loop-k.invariant)
