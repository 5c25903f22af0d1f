use Rattle.std.proofs.Common.{arith}
use Rattle.std.proofs.lemmas.Result.{err_from_is_err_and}
use Rattle.tplg_model.specs.Reading.{blocks_of}
use Rattle.tplg_model.proofs.FileLaws.{SoFar-none, SoFar-more, SoFar-fails, SoFar-all}
use Rattle.tplg_read.proofs.blocks.blocks_of.Goals as goal

pub loop-used-init : goal.loop-used-init
loop-used-init c = rw c.new-blocks.ensures (SoFar-none c.args.bytes.now)

pub returns-in_err-block : goal.returns-in_err-block
returns-in_err-block c =
    let p = err_from_is_err_and c.from_residual.result c.from_residual.ensures.1 in
    rw (p.1, p.2) (SoFar-fails c.args.bytes.now c.loop-used.blocks c.loop-used.used (blocks_of c.args.bytes.now) c.in_err-block.field-0.0 c.loop-used-test.true c.loop-used.invariant (rw c.split_at.ensures.back at c.in_err-block.ensures.gives))

pub loop-used-preserved : goal.loop-used-preserved
loop-used-preserved c =
    rw c.in_ok-push.ensures.ok (SoFar-more c.args.bytes.now c.loop-used.blocks c.loop-used.used (blocks_of c.args.bytes.now) c.in_ok-block.block c.in_ok-block.size c.loop-used-test.true c.loop-used.invariant (rw c.split_at.ensures.back at c.in_ok-block.ensures.gives) (omega (arith, c.in_ok-block.ensures.within, c.split_at.ensures.back_len)) c.in_ok-block.ensures.some)

pub returns : goal.returns
returns c = SoFar-all c.args.bytes.now c.loop-used.blocks c.loop-used.used (blocks_of c.args.bytes.now) c.loop-used-test.false c.loop-used.invariant
