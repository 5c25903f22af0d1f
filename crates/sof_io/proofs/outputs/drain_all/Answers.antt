use Rattle.sof_io.proofs.OutputPlaces.{drained_step, drained_all}
use Rattle.sof_io.proofs.outputs.drain_all.Goals as goal

pub loop-output-preserved : goal.loop-output-preserved
loop-output-preserved c = drained_step c.loop-output.output-index c.args.outputs.now c.loop-output.outputs c.output-item.result c.drain.new.self c.loop-output-test.true c.loop-output.invariant c.drain.ensures

pub returns : goal.returns
returns c = drained_all c.loop-output.output-index c.args.outputs.now c.loop-output.outputs c.loop-output-test.false c.loop-output.invariant
