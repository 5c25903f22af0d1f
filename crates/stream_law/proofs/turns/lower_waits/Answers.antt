use Rattle.stream_law.specs.Waiting.{lowered}
use Rattle.stream_law.proofs.TurnLaws.{map_step, map_end}
use Rattle.stream_law.proofs.turns.lower_waits.Goals as goal

pub loop-turn-preserved : goal.loop-turn-preserved
loop-turn-preserved c = map_step (lowered c.args.end) c.loop-turn.turn-index c.args.left.now c.loop-turn.left _ c.lowered.result c.loop-turn-test.true c.loop-turn.invariant c.lowered.ensures

pub returns : goal.returns
returns c = map_end (lowered c.args.end) c.loop-turn.turn-index c.args.left.now c.loop-turn.left c.loop-turn-test.false c.loop-turn.invariant
