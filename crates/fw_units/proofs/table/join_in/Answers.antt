use Rattle.stream_law.proofs.TurnLaws.{map_step}
use Rattle.fw_units.specs.Changes.{joined_at}
use Rattle.fw_units.proofs.table.join_in.Goals as goal

pub loop-component-preserved : goal.loop-component-preserved
loop-component-preserved c =
    map_step (joined_at c.args.join) c.loop-component.component-index c.deref_mut-component-items.result.now c.loop-component.component-items _ c.join.new.self c.loop-component-test.true c.loop-component.invariant c.join.ensures
