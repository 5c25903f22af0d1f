use Rattle.stream_law.proofs.TurnLaws.{map_step}
use Rattle.fw_units.specs.Changes.{with_ended}
use Rattle.fw_units.proofs.table.end_in.Goals as goal

pub loop-component-preserved : goal.loop-component-preserved
loop-component-preserved c =
    map_step (with_ended c.args.id) c.loop-component.component-index c.deref_mut-component-items.result.now c.loop-component.component-items _ c.end.new.self c.loop-component-test.true c.loop-component.invariant c.end.ensures
