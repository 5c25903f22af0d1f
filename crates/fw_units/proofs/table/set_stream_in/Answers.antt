use Rattle.stream_law.proofs.TurnLaws.{map_step}
use Rattle.fw_units.specs.Changes.{set_at}
use Rattle.fw_units.proofs.table.set_stream_in.Goals as goal

pub loop-component-preserved : goal.loop-component-preserved
loop-component-preserved c =
    map_step (set_at c.args.id c.args.phase c.args.params) c.loop-component.component-index c.deref_mut-component-items.result.now c.loop-component.component-items _ c.set_stream.new.self c.loop-component-test.true c.loop-component.invariant c.set_stream.ensures
