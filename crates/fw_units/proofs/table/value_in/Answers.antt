use Rattle.stream_law.proofs.TurnLaws.{map_step}
use Rattle.fw_units.specs.Values.{valued_at}
use Rattle.fw_units.proofs.table.value_in.Goals as goal

pub loop-component-preserved : goal.loop-component-preserved
loop-component-preserved c =
    map_step (valued_at c.args.id c.args.values.now) c.loop-component.component-index c.deref_mut-component-items.result.now c.loop-component.component-items _ c.set_values.new.self c.loop-component-test.true c.loop-component.invariant c.set_values.ensures
