use Rattle.tplg_source.specs.Carried.{carried_widget}
use Rattle.tplg_source.proofs.Lists.{kept_on}
use Rattle.tplg_source.proofs.carried_widgets.put_widgets.Goals as goal

pub loop-widget-preserved : goal.loop-widget-preserved
loop-widget-preserved c =
    kept_on (carried_widget c.args.index) c.args.widgets.now c.loop-widget.widget-index c.widget-item.result c.args.out.now _ _ c.loop-widget-test.true c.widget-item.is c.loop-widget.invariant c.in_ok-put_widget.ensures
