use Rattle.tplg_source.specs.Carried.{carried_route}
use Rattle.tplg_source.proofs.Lists.{kept_on}
use Rattle.tplg_source.proofs.carried_widgets.put_routes.Goals as goal

pub loop-route-preserved : goal.loop-route-preserved
loop-route-preserved c =
    let put = rw c.carried_route-carried.ensures at c.in_ok-push_some.ensures in
    kept_on (carried_route c.args.widgets.now) c.args.routes.now c.loop-route.route-index c.route-item.result c.args.out.now _ _ c.loop-route-test.true c.route-item.is c.loop-route.invariant put
