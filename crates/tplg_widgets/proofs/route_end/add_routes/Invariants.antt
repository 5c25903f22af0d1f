use Rattle.std.proofs.Common.{◌≡◌, ◌++◌, map, take}
use Rattle.tplg_widgets.specs.Ends.{ends_of}
use Rattle.tplg_widgets.proofs.route_end.add_routes.Given as goal

abbrev pub invariant-loop-route : goal.invariant-loop-route
invariant-loop-route l = l.out.items ≡ l.initial.out.items ++ map (ends_of l.widgets) (take l.route-index l.routes)
