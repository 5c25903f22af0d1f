use Rattle.std.proofs.Common.{◌≡◌, take}
use Rattle.std.specs.List.{flat_map}
use Rattle.tplg_source.specs.Carried.{carried_routes}
use Rattle.tplg_source.proofs.carrying.routes.Given as goal

abbrev pub invariant-loop-block : goal.invariant-loop-block
invariant-loop-block l = l.routes ≡ flat_map (carried_routes l.widgets) (take l.block-index l.topology.blocks)
