use Rattle.std.proofs.Common.{◌≡◌, take}
use Rattle.std.specs.List.{flat_map}
use Rattle.tplg_source.specs.Carried.{carried_widgets}
use Rattle.tplg_source.proofs.carrying.widgets.Given as goal

abbrev pub invariant-loop-block : goal.invariant-loop-block
invariant-loop-block l = l.widgets ≡ flat_map carried_widgets (take l.block-index l.topology.blocks)
