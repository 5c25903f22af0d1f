use Rattle.std.proofs.Common.{◌≡◌, take}
use Rattle.std.specs.List.{flat_map}
use Rattle.tplg_widgets.specs.Ends.{block_ends}
use Rattle.tplg_widgets.proofs.route_end.all_ends.Given as goal

abbrev pub invariant-loop-block : goal.invariant-loop-block
invariant-loop-block l = l.out.items ≡ flat_map (block_ends l.widgets) (take l.block-index l.block-items)
