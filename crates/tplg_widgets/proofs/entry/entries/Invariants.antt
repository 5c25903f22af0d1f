use Rattle.std.proofs.Common.{◌≡◌, take}
use Rattle.std.specs.List.{flat_map}
use Rattle.tplg_widgets.specs.Entries.{entries_in}
use Rattle.tplg_widgets.proofs.entry.entries.Given as goal

abbrev pub invariant-loop-block : goal.invariant-loop-block
invariant-loop-block l = l.out.items ≡ flat_map entries_in (take l.block-index l.block-items)
