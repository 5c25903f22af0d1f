use Rattle.std.proofs.Common.{◌≡◌, take}
use Rattle.sof_base.specs.Layouts.{wrote_part}
use Rattle.tplg_model.specs.Arrays.{Each}
use Rattle.tplg_model.specs.Spelling.{items_cells}
use Rattle.tplg_write.proofs.items.put_items.Given as goal

abbrev pub invariant-loop-item : goal.invariant-loop-item
invariant-loop-item g l =
    (l.sink ≡ record { front = l.fn.sink.front; added = wrote_part l.fn.sink.added (items_cells g.I.Spelled.cells (take l.item-index l.items)) }) × Each g.I.Spelled.is (take l.item-index l.items)
