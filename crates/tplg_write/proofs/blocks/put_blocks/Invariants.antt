use Rattle.std.proofs.Common.{◌≡◌, take}
use Rattle.sof_base.specs.Layouts.{wrote_part}
use Rattle.tplg_model.specs.Arrays.{Each}
use Rattle.tplg_model.specs.Spelling.{IsBlock, items_cells, block_cells}
use Rattle.tplg_write.proofs.blocks.put_blocks.Given as goal

abbrev pub invariant-loop-block : goal.invariant-loop-block
invariant-loop-block l =
    (l.sink ≡ record { front = l.fn.sink.front; added = wrote_part l.fn.sink.added (items_cells block_cells (take l.block-index l.blocks)) }) × Each IsBlock (take l.block-index l.blocks)
