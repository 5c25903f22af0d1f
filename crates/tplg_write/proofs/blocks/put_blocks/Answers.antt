use Rattle.std.proofs.Common.{List, ℕ, sym, ap}
use Rattle.tplg_model.specs.Arrays.{Each}
use Rattle.tplg_model.specs.Spelling.{IsBlock, block_cells}
use Rattle.tplg_model.proofs.ElementLaws.{each_more}
use Rattle.tplg_write.proofs.ItemsLaws.{items_none, items_more}
use Rattle.tplg_write.proofs.blocks.put_blocks.Goals as goal

pub loop-block-init : goal.loop-block-init
unfolding Each
loop-block-init c = (ap (λ (a : List ℕ). record { front = c.args.sink.now.front; added = a }) (sym (items_none block_cells c.args.sink.now.added)), tt)

pub loop-block-preserved : goal.loop-block-preserved
loop-block-preserved c =
    let xs = c.args.blocks.now in
    let i = c.loop-block.block-index in
    let x = c.block-item.result in (
      rw (c.in_ok-put_block.ensures.ok, c.loop-block.invariant.0) (ap (λ (a : List ℕ). record { front = c.args.sink.now.front; added = a })
          (items_more block_cells c.args.sink.now.added xs i x c.loop-block-test.true c.block-item.is)),
      each_more IsBlock xs i x c.loop-block-test.true c.block-item.is c.loop-block.invariant.1 c.in_ok-put_block.ensures.is,
    )
