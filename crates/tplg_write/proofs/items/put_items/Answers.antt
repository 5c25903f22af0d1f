use Rattle.std.proofs.Common.{List, ℕ, ◌<◌, ◌^◌, length, arith, sym, subst, ap}
use Rattle.tplg_model.specs.Arrays.{Each}
use Rattle.tplg_model.proofs.ElementLaws.{each_more}
use Rattle.tplg_write.proofs.RoomLaws.{item_among}
use Rattle.tplg_write.proofs.ItemsLaws.{items_none, items_more}
use Rattle.tplg_write.proofs.items.put_items.Goals as goal

pub loop-item-init : goal.loop-item-init
unfolding Each
loop-item-init g c = (ap (λ (a : List ℕ). record { front = c.args.sink.now.front; added = a }) (sym (items_none g.I.Spelled.cells c.args.sink.now.added)), tt)

pub loop-item-preserved : goal.loop-item-preserved
loop-item-preserved g c =
    let xs = c.args.items.now in
    let i = c.loop-item.item-index in
    let x = c.item-item.result in (
      rw (c.in_ok-put.ensures.ok, c.loop-item.invariant.0) (ap (λ (a : List ℕ). record { front = c.args.sink.now.front; added = a })
          (items_more g.I.Spelled.cells c.args.sink.now.added xs i x c.loop-item-test.true c.item-item.is)),
      each_more g.I.Spelled.is xs i x c.loop-item-test.true c.item-item.is c.loop-item.invariant.1 c.in_ok-put.ensures.is,
    )

pub put-requires : goal.put-requires
put-requires g c = record {
  room =
      subst (λ x. length (g.I.Spelled.cells x) < 2 ^ 32) (sym c.item-item.is)
      (omega (arith, c.requires.room, item_among g.I.Spelled.cells c.args.items.now c.loop-item.item-index c.item-item.result c.loop-item-test.true));
}
