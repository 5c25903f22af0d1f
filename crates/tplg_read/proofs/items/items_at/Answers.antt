use Rattle.std.proofs.Common.{◌≡◌, suc, ◌+◌, ◌-◌, arith}
use Rattle.std.proofs.lemmas.Result.{err_from_is_err_and}
use Rattle.tplg_model.specs.Reading.{items_at}
use Rattle.tplg_read.proofs.LoopLaws.{SoFar-more, SoFar-fails, SoFar-all}
use Rattle.tplg_read.proofs.items.items_at.Goals as goal

pub returns-in_err-item-clause-gives : goal.returns-in_err-item-clause-gives
returns-in_err-item-clause-gives g c =
    let p = err_from_is_err_and c.from_residual.result c.from_residual.ensures.1 in
    let k : c.args.count - c.loop.counter ≡ suc (c.args.count - (c.loop.counter + 1)) = omega arith in
    rw (p.1, p.2) (SoFar-fails g.I.Item.step (c.args.count - c.loop.counter) (c.args.count - (c.loop.counter + 1)) c.args.at c.args.bytes.now c.loop.items c.loop.used (items_at g.I.Item.step c.args.count c.args.at c.args.bytes.now) c.in_err-item.field-0.0 k c.loop.invariant (rw c.split_at.ensures.back at c.in_err-item.ensures.gives))

pub loop-preserved : goal.loop-preserved
loop-preserved g c =
    let k : c.args.count - c.loop.counter ≡ suc (c.args.count - (c.loop.counter + 1)) = omega arith in
    rw c.in_ok-push.ensures.ok (SoFar-more g.I.Item.step (c.args.count - c.loop.counter) (c.args.count - (c.loop.counter + 1)) c.args.at c.args.bytes.now c.loop.items c.loop.used (items_at g.I.Item.step c.args.count c.args.at c.args.bytes.now) c.in_ok-item.item c.in_ok-item.size k c.loop.invariant (rw c.split_at.ensures.back at c.in_ok-item.ensures.gives) (omega (arith, c.in_ok-item.ensures.within, c.split_at.ensures.back_len)))

pub returns-clause-gives : goal.returns-clause-gives
returns-clause-gives g c =
    let k : c.args.count - c.loop.counter ≡ 0 = omega arith in
    SoFar-all g.I.Item.step c.args.at c.args.bytes.now c.loop.items c.loop.used (items_at g.I.Item.step c.args.count c.args.at c.args.bytes.now) (rw k at c.loop.invariant)
