use Rattle.std.proofs.Common.{◌≡◌, ◌<◌, List, length, get_or, ap, subst, arith}
use Rattle.fw_heap.specs.declared.free_run.FreeRun.{FreeRun}
use Rattle.fw_heap.proofs.HoleLemmas.{largest-next, largest-end}
use Rattle.fw_heap.proofs.region.greatest.Goals as goal

pub loop-hole-preserved : goal.loop-hole-preserved
loop-hole-preserved c =
    let hs = c.args.holes.now.items in let i = c.loop-hole.hole-index in let x = c.hole-item.result in let same = c.deref-hole-items.ensures.value in
    let n = largest-next hs i x (subst (λ (l : List FreeRun). i < length l) same c.loop-hole-test.true) (subst (λ (l : List FreeRun). x ≡ get_or l i x) same c.hole-item.is) in
    omega (arith, n, c.loop-hole.invariant, c.greater-most.ensures)

pub returns : goal.returns
returns c =
    let hs = c.args.holes.now.items in let i = c.loop-hole.hole-index in
    let none = largest-end hs i (omega (arith, ap length c.deref-hole-items.ensures.value, c.loop-hole-test.false)) in
    omega (arith, none, c.loop-hole.invariant)
