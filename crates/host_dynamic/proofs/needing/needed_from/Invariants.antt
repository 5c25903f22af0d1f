use Rattle.std.proofs.Common.{◌≡◌, ℕ, ◌+◌, ◌-◌, Bool, true, false, cond, length}
use Rattle.stream_law.specs.Order.{is_among}
use Rattle.host_dynamic.specs.Spreading.{AllAllowed, AreKept, AreOnceNoted, HasNoted, IsClosedOver}
use Rattle.host_dynamic.proofs.needing.needed_from.Given as goal

abbrev pub invariant-loop-more : goal.invariant-loop-more
invariant-loop-more l = record {
  size : length l.onward ≡ 288;
  size_back : length l.back ≡ 288;
  once : AreOnceNoted l.plan.graph l.needed.items;
  kept : AreKept l.fn.onward l.onward;
  kept_back : AreKept l.fn.back l.back;
  sound : (p : ℕ → Bool) → IsClosedOver l.plan.graph l.fn.onward l.fn.back p → HasNoted p l.needed.items × AllAllowed l.plan.graph false p l.onward × AllAllowed l.plan.graph true p l.back;
  closed : l.more ≡ false → IsClosedOver l.plan.graph l.onward l.back (is_among l.needed.items);
}

abbrev pub decreases-loop-more : goal.decreases-loop-more
decreases-loop-more l = cond l.more 1 0 + (33 - length l.needed.items)
