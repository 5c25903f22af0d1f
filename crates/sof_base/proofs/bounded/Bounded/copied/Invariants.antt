use Rattle.std.proofs.Common.{◌≡◌, take}
use Rattle.sof_base.proofs.bounded.Bounded.copied.Given as goal

abbrev pub invariant-loop-item : goal.invariant-loop-item
invariant-loop-item g l = l.items.items ≡ take l.item-index l.item-items
