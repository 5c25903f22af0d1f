use Rattle.std.proofs.Common.{◌≡◌, ◌<◌, ℕ, true, false, get_or}
use Rattle.core.specs.Mem.Slots.{SamePlaces, slots_filled}
use Rattle.fw_heap.proofs.region.fill.Given as goal

abbrev pub invariant-loop-i : goal.invariant-loop-i
invariant-loop-i l = record {
  places : SamePlaces l.fn.row l.row;
  full : (k : ℕ) → k < l.i → get_or (slots_filled l.row) k false ≡ true;
}
