use Rattle.std.proofs.Common.{◌≡◌, ◌<◌, ◌≤◌, ◌-◌, ℕ, Bool, true, false, length, get_or}
use Rattle.fw_places.specs.Walks.{near_of, far_of, IsClosed}
use Rattle.fw_places.specs.Leaving.{no_join, AreFound}
use Rattle.fw_places.proofs.walk.leave_all.Given as goal

abbrev pub invariant-loop-i : goal.invariant-loop-i
invariant-loop-i l = record {
  found : AreFound l.marks l.found.items;
  size : length l.marks ≡ 257;
  within : l.i ≤ length l.found.items;
  left : (j : ℕ) → j < l.i → (n : ℕ) → n < length l.joins → near_of l.back (get_or l.joins n no_join) ≡ get_or l.found.items j 0 → get_or l.marks (far_of l.back (get_or l.joins n no_join)) false ≡ true;
  kept : (k : ℕ) → get_or l.initial.marks k false ≡ true → get_or l.marks k false ≡ true;
  least : (p : ℕ → Bool) → IsClosed l.back l.joins p → ((k : ℕ) → get_or l.initial.marks k false ≡ true → p k ≡ true) → (k : ℕ) → get_or l.marks k false ≡ true → p k ≡ true;
}

abbrev pub decreases-loop-i : goal.decreases-loop-i
decreases-loop-i l = 257 - l.i
