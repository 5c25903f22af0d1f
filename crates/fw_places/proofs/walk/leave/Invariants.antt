use Rattle.std.proofs.Common.{◌≡◌, ◌<◌, ◌≤◌, ℕ, Bool, true, false, length, get_or}
use Rattle.fw_places.specs.Walks.{near_of, far_of, IsClosed}
use Rattle.fw_places.specs.Leaving.{no_join, last_from, AreFound, GoOn}
use Rattle.fw_places.proofs.walk.leave.Given as goal

abbrev pub invariant-loop-at : goal.invariant-loop-at
invariant-loop-at l = record {
  found : AreFound l.marks l.found.items;
  on : GoOn l.initial.marks l.marks l.initial.found.items l.found.items;
  rest : (n : ℕ) × ((n ≤ length l.joins) × ((l.at ≡ last_from l.back l.joins n l.place) × ((k : ℕ) → n ≤ k → k < length l.joins → near_of l.back (get_or l.joins k no_join) ≡ l.place → get_or l.marks (far_of l.back (get_or l.joins k no_join)) false ≡ true)));
  least : (p : ℕ → Bool) → IsClosed l.back l.joins p → ((k : ℕ) → get_or l.initial.marks k false ≡ true → p k ≡ true) → (k : ℕ) → get_or l.marks k false ≡ true → p k ≡ true;
}

abbrev pub decreases-loop-at : goal.decreases-loop-at
decreases-loop-at l = l.at
