use Rattle.std.proofs.Common.{◌≡◌, ◌&&◌, ◌||◌, ℕ, false, ltb, length, get_or}
use Rattle.fw_walks.proofs.marks.add.Given as goal

abbrev pub invariant-loop-k : goal.invariant-loop-k
invariant-loop-k l = record {
  size : length l.marks ≡ length l.initial.marks;
  each : (k : ℕ) → get_or l.marks k false ≡ (get_or l.initial.marks k false || (ltb k l.k && get_or l.more k false));
}
