use Rattle.std.proofs.Common.{◌≡◌, ℕ, ◌+◌, ◌<◌, ◌≤◌, map, take, length}
use Rattle.std.specs.List.{AllByRecursion}
use Rattle.sof_base.specs.Equations.{exact_sum}
use Rattle.fw_moves.specs.Moving.{samples_in, IsWhole}
use Rattle.fw_moves.proofs.mixing.gather.Given as goal

abbrev pub invariant-loop-i : goal.invariant-loop-i
invariant-loop-i g l = record {
  count : l.count ≤ l.left;
  some : 1 ≤ l.left → 1 ≤ l.count;
  many : length l.parts.items ≡ l.i;
  long : AllByRecursion (λ part. l.count ≤ length part.now) l.parts.items;
  sums : (k : ℕ) → k < l.count → exact_sum k (map (λ part. part.now) l.parts.items) ≡ exact_sum (l.done + k) (map (samples_in l.buffers l.n) (take l.i l.looked));
  frames : AllByRecursion (IsWhole l.buffers) (take l.i l.looked);
}
