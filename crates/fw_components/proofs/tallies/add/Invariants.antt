use Rattle.std.proofs.Common.{◌≡◌, ◌+◌, ◌&&◌, ℕ, false, cond, ltb, length, get_or}
use Rattle.fw_components.proofs.tallies.add.Given as goal

abbrev pub invariant-loop-k : goal.invariant-loop-k
invariant-loop-k l = record {
  size : length l.tally ≡ 256;
  each : (k : ℕ) → get_or l.tally k 0 ≡ cond (ltb k l.k && get_or l.marks k false) (get_or l.initial.tally k 0 + 1) (get_or l.initial.tally k 0);
}
