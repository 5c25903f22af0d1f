use Rattle.std.proofs.Common.{◌≡◌, ◌&&◌, ℕ, false, cond, ltb, length, get_or, None}
use Rattle.fw_components.proofs.tallies.note.Given as goal

abbrev pub invariant-loop-k : goal.invariant-loop-k
invariant-loop-k l = record {
  size : length l.params ≡ 256;
  each : (k : ℕ) → get_or l.params k None ≡ cond (ltb k l.k && get_or l.marks k false) l.p (get_or l.initial.params k None);
}
