use Rattle.std.proofs.Common.{◌≡◌, ◌≤◌, ◌<◌, ◌%◌, ℕ, length, get_or}
use Rattle.fw_places.proofs.places.note.Given as goal

abbrev pub invariant-loop-k : goal.invariant-loop-k
invariant-loop-k l = record {
  size : length l.firsts ≡ 256;
  noted : (j : ℕ) → j < l.k → get_or l.firsts (get_or l.ids j 0 % 256) 0 ≤ j;
}
