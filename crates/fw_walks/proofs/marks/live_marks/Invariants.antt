use Rattle.std.proofs.Common.{◌≡◌, ◌&&◌, ◌≤◌, ℕ, false, length, ltb, get_or}
use Rattle.stream_law.specs.Ways.{live}
use Rattle.fw_components.specs.Tables.{view_by}
use Rattle.fw_walks.proofs.marks.live_marks.Given as goal

abbrev pub invariant-loop-k : goal.invariant-loop-k
invariant-loop-k l = record {
  size : length l.marks ≡ 257;
  within : l.k ≤ length l.ids;
  each : (k : ℕ) → get_or l.marks k false ≡ (ltb k l.k && live (view_by l.registry) (get_or l.ids k 0));
}
