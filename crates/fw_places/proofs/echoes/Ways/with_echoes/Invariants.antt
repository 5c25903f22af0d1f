use Rattle.std.proofs.Common.{◌≡◌, ◌==◌, ◌&&◌, ◌||◌, ℕ, true, false, length, get_or, take}
use Rattle.std.specs.List.{list_any, AllByRecursion}
use Rattle.stream_law.specs.Order.{is_among}
use Rattle.fw_places.specs.Walks.{is_marked, is_end_marked}
use Rattle.fw_places.proofs.echoes.Ways.with_echoes.Given as goal

-- those so far are marked as well
abbrev pub invariant-loop-echo : goal.invariant-loop-echo
invariant-loop-echo l = record {
  size : length l.all ≡ 257;
  past : AllByRecursion (λ e. is_among l.self.ids e.buffer ≡ true) l.echoes → get_or l.all (length l.self.ids) false ≡ get_or l.marks (length l.self.ids) false;
  so_far : (x : ℕ) → is_among l.self.ids x ≡ true → is_marked l.self.ids l.all x ≡ (is_marked l.self.ids l.marks x || list_any (λ e. e.buffer == x && is_end_marked l.self.ids l.marks e.sink) (take l.echo-index l.echoes));
}
