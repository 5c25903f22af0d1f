use Rattle.std.proofs.Common.{◌≡◌, ℕ, ◌<◌, get_or, true, false}
use Rattle.stream_law.specs.Order.{is_among}
use Rattle.host_widgets.specs.Need.{HasAt}
use Rattle.host_dynamic.specs.Spreading.{NotesMore}
use Rattle.host_dynamic.proofs.needing.note_marked.Given as goal
use Rattle.host_widgets.specs.Indices.{index_at}

abbrev pub invariant-loop-id : goal.invariant-loop-id
invariant-loop-id l = record {
  more : NotesMore l.plan.graph (λ p. (x : ℕ) → get_or l.marks x false ≡ true → HasAt p (index_at l.plan.graph x)) l.fn.needed.items l.needed.items;
  marked : (x : ℕ) → x < l.id → get_or l.marks x false ≡ true → HasAt (is_among l.needed.items) (index_at l.plan.graph x);
}
