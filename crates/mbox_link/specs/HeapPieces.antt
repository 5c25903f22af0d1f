-- The heap: a piece for an id, cut from the front of the first hole that holds it.
use Rattle.std.specs.Prelude.{ℕ, Bool, not, List, filter, Option, Some, None, find, ◌==◌}
use Rattle.sof_base.specs.declared.hole.Hole.{Hole}
use Rattle.sof_base.specs.Holes.{rounded, fits, first_fit, carved, given}
use Rattle.stream_law.specs.State.{FwState, HeapView, PieceView}
use Rattle.stream_law.specs.Placed.{placed}

abbrev pub has_hole : FwState → ℕ → Bool
has_hole f bytes = fits (rounded bytes) f.heap.holes

abbrev pub heap_with_piece : ℕ → ℕ → HeapView → HeapView
heap_with_piece id bytes heap = record {
  holes = carved (rounded bytes) heap.holes;
  pieces = placed (λ p. p.id) (record { id = id; place = first_fit (rounded bytes) heap.holes; size = rounded bytes }) heap.pieces;
}

-- what is left of a piece that is given back: the hole joins those that it touches
abbrev pub holes_after_free : Option PieceView → List Hole → List Hole
holes_after_free None holes = holes
holes_after_free (Some p) holes = given (record { place = p.place; size = p.size }) holes

abbrev pub without_piece : ℕ → HeapView → HeapView
without_piece id heap = record {
  holes = holes_after_free (find (λ p. p.id == id) heap.pieces) heap.holes;
  pieces = filter (λ p. not (p.id == id)) heap.pieces;
}
