-- How the pieces and the holes of a heap lie. Places and sizes are in bytes.
use Rattle.std.specs.Prelude.{◌≡◌, ◌⊎◌, ℕ, ◌+◌, ◌%◌, ◌<◌, ◌≤◌, List, [], ◌∷◌}
use Rattle.std.specs.List.{AllByRecursion}
use Rattle.sof_base.specs.declared.hole.Hole.{Hole}
use Rattle.sof_base.specs.Holes.{usable_of, fresh_holes}
use Rattle.sof_base.specs.Spacing.{total, Spaced}
use Rattle.stream_law.specs.State.{PieceView, HeapView}
use Rattle.stream_law.specs.Placed.{HasDistinct}

-- how many bytes pieces have
abbrev pub carved_bytes : List PieceView → ℕ
carved_bytes [] = 0
carved_bytes (p ∷ ps) = p.size + carved_bytes ps

-- how many bytes pieces and holes have
abbrev pub heap_bytes : HeapView → ℕ
heap_bytes heap = carved_bytes heap.pieces + total heap.holes

-- a heap of so many bytes of which nothing is carved
abbrev pub fresh_heap : ℕ → HeapView
fresh_heap bytes = record { holes = fresh_holes (usable_of bytes); pieces = [] }

-- the bytes of a piece, as a hole
abbrev pub hole_of : PieceView → Hole
hole_of p = record { place = p.place; size = p.size }

-- two pieces have no byte in common
abbrev pub ArePiecesApart : PieceView → PieceView → Type 0
ArePiecesApart p q = (p.place + p.size ≤ q.place) ⊎ (q.place + q.size ≤ p.place)

-- no two of these have
unfoldable pub AreAllApart : List PieceView → Type 0
AreAllApart [] = Unit {0}
AreAllApart (p ∷ ps) = AllByRecursion (ArePiecesApart p) ps × AreAllApart ps

-- a piece and a hole have no byte in common
abbrev pub IsOutside : PieceView → Hole → Type 0
IsOutside p h = (p.place + p.size ≤ h.place) ⊎ (h.place + h.size ≤ p.place)

-- a piece of so many usable bytes, in whole units of 16
pub record IsHeapPiece (usable : ℕ) (p : PieceView) : Type 0 where
  pub within : p.place + p.size ≤ usable
  pub place : p.place % 16 ≡ 0
  pub size : p.size % 16 ≡ 0
  pub filled : 0 < p.size

-- Holes and pieces of so many usable bytes: no id has two pieces, none has a byte of another or of a hole, and together they
-- have all bytes.
pub record IsTiled (usable : ℕ) (heap : HeapView) : Type 0 where
  pub holes : Spaced 0 usable heap.holes
  pub ids : HasDistinct (λ p. p.id) heap.pieces
  pub each : AllByRecursion (IsHeapPiece usable) heap.pieces
  pub apart : AreAllApart heap.pieces
  pub outside : AllByRecursion (λ p. AllByRecursion (IsOutside p) heap.holes) heap.pieces
  pub whole : heap_bytes heap ≡ usable
