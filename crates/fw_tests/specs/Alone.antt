-- An equaliser that stands alone in a registry.
use Rattle.std.specs.Prelude.{◌≡◌, List, [], ◌∷◌}
use Rattle.fw_heap.specs.Pieces.{PieceState}
use Rattle.fw_units.specs.declared.component.Component.{Component}
use Rattle.fw_units.specs.Units.{piece_of}
use Rattle.fw_components.specs.Tables.{Tables}

-- one piece is where the other is
pub record IsPlaced (piece own : PieceState) : Type 0 where
  pub home : own.home ≡ piece.home
  pub place : own.place ≡ piece.place
  pub size : own.size ≡ piece.size

-- component 3 is there, in this piece, and nothing else
abbrev pub IsOne : PieceState → List Component → Type 0
IsOne piece [] = ⊥
IsOne piece (c ∷ []) = (c.id ≡ 3) × IsPlaced piece (piece_of c.unit)
IsOne piece (c ∷ (d ∷ cs)) = ⊥

pub record IsAlone (piece : PieceState) (t : Tables) : Type 0 where
  pub comps : IsOne piece t.comps
  pub buffers : t.buffers ≡ []
  pub pipes : t.pipes ≡ []
  pub joins : t.joins ≡ []
