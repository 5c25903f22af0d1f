-- Where a new unit lies.
use Rattle.std.specs.Prelude.{◌≡◌}
use Rattle.fw_heap.specs.Pieces.{PieceState}
use Rattle.fw_units.specs.declared.component.Unit.{Unit}
use Rattle.fw_units.specs.Units.{piece_of}

-- the piece of a unit is this one but for its words
pub record IsIn (piece : PieceState) (unit : Unit) : Type 0 where
  pub home : (piece_of unit).home ≡ piece.home
  pub place : (piece_of unit).place ≡ piece.place
  pub size : (piece_of unit).size ≡ piece.size
