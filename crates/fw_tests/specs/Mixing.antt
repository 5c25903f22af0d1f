-- A mixer between two buffers of two channels, in a registry.
use Rattle.std.specs.Prelude.{◌≡◌, ℕ, ℤ, List, [], ◌∷◌, None}
use Rattle.sof_base.specs.Samples.{Frame}
use Rattle.fw_heap.specs.Pieces.{PieceState}
use Rattle.fw_units.specs.declared.component.Component.{Component}
use Rattle.fw_units.specs.declared.component.Unit.TheVariants.{Mixer, Buffer}
use Rattle.fw_units.specs.Frames.{piece_with_words}
use Rattle.fw_components.specs.Tables.{Tables}

-- a buffer with room for four frames, which holds these
abbrev pub holding : (id start : ℕ) → List Frame → PieceState → Component
holding id start frames piece = record { id = id; pipe = 1; channels = 2; unit = Buffer 32 (record { frames = frames; words = 8; channels = 2; start = start; piece = piece }) None None }

-- mixer 4 with nothing joined, and what buffers 5 and 6 hold: the frames of the first begin at a word of its piece
abbrev pub mixing : (own from to : PieceState) → (start : ℕ) → (left arrived : List Frame) → Tables
mixing own from to start left arrived = record {
  comps = record { id = 4; pipe = 1; channels = 2; unit = Mixer own } ∷ [];
  buffers = holding 5 start left from ∷ holding 6 0 arrived to ∷ [];
  pipes = [];
  joins = [];
}

-- three frames are in the first buffer
pub record IsFed (own from to : PieceState) (t : Tables) : Type 0 where
  pub first : Frame
  pub second : Frame
  pub third : Frame
  pub words : List ℤ
  pub tables : t ≡ mixing own (piece_with_words words from) to 0 (first ∷ second ∷ third ∷ []) []

-- one is left there, and two have arrived in the second
pub record IsMixed (own from to : PieceState) (t : Tables) : Type 0 where
  pub left : Frame
  pub first : Frame
  pub second : Frame
  pub words_from : List ℤ
  pub words_to : List ℤ
  pub tables : t ≡ mixing own (piece_with_words words_from from) (piece_with_words words_to to) 4 (left ∷ []) (first ∷ second ∷ [])
