-- What a contract sees of a ring: a list of frames, and the piece that they lie in.
use Rattle.std.specs.Prelude.{◌≡◌, ℕ, zero, suc, ◌+◌, ◌/◌, ◌%◌, ◌≤◌, List, length}
use Rattle.sof_base.specs.Samples.{Frame}
use Rattle.sof_base.specs.FrameLists.{AreFrames}
use Rattle.fw_heap.specs.Pieces.{PieceState}

-- its frames, the oldest first; how many words there are for samples, after the first 32 bytes of the piece; the samples of a
-- frame; and the word of these at which the first frame begins
pub record RingState : Type 0 where
  pub frames : List Frame
  pub words : ℕ
  pub channels : ℕ
  pub start : ℕ
  pub piece : PieceState

-- how many frames it has room for
abbrev pub capacity_of : RingState → ℕ
capacity_of r = r.words / r.channels

-- the place n past a start, among so many places in a round; 0 where there is no place
abbrev pub place_after : ℕ → ℕ → ℕ → ℕ
place_after zero start n = 0
place_after (suc m) start n = (start + n) % suc m

-- what is so of a ring: a frame has 1 to 8 samples, each frame has as many, and there is room for all
pub record IsRing (r : RingState) : Type 0 where
  pub channels : (1 ≤ r.channels) × (r.channels ≤ 8)
  pub room : length r.frames ≤ capacity_of r
  pub samples : AreFrames r.channels r.frames

-- the same ring but for its frames and the words of its piece
pub record SameRing (old new : RingState) : Type 0 where
  pub words : new.words ≡ old.words
  pub channels : new.channels ≡ old.channels
  pub start : new.start ≡ old.start
  pub home : new.piece.home ≡ old.piece.home
  pub place : new.piece.place ≡ old.piece.place
  pub size : new.piece.size ≡ old.piece.size
