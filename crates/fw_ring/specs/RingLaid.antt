-- A ring over the words of its piece.
use Rattle.std.specs.Prelude.{◌≡◌, ℕ, ◌+◌, ◌*◌, ◌≤◌, ◌<◌, ◌^◌, List, length, take, drop, ℤ}
use Rattle.fw_ring.specs.declared.ring.Ring.TheInside.{Inside}
use Rattle.fw_ring.specs.RingState.{RingState}
use Rattle.fw_ring.specs.RingWords.{IsWindow, window_frames}

-- the words for samples: those after the first 32 bytes
unfoldable pub own_words : ℕ → List ℤ → List ℤ
own_words n words = take n (drop 8 words)

abbrev pub ring_state : Inside → RingState
ring_state r = record {
  frames = window_frames r.window (own_words r.window.words r.piece.words);
  words = r.window.words;
  channels = r.window.channels;
  start = r.window.start * r.window.channels;
  piece = r.piece;
}

pub record IsRingLaid (r : Inside) : Type 0 where
  pub window : IsWindow r.window
  pub within : 8 + r.window.words ≤ length r.piece.words
  pub size : (length r.piece.words * 4 ≡ r.piece.size) × (r.piece.size < 2 ^ 32)
