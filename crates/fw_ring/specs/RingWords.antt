-- How frames lie in the words of a ring.
use Rattle.std.specs.Prelude.{◌≡◌, ℕ, ◌+◌, ◌-◌, ◌/◌, ◌<◌, ◌≤◌, ◌^◌, List, ◌++◌, take, drop, ℤ, nat_lt, if◌then◌else◌}
use Rattle.sof_base.specs.Samples.{Frame}
use Rattle.sof_base.specs.FrameLists.{frames_of}
use Rattle.fw_ring.specs.declared.window.Window.{Window}

-- n items of xs, read from start on and round its end
unfoldable pub round_from : {X : Type 0} → ℕ → ℕ → List X → List X
round_from start n xs = take n (drop start xs ++ take start xs)

-- the place n past start, among m places in a round
abbrev pub wrapped : ℕ → ℕ → ℕ → ℕ
wrapped m start n = if nat_lt (start + n) m then start + n else start + n - m

-- the frames that a window holds in its words
unfoldable pub window_frames : Window → List ℤ → List Frame
window_frames w words = round_from w.start w.held (frames_of w.channels w.capacity words)

-- what is so of a window: it holds no more frames than its words have room for
pub record IsWindow (w : Window) : Type 0 where
  pub channels : (1 ≤ w.channels) × (w.channels ≤ 8)
  pub capacity : w.capacity ≡ w.words / w.channels
  pub start : (w.start ≤ w.capacity) × (0 < w.capacity → w.start < w.capacity)
  pub held : w.held ≤ w.capacity
  pub words : w.words < 2 ^ 30
