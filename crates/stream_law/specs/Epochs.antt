-- An equaliser by index over all frames of its epoch, and the numbers that stand for them.
use Rattle.std.specs.Prelude.{ℕ, zero, suc, ◌+◌, List, [], ◌∷◌, ◌++◌, map, get_or, length, ℤ, pos, ◌+ℤ◌, ◌*ℤ◌}
use Rattle.std.specs.List.{range_with_len}
use Rattle.sof_base.specs.Samples.{Frame, sample_of}
use Rattle.sof_base.specs.Equations.{Section, before, inner_values, after_section, after_sections}
use Rattle.stream_law.specs.Equaliser.{sections_of}

-- ---- what comes out

-- one channel of frames
abbrev pub channel_of : ℕ → List Frame → List ℤ
channel_of k frames = map (λ frame. sample_of frame k) frames

-- channel k of all frames of an epoch, after its sections
abbrev pub channel_out : List ℕ → ℕ → List Frame → List ℤ
channel_out blob k frames = after_sections (sections_of blob k) (channel_of k frames)

-- all frames of an epoch, equalised: by index of frame and then channel
unfoldable pub equalised : List ℕ → ℕ → List Frame → List Frame
equalised blob channels frames = map (λ j. map (λ k. get_or (channel_out blob k frames) j (pos 0)) (range_with_len 0 channels))
    (range_with_len 0 (length frames))

-- ---- what is kept of an epoch in place of its frames

-- the two numbers of a section at the end of its inputs, b1*x1 + b2*x2 + a1*w1 + a2*w2 and b2*x1 + a2*w1, with x1, x2, w1
-- and w2 its last inputs and inner values, or 0
abbrev pub section_history : Section → List ℤ → List ℤ
section_history s xs =
    let n = length xs in
    let ws = inner_values s xs n in
    ((((s.b1 *ℤ before xs n 1) +ℤ (s.b2 *ℤ before xs n 2)) +ℤ (s.a1 *ℤ before ws n 1)) +ℤ (s.a2 *ℤ before ws n 2))
    ∷ ((s.b2 *ℤ before xs n 1) +ℤ (s.a2 *ℤ before ws n 1)) ∷ []

-- those of sections in series
abbrev pub sections_history : List Section → List ℤ → List ℤ
sections_history [] xs = []
sections_history (s ∷ ss) xs = section_history s xs ++ sections_history ss (after_section s xs)

-- those of channels k and up, of which so many are left
abbrev pub history_from : ℕ → List ℕ → List Frame → ℕ → List ℤ
history_from k blob frames zero = []
history_from k blob frames (suc left) = sections_history (sections_of blob k)
    (channel_of k frames) ++ history_from (k + 1) blob frames left

-- the numbers of an epoch, by channel and then section
unfoldable pub history_of : List ℕ → ℕ → List Frame → List ℤ
history_of blob channels frames = history_from 0 blob frames channels
