-- What a volume, a mixer, a mux and a section of an equaliser make of samples.
use Rattle.std.specs.Prelude.{ℕ, zero, suc, ◌-◌, List, [], ◌∷◌, ◌++◌, map, get_or, length, min, ℤ, pos, ◌+ℤ◌, ◌*ℤ◌, nat_abs, if◌then◌else◌, nat_le}
use Rattle.std.specs.List.{range_with_len}
use Rattle.sof_base.specs.Samples.{Frame, sat, rounded, sample_of}

-- ---- volume

-- a sample times a gain, of which 65536 is 1
abbrev pub amplified : ℕ → ℤ → ℤ
amplified gain x = sat 32 (rounded 16 (x *ℤ pos gain))

-- channel k has gain number k, or the last where there are fewer
abbrev pub channel_gain : List ℕ → ℕ → ℕ
channel_gain gains k = get_or gains (min k (length gains - 1)) 0

-- each channel of a frame, by its gain
abbrev pub volume_of : ℕ → List ℕ → Frame → Frame
volume_of channels gains frame = map (λ k. amplified (channel_gain gains k) (sample_of frame k)) (range_with_len 0 channels)

-- ---- mixer and mux

-- the exact sum of a channel of frames
abbrev pub exact_sum : ℕ → List Frame → ℤ
exact_sum k [] = pos 0
exact_sum k (frame ∷ frames) = sample_of frame k +ℤ exact_sum k frames

-- frames, one of each input, mixed: the exact sum is held once
abbrev pub mixed : ℕ → List Frame → Frame
mixed channels frames = map (λ k. sat 32 (exact_sum k frames)) (range_with_len 0 channels)

-- ---- a section of an equaliser, over all inputs of an epoch

-- its coefficients, of which 2^30 is 1, and its shift and gain, of which 2^14 is 1
pub record Section : Type 0 where
  pub a2 : ℤ
  pub a1 : ℤ
  pub b2 : ℤ
  pub b1 : ℤ
  pub b0 : ℤ
  pub shift : ℤ
  pub gain : ℤ

-- the value d places before place i, 0 before the first
abbrev pub before : List ℤ → ℕ → ℕ → ℤ
before xs i d = if nat_le d i then get_or xs (i - d) (pos 0) else pos 0

-- inner value i, from the inputs up to i and the inner values below i
abbrev pub inner_value : Section → List ℤ → List ℤ → ℕ → ℤ
inner_value s xs ws i = sat 32 (rounded 30 (
    ((((s.b0 *ℤ before xs i 0) +ℤ (s.b1 *ℤ before xs i 1)) +ℤ (s.b2 *ℤ before xs i 2)) +ℤ (s.a1 *ℤ before ws i 1)) +ℤ (s.a2 *ℤ before ws i 2)))

-- the first n inner values
abbrev pub inner_values : Section → List ℤ → ℕ → List ℤ
inner_values s xs zero = []
inner_values s xs (suc n) = let ws = inner_values s xs n in ws ++ inner_value s xs ws n ∷ []

-- the output of an inner value
abbrev pub section_output : Section → ℤ → ℤ
section_output s w = sat 32 (rounded (nat_abs (pos 14 +ℤ s.shift)) (w *ℤ s.gain))

-- all that leaves a section
abbrev pub after_section : Section → List ℤ → List ℤ
after_section s xs = map (section_output s) (inner_values s xs (length xs))

-- and sections in series
abbrev pub after_sections : List Section → List ℤ → List ℤ
after_sections [] xs = xs
after_sections (s ∷ ss) xs = after_sections ss (after_section s xs)
