-- What a demux keeps of samples: those of the channels whose bits of its mask are 1.
use Rattle.std.specs.Prelude.{ℕ, ◌/◌, ◌%◌, ◌^◌, Bool, ◌==◌, map, ℤ, pos, if◌then◌else◌}
use Rattle.std.specs.List.{range_with_len}
use Rattle.sof_base.specs.Samples.{Frame, sample_of}

-- bit c of a mask is 1
abbrev pub has_bit : ℕ → ℕ → Bool
has_bit mask c = mask / 2 ^ c % 2 == 1

-- a sample of channel c is kept where bit c of the mask is 1, and is 0 else
abbrev pub kept_sample : ℕ → ℕ → ℤ → ℤ
kept_sample mask c x = if has_bit mask c then x else pos 0

-- each channel of a frame, by its bit
abbrev pub kept_of : ℕ → ℕ → Frame → Frame
kept_of channels mask frame = map (λ c. kept_sample mask c (sample_of frame c)) (range_with_len 0 channels)
