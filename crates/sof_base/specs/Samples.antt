-- Samples: their numbers inside the firmware, and their bytes in the three formats. Full scale is the range of 32 bits.
use Rattle.std.specs.Prelude.{ℕ, ◌+◌, ◌-◌, ◌*◌, ◌%◌, ◌^◌, List, map, get_or, ℤ, pos, ◌+ℤ◌, ◌-ℤ◌, ◌*ℤ◌, if◌then◌else◌, nat_lt}
use Rattle.std.specs.Int.{w16, w32, to_le_bytes, cast_unsigned, saturate_to_bits, int_div_euclid}
use Rattle.std.specs.List.{flat_map, range_with_len}
use Rattle.sof_base.specs.declared.format.Format.{Format}
use Rattle.sof_base.specs.declared.format.Format.TheVariants.{S16, S24, S32}
use Rattle.sof_base.specs.Slots.{half_at, word_at}

-- z held to the signed range of so many bits
abbrev pub sat : ℕ → ℤ → ℤ
sat bits z = saturate_to_bits (bits - 1) z

-- z div 2^k, rounded to the nearest
abbrev pub rounded : ℕ → ℤ → ℤ
rounded k z = int_div_euclid (z +ℤ pos (2 ^ (k - 1))) (pos (2 ^ k))

-- the signed number that n is in so many bits
abbrev pub signed_of : ℕ → ℕ → ℤ
signed_of bits n = if nat_lt n (2 ^ (bits - 1)) then pos n else pos n -ℤ pos (2 ^ bits)

-- how many bytes a sample has
abbrev pub width : Format → ℕ
width S16 = 2
width _ = 4

-- the number of a format in a message, and the format of a number
abbrev pub frame_format : Format → ℕ
frame_format S16 = 0
frame_format S24 = 1
frame_format S32 = 2

-- the inner sample whose bytes lie at a place; zeros stand past the end
abbrev pub sample_in_of : Format → List ℕ → ℕ → ℤ
sample_in_of S16 bytes place = signed_of 16 (half_at bytes place) *ℤ pos 65536
sample_in_of S24 bytes place = signed_of 24 (word_at bytes place % 2 ^ 24) *ℤ pos 256
sample_in_of S32 bytes place = signed_of 32 (word_at bytes place)

-- the bytes of an inner sample
abbrev pub sample_out_of : Format → ℤ → List ℕ
sample_out_of S16 x = to_le_bytes w16 (cast_unsigned w16 (sat 16 (rounded 16 x)))
sample_out_of S24 x = to_le_bytes w32 (cast_unsigned w32 (sat 24 (rounded 8 x)))
sample_out_of S32 x = to_le_bytes w32 (cast_unsigned w32 x)

-- ---- frames

-- a sample of each channel
abbrev pub Frame : Type 0
Frame = List ℤ

-- channel k of a frame
abbrev pub sample_of : Frame → ℕ → ℤ
sample_of frame k = get_or frame k (pos 0)

-- a frame of zeros
abbrev pub silence : ℕ → Frame
silence channels = map (λ _. pos 0) (range_with_len 0 channels)

-- the frame whose bytes lie at a place, and n frames from a place on
abbrev pub frame_in : Format → ℕ → List ℕ → ℕ → Frame
frame_in format channels bytes place = map (λ k. sample_in_of format bytes (place + k * width format)) (range_with_len 0 channels)

abbrev pub frames_in : Format → ℕ → List ℕ → ℕ → ℕ → List Frame
frames_in format channels bytes place n = map (λ j. frame_in format channels bytes (place + j * (channels * width format))) (range_with_len 0 n)

-- the bytes of a frame, and of frames
abbrev pub frame_out : Format → Frame → List ℕ
frame_out format frame = flat_map (sample_out_of format) frame

abbrev pub frames_out : Format → List Frame → List ℕ
frames_out format frames = flat_map (frame_out format) frames
