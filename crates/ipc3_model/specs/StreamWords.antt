-- A stream's parameters in a message, stream_params, and the description of a host buffer: how they are spelled, and which of their words are looked at.
use Rattle.std.specs.Prelude.{ℕ, ◌*◌, ◌/◌, ◌%◌, ◌^◌, List, [], ◌∷◌, ◌++◌, map, nat_lt, ◌==◌, if◌then◌else◌}
use Rattle.std.specs.Int.{w16, to_le_bytes}
use Rattle.sof_base.specs.Slots.{Slot, Word, Half, Size, Spare, word_at, half_at}
use Rattle.sof_base.specs.Samples.{width, frame_format}
use Rattle.sof_base.specs.declared.format.Format.{Format}
use Rattle.sof_base.specs.declared.format.Format.TheVariants.{S16, S24, S32}
use Rattle.sof_base.specs.declared.format.Params.{Params}
use Rattle.ipc3_model.specs.Allowed.{is_direction, is_frame_format, is_channels}
use Rattle.ipc3_model.specs.Places.{Place, any_words, any_halves, word_of, half_of}

-- two bytes that are written so and not looked at
abbrev pub spare_half : ℕ → Slot
spare_half n = Spare (to_le_bytes w16 n)

-- a host buffer, 28 bytes: its size and six zero words
abbrev pub host_buffer_slots : List Slot
host_buffer_slots = Size 28 ∷ Size 0 ∷ Size 0 ∷ Size 0 ∷ Size 0 ∷ Size 0 ∷ Size 0 ∷ []

-- how many bytes of a sample carry it
abbrev pub valid_bytes : Format → ℕ
valid_bytes S16 = 2
valid_bytes S24 = 3
valid_bytes S32 = 4

-- how many bytes the host takes in a millisecond
abbrev pub host_period_bytes : Params → ℕ
host_period_bytes params = params.rate / 1000 * params.channels * width params.format % 2 ^ 32

-- the map of eight channels: each to itself, and 0 past the stream's channels
abbrev pub channel_map_slots : ℕ → List Slot
channel_map_slots channels = map (λ c. spare_half (if nat_lt c channels then c else 0)) (0 ∷ 1 ∷ 2 ∷ 3 ∷ 4 ∷ 5 ∷ 6 ∷ 7 ∷ [])

-- direction, frame_fmt, buffer_fmt, rate, stream_tag, channels, sample_valid_bytes, sample_container_bytes, host_period_bytes and eight zero bytes
abbrev pub format_slots : ℕ → Params → List Slot
format_slots direction params =
    Word direction ∷ Word (frame_format params.format) ∷ Size 0 ∷ Word params.rate ∷ spare_half 0 ∷ Half params.channels
    ∷ spare_half (valid_bytes params.format) ∷ spare_half (width params.format) ∷ Size (host_period_bytes params) ∷ Size 0 ∷ Size 0 ∷ []

-- stream_params, 84 bytes: its size, a host buffer, those words and the channel map
abbrev pub stream_slots : ℕ → Params → List Slot
stream_slots direction params = Size 84 ∷ (host_buffer_slots ++ (format_slots direction params ++ channel_map_slots params.channels))

-- its words from byte 24 on
abbrev pub stream_places : List ℕ → List Place
stream_places b =
    any_words 24 8 ++ word_of b 56 is_direction ∷ word_of b 60 is_frame_format ∷ any_words 64 2
    ++ any_halves 72 1 ++ half_of b 74 is_channels ∷ any_halves 76 2 ++ any_words 80 3 ++ any_halves 92 8

-- the format of a number from 0 to 2
abbrev pub format_of_word : ℕ → Format
format_of_word n = if n == 0 then S16 else if n == 1 then S24 else S32

-- the parameters that stand there
abbrev pub params_at : List ℕ → Params
params_at b = record { rate = word_at b 68; channels = half_at b 74; format = format_of_word (word_at b 60) }
