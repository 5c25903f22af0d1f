-- The result of an epoch of an equaliser.
use Rattle.std.specs.Prelude.{◌≡◌, ℕ, List}
use Rattle.sof_base.specs.Samples.{Frame}
use Rattle.stream_law.specs.Equaliser.{passed_frames, numbers_after}
use Rattle.stream_law.specs.Epochs.{equalised, history_of}
use Rattle.stream_law.specs.Seen.{fresh_numbers}

-- all frames of an epoch are equalised, by index in the epoch, and leave its numbers
abbrev pub EpochsAreEqualised : Type 0
EpochsAreEqualised =
    (blob : List ℕ) (channels : ℕ) (frames : List Frame)
    → (passed_frames blob channels (fresh_numbers blob channels) frames ≡ equalised blob channels frames)
    × (numbers_after blob channels (fresh_numbers blob channels) frames ≡ history_of blob channels frames)
