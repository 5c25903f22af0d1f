-- What an equaliser makes of frames that come in runs.
use Rattle.std.specs.Prelude.{◌≡◌, ℕ, List, ◌++◌, ℤ}
use Rattle.sof_base.specs.Samples.{Frame}
use Rattle.stream_law.specs.Equaliser.{passed_frames, numbers_after}
use Rattle.stream_law.specs.Epochs.{equalised, history_of}

-- two runs, one after the other, are one run over all frames: in the frames, and in the numbers that are kept
abbrev pub RunsAreOne : Type 0
RunsAreOne =
    (blob : List ℕ) (channels : ℕ) (numbers : List ℤ) (xs ys : List Frame)
    → (passed_frames blob channels numbers (xs ++ ys) ≡ passed_frames blob channels numbers xs ++ passed_frames blob channels (numbers_after blob channels numbers xs) ys)
    × (numbers_after blob channels numbers (xs ++ ys) ≡ numbers_after blob channels (numbers_after blob channels numbers xs) ys)

-- more frames of an epoch, passed by the numbers that it has kept, leave it as its equations by index say, and the numbers are
-- those of the longer epoch
abbrev pub EpochsGoOn : Type 0
EpochsGoOn =
    (blob : List ℕ) (channels : ℕ) (epoch frames : List Frame)
    → (equalised blob channels (epoch ++ frames) ≡ equalised blob channels epoch ++ passed_frames blob channels (history_of blob channels epoch) frames)
    × (history_of blob channels (epoch ++ frames) ≡ numbers_after blob channels (history_of blob channels epoch) frames)
