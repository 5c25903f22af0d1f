-- Channels through some of their sections.
use Rattle.std.specs.Prelude.{◌≡◌, ◌≢◌, ℕ, ◌+◌, ◌*◌, ◌<◌, ◌≤◌, ◌⊎◌, List, ℤ}
use Rattle.sof_base.specs.Equations as law
use Rattle.sof_base.specs.Samples.{sample_of}
use Rattle.eq_biquad.specs.declared.lane.Lane.{Lane}
use Rattle.eq_biquad.specs.declared.stretch.Stretch.{Stretch}
use Rattle.eq_biquad.specs.Lanes.{lane}
use Rattle.eq_biquad.specs.PieceWords.{numbers_at}
use Rattle.eq_biquad.specs.Passing.{passed_samples, numbers_passed}
use Rattle.eq_blob.specs.Sections.{sections_in}

-- the sections of a stretch
abbrev pub sections_at : List ℕ → Stretch → List law.Section
sections_at blob t = sections_in blob (4 * t.found.place) t.found.count

-- a channel of so many frames goes through sections whose numbers stand from a word on: its samples, and the numbers after them
pub record LaneGoes (ss : List law.Section) (base count : ℕ) (channels k n : ℕ) (ws xs ws' xs' : List ℤ) : Type 0 where
  pub samples : lane channels k n xs' ≡ passed_samples ss (numbers_at ws base count) (lane channels k n xs)
  pub numbers : numbers_at ws' base count ≡ numbers_passed ss (numbers_at ws base count) (lane channels k n xs)

-- a channel goes through a stretch
abbrev pub StretchGoes : List ℕ → Stretch → ℕ → Lane → List ℤ → List ℤ → List ℤ → List ℤ → Type 0
StretchGoes blob t k at words samples words' samples' = LaneGoes (sections_at blob t) (8 * t.slot) t.found.count at.channels k at.frames words samples words' samples'

-- a word that is of none of so many sections' numbers from a slot on, eight words for each
abbrev pub IsElsewhere : ℕ → ℕ → ℕ → Type 0
IsElsewhere slot count i = (i < 8 * slot) ⊎ (8 * slot + 8 * count ≤ i)

-- no samples but those of a channel, or of it and the one after it, are others than they were
abbrev pub OnlyChannel : ℕ → ℕ → List ℤ → List ℤ → Type 0
OnlyChannel channels channel samples samples' = (j k : ℕ) → k < channels → k ≢ channel → sample_of samples' (j * channels + k) ≡ sample_of samples (j * channels + k)

abbrev pub OnlyChannels : ℕ → ℕ → List ℤ → List ℤ → Type 0
OnlyChannels channels channel samples samples' = (j k : ℕ) → k < channels → k ≢ channel → k ≢ channel + 1 → sample_of samples' (j * channels + k) ≡ sample_of samples (j * channels + k)
