-- One component moves frames between the buffers of a table.
use Rattle.std.specs.Prelude.{◌≡◌, nat_eq, ℕ, ◌≤◌, List, map, take, length, get_or, true, false, ◌==◌, Option, Some, None, if◌then◌else◌, ℤ, find, position}
use Rattle.std.specs.List.{AllByRecursion, IsDistinct}
use Rattle.sof_base.specs.Samples.{Frame}
use Rattle.sof_base.specs.FrameLists.{AreFrames, samples_of}
use Rattle.stream_law.specs.Placed.{Ascends}
use Rattle.stream_law.specs.Order.{is_among}
use Rattle.fw_demux.specs.Splits.{all_kept}
use Rattle.fw_units.specs.declared.component.Component.{Component}
use Rattle.fw_units.specs.declared.component.Unit as units
use Rattle.fw_units.specs.declared.component.Unit.TheVariants.{Demux}
use Rattle.fw_units.specs.Units.{numbers_by}
use Rattle.fw_units.specs.Frames.{kept_words, words_by, staged_by, buffer_frames, channels_in}
use Rattle.fw_moves.specs.Processed.{moves_of, feeds_of, IsLevel, IsInlet, IsOutlet, slices_in, made_frames, made_numbers, output_frames, fed_at, drained_at, run_by}

-- ---- samples

-- the samples of the first n frames of a buffer
abbrev pub samples_in : List Component → (n b : ℕ) → List ℤ
samples_in buffers n b = samples_of (take n (buffer_frames buffers b))

-- what the output of this number gets of the samples of frames that a unit makes
abbrev pub output_samples : units.Unit → (channels number : ℕ) → List ℤ → List ℤ
output_samples (Demux masks piece) channels number samples = all_kept channels (get_or masks number 0) samples
output_samples unit channels number samples = samples

-- each frame of a buffer has a sample of each channel
abbrev pub IsWhole : List Component → ℕ → Type 0
IsWhole buffers b = AreFrames (channels_in buffers b) (buffer_frames buffers b)

-- the chosen buffer where it is looked at
abbrev pub looked_choice : List ℕ → Option ℕ → Option ℕ
looked_choice looked None = None
looked_choice looked (Some b) = if is_among looked b then Some b else None

-- ---- places

-- these buffers stand at these places
abbrev pub AreAt : List Component → (ids places : List ℕ) → Type 0
AreAt buffers ids places = map (λ at. Some at) places ≡ map (λ b. position (λ c. c.id == b) buffers) ids

-- ---- frames

-- a component can move n frames from buffers that it looks at into those that it feeds
pub record CanMove (buffers : List Component) (looked fed : List ℕ) (n : ℕ) (c : Component) : Type 0 where
  pub ascends : Ascends (λ c. c.id) buffers
  pub kind : moves_of c.unit (length looked) ≡ true
  pub feeds : feeds_of c.unit (length fed) ≡ true
  pub level : IsLevel c.unit
  pub few : length looked ≤ 128
  pub distinct : IsDistinct nat_eq looked
  pub single : IsDistinct nat_eq fed
  pub apart : AllByRecursion (λ b. is_among looked b ≡ false) fed
  pub inlets : AllByRecursion (IsInlet buffers c.channels n) looked
  pub outlets : AllByRecursion (IsOutlet buffers c.channels n) fed

-- what it makes of them
abbrev pub frames_now : Option ℕ → List Component → List ℕ → ℕ → Component → List Frame
frames_now chosen buffers looked n c = made_frames c.unit c.channels n chosen (slices_in buffers looked n)

-- what one that it feeds gets of them, by its number among the outputs
abbrev pub outlet_frames : Option ℕ → (ℕ → ℕ) → List Component → List ℕ → ℕ → Component → ℕ → List Frame
outlet_frames chosen numbers buffers looked n c b = output_frames c.unit c.channels (numbers b) (frames_now chosen buffers looked n c)

-- it has moved n frames
pub record IsMoved (chosen : Option ℕ) (outputs : ℕ → ℕ) (looked fed : List ℕ) (n : ℕ) (buffers : List Component) (c : Component) (buffers' : List Component) (c' : Component) : Type 0 where
  pub component : c' ≡ run_by (kept_words c') n c
  pub numbers : numbers_by c'.unit c'.channels ≡ made_numbers c.unit c.channels (slices_in buffers looked n)
  pub staged : staged_by c'.unit ≡ staged_by c.unit
  pub count : length (frames_now chosen buffers looked n c) ≡ n
  pub table : buffers' ≡ map (fed_at fed (outlet_frames chosen outputs buffers looked n c) (λ b. words_by (find (λ x. x.id == b) buffers'))) (map (drained_at looked n) buffers)
