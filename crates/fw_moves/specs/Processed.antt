-- What a volume, a mixer, a mux, an equaliser or a demux makes of frames, what its outputs get of them, and what it leaves.
use Rattle.std.specs.Prelude.{◌≡◌, ℕ, zero, suc, ◌+◌, ◌≤◌, List, [], ◌∷◌, ◌++◌, map, filter, take, length, get_or, Bool, true, false, ◌==◌, nat_le, Option, None, slice_get, if◌then◌else◌, ℤ, pos}
use Rattle.std.specs.List.{list_all, position_or_len, range_with_len}
use Rattle.sof_base.specs.Samples.{Frame}
use Rattle.sof_base.specs.Equations.{mixed}
use Rattle.sof_base.specs.Masks.{kept_of}
use Rattle.eq_biquad.specs.EqState.{numbers_of}
use Rattle.stream_law.specs.declared.graph.Join.{Join}
use Rattle.stream_law.specs.Order.{is_among}
use Rattle.stream_law.specs.Table.{table}
use Rattle.stream_law.specs.Made.{only_slice, chosen_slice, frames_at as frames_of_each}
use Rattle.stream_law.specs.Equaliser.{passed_frames, numbers_after}
use Rattle.stream_law.specs.Ramps.{ramped_frames, ramp_place}
use Rattle.fw_units.specs.declared.component.Unit as units
use Rattle.fw_units.specs.declared.component.Unit.TheVariants.{Volume, Mixer, Mux, Eq, Demux}
use Rattle.fw_units.specs.declared.component.Component.{Component}
use Rattle.fw_units.specs.Changes.{has_id, with_unit, unit_at}
use Rattle.fw_units.specs.Frames.{piece_with_words, buffer_frames, channels_in, capacity_in, taken_by, pushed_by}

-- ---- what can be moved

-- a volume, an equaliser or a demux takes the frames of one buffer, a mixer or a mux those of any number
abbrev pub moves_of : units.Unit → ℕ → Bool
moves_of (Volume gains ramp from done frames piece) inlets = inlets == 1
moves_of (Mixer piece) inlets = true
moves_of (Mux choice piece) inlets = true
moves_of (Eq eq next remaining) inlets = inlets == 1
moves_of (Demux masks piece) inlets = inlets == 1
moves_of unit inlets = false

-- a demux feeds one buffer or more, and any other unit one
abbrev pub feeds_of : units.Unit → ℕ → Bool
feeds_of (Demux masks piece) outlets = nat_le 1 outlets
feeds_of unit outlets = outlets == 1

-- a volume has as many gains to go from as to go to, and a demux masks of at most 255
abbrev pub IsLevel : units.Unit → Type 0
IsLevel (Volume gains ramp from done frames piece) = length from ≡ length gains
IsLevel (Demux masks piece) = list_all (λ m. nat_le m 255) masks ≡ true
IsLevel unit = Unit {0}

-- a buffer of so many channels is there
pub record IsShaped (buffers : List Component) (channels b : ℕ) : Type 0 where
  pub there : has_id buffers b ≡ true
  pub shape : channels_in buffers b ≡ channels

-- a buffer holds n frames of so many channels
pub record IsInlet (buffers : List Component) (channels n b : ℕ) : Type 0 where
  pub there : has_id buffers b ≡ true
  pub shape : channels_in buffers b ≡ channels
  pub held : n ≤ length (buffer_frames buffers b)

-- and one has room for n more
pub record IsOutlet (buffers : List Component) (channels n b : ℕ) : Type 0 where
  pub there : has_id buffers b ≡ true
  pub shape : channels_in buffers b ≡ channels
  pub room : length (buffer_frames buffers b) + n ≤ capacity_in buffers b

-- ---- what is made

-- the first n frames of each buffer that is looked at
abbrev pub slices_in : List Component → List ℕ → ℕ → List (ℕ × List Frame)
slices_in buffers looked n = table looked (λ b. take n (buffer_frames buffers b))

-- the input of a mux by its choice, from 0, in the order in which its inputs were joined
abbrev pub chosen_by : units.Unit → ℕ → List Join → Option ℕ
chosen_by (Mux choice piece) id joins = slice_get (map (λ j. j.source) (filter (λ j. j.sink == id) joins)) choice
chosen_by unit id joins = None

-- what a unit makes of n frames of each
abbrev pub made_frames : units.Unit → (channels n : ℕ) → Option ℕ → List (ℕ × List Frame) → List Frame
made_frames (Volume gains ramp from done frames piece) channels n chosen slices = ramped_frames from frames done gains channels (only_slice slices)
made_frames (Mixer piece) channels n chosen slices = map (λ j. mixed channels (frames_of_each slices j)) (range_with_len 0 n)
made_frames (Mux choice piece) channels n chosen slices = chosen_slice slices channels n chosen
made_frames (Eq eq next remaining) channels n chosen slices = passed_frames eq.blob channels (numbers_of eq channels) (only_slice slices)
made_frames (Demux masks piece) channels n chosen slices = only_slice slices
made_frames unit channels n chosen slices = []

-- how many frames of a volume's ramp are done after n more: held at its end, where a ramp over no frame ends after one
abbrev pub done_after : (over done n : ℕ) → ℕ
done_after over done zero = done
done_after over done (suc n) = ramp_place over (done + suc n)

-- an equaliser's numbers after that, and a volume's
abbrev pub made_numbers : units.Unit → ℕ → List (ℕ × List Frame) → List ℤ
made_numbers (Volume gains ramp from done frames piece) channels slices = map pos from ++ pos (done_after frames done (length (only_slice slices))) ∷ []
made_numbers (Eq eq next remaining) channels slices = numbers_after eq.blob channels (numbers_of eq channels) (only_slice slices)
made_numbers unit channels slices = []

-- ---- what outputs get

-- the number of an output of a component, from 0 in the order in which they were joined
abbrev pub output_number : List Join → (id b : ℕ) → ℕ
output_number joins id b = position_or_len (λ x. x == b) (map (λ j. j.sink) (filter (λ j. j.source == id) joins))

-- what the output of this number gets of the frames that a unit makes: of a demux by its mask, of any other unit all
abbrev pub output_frames : units.Unit → (channels number : ℕ) → List Frame → List Frame
output_frames (Demux masks piece) channels number frames = map (kept_of channels (get_or masks number 0)) frames
output_frames unit channels number frames = frames

-- each buffer that is fed has frames after its own, with the words of its piece after that
abbrev pub fed_at : List ℕ → (ℕ → List Frame) → (ℕ → List ℤ) → Component → Component
fed_at fed frames words c = if is_among fed c.id then pushed_by (frames c.id) (words c.id) c else c

-- ---- what is left

-- a buffer that is looked at has lost its first n frames
abbrev pub drained_at : List ℕ → ℕ → Component → Component
drained_at looked n c = if is_among looked c.id then taken_by n c else c

-- after n frames an equaliser has other words in its piece, and a volume has done more of its ramp
abbrev pub run_unit : List ℤ → ℕ → units.Unit → units.Unit
run_unit words n (Eq eq next remaining) = Eq (record { blob = eq.blob; piece = piece_with_words words eq.piece }) next remaining
run_unit words n (Volume gains ramp from done frames piece) = Volume gains ramp from (done_after frames done n) frames piece
run_unit words n unit = unit

abbrev pub run_by : List ℤ → ℕ → Component → Component
run_by words n c = with_unit (run_unit words n) c

abbrev pub run_at : ℕ → List ℤ → ℕ → Component → Component
run_at id words n c = unit_at (run_unit words n) id c
