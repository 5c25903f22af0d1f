-- What the tables are once a volume, a mixer, a mux, an equaliser or a demux has moved frames.
use Rattle.std.specs.Prelude.{ℕ, ◌+◌, ◌-◌, List, [], ◌++◌, drop, map, length, Bool, false, ◌==◌, if◌then◌else◌, ℤ, find}
use Rattle.std.specs.Option.{option_map_or}
use Rattle.sof_base.specs.Samples.{Frame}
use Rattle.stream_law.specs.State.{RingView, History}
use Rattle.stream_law.specs.Order.{is_among}
use Rattle.stream_law.specs.Moves.{least}
use Rattle.fw_units.specs.declared.component.Unit as units
use Rattle.fw_units.specs.declared.component.Unit.TheVariants.{Volume}
use Rattle.fw_units.specs.Units.{numbers_by}
use Rattle.fw_components.specs.Tables.{Tables, held_frames, capacity_at}
use Rattle.fw_moves.specs.Processed.{chosen_by, drained_at, fed_at, feeds_of, made_frames, made_numbers, moves_of, output_frames, output_number, run_at, slices_in}

-- ---- what can be moved

-- the component of an id moves frames of so many buffers
abbrev pub moves_at : Tables → ℕ → ℕ → Bool
moves_at t id inlets = option_map_or (λ c. moves_of c.unit inlets) (find (λ c. c.id == id) t.comps) false

-- and feeds so many
abbrev pub feeds_at : Tables → ℕ → ℕ → Bool
feeds_at t id outlets = option_map_or (λ c. feeds_of c.unit outlets) (find (λ c. c.id == id) t.comps) false

-- how many channels it moves
abbrev pub channels_moved : Tables → ℕ → ℕ
channels_moved t id = option_map_or (λ c. c.channels) (find (λ c. c.id == id) t.comps) 0

-- of how many frames a volume's ramp is
abbrev pub ramp_frames_by : units.Unit → ℕ
ramp_frames_by (Volume gains ramp from done frames piece) = frames
ramp_frames_by unit = 0

abbrev pub ramp_frames_at : Tables → ℕ → ℕ
ramp_frames_at t id = option_map_or (λ c. ramp_frames_by c.unit) (find (λ c. c.id == id) t.comps) 0

-- how many frames may go, at most so many: as many as each buffer that is looked at holds, and as each that is fed has room for
abbrev pub most_moved : Tables → List ℕ → List ℕ → ℕ → ℕ
most_moved t looked fed most = least (least most (map (λ b. capacity_at t b - length (held_frames t b)) fed)) (map (λ b. length (held_frames t b)) looked)

-- ---- what is made

-- the frames that the component of an id makes, what one of its outputs gets of frames, and its numbers: those that are kept, and those after
-- that
abbrev pub made_at : Tables → (id : ℕ) → List ℕ → ℕ → List Frame
made_at t id looked n = option_map_or (λ c. made_frames c.unit c.channels n (chosen_by c.unit id t.joins) (slices_in t.buffers looked n)) (find (λ c. c.id == id) t.comps) []

abbrev pub output_at : Tables → (id b : ℕ) → List Frame → List Frame
output_at t id b frames = option_map_or (λ c. output_frames c.unit c.channels (output_number t.joins id b) frames) (find (λ c. c.id == id) t.comps) frames

abbrev pub eq_numbers_at : Tables → ℕ → List ℤ
eq_numbers_at t id = option_map_or (λ c. numbers_by c.unit c.channels) (find (λ c. c.id == id) t.comps) []

abbrev pub numbers_made_at : Tables → (id : ℕ) → List ℕ → ℕ → List ℤ
numbers_made_at t id looked n = option_map_or (λ c. made_numbers c.unit c.channels (slices_in t.buffers looked n)) (find (λ c. c.id == id) t.comps) []

-- ---- what is left

-- The tables once each buffer that is looked at has lost n frames, and each that is fed has frames after its own, with the words of its
-- piece and of the component's after that.
abbrev pub processed : (id : ℕ) → List ℕ → (n : ℕ) → List ℕ → (ℕ → List Frame) → (fed_words : ℕ → List ℤ) → (words : List ℤ) → Tables → Tables
processed id looked n fed frames fed_words words t = record {
  comps = map (run_at id words n) t.comps;
  buffers = map (fed_at fed frames fed_words) (map (drained_at looked n) t.buffers);
  pipes = t.pipes;
  joins = t.joins;
}

-- ---- how it is seen

-- a ring that is looked at without its first n frames
abbrev pub drained_ring : List ℕ → ℕ → RingView → RingView
drained_ring looked n r = if is_among looked r.buffer then record { buffer = r.buffer; frames = drop n r.frames } else r

-- a ring that is fed with frames after its own
abbrev pub fed_ring : List ℕ → (ℕ → List Frame) → RingView → RingView
fed_ring fed frames r = if is_among fed r.buffer then record { buffer = r.buffer; frames = r.frames ++ frames r.buffer } else r

-- all rings so
abbrev pub moved_rings : List ℕ → (n : ℕ) → List ℕ → (ℕ → List Frame) → List RingView → List RingView
moved_rings looked n fed frames rings = map (fed_ring fed frames) (map (drained_ring looked n) rings)

-- the numbers of an equaliser or a volume
abbrev pub with_numbers : ℕ → List ℤ → History → History
with_numbers id numbers h = if h.comp == id then record { comp = h.comp; numbers = numbers } else h
