-- What begins with a stream, and what becomes of the frames in rings.
use Rattle.std.specs.Prelude.{◌≡◌, ℕ, ◌*◌, List, [], ◌++◌, drop, Bool, ◌==◌, Option, Some, None, if◌then◌else◌, ℤ, find}
use Rattle.std.specs.Option.{option_map_or}
use Rattle.sof_base.specs.Ramps.{ramp_frames}
use Rattle.sof_base.specs.Samples.{Frame}
use Rattle.fw_heap.specs.Pieces.{PieceState}
use Rattle.fw_ring.specs.RingState.{RingState, capacity_of, place_after}
use Rattle.eq_biquad.specs.EqState.{staged_of, numbers_of}
use Rattle.stream_law.specs.Seen.{fresh_numbers}
use Rattle.stream_law.specs.Ways.{is_end}
use Rattle.fw_units.specs.declared.component.Unit as units
use Rattle.fw_units.specs.declared.component.Unit.TheVariants.{Volume, Eq, Buffer}
use Rattle.fw_units.specs.declared.component.Component.{Component}
use Rattle.fw_units.specs.Units.{piece_of, unit_frames, capacity_by, source_by, sink_by}
use Rattle.fw_units.specs.Changes.{with_unit, unit_at}

-- the words of a component's piece, and those of the one of an id
abbrev pub kept_words : Component → List ℤ
kept_words c = (piece_of c.unit).words

abbrev pub words_by : Option Component → List ℤ
words_by o = option_map_or kept_words o []

-- a piece with other words
abbrev pub piece_with_words : List ℤ → PieceState → PieceState
piece_with_words words p = record { home = p.home; place = p.place; size = p.size; words = words }

-- ---- what begins

-- a ring that is empty, for frames of so many channels; an equaliser with these words; a volume of whose ramp nothing is done, at so
-- many frames a second
abbrev pub begun_unit : (channels rate : ℕ) → List ℤ → units.Unit → units.Unit
begun_unit channels rate words (Eq eq next remaining) = Eq (record { blob = eq.blob; piece = piece_with_words words eq.piece }) next remaining
begun_unit channels rate words (Buffer size ring source sink) = Buffer size (record { frames = []; words = ring.words; channels = channels; start = 0; piece = ring.piece }) source sink
begun_unit channels rate words (Volume gains ramp from done frames piece) = Volume gains ramp gains 0 (ramp_frames ramp rate) piece
begun_unit channels rate words unit = unit

abbrev pub begun_by : (channels rate : ℕ) → List ℤ → Component → Component
begun_by channels rate words c = record { id = c.id; pipe = c.pipe; channels = channels; unit = begun_unit channels rate words c.unit }

abbrev pub begun_at : (id channels rate : ℕ) → List ℤ → Component → Component
begun_at id channels rate words c = if c.id == id then begun_by channels rate words c else c

-- the epoch of an equaliser begins: its numbers are those before the first frame. A volume has the gains that are set
abbrev pub IsFresh : units.Unit → Type 0
IsFresh (Eq eq next remaining) = (channels : ℕ) → numbers_of eq channels ≡ fresh_numbers eq.blob channels
IsFresh (Volume gains ramp from done frames piece) = (from ≡ gains) × (done ≡ 0)
IsFresh unit = Unit {0}

-- the bytes that are staged of an equaliser's blob
abbrev pub staged_by : units.Unit → List ℕ
staged_by (Eq eq next remaining) = staged_of eq
staged_by unit = []

abbrev pub IsFreshBy : Option Component → Type 0
IsFreshBy None = Unit {0}
IsFreshBy (Some c) = IsFresh c.unit

abbrev pub staged_of_one : Option Component → List ℕ
staged_of_one o = option_map_or (λ c. staged_by c.unit) o []

abbrev pub staged_in : List Component → ℕ → List ℕ
staged_in cs id = staged_of_one (find (λ c. c.id == id) cs)

-- ---- frames of one buffer

-- how many channels the frames of a buffer have
abbrev pub channels_by : units.Unit → ℕ
channels_by (Buffer size ring source sink) = ring.channels
channels_by unit = 1

-- those of the one of an id among these, its frames, and how many it has room for
abbrev pub channels_in : List Component → ℕ → ℕ
channels_in cs id = option_map_or (λ c. channels_by c.unit) (find (λ c. c.id == id) cs) 1

abbrev pub buffer_frames : List Component → ℕ → List Frame
buffer_frames cs id = option_map_or (λ c. unit_frames c.unit) (find (λ c. c.id == id) cs) []

abbrev pub capacity_in : List Component → ℕ → ℕ
capacity_in cs id = option_map_or (λ c. capacity_by c.unit) (find (λ c. c.id == id) cs) 0

-- a ring without its first n frames
abbrev pub taken_ring : ℕ → RingState → RingState
taken_ring n r = record {
  frames = drop n r.frames;
  words = r.words;
  channels = r.channels;
  start = place_after (capacity_of r * r.channels) r.start (n * r.channels);
  piece = r.piece;
}

abbrev pub taken_unit : ℕ → units.Unit → units.Unit
taken_unit n (Buffer size ring source sink) = Buffer size (taken_ring n ring) source sink
taken_unit n unit = unit

abbrev pub taken_by : ℕ → Component → Component
taken_by n c = with_unit (taken_unit n) c

abbrev pub taken_at : ℕ → ℕ → Component → Component
taken_at id n c = unit_at (taken_unit n) id c

-- a ring with more frames after its own, and with these words of its piece
abbrev pub pushed_ring : List Frame → List ℤ → RingState → RingState
pushed_ring frames words r = record { frames = r.frames ++ frames; words = r.words; channels = r.channels; start = r.start; piece = piece_with_words words r.piece }

abbrev pub pushed_unit : List Frame → List ℤ → units.Unit → units.Unit
pushed_unit frames words (Buffer size ring source sink) = Buffer size (pushed_ring frames words ring) source sink
pushed_unit frames words unit = unit

abbrev pub pushed_by : List Frame → List ℤ → Component → Component
pushed_by frames words c = with_unit (pushed_unit frames words) c

abbrev pub pushed_at : ℕ → List Frame → List ℤ → Component → Component
pushed_at id frames words c = unit_at (pushed_unit frames words) id c

-- ---- the buffer that a component feeds, and the one that it is fed from

abbrev pub comes_from : ℕ → Component → Bool
comes_from id c = is_end (source_by c.unit) id

abbrev pub goes_to : ℕ → Component → Bool
goes_to id c = is_end (sink_by c.unit) id
