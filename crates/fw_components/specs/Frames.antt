-- The tables once a stream begins, and once frames come and go.
use Rattle.std.specs.Prelude.{ℕ, List, map, ◌==◌, if◌then◌else◌, ℤ, find}
use Rattle.std.specs.Option.{option_map_or}
use Rattle.sof_base.specs.Samples.{Frame}
use Rattle.stream_law.specs.State.{RingView}
use Rattle.fw_units.specs.declared.component.Unit as units
use Rattle.fw_components.specs.Tables.{Tables}
use Rattle.fw_components.specs.Changes.{found}
use Rattle.fw_units.specs.Frames.{begun_at, channels_in, comes_from, goes_to, pushed_at, staged_of_one, taken_at, words_by}

abbrev pub words_at : Tables → ℕ → List ℤ
words_at t id = words_by (found t id)

-- ---- what begins

-- the tables once the one of an id has so many channels, at so many frames a second, with the words of its piece after that
abbrev pub begun : (id channels rate : ℕ) → List ℤ → Tables → Tables
begun id channels rate words t = record {
  comps = map (begun_at id channels rate words) t.comps;
  buffers = map (begun_at id channels rate words) t.buffers;
  pipes = map (begun_at id channels rate words) t.pipes;
  joins = t.joins;
}

abbrev pub staged_at : Tables → ℕ → List ℕ
staged_at t id = staged_of_one (found t id)

-- ---- frames of one buffer

abbrev pub channels_at : Tables → ℕ → ℕ
channels_at t id = channels_in t.buffers id

-- ---- the buffer that a component feeds, and the one that it is fed from

-- the id of the first buffer out of a component, and of the first into it
abbrev pub buffer_out_of : Tables → ℕ → ℕ
buffer_out_of t id = option_map_or (λ c. c.id) (find (comes_from id) t.buffers) 0

abbrev pub in_of : Tables → ℕ → ℕ
in_of t id = option_map_or (λ c. c.id) (find (goes_to id) t.buffers) 0

-- the tables once a buffer lost its first frames, or got more after its own, with the words of its piece after that
abbrev pub with_taken : ℕ → ℕ → Tables → Tables
with_taken id n t = record { comps = t.comps; buffers = map (taken_at id n) t.buffers; pipes = t.pipes; joins = t.joins }

abbrev pub pushed : ℕ → List Frame → List ℤ → Tables → Tables
pushed id frames words t = record { comps = t.comps; buffers = map (pushed_at id frames words) t.buffers; pipes = t.pipes; joins = t.joins }

-- ---- how it is seen

-- the ring of a buffer with other frames
abbrev pub with_frames : (List Frame → List Frame) → ℕ → RingView → RingView
with_frames f id r = if r.buffer == id then record { buffer = r.buffer; frames = f r.frames } else r
