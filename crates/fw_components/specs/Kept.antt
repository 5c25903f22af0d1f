-- What is so of the tables of a registry.
use Rattle.std.specs.Prelude.{◌≡◌, ℕ, ◌+◌, ◌*◌, ◌/◌, ◌%◌, ◌≤◌, List, [], ◌∷◌, length, filter, Bool, true, false, ◌||◌, ◌&&◌, not, Option, None, Some, nat_le}
use Rattle.std.specs.List.{list_all, AllByRecursion}
use Rattle.sof_base.specs.declared.format.Params.{Params}
use Rattle.sof_base.specs.Rates.{is_rate}
use Rattle.stream_law.specs.declared.graph.Join.{Join}
use Rattle.stream_law.specs.Placed.{Ascends}
use Rattle.fw_units.specs.declared.component.Unit as units
use Rattle.fw_units.specs.declared.component.Unit.TheVariants.{Host, Volume, Eq, Demux, Buffer, Pipeline}
use Rattle.fw_units.specs.declared.component.Component.{Component}
use Rattle.fw_units.specs.Units.{is_buffer, is_pipeline, source_by, sink_by}
use Rattle.fw_components.specs.Tables.{Tables}
use Rattle.mbox_link.specs.Step.{touches}
use Rattle.fw_units.specs.Changes.{has_id}
use Rattle.fw_components.specs.Changes.{is_idle_phase}

-- neither a buffer nor a pipeline
abbrev pub is_plain : units.Unit → Bool
is_plain unit = not (is_buffer unit || is_pipeline unit)

-- ---- ids

-- no component of the second list has the id of one of the first
abbrev pub AreIdsApart : List Component → List Component → Type 0
AreIdsApart cs ds = AllByRecursion (λ d. has_id cs d.id ≡ false) ds

-- no id is that of two
pub record IsNamed (t : Tables) : Type 0 where
  pub comps : Ascends (λ c. c.id) t.comps
  pub buffers : Ascends (λ c. c.id) t.buffers
  pub pipes : Ascends (λ c. c.id) t.pipes
  pub comps_buffers : AreIdsApart t.comps t.buffers
  pub comps_pipes : AreIdsApart t.comps t.pipes
  pub buffers_pipes : AreIdsApart t.buffers t.pipes

-- ---- joins

-- how many sides of a buffer are joined, and how many of all
abbrev pub side : Option ℕ → ℕ
side None = 0
side (Some end) = 1

abbrev pub sides_by : units.Unit → ℕ
sides_by unit = side (source_by unit) + side (sink_by unit)

abbrev pub sides : List Component → ℕ
sides [] = 0
sides (c ∷ cs) = sides_by c.unit + sides cs

-- how many joins are at an id
abbrev pub joins_at : ℕ → List Join → ℕ
joins_at id joins = length (filter (touches id) joins)

-- a join is between a component and a buffer
abbrev pub is_between : List Component → List Component → Join → Bool
is_between comps buffers j = (has_id comps j.source && has_id buffers j.sink) || (has_id buffers j.source && has_id comps j.sink)

-- each join is between a component and a buffer, and has a side of a buffer of its own
pub record IsLinked (t : Tables) : Type 0 where
  pub between : AllByRecursion (λ j. is_between t.comps t.buffers j ≡ true) t.joins
  pub each : AllByRecursion (λ c. sides_by c.unit ≤ joins_at c.id t.joins) t.buffers
  pub all : length t.joins ≤ sides t.buffers

-- at most 128 components and at most 128 buffers by ascending id, and at most 256 joins between these
pub record AreJoined (comps buffers : List Component) (joins : List Join) : Type 0 where
  pub few_comps : length comps ≤ 128
  pub few_buffers : length buffers ≤ 128
  pub few_joins : length joins ≤ 256
  pub between : AllByRecursion (λ j. is_between comps buffers j ≡ true) joins
  pub named : Ascends (λ c. c.id) comps
  pub named_buffers : Ascends (λ c. c.id) buffers

-- ---- all of it

-- a ring has the words of its bytes; a period is a multiple of 1000 µs from 1000 to 10000; a volume has as many gains to go from as to
-- go to, each at most 16777216, and a ramp of at most 10000 milliseconds; a demux has eight masks of at most 255
abbrev pub IsUnitSound : units.Unit → Type 0
IsUnitSound (Volume gains ramp from done frames piece) =
    (length from ≡ length gains) × (list_all (λ g. nat_le g 16777216) gains ≡ true) × (list_all (λ g. nat_le g 16777216) from ≡ true) × (ramp ≤ 10000)
IsUnitSound (Demux masks piece) = (length masks ≡ 8) × (list_all (λ m. nat_le m 255) masks ≡ true)
IsUnitSound (Buffer size ring source sink) = ring.words ≡ size / 4
IsUnitSound (Pipeline sched period complete piece) = (1000 ≤ period) × (period ≤ 10000) × (period % 1000 ≡ 0)
IsUnitSound unit = Unit {0}

-- a buffer's unit, and a pipeline's
abbrev pub IsBuffering : units.Unit → Type 0
IsBuffering unit = (is_buffer unit ≡ true) × IsUnitSound unit

abbrev pub IsPiping : units.Unit → Type 0
IsPiping unit = (is_pipeline unit ≡ true) × IsUnitSound unit

-- a stream is Idle and without parameters, or has 1 to 8 channels and a right rate
abbrev pub IsStreamOf : Bool → Option Params → Type 0
IsStreamOf idle None = idle ≡ true
IsStreamOf idle (Some p) = (idle ≡ false) × ((1 ≤ p.channels) × (p.channels ≤ 8)) × (is_rate p.rate ≡ true)

-- the stream of a host is; what is staged at an equaliser, and what remains of its blob, are at most 992 bytes after the header
abbrev pub IsStreaming : units.Unit → Type 0
IsStreaming (Host capture phase params piece) = IsStreamOf (is_idle_phase phase) params
IsStreaming (Eq eq next remaining) = 260 * next + remaining ≤ 992
IsStreaming unit = Unit {0}

-- There is no more than the limits say, each table holds what is its own and as it should be, no id is that of two, joins have sides of buffers, a host
-- has parameters exactly where its stream is not Idle, and what is staged of a blob is within its bytes.
pub record IsKept (t : Tables) : Type 0 where
  pub comps : length t.comps ≤ 128
  pub buffers : length t.buffers ≤ 128
  pub pipes : length t.pipes ≤ 32
  pub plain : AllByRecursion (λ c. is_plain c.unit ≡ true) t.comps
  pub sound : AllByRecursion (λ c. IsUnitSound c.unit) t.comps
  pub buffering : AllByRecursion (λ c. IsBuffering c.unit) t.buffers
  pub piping : AllByRecursion (λ c. IsPiping c.unit) t.pipes
  pub named : IsNamed t
  pub linked : IsLinked t
  pub streaming : AllByRecursion (λ c. IsStreaming c.unit) t.comps
