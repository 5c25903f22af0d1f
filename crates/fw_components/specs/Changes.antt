-- What calls change of the tables of a registry.
use Rattle.std.specs.Prelude.{◌≡◌, ℕ, ◌/◌, ◌≤◌, ◌%◌, List, [], ◌∷◌, ◌++◌, map, length, Bool, true, false, ◌==◌, ◌||◌, ◌&&◌, not, nat_le, Option, Some, None, filter, find, is_none}
use Rattle.std.specs.List.{list_any, list_all}
use Rattle.stream_law.specs.Placed.{placed}
use Rattle.stream_law.specs.declared.stream.Phase.{Phase}
use Rattle.stream_law.specs.declared.stream.Phase.TheVariants.{Idle}
use Rattle.mbox_link.specs.Step.{touches}
use Rattle.fw_units.specs.declared.component.Unit as units
use Rattle.fw_units.specs.declared.component.Unit.TheVariants.{Host, Volume, Eq, Demux, Buffer, Pipeline}
use Rattle.fw_units.specs.declared.component.Component.{Component}
use Rattle.fw_units.specs.Units.{is_buffer, is_pipeline, source_by, sink_by}
use Rattle.fw_components.specs.Tables.{Tables, all_of}
use Rattle.fw_heap.specs.declared.run.Home.{Home}
use Rattle.sof_base.specs.declared.hole.Hole.{Hole}
use Rattle.stream_law.specs.declared.graph.Join.{Join}
use Rattle.fw_units.specs.Changes.{IsOfHome, given_by, has_id, joined_at}

-- the tables with one more component, buffer or pipeline, before the first of a greater id
abbrev pub added_by : Bool → Bool → Component → Tables → Tables
added_by true pipeline c t = record { comps = t.comps; buffers = placed (λ x. x.id) c t.buffers; pipes = t.pipes; joins = t.joins }
added_by false true c t = record { comps = t.comps; buffers = t.buffers; pipes = placed (λ x. x.id) c t.pipes; joins = t.joins }
added_by false false c t = record { comps = placed (λ x. x.id) c t.comps; buffers = t.buffers; pipes = t.pipes; joins = t.joins }

abbrev pub added : Component → Tables → Tables
added c t = added_by (is_buffer c.unit) (is_pipeline c.unit) c t

-- 128 components, 128 buffers or 32 pipelines are there already
abbrev pub is_full_by : Bool → Bool → Tables → Bool
is_full_by true pipeline t = nat_le 128 (length t.buffers)
is_full_by false true t = nat_le 32 (length t.pipes)
is_full_by false false t = nat_le 128 (length t.comps)

abbrev pub is_full : units.Unit → Tables → Bool
is_full unit t = is_full_by (is_buffer unit) (is_pipeline unit) t

-- an id is that of something
abbrev pub is_there : Tables → ℕ → Bool
is_there t id = list_any (λ c. c.id == id) (all_of t)

-- ---- what is so of a unit that is added

abbrev pub is_idle_phase : Phase → Bool
is_idle_phase Idle = true
is_idle_phase phase = false

-- a buffer is joined to nothing, and its ring is empty and has the words of its bytes; a host is Idle and without parameters; of
-- an equaliser's blob nothing is staged; a volume has 1 to 8 gains of at most 16777216, as many to go from, and a ramp of at most 10000
-- milliseconds; a demux has eight masks of at most 255; a period is that of a message
abbrev pub IsNew : units.Unit → Type 0
IsNew (Host capture phase params piece) = (is_idle_phase phase ≡ true) × (params ≡ None)
IsNew (Volume gains ramp from done frames piece) =
    (1 ≤ length gains) × (length gains ≤ 8) × (list_all (λ g. nat_le g 16777216) gains ≡ true)
    × (length from ≡ length gains) × (list_all (λ g. nat_le g 16777216) from ≡ true) × (ramp ≤ 10000)
IsNew (Eq eq next remaining) = (next ≡ 0) × (remaining ≡ 0)
IsNew (Demux masks piece) = (length masks ≡ 8) × (list_all (λ m. nat_le m 255) masks ≡ true)
IsNew (Buffer size ring source sink) = (source ≡ None) × (sink ≡ None) × (ring.frames ≡ []) × (ring.words ≡ size / 4)
IsNew (Pipeline sched period complete piece) = (1000 ≤ period) × (period ≤ 10000) × (period % 1000 ≡ 0)
IsNew unit = Unit {0}

-- a pipeline's index is that of no other
abbrev pub has_new_index : Component → Tables → Bool
has_new_index c t = not (is_pipeline c.unit && list_any (λ p. p.pipe == c.pipe) t.pipes)

-- ---- joins

-- a buffer of this id has no source, or no sink
abbrev pub has_free_source : List Component → ℕ → Bool
has_free_source cs id = list_any (λ c. c.id == id && is_none (source_by c.unit)) cs

abbrev pub has_free_sink : List Component → ℕ → Bool
has_free_sink cs id = list_any (λ c. c.id == id && is_none (sink_by c.unit)) cs

-- one is a component, and the other a buffer whose side is not joined
abbrev pub can_join : Tables → Join → Bool
can_join t j = (has_id t.comps j.source && has_free_source t.buffers j.sink) || (has_free_sink t.buffers j.source && has_id t.comps j.sink)

-- the tables with one more join, the last in order
abbrev pub tables_with_join : Join → Tables → Tables
tables_with_join j t = record { comps = t.comps; buffers = map (joined_at j) t.buffers; pipes = t.pipes; joins = t.joins ++ j ∷ [] }

-- ---- what goes, and what pieces leave

-- the component of an id
abbrev pub found : Tables → ℕ → Option Component
found t id = find (λ c. c.id == id) (all_of t)

abbrev pub given_found : Option Component → List Hole → List Hole
given_found None holes = holes
given_found (Some c) holes = given_by c holes

-- what is found of this id is of this region
abbrev pub IsFoundOf : Home → Option Component → Type 0
IsFoundOf home None = Unit {0}
IsFoundOf home (Some c) = IsOfHome home c

-- the tables without a component, a buffer with its joins, or a pipeline
abbrev pub without_by : Bool → Bool → ℕ → Tables → Tables
without_by true buffer id t = record { comps = filter (λ c. not (c.id == id)) t.comps; buffers = t.buffers; pipes = t.pipes; joins = t.joins }
without_by false true id t = record { comps = t.comps; buffers = filter (λ c. not (c.id == id)) t.buffers; pipes = t.pipes; joins = filter (λ j. not (touches id j)) t.joins }
without_by false false id t = record { comps = t.comps; buffers = t.buffers; pipes = filter (λ c. not (c.id == id)) t.pipes; joins = t.joins }

abbrev pub tables_without : ℕ → Tables → Tables
tables_without id t = without_by (has_id t.comps id) (has_id t.buffers id) id t
