-- How many streams have a component or a buffer on their way, and the parameters of the first of these.
use Rattle.std.specs.Prelude.{◌≡◌, ℕ, Bool, true, false, ◌&&◌, List, length, filter, find, slice_index_or, Option, None, option_and_then}
use Rattle.sof_base.specs.declared.format.Params.{Params}
use Rattle.stream_law.specs.declared.graph.Graph.{Graph}
use Rattle.stream_law.specs.declared.stream.Phase.{Phase}
use Rattle.stream_law.specs.declared.stream.StreamView.{StreamView}
use Rattle.stream_law.specs.Ways.{on_way, is_running_phase, is_live_phase, is_capture}
use Rattle.stream_law.specs.Order.{is_among}
use Rattle.fw_places.specs.Walks.{place_in}
use Rattle.fw_places.specs.Charts.{is_capture_at}
use Rattle.fw_units.specs.declared.component.Unit as units
use Rattle.fw_units.specs.declared.component.Unit.TheVariants.{Host}
use Rattle.fw_units.specs.declared.component.Component.{Component}
use Rattle.fw_components.specs.declared.tallies.Tallies.{Tallies}
use Rattle.fw_components.specs.Tables.{Tables, ids_of, graph_of, streams_of}
use Rattle.fw_units.specs.Units.{kind_by}

-- a stream is in such a phase and has x on its way, where the way of each host is this
abbrev pub passes : (Phase → Bool) → (ℕ → ℕ → Bool) → ℕ → StreamView → Bool
passes is way x s = is s.phase && way s.host x

-- how many streams in such a phase have x on their way
abbrev pub passing : (Phase → Bool) → Tables → ℕ → ℕ
passing is t x = length (filter (passes is (on_way (graph_of t)) x) (streams_of t))

-- At the place of each of these ids: how many of these streams are Running and have it on their way, how many are Running or Paused
-- and do, and the parameters of the first of the latter.
pub record AreTold (way : ℕ → ℕ → Bool) (ids : List ℕ) (streams : List StreamView) (s : Tallies) : Type 0 where
  pub runs : (x : ℕ) → is_among ids x ≡ true → slice_index_or s.running (place_in ids x) 0 ≡ length (filter (passes is_running_phase way x) streams)
  pub lives : (x : ℕ) → is_among ids x ≡ true → slice_index_or s.live (place_in ids x) 0 ≡ length (filter (passes is_live_phase way x) streams)
  pub firsts : (x : ℕ) → is_among ids x ≡ true → slice_index_or s.params (place_in ids x) None ≡ option_and_then (λ s. s.params) (find (passes is_live_phase way x) streams)

-- the same of all components, buffers and streams
abbrev pub IsTallied : Tables → Tallies → Type 0
IsTallied t s = AreTold (on_way (graph_of t)) (ids_of t) (streams_of t) s

-- nothing is counted yet
pub record AreBare (s : Tallies) : Type 0 where
  pub running : (k : ℕ) → slice_index_or s.running k 0 ≡ 0
  pub live : (k : ℕ) → slice_index_or s.live k 0 ≡ 0
  pub params : (k : ℕ) → slice_index_or s.params k None ≡ None

-- ---- the same, host by host

-- a component is a capture's host in a graph where its unit is one
abbrev pub IsSeenIn : Graph → Component → Type 0
IsSeenIn g c = is_capture (kind_by c.unit) ≡ is_capture_at g c.id

-- the stream of a host is in such a phase; no other unit has one
abbrev pub has_phase : (Phase → Bool) → units.Unit → Bool
has_phase is (Host capture phase params piece) = is phase
has_phase is unit = false

-- the parameters of a host's stream
abbrev pub params_in : units.Unit → Option Params
params_in (Host capture phase params piece) = params
params_in unit = None
