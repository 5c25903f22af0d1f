-- The firmware's whole state, with what stands in the tables of a registry, and the region of its pieces.
use Rattle.std.specs.Prelude.{ℕ, List}
use Rattle.std.specs.List.{AllByRecursion}
use Rattle.sof_base.specs.declared.hole.Hole.{Hole}
use Rattle.stream_law.specs.State.{FwState}
use Rattle.fw_heap.specs.declared.run.Home.{Home}
use Rattle.fw_units.specs.Changes.{IsOfHome}
use Rattle.fw_components.specs.Tables.{Tables, all_of, graph_of, streams_of, rings_of, histories_of, staging_of, carved_pieces}

-- each piece is of this region
abbrev pub AreOf : Home → Tables → Type 0
AreOf home t = AllByRecursion (IsOfHome home) (all_of t)

-- the state with these holes at a clock: all else stands in the tables
abbrev pub state_over : Tables → List Hole → ℕ → FwState
state_over t holes clock = record {
  heap = record { holes = holes; pieces = carved_pieces t };
  clock = clock;
  graph = graph_of t;
  streams = streams_of t;
  rings = rings_of t;
  histories = histories_of t;
  staging = staging_of t;
}

-- a state whose graph, streams, rings, histories, staged bytes and pieces are those of tables
abbrev pub with_tables : Tables → FwState → FwState
with_tables t f = state_over t f.heap.holes f.clock
