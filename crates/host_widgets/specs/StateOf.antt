-- All that the firmware keeps once it was brought up.
use Rattle.std.specs.Prelude.{ℕ, List, [], map}
use Rattle.stream_law.specs.declared.graph.Graph.{Graph}
use Rattle.stream_law.specs.State.{FwState, RingView}
use Rattle.tplg_plan.specs.declared.plans.Plan.{Plan}
use Rattle.host_widgets.specs.declared.kept.Record.{Record}
use Rattle.host_widgets.specs.Kept.{first_record}
use Rattle.host_widgets.specs.Expected.{loaded_heap}
use Rattle.host_widgets.specs.ViewOf.{graph_by, record_view}

-- a ring without frames for each buffer
abbrev pub empty_rings : Graph → List RingView
empty_rings g = map (λ e. record { buffer = e.buffer; frames = [] }) g.edges

-- a firmware in which the plan stands with what this record sets, at this clock: every stream is idle, and no audio was moved
abbrev pub state_by : Plan → Record → ℕ → ℕ → FwState
state_by plan kept heap clock = record {
  heap = loaded_heap plan heap;
  clock = clock;
  graph = graph_by plan kept;
  streams = (record_view plan (first_record plan)).streams;
  rings = empty_rings plan.graph;
  histories = [];
  staging = [];
}

-- the same with what controls begin with
abbrev pub loaded_state : Plan → ℕ → ℕ → FwState
loaded_state plan heap clock = state_by plan (first_record plan) heap clock
