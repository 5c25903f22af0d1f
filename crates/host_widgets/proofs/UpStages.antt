-- How far a firmware is while pipelines are made or unmade.
use Rattle.std.proofs.Common.{Some, ◌≡◌, ℕ, List, [], map, filter, Bool, true, false, ◌||◌}
use Rattle.std.specs.Option.{option_map_or}
use Rattle.std.specs.List.{zip, flat_map, AllByRecursion}
use Rattle.sof_base.specs.Holes.{rounded}
use Rattle.stream_law.specs.declared.graph.Comp.{Comp}
use Rattle.stream_law.specs.declared.graph.Edge.{Edge}
use Rattle.stream_law.specs.declared.graph.Pipe.{Pipe}
use Rattle.stream_law.specs.declared.graph.Join.{Join}
use Rattle.stream_law.specs.declared.graph.Graph.{Graph}
use Rattle.stream_law.specs.declared.stream.StreamView.{StreamView}
use Rattle.stream_law.specs.State.{HeapView, PieceView}
use Rattle.stream_law.specs.Order.{is_among}
use Rattle.stream_law.proofs.Members.{IsIn}
use Rattle.tplg_plan.specs.declared.plans.Plan.{Plan}
use Rattle.tplg_plan.specs.declared.plans.StreamPlan.{StreamPlan}
use Rattle.host_widgets.specs.declared.kept.Record.{Record}
use Rattle.host_widgets.specs.declared.kept.StreamRec.{StreamRec}
use Rattle.host_widgets.specs.Acts.{widget_ids, widget_words}
use Rattle.host_widgets.specs.Expected.{stream_view, stated_bytes}
use Rattle.host_widgets.proofs.ControlLists.{Pair}
use Rattle.host_widgets.proofs.Joined.{edge_with}
use Rattle.host_widgets.proofs.PutsTaken.{comp_while}
use Rattle.host_widgets.specs.There.{There}
use Rattle.host_widgets.specs.Up.{buffer_joins}
use Rattle.host_widgets.specs.Indices.{join_index}

-- ---- stages

-- the widgets of these ids are there, and these joins; these live controls are still to be set; and the pipelines of these ids are complete
pub record Stage : Type 0 where
  pub has : ℕ → Bool
  pub joins : List Join
  pub todo : List Pair
  pub done : ℕ → Bool

abbrev pub StreamPair : Type 0
StreamPair = StreamPlan × StreamRec

abbrev pub pipe_as : (ℕ → Bool) → Pipe → Pipe
pipe_as done p = record { id = p.id; index = p.index; sched = p.sched; period = p.period; complete = done p.id }

abbrev pub comps_left : Plan → Stage → List Comp
comps_left plan st = filter (λ (c : Comp). st.has c.id) plan.graph.comps

abbrev pub edges_left : Plan → Stage → List Edge
edges_left plan st = filter (λ (e : Edge). st.has e.buffer) plan.graph.edges

abbrev pub pipes_left : Plan → Stage → List Pipe
pipes_left plan st = filter (λ (p : Pipe). st.has p.id) plan.graph.pipes

abbrev pub stage_graph : Plan → Record → Stage → Graph
stage_graph plan kept st = record {
  comps = map (comp_while plan kept st.todo) (comps_left plan st);
  edges = map (edge_with st.joins) (edges_left plan st);
  pipes = map (pipe_as st.done) (pipes_left plan st);
  joins = st.joins;
}

abbrev pub stage_streams : Plan → Record → Stage → List StreamView
stage_streams plan kept st = map stream_view (filter (λ (p : StreamPair). st.has p.0.host) (zip plan.streams kept.streams))

-- a piece has the rounded size of its widget
abbrev pub IsSized : Plan → PieceView → Type 0
IsSized plan p = p.size ≡ rounded (stated_bytes plan p.id)

-- the heap has a piece for each widget that is there, and no other
pub record IsHeapAt (plan : Plan) (st : Stage) (h : HeapView) : Type 0 where
  pub pieces : map (λ (p : PieceView). p.id) h.pieces ≡ filter st.has (widget_ids plan)
  pub sizes : AllByRecursion (IsSized plan) h.pieces

-- what is there at a stage
abbrev pub at_stage : Plan → Record → Stage → HeapView → There
at_stage plan kept st h = record { heap = h; graph = stage_graph plan kept st; streams = stage_streams plan kept st }

pub record IsStage (plan : Plan) (kept : Record) (st : Stage) (t : There) : Type 0 where
  pub is : t ≡ at_stage plan kept st t.heap
  pub heap : IsHeapAt plan st t.heap

-- the index of the pipeline of an id
abbrev pub index_of_id : Plan → ℕ → ℕ
index_of_id plan id = (widget_words plan id).pipe

-- a join is at a buffer of these indices
abbrev pub is_join_of : Graph → List ℕ → Join → Bool
is_join_of g up j = option_map_or (is_among up) (join_index g j) false

-- all of these indices is there, and nothing else
abbrev pub up_stage : Plan → List ℕ → Stage
up_stage plan up = record {
  has = λ id. is_among up (index_of_id plan id);
  joins = flat_map (buffer_joins plan.graph) up;
  todo = [];
  done = λ id. true;
}

-- A stage at which all that is up is there, and else nothing but what is of these other indices. Each join is one of the graph, between
-- what is there, and those of what is up stand in their order. No live control of what is up is still to be set, and its pipelines are
-- complete.
pub record IsAmid (plan : Plan) (up n : List ℕ) (st : Stage) : Type 0 where
  pub there : (id : ℕ) → is_among up (index_of_id plan id) ≡ true → st.has id ≡ true
  pub only : (id : ℕ) → st.has id ≡ true → (is_among up (index_of_id plan id) || is_among n (index_of_id plan id)) ≡ true
  pub joins : (j : Join) → IsIn j st.joins → IsIn j plan.graph.joins × (st.has j.source ≡ true) × (st.has j.sink ≡ true)
  pub rest : filter (is_join_of plan.graph up) st.joins ≡ flat_map (buffer_joins plan.graph) up
  pub todo : (p : Pair) → IsIn p st.todo → is_among up (index_of_id plan p.0.comp) ≡ false
  pub done : (id : ℕ) → is_among up (index_of_id plan id) ≡ true → st.done id ≡ true

-- A stage at which all is there of what is up: its widgets, and each join at its buffers; and its pipelines are complete. Each join is
-- one of the graph.
pub record HasUp (plan : Plan) (up : List ℕ) (st : Stage) : Type 0 where
  pub there : (id : ℕ) → is_among up (index_of_id plan id) ≡ true → st.has id ≡ true
  pub whole : (j : Join) → IsIn j st.joins → IsIn j plan.graph.joins
  pub joined : (j : Join) (i : ℕ) → IsIn j plan.graph.joins → join_index plan.graph j ≡ Some i → is_among up i ≡ true → IsIn j st.joins
  pub done : (id : ℕ) → is_among up (index_of_id plan id) ≡ true → st.done id ≡ true
