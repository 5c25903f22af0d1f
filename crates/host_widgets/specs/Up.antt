-- The part of a graph whose pipelines are up, and what the firmware shows of it.
use Rattle.std.specs.Prelude.{ℕ, List, map, filter, Bool, false, ◌==◌}
use Rattle.std.specs.List.{zip, flat_map}
use Rattle.std.specs.Option.{option_map_or}
use Rattle.stream_law.specs.declared.graph.Join.{Join}
use Rattle.stream_law.specs.declared.graph.Graph.{Graph}
use Rattle.stream_law.specs.State.{View}
use Rattle.stream_law.specs.Order.{is_among}
use Rattle.tplg_plan.specs.declared.plans.Plan.{Plan}
use Rattle.tplg_plan.specs.declared.plans.StreamPlan.{StreamPlan}
use Rattle.host_widgets.specs.declared.kept.Record.{Record}
use Rattle.host_widgets.specs.declared.kept.StreamRec.{StreamRec}
use Rattle.host_widgets.specs.Expected.{stream_view}
use Rattle.host_widgets.specs.ViewOf.{graph_by}
use Rattle.host_widgets.specs.Indices.{is_up, join_index}

-- ---- joins, by the buffers that they are at

-- a join is at a buffer of this index
abbrev pub is_join_at : Graph → ℕ → Join → Bool
is_join_at g i j = option_map_or (λ k. k == i) (join_index g j) false

-- the joins of the buffers of an index, in the graph's order
abbrev pub buffer_joins : Graph → ℕ → List Join
buffer_joins g i = filter (is_join_at g i) g.joins

-- ---- what is up

-- the components, buffers and pipelines of these indices, and the joins of their buffers, by the indices in their order
abbrev pub graph_of_up : Graph → List ℕ → Graph
graph_of_up g up = record {
  comps = filter (λ c. is_among up c.pipe) g.comps;
  edges = filter (λ e. is_among up e.pipe) g.edges;
  pipes = filter (λ p. is_among up p.index) g.pipes;
  joins = flat_map (buffer_joins g) up;
}

-- the host of a stream is up
abbrev pub is_host_up : Plan → List ℕ → StreamPlan × StreamRec → Bool
is_host_up plan up (s, r) = is_up plan.graph up s.host

-- with what the record sets, and the streams whose hosts are up
abbrev pub up_view : Plan → Record → List ℕ → View
up_view plan kept up = record {
  graph = graph_of_up (graph_by plan kept) up;
  streams = map stream_view (filter (is_host_up plan up) (zip plan.streams kept.streams));
}
