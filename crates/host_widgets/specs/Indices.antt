-- The indices of pipelines, and of which of them a component, a buffer or a join is.
use Rattle.std.specs.Prelude.{ℕ, List, map, Bool, false, Option, Some, None}
use Rattle.std.specs.Option.{option_map_or}
use Rattle.stream_law.specs.declared.graph.Comp.{Comp}
use Rattle.stream_law.specs.declared.graph.Edge.{Edge}
use Rattle.stream_law.specs.declared.graph.Join.{Join}
use Rattle.stream_law.specs.declared.graph.Graph.{Graph}
use Rattle.stream_law.specs.Ways.{comp_of, edge_of}
use Rattle.stream_law.specs.Order.{is_among}

-- the indices of all pipelines, by id
abbrev pub pipe_indices : Graph → List ℕ
pipe_indices g = map (λ p. p.index) g.pipes

-- the index of a component or a buffer: that of its pipeline
abbrev pub named_index : Option Comp → Option Edge → Option ℕ
named_index (Some c) e = Some c.pipe
named_index None (Some e) = Some e.pipe
named_index None None = None

abbrev pub index_at : Graph → ℕ → Option ℕ
index_at g id = named_index (comp_of g id) (edge_of g id)

-- the index of a component or a buffer of this id is one of these
abbrev pub is_up : Graph → List ℕ → ℕ → Bool
is_up g up id = option_map_or (is_among up) (index_at g id) false

-- the index of a join: that of its buffer
abbrev pub buffer_index : Option Edge → Option Edge → Option ℕ
buffer_index (Some e) other = Some e.pipe
buffer_index None (Some e) = Some e.pipe
buffer_index None None = None

abbrev pub join_index : Graph → Join → Option ℕ
join_index g j = buffer_index (edge_of g j.source) (edge_of g j.sink)
