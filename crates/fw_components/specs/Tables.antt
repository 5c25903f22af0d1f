-- What a contract sees of a registry: its components, buffers and pipelines, each by ascending id, and its joins.
use Rattle.std.specs.Prelude.{ℕ, ◌+◌, List, [], ◌++◌, map, filter, ◌==◌, ℤ, find}
use Rattle.std.specs.Option.{option_map_or}
use Rattle.stream_law.specs.declared.graph.Join.{Join}
use Rattle.stream_law.specs.declared.graph.Graph.{Graph}
use Rattle.stream_law.specs.declared.stream.StreamView.{StreamView}
use Rattle.stream_law.specs.State.{PieceView, RingView, History, Staging, View}
use Rattle.stream_law.specs.Ways.{components, buffers}
use Rattle.stream_law.specs.Seen.{remembers}
use Rattle.fw_units.specs.declared.component.Component.{Component}
use Rattle.fw_units.specs.Units.{capacity_by, comp_by, edge_by, numbers_by, pieces_by, pipe_by, ring_by, staging_by, streams_by, unit_frames}

pub record Tables : Type 0 where
  pub comps : List Component
  pub buffers : List Component
  pub pipes : List Component
  pub joins : List Join

-- all that has an id, in the order in which it is counted
abbrev pub all_of : Tables → List Component
all_of t = t.comps ++ (t.buffers ++ t.pipes)

-- ---- the graph

abbrev pub graph_of : Tables → Graph
graph_of t = record { comps = map comp_by t.comps; edges = map edge_by t.buffers; pipes = map pipe_by t.pipes; joins = t.joins }

-- the ids of all components and buffers
abbrev pub ids_of : Tables → List ℕ
ids_of t = components (graph_of t) ++ buffers (graph_of t)

-- ---- streams, rings, histories, staged bytes and pieces

abbrev pub streams_of : Tables → List StreamView
streams_of t = streams_by t.comps

abbrev pub view_by : Tables → View
view_by t = record { graph = graph_of t; streams = streams_of t }

abbrev pub rings_of : Tables → List RingView
rings_of t = map ring_by t.buffers

-- the numbers of each equaliser and volume that is Live
abbrev pub histories_of : Tables → List History
histories_of t = map (λ c. record { comp = c.id; numbers = numbers_by c.unit c.channels }) (filter (λ c. remembers (view_by t) c.id) t.comps)

abbrev pub staging_of : Tables → List Staging
staging_of t = staging_by t.comps

-- the pieces by ascending id
abbrev pub carved_pieces : Tables → List PieceView
carved_pieces t = pieces_by (all_of t)

-- a buffer's frames, and how many it has room for
abbrev pub held_frames : Tables → ℕ → List (List ℤ)
held_frames t id = option_map_or (λ c. unit_frames c.unit) (find (λ c. c.id == id) t.buffers) []

abbrev pub capacity_at : Tables → ℕ → ℕ
capacity_at t id = option_map_or (λ c. capacity_by c.unit) (find (λ c. c.id == id) t.buffers) 0
