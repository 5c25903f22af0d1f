-- What walks of ways go along, and the echo edges beside them.
use Rattle.std.specs.Prelude.{◌≡◌, ℕ, ◌≤◌, ◌++◌, List, filter, length}
use Rattle.std.specs.List.{AllByRecursion}
use Rattle.stream_law.specs.declared.graph.Join.{Join}
use Rattle.stream_law.specs.declared.graph.Edge.{Edge}
use Rattle.stream_law.specs.declared.graph.Graph.{Graph}
use Rattle.stream_law.specs.Ways.{components, buffers, is_echo, way_joins}
use Rattle.stream_law.specs.Placed.{HasDistinct}
use Rattle.fw_places.specs.Charts.{Chart}
use Rattle.fw_places.specs.Walks.{IsListed}

-- ids, the joins of these that walks of ways go along, and the echo edges
pub record WayChart : Type 0 where
  pub ids : List ℕ
  pub joins : List Join
  pub echoes : List Edge

abbrev pub way_chart_of : Chart → List Edge → WayChart
way_chart_of places echoes = record { ids = places.ids; joins = places.joins; echoes = echoes }

-- what is so of them: there are at most 256 ids
abbrev pub IsWayChart : Chart → Type 0
IsWayChart places = length places.ids ≤ 256

-- the echo edges of a graph
abbrev pub echo_edges : Graph → List Edge
echo_edges g = filter (λ e. is_echo g e.buffer) g.edges

-- a chart of the ways of a graph: of all its components and edges, of its joins at no echo edge, and of its echo edges; each edge has an
-- id of its own, and joins are of these ids
pub record AreWaysOf (g : Graph) (chart : WayChart) : Type 0 where
  pub ids : chart.ids ≡ components g ++ buffers g
  pub joins : chart.joins ≡ way_joins g
  pub echoes : chart.echoes ≡ echo_edges g
  pub distinct : HasDistinct (λ e. e.buffer) g.edges
  pub listed : AllByRecursion (IsListed chart.ids) g.joins
