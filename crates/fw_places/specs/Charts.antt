-- Ids by places, and their joins.
use Rattle.std.specs.Prelude.{◌≡◌, ℕ, ◌≤◌, ◌++◌, List, Bool, true, false, length, map, take, slice_index}
use Rattle.std.specs.List.{AllByRecursion}
use Rattle.std.specs.Option.{option_map_or}
use Rattle.stream_law.specs.declared.graph.Join.{Join}
use Rattle.stream_law.specs.declared.graph.Graph.{Graph}
use Rattle.stream_law.specs.Ways.{components, buffers, comp_of, is_capture}
use Rattle.stream_law.specs.Order.{is_among}
use Rattle.fw_places.specs.Walks.{IsListed, by_places, is_marked}

-- ids, and joins of these
pub record Chart : Type 0 where
  pub ids : List ℕ
  pub joins : List Join

-- a join of the ids at its places
abbrev pub by_ids : List ℕ → Join → Join
by_ids ids j = record { source = slice_index ids j.source; sink = slice_index ids j.sink }

-- the chart of ids and of the first of these joins of places
abbrev pub chart_of : List ℕ → List Join → ℕ → Chart
chart_of ids ends count = record { ids = ids; joins = map (by_ids ids) (take count ends) }

-- what is so of them: there are at most 256 of each, and the joins are of places of ids that are listed
pub record IsChart (ids : List ℕ) (ends : List Join) (count : ℕ) : Type 0 where
  pub few : length ids ≤ 256
  pub within : count ≤ 256
  pub places : take count ends ≡ map (by_places ids) (map (by_ids ids) (take count ends))
  pub listed : AllByRecursion (IsListed ids) (map (by_ids ids) (take count ends))

-- a chart of a graph: of all its components and edges, and of its joins
pub record IsChartOf (g : Graph) (chart : Chart) : Type 0 where
  pub ids : chart.ids ≡ components g ++ buffers g
  pub joins : chart.joins ≡ g.joins

-- an id is that of a capture's host
abbrev pub is_capture_at : Graph → ℕ → Bool
is_capture_at g host = option_map_or (λ c. is_capture c.kind) (comp_of g host) false

-- all ids that are marked are those of playbacks' hosts, or all of captures'
abbrev pub AreHostsOf : Graph → Bool → List ℕ → List Bool → Type 0
AreHostsOf g capture ids marks = (h : ℕ) → is_among ids h ≡ true → is_marked ids marks h ≡ true → capture ≡ is_capture_at g h
