-- How what streams need is found: joins that lead from what is marked to what is not, and indices that are noted, each once.
use Rattle.std.specs.Prelude.{ℕ, ◌+◌, ◌<◌, ◌≤◌, List, [], ◌∷◌, ◌++◌, length, slice_index_or, Bool, false, ◌&&◌, not, if◌then◌else◌}
use Rattle.std.specs.List.{AllByRecursion}
use Rattle.stream_law.specs.declared.graph.Join.{Join}
use Rattle.stream_law.specs.declared.graph.Graph.{Graph}
use Rattle.stream_law.specs.Order.{is_among}
use Rattle.stream_law.specs.Ways.{reaches}
use Rattle.host_widgets.specs.Need.{IsPiped}

-- the ids of a join are below the most that a plan has
abbrev pub IsLowJoin : Join → Type 0
IsLowJoin j = (j.source < 288) × (j.sink < 288)

-- a graph in its limits, whose joins are between its components and buffers, and a host in it
pub record IsSearchable (g : Graph) (host : ℕ) : Type 0 where
  pub pipes : length g.pipes ≤ 32
  pub comps : AllByRecursion (λ c. c.id < 288) g.comps
  pub joins : AllByRecursion IsLowJoin g.joins
  pub piped : IsPiped g host

-- ---- walks

-- the end of a join that walks come to first, and the one that they come to then
abbrev pub walk_from : Bool → Join → ℕ
walk_from back j = if back then j.sink else j.source

abbrev pub walk_to : Bool → Join → ℕ
walk_to back j = if back then j.source else j.sink

-- a join leads from what is marked to what is not
abbrev pub is_unwalked : List Bool → Bool → Join → Bool
is_unwalked marks back j = slice_index_or marks (walk_from back j) false && not (slice_index_or marks (walk_to back j) false)

-- what walks lead to from an id, or what they lead to it from where they go back
abbrev pub led_to : Graph → Bool → ℕ → ℕ → Bool
led_to g back id x = if back then reaches g x id else reaches g id x

-- ---- noting

-- an index is noted, unless it is
abbrev pub with_index : ℕ → List ℕ → List ℕ
with_index i has = if is_among has i then has else has ++ i ∷ []
