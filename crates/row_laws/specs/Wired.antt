-- What is so of every graph that messages build: its ids, its ends, and the sides of its edges.
use Rattle.std.specs.Prelude.{◌≡◌, ℕ, ◌+◌, List, [], ◌∷◌, length, Bool, true, false, ◌&&◌, ◌||◌, ◌==◌, Option, Some, None}
use Rattle.std.specs.List.{list_any, AllByRecursion}
use Rattle.stream_law.specs.declared.graph.Edge.{Edge}
use Rattle.stream_law.specs.declared.graph.Join.{Join}
use Rattle.stream_law.specs.declared.graph.Graph.{Graph}
use Rattle.stream_law.specs.Placed.{HasDistinct}
use Rattle.stream_law.specs.Ways.{leads, is_end}
use Rattle.ipc3_model.specs.Allowed.{is_period_allowed}
use Rattle.mbox_link.specs.Step.{has_comp, has_edge}

-- how many sides of edges are joined
abbrev pub side_count : Option ℕ → ℕ
side_count None = 0
side_count (Some end) = 1

abbrev pub sides_joined : List Edge → ℕ
sides_joined [] = 0
sides_joined (e ∷ edges) = side_count e.source + side_count e.sink + sides_joined edges

-- an id is a component's or a buffer's
abbrev pub is_node : Graph → ℕ → Bool
is_node g id = has_comp g id || has_edge g id

-- a join has a component or a buffer at each end
abbrev pub IsBetween : Graph → Join → Type 0
IsBetween g j = (is_node g j.source ≡ true) × (is_node g j.sink ≡ true)

-- a side of an edge is joined to a component, or to nothing
abbrev pub IsSide : Graph → Option ℕ → Type 0
IsSide g None = Unit {0}
IsSide g (Some c) = has_comp g c ≡ true

-- What is so of a graph: no two components, no two buffers and no two pipelines have one id, no buffer has a component's and no
-- pipeline has that of either, joins and edges end at what is there, and periods are those of messages.
pub record IsWired (g : Graph) : Type 0 where
  pub ids : HasDistinct (λ c. c.id) g.comps
  pub buffers : HasDistinct (λ e. e.buffer) g.edges
  pub names : HasDistinct (λ p. p.id) g.pipes
  pub apart : AllByRecursion (λ e. has_comp g e.buffer ≡ false) g.edges
  pub alone : AllByRecursion (λ p. is_node g p.id ≡ false) g.pipes
  pub ends : AllByRecursion (IsBetween g) g.joins
  pub sides : AllByRecursion (λ e. IsSide g e.source × IsSide g e.sink) g.edges
  pub periods : AllByRecursion (λ p. is_period_allowed p.period ≡ true) g.pipes

-- there is such a join
abbrev pub has_join : Graph → ℕ → ℕ → Bool
has_join g source sink = list_any (λ j. j.source == source && j.sink == sink) g.joins

-- the join that a side of an edge is from
abbrev pub IsJoinedFrom : Graph → Option ℕ → ℕ → Type 0
IsJoinedFrom g None b = Unit {0}
IsJoinedFrom g (Some c) b = has_join g c b ≡ true

abbrev pub IsJoinedTo : Graph → ℕ → Option ℕ → Type 0
IsJoinedTo g b None = Unit {0}
IsJoinedTo g b (Some c) = has_join g b c ≡ true

-- a join is at a side of an edge
abbrev pub is_at : Join → Edge → Bool
is_at j e = (e.buffer == j.sink && is_end e.source j.source) || (e.buffer == j.source && is_end e.sink j.sink)

-- no walk of joins leads from where a join goes to where it comes from
abbrev pub IsOpen : Graph → Join → Type 0
IsOpen g j = leads g.joins (length g.joins) j.sink j.source ≡ false

-- What is so of the sides of a graph's edges: they are those of the joins, and no others, and no walk of joins comes back.
pub record HasJoinedSides (g : Graph) : Type 0 where
  pub at : AllByRecursion (λ j. list_any (is_at j) g.edges ≡ true) g.joins
  pub from : AllByRecursion (λ e. IsJoinedFrom g e.source e.buffer) g.edges
  pub to : AllByRecursion (λ e. IsJoinedTo g e.buffer e.sink) g.edges
  pub open_ends : AllByRecursion (IsOpen g) g.joins
