-- What is reached along edges, by the ids that were seen so far.
use Rattle.std.specs.Prelude.{◌≡◌, ℕ, ◌<◌, List, Bool, true, false, length, slice_index_or, nat_eq, ◌⊎◌}
use Rattle.std.specs.List.{filter_map, IsDistinct}
use Rattle.stream_law.specs.declared.graph.Edge.{Edge}
use Rattle.stream_law.specs.Order.{is_among}
use Rattle.tplg_walks.specs.Cycles.{are_joined, Reaches}

-- an id that is not seen, and that an edge joins to the start or to one that is seen
pub record IsFound (edges : List Edge) (from : ℕ) (seen : List ℕ) (b : ℕ) : Type 0 where
  pub apart : is_among seen b ≡ false
  pub source : ℕ
  pub behind : (source ≡ from) ⊎ (is_among seen source ≡ true)
  pub edge : are_joined edges source b ≡ true

-- each edge from the start, or from an id that is seen, leads to one that is seen
abbrev pub IsSaturated : List Edge → ℕ → List ℕ → Type 0
IsSaturated edges from seen = (a b : ℕ) → (a ≡ from) ⊎ (is_among seen a ≡ true) → are_joined edges a b ≡ true → is_among seen b ≡ true

-- the sinks of the edges
abbrev pub sinks_of : List Edge → List ℕ
sinks_of edges = filter_map (λ e. e.sink) edges

-- ids that are reached, each once, and each the sink of an edge
pub record AreSeen (edges : List Edge) (from : ℕ) (seen : List ℕ) : Type 0 where
  pub distinct : IsDistinct nat_eq seen
  pub there : (x : ℕ) → is_among seen x ≡ true → is_among (sinks_of edges) x ≡ true
  pub reached : (x : ℕ) → is_among seen x ≡ true → Reaches edges from x

-- an id that has a mark is marked where it is seen
abbrev pub AreMarksOf : List ℕ → List Bool → Type 0
AreMarksOf seen marks = (x : ℕ) → x < length marks → slice_index_or marks x false ≡ is_among seen x

-- an edge that goes the other way
abbrev pub turned : Edge → Edge
turned e = record { buffer = e.buffer; pipe = e.pipe; size = e.size; source = e.sink; sink = e.source }
