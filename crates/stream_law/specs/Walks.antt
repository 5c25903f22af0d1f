-- Walks along the edges of a graph, each named by its buffer, and along its joins.
use Rattle.std.specs.Prelude.{◌≡◌, ℕ, zero, suc, List, true, Some}
use Rattle.std.specs.List.{Contains}
use Rattle.stream_law.specs.declared.graph.Join.{Join}
use Rattle.stream_law.specs.declared.graph.Graph.{Graph}
use Rattle.stream_law.specs.Ways.{components, source_of, sink_of}
use Rattle.stream_law.specs.Order.{is_among}

-- an edge leads from a to c
pub record LeadsTo (g : Graph) (a c : ℕ) : Type 0 where
  pub buffer : ℕ
  pub source : source_of g buffer ≡ Some a
  pub sink : sink_of g buffer ≡ Some c

-- a walk of n edges leads from a to b
abbrev pub Walk : Graph → ℕ → ℕ → ℕ → Type 0
Walk g zero a b = a ≡ b
Walk g (suc n) a b = (c : ℕ) × LeadsTo g a c × Walk g n c b

-- a walk of n joins leads from a to b: from a component into a buffer, or from a buffer into a component
abbrev pub JoinWalk : List Join → ℕ → ℕ → ℕ → Type 0
JoinWalk joins zero a b = a ≡ b
JoinWalk joins (suc n) a b = (j : Join) × Contains joins j × (j.source ≡ a) × JoinWalk joins n j.sink b

-- a walk of one edge or more leads from a component to itself
abbrev pub HasCycle : Graph → Type 0
HasCycle g = (c : ℕ) × (n : ℕ) × Walk g (suc n) c c

-- each end that an edge has is a component
pub record HasEnds (g : Graph) : Type 0 where
  pub sources : (b a : ℕ) → source_of g b ≡ Some a → is_among (components g) a ≡ true
  pub sinks : (b a : ℕ) → sink_of g b ≡ Some a → is_among (components g) a ≡ true

-- each component has its place among these ids
abbrev pub HasAll : Graph → List ℕ → Type 0
HasAll g ids = (c : ℕ) → is_among (components g) c ≡ true → is_among ids c ≡ true
