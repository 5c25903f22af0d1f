-- What an order of components can be asked of a graph.
use Rattle.std.specs.Prelude.{nat_eq}
use Rattle.std.specs.List.{IsDistinct}
use Rattle.stream_law.specs.declared.graph.Graph.{Graph}
use Rattle.stream_law.specs.Ways.{components}
use Rattle.stream_law.specs.Walks.{HasEnds, HasCycle}

-- distinct ids, and each end that an edge has is a component
pub record IsOrderable (g : Graph) : Type 0 where
  pub distinct : IsDistinct nat_eq (components g)
  pub ends : HasEnds g

-- no walk along the edges leads from a component to itself
abbrev pub IsAcyclic : Graph → Type 0
IsAcyclic g = HasCycle g → ⊥
