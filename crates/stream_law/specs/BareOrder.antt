-- The order of a graph whose components are known by their ids alone.
use Rattle.std.specs.Prelude.{List, []}
use Rattle.stream_law.specs.declared.graph.Comp.{Comp}
use Rattle.stream_law.specs.declared.graph.Edge.{Edge}
use Rattle.stream_law.specs.declared.graph.Graph.{Graph}

-- a graph of these components and edges: what its order is made of
abbrev pub bare : List Comp → List Edge → Graph
bare comps edges = record { comps = comps; edges = edges; pipes = []; joins = [] }
