-- How many bytes of heap a graph needs.
use Rattle.std.specs.Prelude.{ℕ, ◌+◌, ◌*◌, ◌≤◌, List, length, map, sum}
use Rattle.sof_base.specs.Holes.{rounded}
use Rattle.stream_law.specs.declared.graph.Comp.{Comp}
use Rattle.stream_law.specs.declared.graph.Edge.{Edge}
use Rattle.stream_law.specs.declared.graph.Graph.{Graph}
use Rattle.stream_law.specs.Sizes.{comp_bytes, buffer_bytes, pipe_bytes}

abbrev pub components_need : List Comp → ℕ
components_need comps = sum (map (λ c. comp_bytes c.kind) comps)

-- a buffer's stated size has its own size in it, and is rounded up to 16
abbrev pub edges_need : List Edge → ℕ
edges_need edges = sum (map (λ e. rounded (buffer_bytes e.size)) edges)

-- components, buffers and pipelines
abbrev pub need_on : Graph → ℕ
need_on g = components_need g.comps + edges_need g.edges + pipe_bytes * length g.pipes

-- at most 128 components, 128 buffers and 32 pipelines
pub record IsSmall (g : Graph) : Type 0 where
  pub comps : length g.comps ≤ 128
  pub edges : length g.edges ≤ 128
  pub pipes : length g.pipes ≤ 32
