-- What an id names: components, buffers and pipelines share one id space.
use Rattle.std.specs.Prelude.{ℕ, ◌||◌, Bool, false, Option, Some, None, option_map, ◌==◌}
use Rattle.std.specs.List.{list_any}
use Rattle.stream_law.specs.declared.graph.Kind.{Kind}
use Rattle.stream_law.specs.declared.graph.Graph.{Graph}
use Rattle.stream_law.specs.Ways.{comp_of}

abbrev pub has_comp : Graph → ℕ → Bool
has_comp g id = list_any (λ c. c.id == id) g.comps

abbrev pub has_edge : Graph → ℕ → Bool
has_edge g id = list_any (λ e. e.buffer == id) g.edges

abbrev pub has_pipe : Graph → ℕ → Bool
has_pipe g id = list_any (λ p. p.id == id) g.pipes

-- an id names something: components, buffers and pipelines share one id space
abbrev pub is_used : Graph → ℕ → Bool
is_used g id = has_comp g id || has_edge g id || has_pipe g id

-- some pipeline of this index is there
abbrev pub has_index : Graph → ℕ → Bool
has_index g index = list_any (λ p. p.index == index) g.pipes

-- the kind of a component, and whether it passes a test
abbrev pub kind_at : Graph → ℕ → Option Kind
kind_at g id = option_map (λ c. c.kind) (comp_of g id)

abbrev pub has_kind : (Kind → Bool) → Option Kind → Bool
has_kind test None = false
has_kind test (Some kind) = test kind
