-- Which pipelines a stream needs, by their indices.
use Rattle.std.specs.Prelude.{◌≡◌, ◌↔◌, ℕ, List, [], ◌∷◌, ◌++◌, filter, length, Bool, true, ◌||◌, ◌==◌, Option, Some, None, unwrap_or, option_and_then, if◌then◌else◌}
use Rattle.std.specs.List.{flat_map, AllByRecursion}
use Rattle.stream_law.specs.declared.graph.Comp.{Comp}
use Rattle.stream_law.specs.declared.graph.Join.{Join}
use Rattle.stream_law.specs.declared.graph.Graph.{Graph}
use Rattle.stream_law.specs.Ways.{components, buffers, leads, reaches, splits, on_way}
use Rattle.stream_law.specs.Order.{is_among}
use Rattle.host_widgets.specs.Indices.{index_at, pipe_indices}

-- ---- the least closed set

-- a set has the index that is there
abbrev pub HasAt : (ℕ → Bool) → Option ℕ → Type 0
HasAt has None = Unit {0}
HasAt has (Some i) = has i ≡ true

-- the index of the component at an end of an edge
abbrev pub end_index : Graph → Option ℕ → Option ℕ
end_index g end = option_and_then (index_at g) end

-- a component reaches this, or is reached from it
abbrev pub is_joined_to : Graph → ℕ → ℕ → Bool
is_joined_to g c x = reaches g c x || reaches g x c

-- A set that has with the index of a pipeline that of the component that schedules it; with the index of a buffer those of its source
-- and its sink; and with the index of a component that splits those of all that it reaches or is reached from.
pub record HasBrought (g : Graph) (has : ℕ → Bool) : Type 0 where
  pub schedulers : AllByRecursion (λ p. has p.index ≡ true → HasAt has (index_at g p.sched)) g.pipes
  pub ends : AllByRecursion (λ e. has e.pipe ≡ true → HasAt has (end_index g e.source) × HasAt has (end_index g e.sink)) g.edges
  pub split : AllByRecursion (λ c. splits c.kind ≡ true → has c.pipe ≡ true → (x : ℕ) → is_joined_to g c.id x ≡ true → HasAt has (index_at g x)) g.comps

-- such a set that has the indices of all that is on the way of a host's stream
pub record IsEnough (g : Graph) (host : ℕ) (has : ℕ → Bool) : Type 0 where
  pub way : (x : ℕ) → on_way g host x ≡ true → HasAt has (index_at g x)
  pub closed : HasBrought g has

-- the least such set has the indices that each of them has
abbrev pub IsNeeded : Graph → ℕ → ℕ → Type 0
IsNeeded g host i = (has : ℕ → Bool) → IsEnough g host has → has i ≡ true

-- ---- the same by walks

-- an index that brings another
abbrev pub bring : ℕ → Option ℕ → List Join
bring i None = []
bring i (Some j) = if i == j then [] else record { source = i; sink = j } ∷ []

-- the host's index brings those of all on its way
abbrev pub way_brings : Graph → ℕ → ℕ → List Join
way_brings g host i = flat_map (λ x. if on_way g host x then bring i (index_at g x) else []) (components g ++ buffers g)

-- a pipeline's that of its scheduler
abbrev pub scheduler_brings : Graph → List Join
scheduler_brings g = flat_map (λ p. bring p.index (index_at g p.sched)) g.pipes

-- a buffer's those of its ends
abbrev pub buffer_brings : Graph → List Join
buffer_brings g =
    flat_map (λ e. bring e.pipe (end_index g e.source) ++ bring e.pipe (end_index g e.sink)) g.edges

-- a component that splits brings those of all that it reaches or is reached from
abbrev pub joined_brings : Graph → Comp → List Join
joined_brings g c = flat_map (λ x. if is_joined_to g c.id x then bring c.pipe (index_at g x) else []) (components g ++ buffers g)

abbrev pub split_brings : Graph → List Join
split_brings g = flat_map (λ c. if splits c.kind then joined_brings g c else []) g.comps

abbrev pub brings : Graph → ℕ → ℕ → List Join
brings g host i = way_brings g host i ++ (scheduler_brings g ++ (buffer_brings g ++ split_brings g))

-- the index of the host
abbrev pub host_index : Graph → ℕ → ℕ
host_index g host = unwrap_or (index_at g host) 0

-- steps from one index to one that it brings lead from the host's index to this one
abbrev pub is_needed : Graph → ℕ → ℕ → Bool
is_needed g host i =
    let from = host_index g host in let links = brings g host from in leads links (length links) from i

-- what a stream needs, by the ids of its pipelines
abbrev pub need_in : Graph → ℕ → List ℕ
need_in g host = filter (is_needed g host) (pipe_indices g)

-- ---- that both are one

-- the host is a component, and each component and each buffer has a pipeline
pub record IsPiped (g : Graph) (host : ℕ) : Type 0 where
  pub there : is_among (components g) host ≡ true
  pub comps : AllByRecursion (λ c. is_among (pipe_indices g) c.pipe ≡ true) g.comps
  pub edges : AllByRecursion (λ e. is_among (pipe_indices g) e.pipe ≡ true) g.edges

-- an index is in the list exactly where it is needed
abbrev pub NeedIsLeast : Type 0
NeedIsLeast = (g : Graph) (host : ℕ) → IsPiped g host → (i : ℕ) → (is_among (need_in g host) i ≡ true) ↔ IsNeeded g host i
