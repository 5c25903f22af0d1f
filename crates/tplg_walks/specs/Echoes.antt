-- Echo edges: an edge from a demux that plays on to a DAI, into a way that ends at a host that captures and at no DAI that plays.
use Rattle.std.specs.Prelude.{ℕ, List, [], ◌∷◌, filter, Bool, true, false, not, ◌&&◌, ◌||◌, ◌==◌}
use Rattle.std.specs.Option.{option_map_or}
use Rattle.std.specs.List.{list_any}
use Rattle.stream_law.specs.declared.graph.Kind.{Kind}
use Rattle.stream_law.specs.declared.graph.Comp.{Comp}
use Rattle.stream_law.specs.declared.graph.Edge.{Edge}
use Rattle.stream_law.specs.Ways.{is_end, is_play, is_capture, is_dai_play, splits}

-- ---- walks, as tests

-- a walk of no edges or more leads from a to b: one without the first edge, or one up to it and one on from it
abbrev pub leads_along : List Edge → ℕ → ℕ → Bool
leads_along [] a b = a == b
leads_along (e ∷ es) a b = leads_along es a b || (option_map_or (λ c. leads_along es a c) e.source false && option_map_or (λ c. leads_along es c b) e.sink false)

-- b is reached from a along one edge or more
abbrev pub reaches : List Edge → ℕ → ℕ → Bool
reaches edges a b = list_any (λ e. is_end e.source a && option_map_or (λ c. leads_along edges c b) e.sink false) edges

-- a host that captures is reached from this id
abbrev pub leads_to_capture : List Comp → List Edge → ℕ → Bool
leads_to_capture comps edges id = list_any (λ c. is_capture c.kind && reaches edges id c.id) comps

-- ---- components of a sort

-- this id is one's
abbrev pub is_sort_at : List Comp → (Kind → Bool) → ℕ → Bool
is_sort_at comps sort id = list_any (λ c. c.id == id && sort c.kind) comps

-- one is reached from this id
abbrev pub reaches_sort : List Comp → List Edge → (Kind → Bool) → ℕ → Bool
reaches_sort comps edges sort id = list_any (λ c. sort c.kind && reaches edges id c.id) comps

-- this id is reached from one
abbrev pub reached_by_sort : List Comp → List Edge → (Kind → Bool) → ℕ → Bool
reached_by_sort comps edges sort id = list_any (λ c. sort c.kind && reaches edges c.id id) comps

-- ---- echo edges

-- it leaves a component that splits, is reached from a host that plays and reaches a DAI that plays
abbrev pub leaves_demux : List Comp → List Edge → ℕ → Bool
leaves_demux comps edges a = is_sort_at comps splits a && reached_by_sort comps edges is_play a && reaches_sort comps edges is_dai_play a

-- and enters one that is or reaches a host that captures, and neither is nor reaches a DAI that plays
abbrev pub enters_host_capture : List Comp → List Edge → ℕ → Bool
enters_host_capture comps edges c =
    (is_sort_at comps is_capture c || reaches_sort comps edges is_capture c) && not (is_sort_at comps is_dai_play c || reaches_sort comps edges is_dai_play c)

abbrev pub is_echo_edge : List Comp → List Edge → Edge → Bool
is_echo_edge comps edges e = option_map_or (leaves_demux comps edges) e.source false && option_map_or (enters_host_capture comps edges) e.sink false

-- the edges that are none
abbrev pub plain_edges : List Comp → List Edge → List Edge
plain_edges comps edges = filter (λ e. not (is_echo_edge comps edges e)) edges
