-- Rule 14: the edges have no cycle, and every walk from a host that plays to a host that captures has an echo edge.
use Rattle.std.specs.Prelude.{◌≡◌, ℕ, zero, suc, List, Bool, true, ◌&&◌, ◌==◌}
use Rattle.std.specs.List.{list_any}
use Rattle.stream_law.specs.declared.graph.Comp.{Comp}
use Rattle.stream_law.specs.declared.graph.Edge.{Edge}
use Rattle.stream_law.specs.Ways.{is_end, is_play, is_capture}
use Rattle.tplg_walks.specs.Echoes.{plain_edges}
use Rattle.tplg_walks.specs.Rules.{Rule}

-- ---- walks

-- an edge leads from a to b
abbrev pub are_joined : List Edge → ℕ → ℕ → Bool
are_joined edges a b = list_any (λ e. is_end e.source a && is_end e.sink b) edges

-- a walk of n edges leads from a to b
abbrev pub EdgeWalk : List Edge → ℕ → ℕ → ℕ → Type 0
EdgeWalk edges zero a b = a ≡ b
EdgeWalk edges (suc n) a b = (c : ℕ) × (are_joined edges a c ≡ true) × EdgeWalk edges n c b

-- b is reached from a along one edge or more
abbrev pub Reaches : List Edge → ℕ → ℕ → Type 0
Reaches edges a b = (n : ℕ) × EdgeWalk edges (suc n) a b

-- ---- the rule, in two parts

-- a host that plays, and one that captures, by id
abbrev pub plays_at : List Comp → ℕ → Bool
plays_at comps id = list_any (λ c. c.id == id && is_play c.kind) comps

abbrev pub captures_at : List Comp → ℕ → Bool
captures_at comps id = list_any (λ c. c.id == id && is_capture c.kind) comps

-- a host that captures is reached from this id
abbrev pub ReachesCapture : List Comp → List Edge → ℕ → Type 0
ReachesCapture comps edges id = (d : ℕ) × (captures_at comps d ≡ true) × Reaches edges id d

-- no walk along the edges leads from this id to itself; ids go from 0
abbrev pub cycles_rule : ℕ → List Edge → Rule
cycles_rule ids edges = record { number = 14; items = ids; Holds = λ id. Reaches edges id id → ⊥ }

-- where this id is a host that plays, it reaches none that captures along these edges
abbrev pub captures_rule : ℕ → List Comp → List Edge → Rule
captures_rule ids comps edges = record {
  number = 14;
  items = ids;
  Holds = λ id. plays_at comps id ≡ true → ReachesCapture comps edges id → ⊥;
}

-- none along the edges that are no echo edges
abbrev pub ways_rule : ℕ → List Comp → List Edge → Rule
ways_rule ids comps edges = captures_rule ids comps (plain_edges comps edges)
