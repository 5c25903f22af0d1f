-- The law of the tests of walks: each says whether there is such a walk.
use Rattle.std.specs.Prelude.{◌≡◌, ◌↔◌, ℕ, List, true}
use Rattle.stream_law.specs.declared.graph.Comp.{Comp}
use Rattle.stream_law.specs.declared.graph.Edge.{Edge}
use Rattle.tplg_walks.specs.Cycles.{EdgeWalk, Reaches, ReachesCapture}
use Rattle.tplg_walks.specs.Echoes.{leads_along, reaches, leads_to_capture, plain_edges}

-- a walk of no edges or more
abbrev pub LeadsByWalks : Type 0
LeadsByWalks = (edges : List Edge) (a b : ℕ) → (leads_along edges a b ≡ true) ↔ ((n : ℕ) × EdgeWalk edges n a b)

-- one of one edge or more
abbrev pub ReachesByWalks : Type 0
ReachesByWalks = (edges : List Edge) (a b : ℕ) → (reaches edges a b ≡ true) ↔ Reaches edges a b

-- and one into a host that captures, without an echo edge
abbrev pub CapturesByWalks : Type 0
CapturesByWalks = (comps : List Comp) (edges : List Edge) (id : ℕ) → (leads_to_capture comps (plain_edges comps edges) id ≡ true) ↔ ReachesCapture comps (plain_edges comps edges) id
