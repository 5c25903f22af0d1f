-- No edge of a graph of tables is there twice.
use Rattle.std.proofs.Common.{◌≡◌, refl, ap, List, ℕ, [], ◌∷◌, map}
use Rattle.stream_law.specs.declared.graph.Edge.{Edge}
use Rattle.stream_law.specs.Placed.{Ascends, HasDistinct}
use Rattle.stream_law.proofs.Placing.{Ascends-distinct}
use Rattle.row_laws.proofs.Ascending.{ascends-keys}
use Rattle.fw_units.specs.declared.component.Component.{Component}
use Rattle.fw_units.specs.Units.{edge_by}
use Rattle.fw_components.specs.Tables.{Tables, graph_of}

same-keys : (cs : List Component) → map (λ (c : Component). c.id) cs ≡ map (λ (e : Edge). e.buffer) (map edge_by cs)
same-keys [] = refl
same-keys (c ∷ cs) = ap (λ (ids : List ℕ). c.id ∷ ids) (same-keys cs)

-- no edge is there twice
pub edges-distinct : (t : Tables) → Ascends (λ c. c.id) t.buffers → HasDistinct (λ (e : Edge). e.buffer) (graph_of t).edges
edges-distinct t up = Ascends-distinct (λ (e : Edge). e.buffer) (map edge_by t.buffers) (ascends-keys (λ (c : Component). c.id) (λ (e : Edge). e.buffer) t.buffers (map edge_by t.buffers) (same-keys t.buffers) up)
