use Rattle.std.proofs.Common.{refl}
use Rattle.stream_law.proofs.Placing.{map-placed}
use Rattle.stream_law.specs.declared.graph.Comp.{Comp}
use Rattle.stream_law.specs.declared.graph.Edge.{Edge}
use Rattle.stream_law.specs.declared.graph.Pipe.{Pipe}
use Rattle.stream_law.specs.State.{RingView}
use Rattle.fw_units.specs.declared.component.Component.{Component}
use Rattle.fw_units.specs.Units.{comp_by, edge_by, pipe_by, ring_by}
use Rattle.fw_components.proofs.laws.additions_are_seen.Goals as goal

pub returns-clause-comps : goal.returns-clause-comps
returns-clause-comps c x xs = map-placed comp_by (λ (y : Component). y.id) (λ (y : Comp). y.id) (λ y. refl) x xs

pub returns-clause-edges : goal.returns-clause-edges
returns-clause-edges c x xs = map-placed edge_by (λ (y : Component). y.id) (λ (y : Edge). y.buffer) (λ y. refl) x xs

pub returns-clause-pipes : goal.returns-clause-pipes
returns-clause-pipes c x xs = map-placed pipe_by (λ (y : Component). y.id) (λ (y : Pipe). y.id) (λ y. refl) x xs

pub returns-clause-rings : goal.returns-clause-rings
returns-clause-rings c x xs = map-placed ring_by (λ (y : Component). y.id) (λ (y : RingView). y.buffer) (λ y. refl) x xs
