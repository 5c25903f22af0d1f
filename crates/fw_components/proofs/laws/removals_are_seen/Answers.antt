use Rattle.std.proofs.Common.{refl}
use Rattle.fw_components.proofs.SeenLaws.{gone}
use Rattle.stream_law.specs.declared.graph.Comp.{Comp}
use Rattle.stream_law.specs.declared.graph.Edge.{Edge}
use Rattle.stream_law.specs.declared.graph.Pipe.{Pipe}
use Rattle.stream_law.specs.State.{RingView}
use Rattle.fw_units.specs.Units.{comp_by, edge_by, pipe_by, ring_by}
use Rattle.fw_components.proofs.laws.removals_are_seen.Goals as goal

pub returns-clause-comps : goal.returns-clause-comps
returns-clause-comps c id xs = gone comp_by (λ (y : Comp). y.id) (λ y. refl) id xs

pub returns-clause-edges : goal.returns-clause-edges
returns-clause-edges c id xs = gone edge_by (λ (y : Edge). y.buffer) (λ y. refl) id xs

pub returns-clause-pipes : goal.returns-clause-pipes
returns-clause-pipes c id xs = gone pipe_by (λ (y : Pipe). y.id) (λ y. refl) id xs

pub returns-clause-rings : goal.returns-clause-rings
returns-clause-rings c id xs = gone ring_by (λ (y : RingView). y.buffer) (λ y. refl) id xs
