use Rattle.std.proofs.Common.{sym, subst, List, map}
use Rattle.stream_law.specs.declared.graph.Join.{Join}
use Rattle.stream_law.specs.declared.graph.Graph.{Graph}
use Rattle.fw_places.specs.WayCharts.{AreWaysOf}
use Rattle.fw_units.specs.declared.component.Component.{Component}
use Rattle.fw_units.specs.Units.{comp_by, edge_by, pipe_by}
use Rattle.fw_components.specs.Kept.{AreJoined}
use Rattle.fw_components.proofs.Listed.{are-joined}
use Rattle.fw_components.proofs.registry.Registry.ways.Goals as goal

pub ways_over-requires : goal.ways_over-requires
ways_over-requires c = subst (λ (p : List Component × List Component × List Join). AreJoined p.0 p.1 p.2) (λ i. (sym c.comps.ensures.items i, sym c.buffers.ensures.items i, sym c.joins.ensures.items i)) (are-joined c.args.self.now c.joins.ensures.kept)

pub returns-clause-ways : goal.returns-clause-ways
returns-clause-ways c =
    let pipes = map pipe_by c.args.self.now.pipes in
    subst (λ (p : List Component × List Component × List Join). let g : Graph = record { comps = map comp_by p.0; edges = map edge_by p.1; pipes = pipes; joins = p.2 } in AreWaysOf g c.ways_over.result)
    (λ i. (c.comps.ensures.items i, c.buffers.ensures.items i, c.joins.ensures.items i)) (c.ways_over.ensures pipes)
