use Rattle.std.proofs.Common.{◌≡◌, sym, ap, subst, ◌∙◌, ◌==◌, not, List, map, filter, take, length, length-take, arith}
use Rattle.stream_law.specs.declared.graph.Edge.{Edge}
use Rattle.stream_law.specs.declared.graph.Join.{Join}
use Rattle.stream_law.specs.declared.graph.Graph.{Graph}
use Rattle.mbox_link.specs.Step.{touches}
use Rattle.fw_places.specs.WayCharts.{AreWaysOf}
use Rattle.fw_units.specs.declared.component.Component.{Component}
use Rattle.fw_units.specs.Units.{comp_by, edge_by, pipe_by}
use Rattle.fw_components.specs.Tables.{Tables}
use Rattle.fw_components.specs.EchoEdges.{AreLinkable}
use Rattle.fw_components.proofs.Linkable.{buffers-linkable, fewer-linkable}
use Rattle.fw_components.proofs.Listed.{are-joined, joins-few}
use Rattle.fw_components.proofs.registry.Registry.ways_without.Goals as goal

pub joins_without-count-requires : goal.joins_without-count-requires
joins_without-count-requires c = omega (arith, joins-few c.args.self.now c.joins.ensures.kept, ap length c.joins.ensures.items)

pub slice_bounds-joins-end : goal.slice_bounds-joins-end
slice_bounds-joins-end c = omega (arith, joins-few c.args.self.now c.joins.ensures.kept, ap length c.joins.ensures.items, c.joins_without-count.ensures.few, c.joins_without-count.ensures.size)

pub slice_bounds-ways_of-end : goal.slice_bounds-ways_of-end
slice_bounds-ways_of-end c = omega (arith, length-take c.joins_without-count.result c.joins_without-count.new.left, joins-few c.args.self.now c.joins.ensures.kept, ap length c.joins.ensures.items, c.joins_without-count.ensures.few, c.joins_without-count.ensures.size)

pub ways_of-requires : goal.ways_of-requires
ways_of-requires c =
    let t : Tables = c.args.self.now in let b = c.args.buffer in
    let edges : c.as_slice.result.now ≡ filter (λ e. not (e.buffer == b)) (map edge_by t.buffers) = c.as_slice.ensures.value ∙ c.edges_without-edges.ensures ∙ ap (λ (bs : List Component). filter (λ e. not (e.buffer == b)) (map edge_by bs)) c.buffers.ensures.items in
    let left : take c.joins_without-count.result c.joins_without-count.new.left ≡ filter (λ j. not (touches b j)) t.joins = c.joins_without-count.ensures.left ∙ ap (filter (λ (j : Join). not (touches b j))) c.joins.ensures.items in
    subst (λ (p : List Component × List Edge × List Join). AreLinkable p.0 p.1 p.2) (λ i. (sym c.comps.ensures.items i, sym edges i, sym left i))
    (fewer-linkable t.comps (map edge_by t.buffers) t.joins b (buffers-linkable t.comps t.buffers t.joins (are-joined t c.joins.ensures.kept)))

pub returns : goal.returns
returns c =
    let t : Tables = c.args.self.now in let b = c.args.buffer in
    let edges : c.as_slice.result.now ≡ filter (λ e. not (e.buffer == b)) (map edge_by t.buffers) = c.as_slice.ensures.value ∙ c.edges_without-edges.ensures ∙ ap (λ (bs : List Component). filter (λ e. not (e.buffer == b)) (map edge_by bs)) c.buffers.ensures.items in
    let left : take c.joins_without-count.result c.joins_without-count.new.left ≡ filter (λ j. not (touches b j)) t.joins = c.joins_without-count.ensures.left ∙ ap (filter (λ (j : Join). not (touches b j))) c.joins.ensures.items in
    subst (λ (p : List Component × List Edge × List Join). let g : Graph = record { comps = map comp_by p.0; edges = p.1; pipes = map pipe_by t.pipes; joins = p.2 } in AreWaysOf g c.ways_of.result)
    (λ i. (c.comps.ensures.items i, edges i, left i)) (c.ways_of.ensures (map pipe_by t.pipes))
