use Rattle.std.proofs.Common.{sym, ap, subst, ◌∙◌, ◌++◌, ℕ, List, map}
use Rattle.stream_law.specs.declared.graph.Edge.{Edge}
use Rattle.stream_law.specs.declared.graph.Graph.{Graph}
use Rattle.fw_places.specs.WayCharts.{AreWaysOf}
use Rattle.fw_units.specs.declared.component.Component.{Component}
use Rattle.fw_units.specs.Units.{comp_by, edge_by}
use Rattle.fw_components.specs.EchoEdges.{AreLinkable}
use Rattle.fw_components.proofs.EchoWays.{edges-ids, ways-plain}
use Rattle.fw_components.proofs.Linkable.{buffers-linkable}
use Rattle.fw_components.proofs.echo_edges.ways_over.Goals as goal

pub ways_of-requires : goal.ways_of-requires
ways_of-requires c =
    let cs = c.args.comps.now in let bs = c.args.buffers.now in let js = c.args.joins.now in
    subst (λ (es : List Edge). AreLinkable cs es js) (sym (c.as_slice.ensures.value ∙ c.edges_of-edges.ensures)) (buffers-linkable cs bs js c.requires)

pub returns-then-any_split : goal.returns-then-any_split
returns-then-any_split c = λ pipes.
    let cs = c.args.comps.now in let js = c.args.joins.now in
    subst (λ (es : List Edge). let g : Graph = record { comps = map comp_by cs; edges = es; pipes = pipes; joins = js } in AreWaysOf g c.ways_of.result) (c.as_slice.ensures.value ∙ c.edges_of-edges.ensures) (c.ways_of.ensures pipes)

pub returns : goal.returns
returns c = λ pipes.
    let cs = c.args.comps.now in let bs = c.args.buffers.now in let js = c.args.joins.now in
    ways-plain cs (map edge_by bs) pipes js c.of.result (buffers-linkable cs bs js c.requires) (sym c.any_split.ensures ∙ c.if-any_split.false)
    (c.of.ensures.ids ∙ c.places_of.ensures.ids ∙ ap (λ (xs : List ℕ). map (λ (c : Component). c.id) cs ++ xs) (sym (edges-ids bs)))
    (c.of.ensures.joins ∙ c.places_of.ensures.joins)
    (c.of.ensures.echoes ∙ c.new.ensures)
