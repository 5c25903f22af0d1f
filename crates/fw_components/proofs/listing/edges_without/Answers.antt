use Rattle.std.proofs.Common.{ap, ◌∙◌, ◌==◌, List, not, filter, map, take, length, length-take, lit<, arith}
use Rattle.std.proofs.lemmas.List.{length-map, take_all}
use Rattle.stream_law.specs.declared.graph.Edge.{Edge}
use Rattle.stream_law.proofs.Members.{filter-most}
use Rattle.fw_units.specs.declared.component.Component.{Component}
use Rattle.fw_units.specs.Units.{edge_by}
use Rattle.fw_components.proofs.listing.edges_without.Goals as goal

pub push-requires : goal.push-requires
push-requires c =
    let bs = c.args.buffers.now in let i = c.loop-buffer.buffer-index in
    let few = filter-most (λ (e : Edge). not (e.buffer == c.args.id)) (map edge_by (take i bs)) in
    (lit< tt, omega (arith, few, length-map (take i bs) edge_by, length-take i bs, ap length c.loop-buffer.invariant, c.loop-buffer-test.true, c.requires))

pub returns : goal.returns
returns c =
    c.loop-buffer.invariant
    ∙ ap (λ (bs : List Component). filter (λ (e : Edge). not (e.buffer == c.args.id)) (map edge_by bs)) (take_all c.loop-buffer.buffer-index c.args.buffers.now c.loop-buffer-test.false)
