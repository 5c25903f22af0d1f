use Rattle.std.proofs.Common.{sym, ap, ◌∙◌, ◌++◌, ◌∷◌, [], map, take, get_or, length, length-take, lit<, arith}
use Rattle.std.proofs.lemmas.List.{length-map, take_more, take_all, map-append}
use Rattle.fw_units.specs.declared.component.Component.{Component}
use Rattle.fw_units.specs.Units.{edge_by}
use Rattle.fw_components.proofs.echo_edges.edges_of.Goals as goal

pub push-requires : goal.push-requires
push-requires c =
    let bs = c.args.buffers.now in let i = c.loop-buffer.buffer-index in
    (lit< tt, omega (arith, ap length c.loop-buffer.invariant, length-map (take i bs) edge_by, length-take i bs, c.loop-buffer-test.true, c.requires))

pub loop-buffer-preserved : goal.loop-buffer-preserved
loop-buffer-preserved c =
    let bs = c.args.buffers.now in let i = c.loop-buffer.buffer-index in let d : Component = c.buffer-item.result in
    c.push.ensures.items
    ∙ (λ k. c.loop-buffer.invariant k ++ c.edge_in.ensures k ∷ [])
    ∙ ap (λ (e : Component). map edge_by (take i bs) ++ edge_by e ∷ []) c.buffer-item.is
    ∙ sym (ap (map edge_by) (take_more bs i d c.loop-buffer-test.true) ∙ map-append edge_by (take i bs) (get_or bs i d ∷ []))

pub returns : goal.returns
returns c = c.loop-buffer.invariant ∙ ap (map edge_by) (take_all c.loop-buffer.buffer-index c.args.buffers.now c.loop-buffer-test.false)
