use Rattle.std.proofs.Common.{ap, ◌∙◌, filter, take, length, length-take, lit<, arith}
use Rattle.std.proofs.lemmas.List.{take_all}
use Rattle.stream_law.proofs.Members.{filter-most}
use Rattle.fw_components.specs.EchoEdges.{is_echo_by}
use Rattle.fw_components.proofs.echo_edges.echoes_of.Goals as goal

pub reached_by-requires : goal.reached_by-requires
reached_by-requires c = record { ids = (c.args.edges.now, c.requires.ids); listed = c.requires.listed }

pub reached_by-requires-2 : goal.reached_by-requires-2
reached_by-requires-2 c = record { ids = (c.args.edges.now, c.requires.ids); listed = c.requires.listed }

pub reached_by-requires-3 : goal.reached_by-requires-3
reached_by-requires-3 c = record { ids = (c.args.edges.now, c.requires.ids); listed = c.requires.listed }

pub is_echo-requires : goal.is_echo-requires
is_echo-requires c = record { from_play = c.reached_by.ensures; to_dai = c.reached_by-2.ensures; to_capture = c.reached_by-3.ensures }

pub push-requires : goal.push-requires
push-requires c =
    let es = c.args.edges.now in let i = c.loop-edge.edge-index in
    let few = filter-most (is_echo_by c.args.comps.now c.args.places.now) (take i es) in
    (lit< tt, omega (arith, few, length-take i es, ap length c.loop-edge.invariant, c.loop-edge-test.true, c.requires.few))

pub returns : goal.returns
returns c = c.loop-edge.invariant ∙ ap (filter (is_echo_by c.args.comps.now c.args.places.now)) (take_all c.loop-edge.edge-index c.args.edges.now c.loop-edge-test.false)
