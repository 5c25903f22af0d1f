use Rattle.std.proofs.Common.{◌≡◌, filter, take}
use Rattle.fw_components.specs.EchoEdges.{is_echo_by}
use Rattle.fw_components.proofs.echo_edges.echoes_of.Given as goal

abbrev pub invariant-loop-edge : goal.invariant-loop-edge
invariant-loop-edge l = l.echoes.items ≡ filter (is_echo_by l.comps l.places) (take l.edge-index l.edges)
