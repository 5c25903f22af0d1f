use Rattle.fw_components.proofs.EchoReach.{AreSorted}
use Rattle.fw_components.proofs.echo_edges.reached_by.Given as goal

abbrev pub invariant-loop-comp : goal.invariant-loop-comp
invariant-loop-comp l = AreSorted l.sort l.places.ids l.comps l.comp-index l.marks
