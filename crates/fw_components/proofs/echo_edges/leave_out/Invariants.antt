use Rattle.std.proofs.Common.{◌≡◌, ◌≤◌, ◌&&◌, not, filter, take}
use Rattle.fw_components.specs.EchoEdges.{is_edge_in}
use Rattle.fw_components.proofs.echo_edges.leave_out.Given as goal

abbrev pub invariant-loop-join : goal.invariant-loop-join
invariant-loop-join l = record {
  left : take l.count l.left ≡ filter (λ j. not (is_edge_in l.edges j.source) && not (is_edge_in l.edges j.sink)) (take l.join-index l.joins);
  few : l.count ≤ l.join-index;
}
