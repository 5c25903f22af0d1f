use Rattle.std.proofs.Common.{◌≡◌, ◌≤◌, length, take, filter}
use Rattle.stream_law.specs.Order.{is_among}
use Rattle.stream_law.specs.declared.graph.Edge.{Edge}
use Rattle.sof_session.proofs.show.kth_edge.Given as goal

abbrev pub invariant-loop-edge : goal.invariant-loop-edge
invariant-loop-edge l = record { counted : l.count ≡ length (filter (λ (e : Edge). is_among l.up e.pipe) (take l.edge-index l.edge-items)); low : l.count ≤ l.k }
