use Rattle.std.proofs.Common.{◌≡◌, ◌++◌, map, take, drop}
use Rattle.stream_law.specs.Joins.{joined_edge}
use Rattle.fw_components.proofs.listing.join_edges.Given as goal

abbrev pub invariant-loop-edge : goal.invariant-loop-edge
invariant-loop-edge l = l.edges ≡ map (joined_edge l.join) (take l.edge-index l.initial.edges) ++ drop l.edge-index l.initial.edges
