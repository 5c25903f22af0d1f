use Rattle.stream_law.specs.Joins.{joined_edge}
use Rattle.stream_law.proofs.TurnLaws.{map_step}
use Rattle.fw_components.proofs.listing.join_edges.Goals as goal

pub loop-edge-preserved : goal.loop-edge-preserved
loop-edge-preserved c = map_step (joined_edge c.args.join) c.loop-edge.edge-index c.args.edges.now c.loop-edge.edges _ c.join_edge.new.edge c.loop-edge-test.true c.loop-edge.invariant c.join_edge.ensures
