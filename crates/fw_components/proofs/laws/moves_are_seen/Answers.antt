use Rattle.fw_components.proofs.SeenMoves.{graph-moved, streams-moved, rings-moved, histories-moved, staging-same}
use Rattle.fw_components.proofs.laws.moves_are_seen.Goals as goal

pub returns-clause-graph : goal.returns-clause-graph
returns-clause-graph c id n looked fed frames words own t = graph-moved id n looked fed frames words own t

pub returns-clause-streams : goal.returns-clause-streams
returns-clause-streams c id n looked fed frames words own t = streams-moved id n looked fed frames words own t

pub returns-clause-rings : goal.returns-clause-rings
returns-clause-rings c id n looked fed frames words own t kept = rings-moved looked n fed frames words t.buffers kept.buffering

pub returns-clause-histories : goal.returns-clause-histories
returns-clause-histories c id n looked fed frames words own t kept = histories-moved id n looked fed frames words own t kept

pub returns-clause-staging : goal.returns-clause-staging
returns-clause-staging c id n looked fed frames words own t kept staged = staging-same id own n t.comps kept.named.comps staged
