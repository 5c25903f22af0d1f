use Rattle.stream_law.specs.Ways.{reaches}
use Rattle.stream_law.specs.Joins.{would_cycle}
use Rattle.stream_law.proofs.Walking.{leads-walks}
use Rattle.stream_law.proofs.laws.reach_law.Goals as goal

pub returns : goal.returns
unfolding reaches would_cycle
returns c = record {
  reached = λ g a b. leads-walks g.joins a b;
  closed = λ g from to. leads-walks g.joins to from;
}
