use Rattle.stream_law.specs.Ways.{way_joins, ways_to}
use Rattle.stream_law.proofs.Walking.{leads-walks}
use Rattle.stream_law.proofs.Plain.{on_way-plain, touch-plain}
use Rattle.stream_law.proofs.laws.way_law.Goals as goal

pub returns : goal.returns
unfolding ways_to
returns c = record {
  gone = λ g a b. leads-walks (way_joins g) a b;
  plain = λ g none host x. on_way-plain g none host x;
  touch = λ g none a b. touch-plain g none a b;
}
