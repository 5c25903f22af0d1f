use Rattle.std.proofs.Common.{◌≤◌, length, arith}
use Rattle.stream_law.specs.Order.{order}
use Rattle.stream_law.proofs.Ordered.{place_of, place_of-le}
use Rattle.stream_law.proofs.Cycles.{order-ranks, ranks-no_cycle}
use Rattle.stream_law.proofs.Whole.{order-whole}
use Rattle.stream_law.proofs.laws.order_law.Goals as goal

pub returns : goal.returns
returns c = record {
  whole = λ g ends none. order-whole g ends none;
  ranks = λ g ends all. (place_of (order g), order-ranks g ends all, λ x. let most : place_of (order g) x ≤ length (order g) = place_of-le (order g) x in omega (arith, most));
  no_cycle = λ g rank ranked cycle. ranks-no_cycle g rank ranked cycle;
}
