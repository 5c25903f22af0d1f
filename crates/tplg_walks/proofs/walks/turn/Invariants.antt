use Rattle.std.proofs.Common.{◌≡◌, length, take, map}
use Rattle.tplg_walks.specs.Reach.{turned}
use Rattle.tplg_walks.proofs.walks.turn.Given as goal

abbrev pub invariant-loop-k : goal.invariant-loop-k
invariant-loop-k l = record {
  turned : take l.k l.turned ≡ map turned (take l.k l.edges);
  same : length l.turned ≡ length l.initial.turned;
}
