use Rattle.std.proofs.Common.{◌≤◌, length}
use Rattle.tplg_walks.specs.Reach.{AreSeen, AreMarksOf}
use Rattle.tplg_walks.proofs.walks.sweep.Given as goal

abbrev pub invariant-loop-at : goal.invariant-loop-at
invariant-loop-at l = record {
  seen : AreSeen l.edges l.from l.seen.items;
  marked : AreMarksOf l.seen.items l.marks;
  grown : length l.initial.seen.items ≤ length l.seen.items;
}
