use Rattle.std.proofs.Common.{◌-◌, length}
use Rattle.tplg_walks.specs.Reach.{AreSeen, AreMarksOf}
use Rattle.tplg_walks.proofs.walks.reached.Given as goal

abbrev pub invariant-loop-id : goal.invariant-loop-id
invariant-loop-id l = record {
  seen : AreSeen l.edges l.from l.seen.items;
  marked : AreMarksOf l.seen.items l.marks;
}

abbrev pub decreases-loop-id : goal.decreases-loop-id
decreases-loop-id l = length l.edges - length l.seen.items
