use Rattle.std.proofs.Common.{◌≡◌, drop}
use Rattle.tplg_same.specs.SameTest.{same_list}
use Rattle.tplg_same.proofs.same_items.same_items.Given as goal

abbrev pub invariant-loop-place : goal.invariant-loop-place
invariant-loop-place g l = same_list g.T.Same.same (drop l.place l.ones) (drop l.place l.others) ≡ same_list g.T.Same.same l.ones l.others
