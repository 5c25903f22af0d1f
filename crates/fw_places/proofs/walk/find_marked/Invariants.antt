use Rattle.fw_places.proofs.Leaves.{AreFirst}
use Rattle.fw_places.proofs.walk.find_marked.Given as goal

abbrev pub invariant-loop-k : goal.invariant-loop-k
invariant-loop-k l = AreFirst l.marks l.found.items l.k
