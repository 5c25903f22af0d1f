use Rattle.std.proofs.Common.{drop}
use Rattle.mbox_link.proofs.FateLaws.{Kept}
use Rattle.mbox_link.proofs.fates.others.Given as goal

abbrev pub invariant-loop-entry : goal.invariant-loop-entry
invariant-loop-entry l = Kept l.number l.left.items (drop l.entry-index l.entries) l.entries
