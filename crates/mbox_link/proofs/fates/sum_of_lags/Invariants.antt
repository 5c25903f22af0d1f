use Rattle.std.proofs.Common.{drop}
use Rattle.mbox_link.proofs.FateLaws.{Added}
use Rattle.mbox_link.proofs.fates.sum_of_lags.Given as goal

abbrev pub invariant-loop-entry : goal.invariant-loop-entry
invariant-loop-entry l = Added l.ticks (drop l.entry-index l.entries) l.entries
