use Rattle.std.proofs.Common.{length, ◌-◌}
use Rattle.sof_script.proofs.LineLaws.{Skipped}
use Rattle.sof_script.proofs.scanning.skip_blanks.Given as goal

abbrev pub invariant-loop-at : goal.invariant-loop-at
invariant-loop-at l = Skipped l.bytes l.at

abbrev pub decreases-loop-at : goal.decreases-loop-at
decreases-loop-at l = length l.bytes - l.at
