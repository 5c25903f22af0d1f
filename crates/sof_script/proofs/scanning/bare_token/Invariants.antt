use Rattle.std.proofs.Common.{length, ◌-◌, ◌≤◌}
use Rattle.sof_script.specs.Splitting.{Inside}
use Rattle.sof_script.proofs.TokenLaws.{Within}
use Rattle.sof_script.proofs.scanning.bare_token.Given as goal

abbrev pub invariant-loop-end : goal.invariant-loop-end
invariant-loop-end l = record { begun : Within Inside l.bytes l.end; some : 1 ≤ l.end }

abbrev pub decreases-loop-end : goal.decreases-loop-end
decreases-loop-end l = length l.bytes - l.end
