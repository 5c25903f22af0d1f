use Rattle.std.proofs.Common.{length, ◌-◌}
use Rattle.sof_script.specs.Splitting.{Quoted}
use Rattle.sof_script.proofs.TokenLaws.{Within}
use Rattle.sof_script.proofs.scanning.quoted_token.Given as goal

abbrev pub invariant-loop-end : goal.invariant-loop-end
invariant-loop-end l = Within Quoted l.bytes l.end

abbrev pub decreases-loop-end : goal.decreases-loop-end
decreases-loop-end l = length l.bytes - l.end
