use Rattle.std.proofs.Common.{length, ◌-◌}
use Rattle.sof_script.proofs.LineLaws.{OnLine}
use Rattle.sof_script.proofs.lines.first_line.Given as goal

abbrev pub invariant-loop-end : goal.invariant-loop-end
invariant-loop-end l = OnLine l.bytes l.end

abbrev pub decreases-loop-end : goal.decreases-loop-end
decreases-loop-end l = length l.bytes - l.end
