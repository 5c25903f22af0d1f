use Rattle.std.proofs.Common.{length}
use Rattle.sof_script.proofs.ScriptLaws.{Reading}
use Rattle.sof_script.proofs.reading.parse.Given as goal

abbrev pub invariant-loop-rest : goal.invariant-loop-rest
invariant-loop-rest l = Reading l.bytes l.rest l.number l.script

abbrev pub decreases-loop-rest : goal.decreases-loop-rest
decreases-loop-rest l = length l.rest
