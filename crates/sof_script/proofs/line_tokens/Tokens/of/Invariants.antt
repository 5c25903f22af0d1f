use Rattle.std.proofs.Common.{length}
use Rattle.sof_script.proofs.LineTokenLaws.{Collected}
use Rattle.sof_script.proofs.line_tokens.Tokens.of.Given as goal

abbrev pub invariant-loop-rest : goal.invariant-loop-rest
invariant-loop-rest l = Collected l.line l.rest l.tokens

abbrev pub decreases-loop-rest : goal.decreases-loop-rest
decreases-loop-rest l = length l.rest
