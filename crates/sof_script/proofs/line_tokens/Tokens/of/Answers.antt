use Rattle.std.proofs.Common.{rules}
use Rattle.sof_script.proofs.LineTokenLaws.{Collected-more, Collected-all}
use Rattle.sof_script.proofs.line_tokens.Tokens.of.Goals as goal

pub loop-rest-preserved : goal.loop-rest-preserved
loop-rest-preserved c =
    let next = c.skip_blanks-rest-in-loop-rest in
    rw c.keep.ensures (Collected-more c.args.line.now c.loop-rest.rest.now c.in-Some.behind.now next.result.now c.in-Some.token.now c.loop-rest.tokens c.loop-rest.invariant c.in-Some.ensures.0 next.ensures.tokens next.ensures.first)

pub returns : goal.returns
returns c = Collected-all c.args.line.now c.loop-rest.rest.now c.loop-rest.tokens c.loop-rest.invariant (search rules)
