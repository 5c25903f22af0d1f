use Rattle.std.proofs.Common.{sym, ◌∙◌}
use Rattle.tplg_widgets.proofs.Texts.{before-zero, more-text, whole-text}
use Rattle.tplg_widgets.proofs.tokens.before_zero.Goals as goal

pub returns-then-bytes-i-eq0 : goal.returns-then-bytes-i-eq0
returns-then-bytes-i-eq0 c = before-zero c.args.bytes.now c.loop-i.i c.loop-i-test.true c.if-bytes-i-eq0.true c.loop-i.invariant

pub loop-i-preserved : goal.loop-i-preserved
loop-i-preserved c = more-text c.args.bytes.now c.loop-i.i c.loop-i-test.true c.if-bytes-i-eq0.false ∙ c.loop-i.invariant

pub returns : goal.returns
returns c = sym (whole-text c.args.bytes.now c.loop-i.i c.loop-i-test.false) ∙ c.loop-i.invariant
