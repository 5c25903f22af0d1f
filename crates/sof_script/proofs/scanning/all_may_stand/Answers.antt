use Rattle.std.proofs.Common.{sym, ◌∙◌}
use Rattle.sof_script.proofs.LineLaws.{plain_step, plain_stop, plain_end}
use Rattle.sof_script.proofs.scanning.all_may_stand.Goals as goal

pub returns-then-not-may_stand : goal.returns-then-not-may_stand
returns-then-not-may_stand c = sym (plain_stop c.args.bytes.now c.loop-byte.byte-index c.loop-byte-test.true (sym c.may_stand.ensures ∙ c.if-not-may_stand.true) c.loop-byte.invariant)

pub loop-byte-preserved : goal.loop-byte-preserved
loop-byte-preserved c = plain_step c.args.bytes.now c.loop-byte.byte-index c.loop-byte-test.true (sym c.may_stand.ensures ∙ c.if-not-may_stand.false) c.loop-byte.invariant

pub returns : goal.returns
returns c = sym (plain_end c.args.bytes.now c.loop-byte.byte-index c.loop-byte-test.false c.loop-byte.invariant)
