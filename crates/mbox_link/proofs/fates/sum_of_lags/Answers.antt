use Rattle.std.proofs.Common.{arith}
use Rattle.mbox_link.proofs.FateLaws.{Added-none, Added-push-at, Added-fits-at, Added-end}
use Rattle.mbox_link.proofs.fates.sum_of_lags.Goals as goal

pub loop-entry-init : goal.loop-entry-init
loop-entry-init c = Added-none c.args.entries.now

pub overflow_add-ticks : goal.overflow_add-ticks
overflow_add-ticks c = Added-fits-at c.loop-entry.ticks c.args.entries.now c.loop-entry.entry-index _ c.loop-entry-test.true c.loop-entry.invariant c.requires

pub loop-entry-preserved : goal.loop-entry-preserved
loop-entry-preserved c = Added-push-at c.loop-entry.ticks c.args.entries.now c.loop-entry.entry-index _ c.loop-entry-test.true c.loop-entry.invariant

pub returns : goal.returns
returns c =
    let is = Added-end c.loop-entry.ticks c.args.entries.now c.loop-entry.entry-index c.loop-entry-test.false c.loop-entry.invariant in
    record { is = is; few = omega (arith, is, c.requires) }
