use Rattle.std.proofs.Common.{ap, length, arith}
use Rattle.fw_pipeline.proofs.Settled.{none-settled, more-settled, settled-within, all-settled}
use Rattle.fw_pipeline.proofs.settling.end_each.Goals as goal

pub loop-at-init : goal.loop-at-init
loop-at-init c = none-settled c.args.registry.now

pub end_at-requires-clause-at : goal.end_at-requires-clause-at
end_at-requires-clause-at c = settled-within c.args.registry.now c.buffers-at-end.ensures.kept c.args.places.now.ids c.args.marks.now c.requires.live c.loop-at.at (omega (arith, c.loop-at-test.true, ap length c.buffers-at-end.ensures.items)) c.loop-at.registry c.loop-at.invariant

pub loop-at-preserved : goal.loop-at-preserved
loop-at-preserved c = more-settled c.args.registry.now c.buffers-at-end.ensures.kept c.args.places.now.ids c.args.marks.now c.requires.live c.loop-at.at (omega (arith, c.loop-at-test.true, ap length c.buffers-at-end.ensures.items)) c.loop-at.registry c.end_at.new.registry c.loop-at.invariant c.end_at.ensures

pub returns : goal.returns
returns c = all-settled c.args.registry.now c.buffers-at-end.ensures.kept c.loop-at.at (omega (arith, c.loop-at-test.false, ap length c.buffers-at-end.ensures.items)) c.loop-at.registry c.loop-at.invariant
