use Rattle.std.proofs.Common.{replicate}
use Rattle.mbox_link.specs.Calls.{world, Tick, Led}
use Rattle.mbox_link.proofs.link.pass_ticks.Given as goal

-- so many ticks came
abbrev pub invariant-loop : goal.invariant-loop
invariant-loop g l = Led g.P.Dsp.means (world l.fn.dsp l.fn.io l.fn.out) (replicate l.counter Tick) (world l.dsp l.io l.out)
