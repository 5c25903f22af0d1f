use Rattle.std.proofs.Common.{◌-◌, ◌≤◌}
use Rattle.fw_schedule.proofs.Parts.{IsFed}
use Rattle.fw_schedule.proofs.endpoints.feed_parts.Given as goal

abbrev pub invariant-loop-fed : goal.invariant-loop-fed
invariant-loop-fed l = record {
  within : l.fed ≤ l.n;
  so_far : IsFed l.step.id l.buffer l.step.channels l.step.format l.fed l.fn.registry l.fn.io l.registry l.io;
}

abbrev pub decreases-loop-fed : goal.decreases-loop-fed
decreases-loop-fed l = l.n - l.fed
