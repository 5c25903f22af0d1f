use Rattle.std.proofs.Common.{◌≡◌}
use Rattle.stream_law.specs.Gain.{gain_above}
use Rattle.tplg_plan.proofs.volume_gain.gain_above.Given as goal

abbrev pub invariant-loop : goal.invariant-loop
invariant-loop l = l.gain ≡ gain_above l.counter
