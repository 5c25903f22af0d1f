use Rattle.std.proofs.Common.{◌≡◌, ◌≤◌}
use Rattle.stream_law.specs.Gain.{gain_below}
use Rattle.tplg_plan.proofs.volume_gain.gain_below.Given as goal

abbrev pub invariant-loop : goal.invariant-loop
invariant-loop l = record {
  value : l.gain ≡ gain_below l.counter;
  most : l.gain ≤ 65536;
}
