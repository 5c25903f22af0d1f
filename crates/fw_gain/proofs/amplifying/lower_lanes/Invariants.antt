use Rattle.std.proofs.Common.{◌≡◌, ◌*◌, length, take}
use Rattle.fw_gain.specs.Kernels.{all_amplified}
use Rattle.fw_gain.proofs.amplifying.lower_lanes.Given as goal

abbrev pub invariant-loop-k : goal.invariant-loop-k
invariant-loop-k l = record {
  long : length l.y ≡ length l.x;
  so_far : take (8 * l.k) l.y ≡ all_amplified l.channels l.gains (take (8 * l.k) l.x);
}
