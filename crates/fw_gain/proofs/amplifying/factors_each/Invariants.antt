use Rattle.std.proofs.Common.{◌≡◌, ◌%◌, length, take, map, pos}
use Rattle.std.specs.List.{range_with_len}
use Rattle.sof_base.specs.Equations.{channel_gain}
use Rattle.fw_gain.proofs.amplifying.factors_each.Given as goal

abbrev pub invariant-loop-k : goal.invariant-loop-k
invariant-loop-k l = record {
  long : length l.factors ≡ 8;
  channel : l.channel ≡ l.k % l.channels;
  so_far : take l.k l.factors ≡ map (λ k. pos (channel_gain l.gains (k % l.channels))) (range_with_len 0 l.k);
}
