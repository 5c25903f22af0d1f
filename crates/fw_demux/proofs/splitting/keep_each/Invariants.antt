use Rattle.std.proofs.Common.{◌≡◌, ◌%◌, length, take, map}
use Rattle.std.specs.List.{range_with_len}
use Rattle.sof_base.specs.Samples.{sample_of}
use Rattle.sof_base.specs.Masks.{kept_sample}
use Rattle.fw_demux.proofs.splitting.keep_each.Given as goal

abbrev pub invariant-loop-i : goal.invariant-loop-i
invariant-loop-i l = record {
  long : length l.y ≡ length l.x;
  channel : l.channel ≡ l.i % l.channels;
  so_far : take l.i l.y ≡ map (λ i. kept_sample l.mask (i % l.channels) (sample_of l.x i)) (range_with_len 0 l.i);
}
