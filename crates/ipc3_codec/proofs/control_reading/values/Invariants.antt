use Rattle.std.proofs.Common.{◌≡◌, ◌-◌, take, length}
use Rattle.ipc3_model.specs.ControlWords.{pair_values_at, values_in}
use Rattle.ipc3_codec.specs.Reading.{values_read}
use Rattle.ipc3_codec.proofs.Runs.{pairs_from}
use Rattle.ipc3_codec.proofs.control_reading.values.Given as goal

abbrev pub invariant-loop-i : goal.invariant-loop-i
invariant-loop-i l = record {
  read : values_read l.frame ≡ pairs_from l.frame l.i (l.count - l.i) (values_in l.frame);
  so_far : pair_values_at l.i l.frame 92 ≡ take l.i l.values;
  len : length l.values ≡ 8;
}
