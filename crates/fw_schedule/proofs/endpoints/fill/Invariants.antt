use Rattle.std.proofs.Common.{◌-◌, ◌≡◌, ◌≤◌, replicate}
use Rattle.sof_io.specs.Puts.{with_piece}
use Rattle.fw_schedule.proofs.endpoints.fill.Given as goal

abbrev pub invariant-loop-filled : goal.invariant-loop-filled
invariant-loop-filled l = record {
  within : l.filled ≤ l.size;
  so_far : l.out ≡ with_piece l.id (replicate l.filled 0) l.fn.out;
}

abbrev pub decreases-loop-filled : goal.decreases-loop-filled
decreases-loop-filled l = l.size - l.filled
