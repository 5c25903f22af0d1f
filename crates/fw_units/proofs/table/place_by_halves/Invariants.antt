use Rattle.std.proofs.Common.{◌≤◌, ◌-◌, length}
use Rattle.fw_units.proofs.Hinted.{AreBelow, AreFrom}
use Rattle.fw_units.proofs.table.place_by_halves.Given as goal

abbrev pub invariant-loop-from : goal.invariant-loop-from
invariant-loop-from l = record {
  within : (l.from ≤ l.end) × (l.end ≤ length l.components);
  below : AreBelow l.id l.components l.from;
  high : AreFrom l.id l.components l.end;
}

abbrev pub decreases-loop-from : goal.decreases-loop-from
decreases-loop-from l = l.end - l.from
