use Rattle.std.proofs.Common.{◌≤◌, ◌-◌, length}
use Rattle.run_tools.proofs.DecodePhases.{LeftToTell}
use Rattle.run_tools.proofs.decode.say_records.Given as goal

-- the records that are left, said, make all said
abbrev pub invariant-records : goal.invariant-records
invariant-records g l = record {
  within : l.at ≤ length l.bytes;
  left : LeftToTell g.D.Desk.means l.bytes l.at l.fn.desk l.desk;
}

abbrev pub decreases-records : goal.decreases-records
decreases-records g l = length l.bytes - l.at
