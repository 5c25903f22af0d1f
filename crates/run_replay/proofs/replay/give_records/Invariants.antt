use Rattle.std.proofs.Common.{◌≡◌, ◌≤◌, ◌-◌, [], length}
use Rattle.run_replay.proofs.ReplayPhases.{LeftToGive}
use Rattle.run_replay.proofs.replay.give_records.Given as goal

-- the records that are left, given, make all given, and no kind has more of them than there are bytes so far
abbrev pub invariant-records : goal.invariant-records
invariant-records g l = record {
  within : l.at ≤ length l.bytes;
  left : LeftToGive g.P.Dsp.means l.bytes l.at l.awaited l.tally l.fn.dsp l.dsp;
  boots : l.tally.boots ≤ l.at;
  messages : l.tally.messages ≤ l.at;
  ticks : l.tally.ticks ≤ l.at;
  inputs : l.inputs ≡ [];
  outputs : l.outputs ≡ [];
}

abbrev pub decreases-records : goal.decreases-records
decreases-records g l = length l.bytes - l.at
