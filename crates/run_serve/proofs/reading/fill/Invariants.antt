use Rattle.std.proofs.Common.{◌≡◌, ◌≤◌, ◌-◌, true}
use Rattle.sof_desk.specs.declared.calls.DeskFailed.{DeskFailed}
use Rattle.run_serve.specs.Reads.{requests_slot, SameSlots}
use Rattle.run_serve.proofs.ReadLaws.{LeftToFill}
use Rattle.run_serve.proofs.reading.fill.Given as goal

-- what is left to fill, filled, makes all filled
abbrev pub invariant-loop-there : goal.invariant-loop-there
invariant-loop-there g l = record {
  within : l.there ≤ l.to;
  opened : g.D.Desk.means.opened l.desk requests_slot ≡ true;
  same : SameSlots g.D.Desk.means l.fn.desk l.desk;
  left : LeftToFill g.D.Desk.means DeskFailed l.from l.to l.fn.bytes l.fn.desk l.there l.bytes l.desk;
}

abbrev pub decreases-loop-there : goal.decreases-loop-there
decreases-loop-there g l = l.to - l.there
