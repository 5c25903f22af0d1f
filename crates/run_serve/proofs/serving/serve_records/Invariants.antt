use Rattle.std.proofs.Common.{◌≡◌, ◌≤◌, ◌-◌, true, []}
use Rattle.run_serve.specs.Reads.{requests_slot}
use Rattle.run_serve.specs.Serving.{replies_slot}
use Rattle.run_serve.proofs.ServedRecords.{LeftToServe}
use Rattle.run_serve.proofs.serving.serve_records.Given as goal

-- the records that are left, served, make all of them served; each took a byte at least
abbrev pub invariant-records : goal.invariant-records
invariant-records g l = record {
  opened : g.D.Desk.means.opened l.desk requests_slot ≡ true;
  created : g.D.Desk.means.created l.desk replies_slot ≡ true;
  inputs : l.inputs ≡ [];
  outputs : l.outputs ≡ [];
  counted : l.before ≤ l.at;
  few : l.at ≤ 1152921504606847368;
  left : LeftToServe g.D.Desk.means g.P.Dsp.means l.fn.desk l.fn.dsp l.at l.desk l.dsp;
}

abbrev pub decreases-records : goal.decreases-records
decreases-records g l = 1152921504606846976 - l.at
