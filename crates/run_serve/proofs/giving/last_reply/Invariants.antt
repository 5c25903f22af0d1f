use Rattle.std.proofs.Common.{◌≡◌, ◌≤◌, ◌-◌, [], length}
use Rattle.run_serve.proofs.giving.last_reply.Given as goal

abbrev pub invariant-records : goal.invariant-records
invariant-records g l = record {
  within : l.at ≤ length l.bytes;
  inputs : l.inputs ≡ [];
  outputs : l.outputs ≡ [];
}

abbrev pub decreases-records : goal.decreases-records
decreases-records g l = length l.bytes - l.at
