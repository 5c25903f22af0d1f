use Rattle.std.proofs.Common.{◌≤◌, ◌-◌}
use Rattle.ipc3_far.specs.FarEnds.{ReadsOn}
use Rattle.ipc3_far.proofs.talk.fill.Given as goal

abbrev pub invariant-loop-there : goal.invariant-loop-there
invariant-loop-there g l = record {
  within : l.there ≤ l.to;
  read : ReadsOn l.start l.there l.fn.bytes l.bytes (g.R.Read.remaining l.fn.from) (g.R.Read.remaining l.from);
}

abbrev pub decreases-loop-there : goal.decreases-loop-there
decreases-loop-there g l = l.to - l.there
