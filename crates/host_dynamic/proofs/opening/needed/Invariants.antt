use Rattle.std.proofs.Common.{◌≡◌, length}
use Rattle.host_dynamic.proofs.NeededNoted.{Allow, Serve}
use Rattle.host_dynamic.proofs.opening.needed.Given as goal

-- so far the sets that allow what is marked are those that serve the streams
abbrev pub invariant-loop-place : goal.invariant-loop-place
invariant-loop-place l = record {
  size : length l.onward ≡ 288;
  size_back : length l.back ≡ 288;
  allow : Allow l.plan l.kept l.place l.onward l.back;
  serve : Serve l.plan l.kept l.place l.onward l.back;
}
