use Rattle.std.proofs.Common.{◌≡◌, length}
use Rattle.host_widgets.specs.HostRecord.{halted}
use Rattle.host_widgets.proofs.Halting.{so_far}
use Rattle.host_widgets.proofs.going_down.halt_all.Given as goal

-- the first streams are halted, and there are as many as there were
abbrev pub invariant-loop-place : goal.invariant-loop-place
invariant-loop-place l = record {
  long : length l.streams ≡ length l.initial.streams;
  halted : l.streams ≡ so_far halted l.initial.streams l.place;
}
