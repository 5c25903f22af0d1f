use Rattle.std.proofs.Common.{◌≡◌, length}
use Rattle.host_widgets.specs.HostRecord.{closed}
use Rattle.host_widgets.proofs.Halting.{so_far}
use Rattle.host_widgets.proofs.unloading.close_all.Given as goal

-- the first streams are closed, and there are as many as there were
abbrev pub invariant-loop-place : goal.invariant-loop-place
invariant-loop-place l = record {
  long : length l.streams ≡ length l.initial.streams;
  closed_so_far : l.streams ≡ so_far (λ s. closed) l.initial.streams l.place;
}
