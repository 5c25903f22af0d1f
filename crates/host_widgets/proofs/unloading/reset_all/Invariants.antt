use Rattle.std.proofs.Common.{◌≡◌, length, map, take}
use Rattle.host_widgets.specs.Kept.{first_control}
use Rattle.host_widgets.proofs.unloading.reset_all.Given as goal

-- the first controls are as they begin, and there are as many as there were
abbrev pub invariant-loop-place : goal.invariant-loop-place
invariant-loop-place l = record {
  long : length l.controls ≡ length l.initial.controls;
  so_far : take l.place l.controls ≡ map first_control (take l.place l.plan.controls);
}
