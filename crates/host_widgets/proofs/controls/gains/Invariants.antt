use Rattle.std.proofs.Common.{◌≡◌, take, map, length}
use Rattle.tplg_plan.specs.GainOf.{control_gain}
use Rattle.host_widgets.proofs.controls.gains.Given as goal

-- so many gains are those of values
abbrev pub invariant-loop-place : goal.invariant-loop-place
invariant-loop-place l = record {
  long : length l.gains ≡ 8;
  so_far : take l.place l.gains ≡ map (control_gain l.kind) (take l.place l.values);
}
