use Rattle.std.proofs.Common.{◌≡◌, take, map}
use Rattle.host_widgets.specs.Kept.{first_control}
use Rattle.host_widgets.proofs.kept.first_controls.Given as goal

-- so many controls are as they begin
abbrev pub invariant-loop-control : goal.invariant-loop-control
invariant-loop-control l = l.controls ≡ map first_control (take l.control-index l.plan.controls)
