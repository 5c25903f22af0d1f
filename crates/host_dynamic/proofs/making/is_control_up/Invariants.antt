use Rattle.std.proofs.Common.{◌≡◌, None, take}
use Rattle.std.specs.Prelude.{find}
use Rattle.tplg_plan.specs.declared.plans.ControlPlan.{ControlPlan}
use Rattle.host_widgets.specs.Named.{is_named}
use Rattle.host_dynamic.proofs.making.is_control_up.Given as goal

-- none so far has the name
abbrev pub invariant-loop-control : goal.invariant-loop-control
invariant-loop-control l = find (λ (k : ControlPlan). is_named l.plan l.name k.comp) (take l.control-index l.plan.controls) ≡ None
