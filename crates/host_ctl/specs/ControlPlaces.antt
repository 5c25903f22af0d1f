-- The control at a place of the plan's list, and its record.
use Rattle.std.specs.Prelude.{ℕ, List, [], get_or, set, position, Option}
use Rattle.tplg_plan.specs.declared.plans.Plan.{Plan}
use Rattle.tplg_plan.specs.declared.plans.ControlPlan.{ControlPlan}
use Rattle.tplg_plan.specs.declared.plans.ControlKind.TheVariants.{Choice}
use Rattle.host_widgets.specs.declared.kept.Record.{Record}
use Rattle.host_widgets.specs.declared.kept.ControlRec.{ControlRec}
use Rattle.host_widgets.specs.HostActs.{with_values, with_blob}
use Rattle.host_widgets.specs.Named.{is_named}

-- no control
abbrev pub no_control : ControlPlan
no_control = record { comp = 0; kind = Choice 0 }

abbrev pub no_values : ControlRec
no_values = record { values = []; blob = [] }

-- the place of the control of this name
abbrev pub control_place : Plan → List ℕ → Option ℕ
control_place plan name = position (λ k. is_named plan name k.comp) plan.controls

abbrev pub control_here : Plan → ℕ → ControlPlan
control_here plan place = get_or plan.controls place no_control

abbrev pub record_here : Record → ℕ → ControlRec
record_here kept place = get_or kept.controls place no_values

-- the record with other values at a place
abbrev pub with_values_at : ℕ → List ℕ → Record → Record
with_values_at place values kept =
    record { power = kept.power; streams = kept.streams; controls = set kept.controls place (with_values values (record_here kept place)) }

-- and with another blob there
abbrev pub with_blob_here : ℕ → List ℕ → Record → Record
with_blob_here place blob kept =
    record { power = kept.power; streams = kept.streams; controls = set kept.controls place (with_blob blob (record_here kept place)) }
