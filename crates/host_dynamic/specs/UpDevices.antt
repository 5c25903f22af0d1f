-- What a host keeps that makes pipelines on use, with what its device has.
use Rattle.std.specs.Prelude.{ℕ, List, Option, Some, None}
use Rattle.stream_law.specs.State.{FwState}
use Rattle.mbox_link.specs.Calls.{Meaning}
use Rattle.tplg_plan.specs.declared.plans.Plan.{Plan}
use Rattle.host_widgets.specs.declared.kept.Record.{Record}
use Rattle.host_widgets.specs.Host.{AgreesBy}
use Rattle.host_widgets.specs.UpState.{UpState}
use Rattle.host_widgets.specs.There.{There, there_in, nowhere}
use Rattle.host_widgets.specs.Up.{up_view}

-- what is there in a device, and nothing in one that is off
abbrev pub there_on : Option FwState → There
there_on None = nowhere
there_on (Some f) = there_in f

-- the record, what is up, and what is there in this device
abbrev pub up_state_in : {D : Type 0} → Meaning D → Record → List ℕ → D → UpState
up_state_in means kept up device = record { kept = kept; up = up; there = there_on (means.on device) }

-- the device is on where the record says so, with the view of what is up, and else it is off
abbrev pub UpAgrees : {D : Type 0} → Meaning D → Plan → Record → List ℕ → D → Type 0
UpAgrees means plan kept up device = AgreesBy means plan (up_view plan kept up) kept device
