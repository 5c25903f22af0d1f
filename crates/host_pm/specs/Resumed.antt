-- What a resume that was done leaves of the device.
use Rattle.std.specs.Prelude.{◌≡◌, ℕ, Some, Ok}
use Rattle.stream_law.specs.State.{FwState}
use Rattle.mbox_link.specs.Calls.{Meaning}
use Rattle.tplg_plan.specs.declared.plans.Plan.{Plan}
use Rattle.host_widgets.specs.declared.kept.Record.{Record}
use Rattle.host_widgets.specs.Host.{Outcome}
use Rattle.host_widgets.specs.Bringing.{ticks_put}
use Rattle.host_widgets.specs.Keeps.{KeepsRecord}
use Rattle.host_widgets.specs.StateOf.{empty_rings}

-- it is on in a state that keeps the record, its clock has counted so many ticks, and no audio was moved
pub record Resumed {D : Type 0} (means : Meaning D) (plan : Plan) (heap : ℕ) (kept : Record) (clock_now : ℕ) (device : D) : Type 0 where
  pub state : FwState
  pub on : means.on device ≡ Some state
  pub keeps : KeepsRecord plan heap kept state
  pub clock : state.clock ≡ clock_now
  pub rings : state.rings ≡ empty_rings plan.graph

-- once all its acts have passed; the ticks are those that the device put before them
abbrev pub ResumeLeft : {D : Type 0} → Meaning D → Plan → ℕ → Record → D → Outcome → D → Type 0
ResumeLeft means plan heap kept old result new = result ≡ Ok tt → Resumed means plan heap kept (ticks_put means old new) new
