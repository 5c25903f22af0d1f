-- What comes after a failure while pipelines were made that is no refusal.
use Rattle.std.proofs.Common.{◌≡◌, refl, ℕ, List, Err}
use Rattle.sof_base.specs.declared.errno.Errno.{Errno}
use Rattle.mbox_link.specs.Calls.{World, Meaning}
use Rattle.tplg_plan.specs.declared.plans.Plan.{Plan}
use Rattle.host_widgets.specs.declared.answers.HostFault.{HostFault}
use Rattle.host_widgets.specs.declared.answers.HostFault.TheVariants as faults
use Rattle.host_widgets.specs.declared.kept.Record.{Record}
use Rattle.host_widgets.specs.Host.{Outcome}
use Rattle.host_dynamic.specs.UpCalls.{WasCut, AfterMaking}

pub after-other : {D : Type 0} (means : Meaning D) (plan : Plan) (heap : ℕ) (made : List ℕ) (fault : HostFault) (kept kept' : Record) (w v : World D) (result : Outcome) → ((e : Errno) → fault ≡ faults.Refused e → ⊥) → result ≡ Err fault → WasCut means heap kept kept' w v →
    AfterMaking means plan heap made (Err fault) kept kept' w v result
after-other means plan heap made (faults.Refused e) kept kept' w v result other is cut = absurd (other e refl)
after-other means plan heap made fault kept kept' w v result other is cut = (is, cut)
