-- What the tests of bytes tell.
use Rattle.std.proofs.Common.{◌≡◌, refl, sym, ap, ◌∙◌, ℕ, Bool, true, false, cond, List, length, Option, Some, None, option_map}
use Rattle.std.specs.Prelude.{is_none, nat_lt}
use Rattle.std.proofs.lemmas.Bool.{ltb-false}
use Rattle.sof_base.specs.BlobFaults.{BlobFault, blob_fault, fault_number}
use Rattle.tplg_plan.specs.declared.plans.Plan.{Plan}
use Rattle.tplg_plan.specs.declared.plans.ControlPlan.{ControlPlan}
use Rattle.tplg_plan.specs.Sound.{IsSound}
use Rattle.tplg_plan.specs.declared.plans.ControlKind.{ControlKind}
use Rattle.tplg_plan.specs.declared.plans.ControlKind.TheVariants.{Blob}
use Rattle.host_widgets.specs.declared.answers.HostFault.TheVariants as faults
use Rattle.host_widgets.specs.declared.kept.Power.{Power}
use Rattle.host_widgets.specs.declared.kept.Power.TheVariants.{Unloaded, On, Off}
use Rattle.host_widgets.specs.declared.kept.Record.{Record}
use Rattle.host_widgets.specs.Host.{IsRecordOf}
use Rattle.host_widgets.specs.Named.{is_named, loaded_fault}
use Rattle.host_ctl.specs.ControlAsks.{bytes_fault, bytes_fault_by, get_fault, installing_fault, name_fault, named_control}
use Rattle.host_ctl.specs.ControlAnswers.{MayInstall}
use Rattle.host_ctl.specs.ControlPlaces.{control_here, control_place, no_control}
use Rattle.host_ctl.proofs.ControlTests.{loaded, place-low}
use Rattle.host_ctl.proofs.ControlsThere.{found-here, named-here}

-- bytes without a fault may be installed
pub installable : (name : List ℕ) (q : ControlKind) (blob : List ℕ) → bytes_fault_by name blob q ≡ None → MayInstall q blob
installable name (Blob most initial) blob none = by (nat_lt most (length blob)) refl none
  where
    no-fault : (o : Option BlobFault) → option_map (λ (fault : BlobFault). faults.Blob (fault_number fault)) o ≡ None → is_none o ≡ true
    no-fault None is = refl
    no-fault (Some f) is = absurd (cc is)

    by : (b : Bool) → nat_lt most (length blob) ≡ b → cond b (Some (faults.Range (length blob))) (option_map (λ (fault : BlobFault). faults.Blob (fault_number fault)) (blob_fault blob)) ≡ None → MayInstall (Blob most initial) blob
    by true more is = absurd (cc is)
    by false few is = (ltb-false most (length blob) few, no-fault (blob_fault blob) is)
installable name q blob none = absurd (cc none)

pub bytes-pass : (plan : Plan) (kept : Record) (name blob : List ℕ) (k : ControlPlan) → named_control plan name ≡ Some k → bytes_fault plan kept name blob ≡ None → bytes_fault_by name blob k.kind ≡ None
bytes-pass plan kept name blob k named none = ap (installing_fault name blob) (sym named) ∙ (loaded kept.power (installing_fault name blob (named_control plan name)) none).1

-- bytes for a control that there is go by its kind
pub bytes-go : (plan : Plan) (kept : Record) (name blob : List ℕ) (i : ℕ) → get_fault plan kept name ≡ None → control_place plan name ≡ Some i → bytes_fault plan kept name blob ≡ bytes_fault_by name blob (control_here plan i).kind
bytes-go plan kept name blob i none at = by kept.power (loaded kept.power (name_fault name (named_control plan name) None) none).0
  where
    by : (power : Power) → (power ≡ Unloaded → ⊥) → loaded_fault power (installing_fault name blob (named_control plan name)) ≡ bytes_fault_by name blob (control_here plan i).kind
    by Unloaded up = absurd (up refl)
    by On up = ap (installing_fault name blob) (found-here (λ x. is_named plan name x.comp) plan.controls i no_control at)
    by Off up = ap (installing_fault name blob) (found-here (λ x. is_named plan name x.comp) plan.controls i no_control at)

-- of the control of this name
pub installable-here : (plan : Plan) → IsSound plan → (kept : Record) → IsRecordOf plan kept → (name : List ℕ) (i : ℕ) → control_place plan name ≡ Some i → (blob : List ℕ) → bytes_fault plan kept name blob ≡ None → MayInstall (control_here plan i).kind blob
installable-here plan sound kept is name i at blob none =
    installable name (control_here plan i).kind blob (bytes-pass plan kept name blob (control_here plan i) (named-here plan sound kept is i (place-low plan name i at) name at) none)
