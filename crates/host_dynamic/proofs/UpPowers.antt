-- Loading, letting go and resuming over any device.
use Rattle.std.proofs.Common.{◌≡◌, refl, sym, ap, subst, ℕ, List, [], ◌∷◌, ◌++◌, Some, None, Ok, Err}
use Rattle.std.specs.Prelude.{is_some}
use Rattle.std.specs.List.{zip, flat_map}
use Rattle.stream_law.specs.Past.{Boot, Cut}
use Rattle.mbox_link.specs.Calls.{World, Meaning, Led}
use Rattle.mbox_link.specs.Step.{fresh}
use Rattle.tplg_plan.specs.declared.plans.Plan.{Plan}
use Rattle.tplg_plan.specs.Sound.{IsSound}
use Rattle.host_widgets.specs.declared.kept.Power.TheVariants as powers
use Rattle.host_widgets.specs.declared.kept.Record.{Record}
use Rattle.host_widgets.specs.ActCalls.{next_of, calls_of}
use Rattle.host_widgets.specs.ActCarried.{ActsSent}
use Rattle.host_widgets.specs.ActLists.{prepare_acts}
use Rattle.host_widgets.specs.declared.answers.HostFault.{HostFault}
use Rattle.host_pm.specs.PowerTests.{resume_fault}
use Rattle.host_widgets.specs.Host.{Outcome}
use Rattle.host_widgets.specs.Kept.{first_record, with_power}
use Rattle.host_widgets.specs.Orders.{fault_of_load, unload_fault, where_on}
use Rattle.host_widgets.specs.UpActs.{making_acts}
use Rattle.host_dynamic.specs.Dynamic.{loading_job, unloading_job, resuming_job}
use Rattle.host_widgets.specs.UpState.{UpState, first_state}
use Rattle.host_widgets.specs.There.{booted}
use Rattle.host_dynamic.specs.UpDevices.{there_on, up_state_in, UpAgrees}
use Rattle.host_dynamic.specs.UpStates.{IsUpState}
use Rattle.host_dynamic.proofs.UpAgreeing.{IsSwitched, done-state, IsCalled, called-late}
use Rattle.host_dynamic.proofs.UpLoading.{loaded-state, first-is}
use Rattle.host_dynamic.proofs.UpResumes.{resumes-so, resumes-not}
use Rattle.host_dynamic.proofs.UpResuming.{resuming-keeps}

module _ {D : Type 0} (means : Meaning D) (plan : Plan) (sound : IsSound plan) (heap : ℕ) where
  module _ (kept : Record) (up : List ℕ) (w v : World D) (is : IsUpState plan (up_state_in means kept up w.device)) where
    abbrev s : UpState
    s = up_state_in means kept up w.device

    pub loads : kept.power ≡ powers.Unloaded → Led means w (calls_of heap (Boot ∷ [])) v → means.on v.device ≡ Some (fresh heap) → (up' : List ℕ) → up' ≡ [] → IsCalled means plan heap (fault_of_load kept.power) (loading_job heap s) s (with_power powers.On kept) up' w v (Ok tt)
    loads power boots on up' none =
        let left : up_state_in means (with_power powers.On kept) up' v.device ≡ record { kept = with_power powers.On kept; up = []; there = booted heap } = λ i. record { kept = with_power powers.On kept; up = none i; there = ap there_on on i } in
        called-late means plan heap kept up w (fault_of_load kept.power) (loading_job heap s) (with_power powers.On kept) up' v (Ok tt) (ap fault_of_load power)
        (record { meetings = []; begun = v; first = boots; did = (refl, refl); came = refl; left = left })
        (subst (IsUpState plan) (sym left) (loaded-state plan sound s is power heap)) (ap is_some on)

    pub unloads : unload_fault kept.power ≡ None → Led means w (calls_of heap (where_on kept.power (Cut ∷ []))) v → means.on v.device ≡ None → (kept' : Record) → kept' ≡ first_record plan → (up' : List ℕ) → up' ≡ [] → IsCalled means plan heap (unload_fault kept.power) (unloading_job plan s) s kept' up' w v (Ok tt)
    unloads some cuts off kept' first up' none =
        let left : up_state_in means kept' up' v.device ≡ first_state plan = λ i. record { kept = first i; up = none i; there = ap there_on off i } in
        called-late means plan heap kept up w (unload_fault kept.power) (unloading_job plan s) kept' up' v (Ok tt) some
        (record { meetings = []; begun = v; first = cuts; did = (refl, refl); came = refl; left = left })
        (subst (IsUpState plan) (sym left) (first-is plan sound)) (subst (λ (r : Record). IsSwitched r.power (means.on v.device)) (sym first) off)

    -- ---- resuming

    module _ (agree : UpAgrees means plan kept up w.device) (power : kept.power ≡ powers.Off) (m0 mid : World D) (boots : Led means w (calls_of heap (Boot ∷ [])) m0) (on0 : means.on m0.device ≡ Some (fresh heap)) (outcome : Outcome)
        (sent : ActsSent means plan (making_acts plan kept up ++ flat_map prepare_acts (zip plan.streams kept.streams)) m0 mid outcome) where
      pub resumed-so : outcome ≡ Ok tt → IsCalled means plan heap (resume_fault kept.power) (resuming_job plan heap s) s (with_power powers.On kept) up w mid (Ok tt)
      resumed-so ok =
          let h = resumes-so means plan sound heap s is power w m0 mid boots on0 outcome sent ok in
          called-late means plan heap kept up w (resume_fault kept.power) (resuming_job plan heap s) (with_power powers.On kept) up mid (Ok tt) (ap resume_fault power) h.done
          (done-state means plan heap (resuming_job plan heap s) (up_state_in means (with_power powers.On kept) up mid.device) w mid (Ok tt) h.done (resuming-keeps plan sound s is power next_of heap h.done.meetings)) h.switched

      pub resumed-not : (fault : HostFault) (x : World D) → outcome ≡ Err fault → Led means mid (calls_of heap (Cut ∷ [])) x → IsCalled means plan heap (resume_fault kept.power) (resuming_job plan heap s) s kept up w x (Err fault)
      resumed-not fault x failed cut =
          let h = resumes-not means plan sound heap s is power w m0 mid boots on0 outcome sent fault x failed cut in
          called-late means plan heap kept up w (resume_fault kept.power) (resuming_job plan heap s) kept up x (Err fault) (ap resume_fault power) h.done
          (done-state means plan heap (resuming_job plan heap s) (up_state_in means kept up x.device) w x (Err fault) h.done (resuming-keeps plan sound s is power next_of heap h.done.meetings)) h.switched
