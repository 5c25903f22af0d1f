-- What is sent or read where only a part is up: a control whose component is up is set there as the record says; and a suspend and a `get`, by their
-- tests.
use Rattle.std.proofs.Common.{◌≡◌, refl, sym, ap, subst, ◌∙◌, ℕ, ◌<◌, List, [], length, true, Option, Some, None, Err}
use Rattle.std.specs.Option.{option_map}
use Rattle.stream_law.specs.Ways.{comp_of}
use Rattle.mbox_link.specs.Calls.{World, Meaning}
use Rattle.tplg_plan.specs.declared.plans.Plan.{Plan}
use Rattle.tplg_plan.specs.declared.plans.ControlPlan.{ControlPlan}
use Rattle.tplg_plan.specs.Sound.{IsLive, IsSound}
use Rattle.host_widgets.specs.declared.answers.Answer.{Answer}
use Rattle.host_widgets.specs.declared.answers.HostFault.{HostFault}
use Rattle.host_widgets.specs.declared.kept.Power.{Power}
use Rattle.host_widgets.specs.declared.kept.Power.TheVariants as powers
use Rattle.host_widgets.specs.declared.kept.Record.{Record}
use Rattle.host_widgets.specs.Host.{Outcome}
use Rattle.host_widgets.specs.Orders.{Carried, quiet, suspending}
use Rattle.host_widgets.specs.TestedOrders.{Tested}
use Rattle.host_widgets.specs.ViewOf.{graph_by, set_comp}
use Rattle.host_pm.specs.InTurn.{WentDown}
use Rattle.host_pm.specs.PowerTests.{suspend_fault}
use Rattle.host_ctl.specs.ControlAnswers.{IsSetAt, IsSetFor}
use Rattle.host_ctl.specs.ControlPlaces.{control_place, control_here}
use Rattle.host_ctl.proofs.ControlTests.{place-low}
use Rattle.host_ctl.proofs.ControlsThere.{live, named-here}
use Rattle.host_ctl.proofs.PutShows.{found-set}
use Rattle.host_dynamic.specs.Dynamic.{is_control_up}
use Rattle.host_widgets.specs.UpState.{UpState}
use Rattle.host_dynamic.specs.UpDevices.{there_on, up_state_in}
use Rattle.host_dynamic.specs.UpStates.{IsUpState}
use Rattle.host_dynamic.proofs.NamedControls.{lost}
use Rattle.host_dynamic.proofs.UpAgreeing.{IsSwitched}
use Rattle.host_dynamic.proofs.UpAnswers.{shown-comp}
use Rattle.host_dynamic.proofs.UpDone.{HasTested, here-up, tested-by}
use Rattle.host_dynamic.proofs.UpGoingDown.{suspend-job}
use Rattle.host_dynamic.proofs.UpOrders.{IsDoneSo, unsent-done}

-- what no failing test of a suspend says
powered : (power : Power) → suspend_fault power ≡ None → power ≡ powers.On
powered powers.On none = refl
powered powers.Off none = absurd (cc none)
powered powers.Unloaded none = absurd (cc none)

module _ {D : Type 0} (means : Meaning D) (plan : Plan) (sound : IsSound plan) (heap : ℕ) (kept : Record) (up : List ℕ) (w : World D) (is : IsUpState plan (up_state_in means kept up w.device)) (switched : IsSwitched kept.power (means.on w.device)) where
  abbrev s : UpState
  s = up_state_in means kept up w.device

  -- ---- a control whose component is up

  set-at : (i : ℕ) (low : i < length plan.controls) (name : List ℕ) → control_place plan name ≡ Some i → is_control_up plan up name ≡ true → kept.power ≡ powers.On → IsSetAt means plan kept (control_here plan i).comp w.device
  set-at i low name at here power f on =
      let there : IsLive plan.graph (control_here plan i) = live plan sound kept is.record_is i low in
      shown-comp plan sound s is power f (sym (ap there_on on)) i low (here-up means plan sound heap kept up w is switched name i low at here)
      ∙ sym (found-set plan kept (control_here plan i).comp plan.graph.comps ∙ ap (option_map (set_comp plan kept)) there.there)

  pub set-for-up : (name : List ℕ) → is_control_up plan up name ≡ true → IsSetFor means plan kept name w.device
  set-for-up name here k named f on = by kept.power refl switched
    where
      placed : kept.power ≡ powers.On → (place : Option ℕ) → control_place plan name ≡ place → comp_of f.graph k.comp ≡ comp_of (graph_by plan kept) k.comp
      placed power None at = absurd (cc (sym named ∙ lost plan name at))
      placed power (Some i) at =
          let low = place-low plan name i at in
          let same : control_here plan i ≡ k = cc (sym (named-here plan sound kept is.record_is i low name at) ∙ named) in
          subst (λ (x : ControlPlan). comp_of f.graph x.comp ≡ comp_of (graph_by plan kept) x.comp) same (set-at i low name at here power f on)

      by : (power : Power) → kept.power ≡ power → IsSwitched power (means.on w.device) → comp_of f.graph k.comp ≡ comp_of (graph_by plan kept) k.comp
      by powers.On e some = placed e (control_place plan name) refl
      by powers.Off e off = absurd (cc (sym on ∙ off))
      by powers.Unloaded e off = absurd (cc (sym on ∙ off))

  -- ---- what changes nothing

  quiet-so : (answer : Answer) (kept' : Record) (v : World D) (result : Outcome) → Carried means plan heap (quiet answer) kept kept' w v result → IsDoneSo means plan heap up (quiet answer) kept kept' w v result
  quiet-so answer kept' v result c = unsent-done plan means heap (λ now. now) (λ now. refl) kept up w is switched answer powers.On [] kept' v result c.ends.0 (c.ends.1 ∙ c.walked.1 ∙ c.first) c.came

  pub get-done : (test : Option HostFault) (answer : Answer) (kept' : Record) (v : World D) (result : Outcome) → Tested means plan heap test (quiet answer) kept kept' w v result → HasTested means plan sound heap kept up w is switched test (quiet answer) kept' v result
  get-done test answer kept' v result t = tested-by means plan sound heap kept up w is switched test (quiet answer) kept' v result t.early (λ none. quiet-so answer kept' v result (t.late none))

  -- ---- the device goes down

  suspend-so : (kept' : Record) (v : World D) (result : Outcome) → kept.power ≡ powers.On → WentDown means plan heap kept kept' w v result → IsDoneSo means plan heap up (suspending plan kept) kept kept' w v result
  suspend-so kept' v result power x = record {
    job = suspend-job plan sound means heap kept up w is power (subst (λ (p : Power). IsSwitched p (means.on w.device)) power switched) kept' v result x;
    switched_then = subst (λ (r : Record). IsSwitched r.power (means.on v.device)) (sym x.record_is) (ap (λ (y : World D). means.on y.device) x.cut.2 ∙ x.cut.1.0.on);
  }

  pub suspend-done : (kept' : Record) (v : World D) (result : Outcome) → ((fault : HostFault) → suspend_fault kept.power ≡ Some fault → (result ≡ Err fault) × (v ≡ w) × (kept' ≡ kept)) → (suspend_fault kept.power ≡ None → WentDown means plan heap kept kept' w v result) →
      HasTested means plan sound heap kept up w is switched (suspend_fault kept.power) (suspending plan kept) kept' v result
  suspend-done kept' v result early down =
      tested-by means plan sound heap kept up w is switched (suspend_fault kept.power) (suspending plan kept) kept' v result early (λ none. suspend-so kept' v result (powered kept.power none) (down none))
