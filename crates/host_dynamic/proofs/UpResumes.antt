-- Resuming over any device: the results of the messages are what the rules say.
use Rattle.std.proofs.Common.{◌≡◌, refl, sym, ap, subst, ◌∙◌, ℕ, List, [], ◌∷◌, ◌++◌, false, Some, None, Ok, Err}
use Rattle.std.specs.Prelude.{is_some}
use Rattle.std.specs.List.{zip, flat_map}
use Rattle.stream_law.specs.Past.{Boot, Cut}
use Rattle.mbox_link.specs.Calls.{World, Meaning, Led}
use Rattle.mbox_link.specs.Meetings.{Meeting}
use Rattle.mbox_link.specs.Step.{fresh}
use Rattle.tplg_plan.specs.declared.plans.Plan.{Plan}
use Rattle.tplg_plan.specs.Sound.{IsSound}
use Rattle.host_widgets.specs.declared.answers.HostFault.{HostFault}
use Rattle.host_widgets.specs.declared.kept.Power.{Power}
use Rattle.host_widgets.specs.declared.kept.Power.TheVariants as powers
use Rattle.host_widgets.specs.declared.kept.Record.{Record}
use Rattle.host_widgets.specs.ActCalls.{next_of, calls_of}
use Rattle.host_widgets.specs.ActCarried.{ActsSent}
use Rattle.host_widgets.specs.ActLists.{prepare_acts}
use Rattle.host_widgets.specs.Host.{Outcome}
use Rattle.host_widgets.specs.HostActs.{Act}
use Rattle.host_widgets.specs.Kept.{with_power}
use Rattle.host_widgets.specs.Routines.{JobDone}
use Rattle.host_widgets.specs.Walk.{Walked, walk}
use Rattle.host_widgets.specs.UpActs.{making_acts}
use Rattle.host_dynamic.specs.Dynamic.{after_resuming, resuming_job}
use Rattle.host_widgets.specs.UpState.{UpState, up_act_rules}
use Rattle.host_widgets.specs.There.{booted}
use Rattle.host_dynamic.specs.UpDevices.{there_on}
use Rattle.host_dynamic.specs.UpStates.{IsThereBy, IsUpState}
use Rattle.host_dynamic.proofs.JobLegs.{HasGone, once-done}
use Rattle.host_dynamic.proofs.UpAgreeing.{IsSwitched, gone-of, cut-none, there-then}
use Rattle.host_pm.proofs.ParamsAgain.{AnyThere}
use Rattle.host_dynamic.proofs.UpResuming.{real, Ready, all-runs, resuming-answered, resuming-loose}
use Rattle.host_widgets.proofs.UpSending.{EndsThere, HasSent, sent-did}
use Rattle.host_widgets.proofs.UpWalks.{HasEnded, walk-runs}
use Rattle.host_widgets.proofs.MadeSent.{sent-listed}

module _ {D : Type 0} (means : Meaning D) (plan : Plan) (sound : IsSound plan) (heap : ℕ) (s : UpState) (is : IsUpState plan s) (off : s.kept.power ≡ powers.Off) where
  abbrev acts : List Act
  acts = making_acts plan s.kept s.up ++ flat_map prepare_acts (zip plan.streams s.kept.streams)

  pub record HasResumed (kept' : Record) (w v : World D) (result : Outcome) : Type 0 where
    pub done : JobDone means (up_act_rules plan) heap (resuming_job plan heap s) (record { kept = kept'; up = s.up; there = there_on (means.on v.device) }) w v result
    pub switched : IsSwitched kept'.power (means.on v.device)

  module _ (w m0 mid : World D) (boots : Led means w (calls_of heap (Boot ∷ [])) m0) (on0 : means.on m0.device ≡ Some (fresh heap)) (outcome : Outcome) (sent : ActsSent means plan acts m0 mid outcome) where
    abbrev passed : List Act
    passed = (sent-listed means plan acts m0 mid outcome sent).0

    h : HasSent plan means (real plan sound s is off (booted heap)) acts passed m0 mid outcome
    h = sent-did plan means acts passed (real plan sound s is off (booted heap)) m0 mid outcome (fresh heap) on0 refl (resuming-loose plan sound s is off (fresh heap)) (resuming-answered plan sound s is off heap) (sent-listed means plan acts m0 mid outcome sent).1

    abbrev x : Walked UpState Act (List Meeting)
    x = walk (up_act_rules plan) false next_of (real plan sound s is off (booted heap)) h.meetings acts

    ended : HasEnded plan AnyThere (Ready plan sound s is off) (real plan sound s is off (booted heap)) x
    ended = walk-runs plan next_of AnyThere (Ready plan sound s is off) acts (real plan sound s is off (booted heap)) h.meetings (all-runs plan sound s is off heap)

    gone : HasGone means (up_act_rules plan) (real plan sound s is off (booted heap)) acts false m0 mid x.kept outcome
    gone = gone-of means plan (real plan sound s is off (booted heap)) acts passed m0 mid outcome h

    pub resumes-so : outcome ≡ Ok tt → HasResumed (with_power powers.On s.kept) w mid (Ok tt)
    resumes-so ok =
        let at : EndsThere plan means (Ok tt) x.kept mid = subst (λ (o : Outcome). EndsThere plan means o x.kept mid) (sym h.came ∙ ok) h.there in
        let left : record { kept = with_power powers.On x.kept.kept; up = x.kept.up; there = x.kept.there } ≡ record { kept = with_power powers.On s.kept; up = s.up; there = there_on (means.on mid.device) } =
        λ i. record { kept = with_power powers.On (ended.kept i); up = ended.up i; there = sym (there-then means plan x.kept mid at) i } in
        record {
          done = subst (λ (y : UpState). JobDone means (up_act_rules plan) heap (resuming_job plan heap s) y w mid (Ok tt)) left
              (once-done means (up_act_rules plan) heap (resuming_job plan heap s) acts false (after_resuming s) refl w m0 mid mid boots x.kept (Ok tt)
              (subst (HasGone means (up_act_rules plan) (real plan sound s is off (booted heap)) acts false m0 mid x.kept) ok gone)
              (record { kept = with_power powers.On x.kept.kept; up = x.kept.up; there = x.kept.there }) [] refl refl);
          switched = ap is_some at.1;
        }

    pub resumes-not : (fault : HostFault) (v : World D) → outcome ≡ Err fault → Led means mid (calls_of heap (Cut ∷ [])) v → HasResumed s.kept w v (Err fault)
    resumes-not fault v failed cut =
        let none : means.on v.device ≡ None = cut-none means plan heap mid v cut in
        let was : IsThereBy powers.Off plan s = subst (λ (power : Power). IsThereBy power plan s) off is.there in
        let left : s ≡ record { kept = s.kept; up = s.up; there = there_on (means.on v.device) } = λ i. record { kept = s.kept; up = s.up; there = (was.0 ∙ sym (ap there_on none)) i } in
        record {
          done = subst (λ (y : UpState). JobDone means (up_act_rules plan) heap (resuming_job plan heap s) y w v (Err fault)) left
              (once-done means (up_act_rules plan) heap (resuming_job plan heap s) acts false (after_resuming s) refl w m0 mid v boots x.kept (Err fault)
              (subst (HasGone means (up_act_rules plan) (real plan sound s is off (booted heap)) acts false m0 mid x.kept) failed gone) s (Cut ∷ []) refl cut);
          switched = subst (λ (power : Power). IsSwitched power (means.on v.device)) (sym off) none;
        }
