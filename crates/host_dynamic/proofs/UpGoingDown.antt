-- A suspend is a job that is done by the rules of a host that makes pipelines on use: what moves is stopped whatever the results of the
-- messages before it, and then the device is cut.
use Rattle.std.proofs.Common.{◌≡◌, refl, sym, ap, ◌∙◌, ℕ, ◌-◌, true, List, [], ◌∷◌, zip, Some, None, Ok, Err, ◌==◌}
use Rattle.std.specs.Prelude.{is_some}
use Rattle.std.proofs.lemmas.List.{append-nil}
use Rattle.stream_law.specs.State.{FwState}
use Rattle.stream_law.proofs.Members.{in-any, find-in}
use Rattle.ipc3_model.specs.Meanings.{IsMessage}
use Rattle.mbox_link.specs.Calls.{World, Meaning}
use Rattle.mbox_link.specs.Meetings.{Meeting}
use Rattle.tplg_plan.specs.declared.plans.Plan.{Plan}
use Rattle.tplg_plan.specs.declared.plans.StreamPlan.{StreamPlan}
use Rattle.tplg_plan.specs.Sound.{IsSound}
use Rattle.host_widgets.specs.declared.answers.HostFault.TheVariants as faults
use Rattle.host_widgets.specs.declared.kept.Found.TheVariants as founds
use Rattle.host_widgets.specs.declared.kept.Power.TheVariants as powers
use Rattle.host_widgets.specs.declared.kept.Record.{Record}
use Rattle.host_widgets.specs.declared.trigger.Trigger.TheVariants.{Stop}
use Rattle.host_widgets.specs.ActCalls.{next_of}
use Rattle.host_widgets.specs.ActLists.{go_down}
use Rattle.host_widgets.specs.Host.{Outcome}
use Rattle.host_widgets.specs.HostActs.{Act}
use Rattle.host_widgets.specs.Kept.{went_down}
use Rattle.host_widgets.specs.OneAct.{outcome_by, performed, lag_of}
use Rattle.host_widgets.specs.Orders.{suspending}
use Rattle.host_widgets.specs.Routines.{JobDone}
use Rattle.host_widgets.specs.Walk.{Walked, followed_by, goes_past, walk}
use Rattle.host_widgets.proofs.Exchanges.{state_of}
use Rattle.host_widgets.proofs.ReadyWays.{has_host}
use Rattle.host_widgets.proofs.StreamFits.{trigger-fits}
use Rattle.host_pm.specs.InTurn.{WentDown}
use Rattle.host_pm.proofs.GoingDown.{AreDown, going-down, save-fits}
use Rattle.host_dynamic.specs.Dynamic.{plain_job}
use Rattle.host_widgets.specs.UpState.{UpState, up_own, up_act_rules}
use Rattle.host_widgets.specs.There.{nowhere, there_in}
use Rattle.host_dynamic.specs.UpDevices.{there_on, up_state_in}
use Rattle.host_dynamic.specs.UpStates.{IsUpState}
use Rattle.host_widgets.proofs.HostStreams.{in-zip}
use Rattle.host_dynamic.proofs.DownActs.{Stands, down-so}
use Rattle.host_dynamic.proofs.UpAnswers.{own-save, own-trigger}
use Rattle.host_pm.proofs.TurnsCome.{AreSaid, Came, turns-come}
use Rattle.host_widgets.proofs.UpExchanges.{leaves-there, IsOwn, own-said, own-leaves}
use Rattle.host_widgets.proofs.UpStages.{StreamPair}
use Rattle.host_widgets.specs.ActMessages.{act_message}

module _ (plan : Plan) where
  -- Each is a message; a firmware in which what is kept is there answers it as the rules say; and so are those after it, whether it passed
  -- or not.
  abbrev pub AreAnsweredOn : UpState → List Act → Type 0
  AreAnsweredOn u [] = Unit {0}
  AreAnsweredOn u (act ∷ acts) =
      IsMessage (act_message plan act)
      × ((f : FwState) → there_in f ≡ u.there → IsOwn plan u act f)
      × (up_own plan u act ≡ None → AreAnsweredOn ((up_act_rules plan).after act u) acts)
      × AreAnsweredOn u acts

  -- so the firmware says to each what the rules say
  on-said : (acts : List Act) (u : UpState) → AreAnsweredOn u acts → (f : FwState) → there_in f ≡ u.there → AreSaid plan (up_own plan) (up_act_rules plan).after (up_act_rules plan).view true acts u f
  on-said [] u answered f there = tt
  on-said (act ∷ acts) u answered f there = (
    answered.0,
    λ g same.
        let now = leaves-there f g same ∙ there in
        let own = answered.1 g now in (
          own-said plan u act g own,
          λ free h done. on-said acts ((up_act_rules plan).after act u) (answered.2 free) h (own-leaves plan u act g h own free done),
          λ goes. on-said acts u answered.3 g now,
        ),
  )

-- ---- the acts before a cut

module _ (plan : Plan) (sound : IsSound plan) where
  stream-some : (u : UpState) (p : StreamPair) → Stands plan sound u p → has_host plan.streams p.0.host ≡ true
  stream-some u p stands =
      let there = find-in (λ (q : StreamPair). q.0.host == p.0.host) (zip plan.streams u.kept.streams) p stands in
      in-any (λ (x : StreamPlan). x.host == p.0.host) plan.streams p.0 (in-zip plan.streams u.kept.streams p there.0).0 there.1

  pub down-answered : (u : UpState) → IsUpState plan u → u.kept.power ≡ powers.On → AreAnsweredOn plan u (go_down plan u.kept)
  down-answered = down-so plan sound (AreAnsweredOn plan)
      (λ u is on. (save-fits, λ f same. own-save plan sound u is on f same, λ free. tt, tt))
      (λ u p ps is on stands moves same is_then then. (
        trigger-fits plan sound p.0.host (stream-some u p stands) Stop,
        λ f there. own-trigger plan sound u is on f there p.0.host p stands Stop moves,
        λ free. then,
        same,
      ))

  -- these leave what is up, and what the record is once the power is off
  abbrev pub IsWentDown : {Q : Type 0} → UpState → Walked UpState Act Q → Type 0
  IsWentDown u w = (went_down w.kept.kept ≡ went_down u.kept) × (w.kept.up ≡ u.up)

  pub walk-goes-down : {Q : Type 0} (next : Q → Meeting × Q) (heap : ℕ) (acts : List Act) (u : UpState) (q : Q) → AreDown plan heap u.kept acts → IsWentDown u (walk (up_act_rules plan) true next u q acts)
  walk-goes-down next heap [] u q are = (refl, refl)
  walk-goes-down {Q} next heap (act ∷ acts) u q are = by (outcome_by (next q).0.fate (up_own plan u act)) (walk-goes-down next heap acts ((up_act_rules plan).after act u) (next q).1 are.1) (walk-goes-down next heap acts u (next q).1 are.2)
    where
      left : Outcome → Walked UpState Act Q
      left o =
          let a = performed (up_act_rules plan) act u (lag_of (next q).0) o in
          followed_by act a (next q).1 (goes_past true a.outcome) (walk (up_act_rules plan) true next a.kept (next q).1 acts)

      by : (o : Outcome) → IsWentDown ((up_act_rules plan).after act u) (walk (up_act_rules plan) true next ((up_act_rules plan).after act u) (next q).1 acts) →
          IsWentDown u (walk (up_act_rules plan) true next u (next q).1 acts) → IsWentDown u (left o)
      by (Ok done) passed refused = (passed.0 ∙ are.0.halts, passed.1)
      by (Err (faults.Refused e)) passed refused = refused
      by (Err fault) passed refused = (refl, refl)

  -- ---- over any device

  pub suspend-job : {D : Type 0} (means : Meaning D) (heap : ℕ) (kept : Record) (up : List ℕ) (w : World D) → IsUpState plan (up_state_in means kept up w.device) → kept.power ≡ powers.On → is_some (means.on w.device) ≡ true →
      (kept' : Record) (v : World D) (result : Outcome) → WentDown means plan heap kept kept' w v result →
      JobDone means (up_act_rules plan) heap (plain_job plan (up_state_in means kept up w.device) (suspending plan kept)) (up_state_in means kept' up v.device) w v result
  suspend-job {D} means heap kept up w is power on kept' v result x = record {
    meetings = t.meetings;
    begun = w;
    first = refl;
    did = (t.meetings, [], x.sent, sym (append-nil t.meetings), t.did, (refl, x.cut));
    came = t.is;
    left = λ i. record { kept = (x.record_is ∙ sym d.0) i; up = sym d.1 i; there = off i };
  }
    where
      u : UpState
      u = up_state_in means kept up w.device

      f : (g : FwState) × (means.on w.device ≡ Some g)
      f = state_of (means.on w.device) on

      t : Came plan (up_own plan) (up_act_rules plan).after (up_act_rules plan).view true means u (go_down plan kept) w x.sent result
      t = turns-come plan (up_own plan) (up_act_rules plan).after (up_act_rules plan).view true means (go_down plan kept) u w x.sent result f.0 f.1 (on-said plan (go_down plan kept) u (down-answered u is power) f.0 (sym (ap there_on f.1))) x.told

      d : IsWentDown u (walk (up_act_rules plan) true next_of u t.meetings (go_down plan kept))
      d = walk-goes-down next_of heap (go_down plan kept) u t.meetings (going-down plan heap sound kept is.record_is)

      off : there_on (means.on v.device) ≡ nowhere
      off = ap there_on (ap (λ (y : World D). means.on y.device) x.cut.2 ∙ x.cut.1.0.on)
