-- The acts before a power that is cut lead on, whatever their messages meet.
use Rattle.std.proofs.Common.{◌≡◌, refl, List, [], ◌∷◌, ◌++◌, true, inr, Ok, Err}
use Rattle.std.specs.List.{zip, flat_map}
use Rattle.stream_law.specs.Past.{Cut}
use Rattle.stream_law.specs.State.{FwState}
use Rattle.tplg_plan.specs.declared.plans.Plan.{Plan}
use Rattle.tplg_plan.specs.Sound.{IsSound}
use Rattle.host_widgets.specs.declared.kept.Found.{Found}
use Rattle.host_widgets.specs.declared.kept.Found.TheVariants as founds
use Rattle.host_widgets.specs.declared.kept.Power.TheVariants as powers
use Rattle.host_widgets.specs.declared.trigger.Trigger.TheVariants.{Stop}
use Rattle.host_widgets.specs.ActLists.{go_down, stop_acts, stop_by}
use Rattle.host_widgets.specs.Host.{Outcome}
use Rattle.host_widgets.specs.HostActs.{Act, Save, Trig}
use Rattle.host_widgets.specs.Orders.{suspending}
use Rattle.host_widgets.specs.Kept.{went_down}
use Rattle.host_widgets.specs.Routines.{Routine, Finished}
use Rattle.host_widgets.specs.Walk.{walk}
use Rattle.host_widgets.specs.ActCalls.{next_of}
use Rattle.host_widgets.specs.declared.answers.HostFault.TheVariants as faults
use Rattle.host_widgets.proofs.WalksHold.{ByLink}
use Rattle.host_dynamic.specs.Dynamic.{plain_job}
use Rattle.host_widgets.specs.UpState.{UpState, settled, up_act_rules}
use Rattle.host_widgets.specs.There.{there_in}
use Rattle.host_dynamic.specs.UpStates.{IsUpState}
use Rattle.host_dynamic.proofs.DownActs.{down-so}
use Rattle.host_dynamic.proofs.UpAnswers.{own-save, own-trigger}
use Rattle.host_widgets.proofs.UpSending.{StagedFirst}
use Rattle.host_widgets.proofs.UpStages.{StreamPair}
use Rattle.sof_session.proofs.UpStandsWalks.{AreLed, LeadsBy, IsCutThen}
use Rattle.sof_session.proofs.UpStandsLists.{PlaysAtStages, RowsAtStages, row-takes}
use Rattle.sof_session.proofs.UpStandsJobs.{PlainRows, IsThereSo, so-there, so-plays}

module _ (plan : Plan) (sound : IsSound plan) (plays : PlaysAtStages plan) (stage-rows : RowsAtStages plan) (plain-rows : PlainRows plan) where
  abbrev ThereSo : UpState → Type 0
  ThereSo u = IsThereSo plan sound plays stage-rows plain-rows u

  -- none of them asks for what is staged
  loose-down : (ps : List StreamPair) (f : FwState) → StagedFirst (flat_map stop_acts ps ++ Save ∷ []) f
  loose-down [] f = tt
  loose-down ((s, r) ∷ ps) f = by r.found (loose-down ps f)
    where
      by : (found : Found) → StagedFirst (flat_map stop_acts ps ++ Save ∷ []) f → StagedFirst ((stop_by s.host found ++ flat_map stop_acts ps) ++ Save ∷ []) f
      by founds.Running rest = tt
      by founds.Paused rest = tt
      by found rest = rest

  down-led : (u : UpState) → IsUpState plan u → u.kept.power ≡ powers.On → AreLed plan true u (go_down plan u.kept)
  down-led = down-so plan sound (AreLed plan true)
      (λ u is on.
      let so : ThereSo u = so-there plan sound plays stage-rows plain-rows u is on in (
        so-plays plan sound plays stage-rows plain-rows u so,
        λ f g same staged free done.
            (let at : there_in g ≡ u.there = row-takes plan u Save f g (own-save plan sound u is on f same) free done in
            record {
              there = at;
              leads = plain-rows Save tt u so.record_is so.serves_now so.there so.record_is so.there f g same at done;
              staged = tt;
            }),
        λ free. tt,
        λ goes. (λ f staged. tt, tt),
      ))
      (λ u p ps is on stands moves same is_then behind.
      let next : UpState = (up_act_rules plan).after (Trig p.0.host Stop) u in
      let so : ThereSo u = so-there plan sound plays stage-rows plain-rows u is on in
      let then : ThereSo next = so-there plan sound plays stage-rows plain-rows next is_then on in (
        so-plays plan sound plays stage-rows plain-rows u so,
        λ f g same_f staged free done.
            (let at : there_in g ≡ next.there = row-takes plan u (Trig p.0.host Stop) f g (own-trigger plan sound u is on f same_f p.0.host p stands Stop moves) free done in
            record {
              there = at;
              leads = plain-rows (Trig p.0.host Stop) tt u so.record_is so.serves_now so.there then.record_is then.there f g same_f at done;
              staged = loose-down ps g;
            }),
        λ free. behind,
        λ goes. (λ f staged. loose-down ps f, same),
      ))

  cut-then : (o : Outcome) (Up : Type 0) (Down : Type 0) → Up → Down → ByLink o Up Down
  cut-then (Ok passed) Up Down up down = up
  cut-then (Err faults.LinkDown) Up Down up down = down
  cut-then (Err (faults.Refused e)) Up Down up down = up
  cut-then (Err fault) Up Down up down = up

  pub suspend-leads-by : (s : UpState) → IsUpState plan s → s.kept.power ≡ powers.On → LeadsBy plan s (plain_job plan s (suspending plan s.kept)).routine
  suspend-leads-by s is on = (
    down-led s is on,
    loose-down (zip plan.streams s.kept.streams),
    λ ms.
        (let w = walk (up_act_rules plan) true next_of s ms (go_down plan s.kept) in
        let end : Routine UpState Act = Finished (settled (went_down w.kept.kept) w.kept) (Cut ∷ []) in
        cut-then w.outcome (LeadsBy plan w.kept end) (IsCutThen end) (inr refl) refl),
  )
