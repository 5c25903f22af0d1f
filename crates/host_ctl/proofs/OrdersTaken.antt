-- The acts of a call on a control, where no test fails: the law of one act holds of each.
use Rattle.std.proofs.Common.{◌≡◌, refl, sym, ap, subst, ◌∙◌, ℕ, ◌<◌, false, List, [], ◌∷◌, length, Option, Some, None, unwrap_or}
use Rattle.tplg_plan.specs.declared.plans.Plan.{Plan}
use Rattle.tplg_plan.specs.declared.plans.ControlPlan.{ControlPlan}
use Rattle.tplg_plan.specs.Sound.{IsSound}
use Rattle.host_widgets.specs.declared.answers.Answer.TheVariants.{Done}
use Rattle.host_widgets.specs.declared.kept.Record.{Record}
use Rattle.host_widgets.specs.declared.kept.ControlRec.{ControlRec}
use Rattle.host_widgets.specs.HostActs.{Put, with_values}
use Rattle.host_widgets.specs.Host.{IsRecordOf}
use Rattle.host_widgets.proofs.WalksHold.{AreTaken, plainly-taken}
use Rattle.host_widgets.proofs.ActSteps.{each-law, sends-taken}
use Rattle.host_ctl.proofs.ControlParts.{asks-plain, asks-taken}
use Rattle.host_widgets.specs.Kept.{control_at, with_control}
use Rattle.std.specs.Option.{option_and_then}
use Rattle.host_ctl.specs.ControlAsks.{named_control, channels_of, spread, setting_fault, set_fault, name_fault, read_fault}
use Rattle.host_ctl.specs.ControlOrders.{setting_order, set_order, reading_order, read_order, ask_acts, control_answer}
use Rattle.host_ctl.specs.ControlPlaces.{control_place, control_here, record_here}
use Rattle.host_ctl.proofs.ControlsThere.{at-here, named-here, lost-here}
use Rattle.host_ctl.proofs.ControlsTaken.{put-is}
use Rattle.host_ctl.proofs.ControlTests.{loaded, place-low, settable-here}
use Rattle.host_widgets.specs.Named.{is_named, off_fault}

module _ (plan : Plan) (sound : IsSound plan) (kept : Record) (is : IsRecordOf plan kept) where
  -- the control at a place is asked, by its kind
  asked : (i : ℕ) → i < length plan.controls → AreTaken plan false kept (reading_order kept (Some (control_here plan i, record_here kept i))).acts
  asked i low =
      let k = control_here plan i in
      let r = record_here kept i in
      let acts = ask_acts k.comp k.kind r in
      sends-taken plan kept kept.power acts (λ now. now) (control_answer k.kind r) (plainly-taken plan false kept acts (asks-plain k.comp k.kind r) (each-law plan acts kept (asks-taken plan sound kept is i low)))

  module _ (name : List ℕ) where
    lost : control_place plan name ≡ None → named_control plan name ≡ None
    lost at = lost-here (λ k. is_named plan name k.comp) plan.controls at

    -- values that are set
    pub set-taken : (values : List ℕ) → set_fault plan kept name values ≡ None → AreTaken plan false kept (set_order plan kept name values).acts
    set-taken values none = by (control_place plan name) refl
      where
        by : (place : Option ℕ) → control_place plan name ≡ place → AreTaken plan false kept (set_order plan kept name values).acts
        by None at = absurd (cc (sym (ap (setting_fault name values) (lost at)) ∙ (loaded kept.power (setting_fault name values (named_control plan name)) none).1))
        by (Some i) at =
            let low = place-low plan name i at in
            let k = control_here plan i in
            let all = spread (unwrap_or (channels_of k.kind) 0) values in
            subst (λ (o : Option ControlPlan). AreTaken plan false kept (setting_order plan kept values o).acts) (sym (named-here plan sound kept is i low name at))
            (sends-taken plan kept kept.power (Put k.comp all ∷ []) (with_control plan k.comp (with_values all)) Done
            (plainly-taken plan false kept (Put k.comp all ∷ []) (tt, tt) (put-is plan sound kept is i low all (settable-here plan sound kept is name i at values none).may, (λ now. tt), λ on. absurd (cc on))))

    -- one that asks
    pub read-taken : read_fault plan kept name ≡ None → AreTaken plan false kept (read_order plan kept name).acts
    read-taken none = by (control_place plan name) refl
      where
        by : (place : Option ℕ) → control_place plan name ≡ place → AreTaken plan false kept (read_order plan kept name).acts
        by None at = absurd (cc (sym (ap (λ (o : Option ControlPlan). name_fault name o (off_fault kept.power)) (lost at)) ∙ (loaded kept.power (name_fault name (named_control plan name) (off_fault kept.power)) none).1))
        by (Some i) at =
            subst (λ (o : Option (ControlPlan × ControlRec)). AreTaken plan false kept (reading_order kept o).acts)
            (sym (ap (option_and_then (λ (x : ControlPlan). control_at plan kept x.comp)) (named-here plan sound kept is i (place-low plan name i at) name at) ∙ at-here plan sound kept is i (place-low plan name i at))) (asked i (place-low plan name i at))
