-- What a load comes to and leaves, read off what was carried out.
use Rattle.std.proofs.Common.{◌≡◌, ⊎_elim, refl, sym, ap, subst, ◌∙◌, ℕ, List, [], ◌∷◌, Bool, false, Option, None, Ok, Err, arith}
use Rattle.std.specs.List.{AllByRecursion}
use Rattle.std.specs.Option.{option_map}
use Rattle.sof_base.specs.declared.errno.Errno.{Errno}
use Rattle.stream_law.specs.Past as past
use Rattle.stream_law.specs.State.{FwState, view_of}
use Rattle.mbox_link.specs.declared.fates.Fate.{Fate}
use Rattle.mbox_link.specs.declared.fates.Fate.TheVariants.{Pass, Refuse, Drop, Lose}
use Rattle.mbox_link.specs.Meetings.{Meeting}
use Rattle.mbox_link.specs.Step.{fresh}
use Rattle.mbox_link.specs.Exchange.{Rose}
use Rattle.mbox_link.specs.Calls.{World, Meaning, Led, Steady}
use Rattle.mbox_link.proofs.Led.{Led-steady}
use Rattle.mbox_link.proofs.Steps.{NoneFell-same, Rose-within}
use Rattle.tplg_plan.specs.declared.plans.Plan.{Plan}
use Rattle.host_widgets.specs.declared.answers.HostFault.{HostFault}
use Rattle.host_widgets.specs.declared.kept.Power.TheVariants.{On}
use Rattle.host_widgets.specs.declared.kept.Record.{Record}
use Rattle.host_widgets.specs.Kept.{first_record, with_power}
use Rattle.tplg_plan.specs.Sound.{IsSound}
use Rattle.host_widgets.specs.HostActs.{Act}
use Rattle.host_widgets.specs.ActMessages.{act_message}
use Rattle.host_widgets.specs.ActLists.{bring_up}
use Rattle.host_widgets.specs.Host.{Outcome, AreControls, Agrees}
use Rattle.host_widgets.specs.Bringing.{Fits, BroughtUp, SucceedsExactly}
use Rattle.host_widgets.specs.OneAct.{act_rules, own, outcome_by, lag_of, performed}
use Rattle.host_widgets.specs.Walk.{followed_by, walk}
use Rattle.host_widgets.specs.ActCalls.{ActsDid, Counted, next_of, calls_of}
use Rattle.host_widgets.specs.Orders.{Carried, brought_end, loading}
use Rattle.host_widgets.proofs.Effects.{effect, FollowAll, own_cases}
use Rattle.host_widgets.proofs.ManyEffects.{AllFree, GoesOn, outcome_from}
use Rattle.host_widgets.proofs.Brings.{brings}
use Rattle.host_widgets.proofs.BuildingActs.{Leaves, ends-at, bring-leaves, walk-leaves}
use Rattle.host_widgets.proofs.Records.{closed-record, unloaded-agrees}
use Rattle.host_widgets.proofs.UpWalks.{passed-free}

module _ {D : Type 0} (means : Meaning D) (plan : Plan) (heap : ℕ) (kept : Record) where
  -- ---- acts that leave the record

  abbrev outcome_of : List Meeting → List Act → Outcome
  outcome_of ms acts = (walk (act_rules plan heap) false next_of kept ms acts).outcome

  -- where all passed, none was refused
  pub all-free : (acts : List Act) (ms : List Meeting) (w v : World D) → AllByRecursion (Leaves plan kept) acts → ActsDid means (act_rules plan heap) false kept acts ms w v → outcome_of ms acts ≡ Ok tt → AllFree plan heap kept acts
  all-free [] ms w v all did passed = tt
  all-free (act ∷ acts) [] w v all did passed = absurd did
  all-free (act ∷ acts) (m ∷ ms) w v all (mid, d, on) passed = by (outcome_by m.fate (own plan heap kept act)) refl (all-free acts ms mid v all.1) on passed
    where
      by : (o : Outcome) → outcome_by m.fate (own plan heap kept act) ≡ o → (ActsDid means (act_rules plan heap) false kept acts ms mid v → outcome_of ms acts ≡ Ok tt → AllFree plan heap kept acts) → GoesOn means plan heap kept act acts m ms mid v o → outcome_from means plan heap kept act acts m ms o ≡ Ok tt → AllFree plan heap kept (act ∷ acts)
      by (Ok done) is go on passed = (
        passed-free m.fate (own plan heap kept act) is,
        go (subst (λ (now : Record). ActsDid means (act_rules plan heap) false now acts ms mid v) all.0 on) (subst (λ (now : Record). (walk (act_rules plan heap) false next_of now ms acts).outcome ≡ Ok tt) all.0 passed),
      )
      by (Err fault) is go on passed =
          let no : Err fault ≡ Ok tt = sym (ap (λ (b : Bool). (followed_by act (performed (act_rules plan heap) act kept (lag_of m) (Err fault)) ms b (walk (act_rules plan heap) false next_of kept ms acts)).outcome) (ends-at fault)) ∙ passed in
          absurd (cc no)

  -- neither count rose
  pub record Calm (a b : D) : Type 0 where
    pub faults : Rose (means.faults a) (means.faults b) → ⊥
    pub refusals : Rose (means.refusals a) (means.refusals b) → ⊥

  pub calm-within : (a b c d : D) → Steady means a b → Steady means c d → Calm a d → Calm b c
  calm-within a b c d before later calm = record {
    faults = λ rose. calm.faults (Rose-within (means.faults a) (means.faults b) (means.faults c) (means.faults d) before.faults later.faults rose);
    refusals = λ rose. calm.refusals (Rose-within (means.refusals a) (means.refusals b) (means.refusals c) (means.refusals d) before.refusals later.refusals rose);
  }

  -- where the sizes fit and no count rose, all passed
  pub all-pass : (acts : List Act) (ms : List Meeting) (w v : World D) (g : FwState) → AllByRecursion (Leaves plan kept) acts → FollowAll plan heap kept g acts → ActsDid means (act_rules plan heap) false kept acts ms w v → Fits plan heap → Calm w.device v.device → outcome_of ms acts ≡ Ok tt
  all-pass [] ms w v g all follow did fits calm = refl
  all-pass (act ∷ acts) [] w v g all follow did fits calm = absurd did
  all-pass (act ∷ acts) (m ∷ ms) w v g all follow (mid, d, on) fits calm =
      subst (λ (o : Option Errno). GoesOn means plan heap kept act acts m ms mid v (outcome_by m.fate o) → outcome_from means plan heap kept act acts m ms (outcome_by m.fate o) ≡ Ok tt) (sym free)
      (by m.fate d.counted (all-pass acts ms mid v (effect (act_message plan act) g) all.1 (follow.1 free))) on
    where
      free : own plan heap kept act ≡ None
      free = ⊎_elim (λ none. none) (λ (e, refused). (let more = (follow.0.number e refused).1 in absurd (omega (arith, fits, more)))) (own_cases (own plan heap kept act))

      none-fell : (c : D) → Steady means c c
      none-fell c = record { faults = NoneFell-same (means.faults c); refusals = NoneFell-same (means.refusals c); boots = omega arith; pending = omega arith; most = refl }

      by : (fate : Fate) → Counted means fate w.device mid.device → (ActsDid means (act_rules plan heap) false kept acts ms mid v → Fits plan heap → Calm mid.device v.device → outcome_of ms acts ≡ Ok tt) →
          GoesOn means plan heap kept act acts m ms mid v (outcome_by fate None) → outcome_from means plan heap kept act acts m ms (outcome_by fate None) ≡ Ok tt
      by Pass counted go on =
          subst (λ (now : Record). (walk (act_rules plan heap) false next_of now ms acts).outcome ≡ Ok tt) (sym all.0)
          (go (subst (λ (now : Record). ActsDid means (act_rules plan heap) false now acts ms mid v) all.0 on) fits (calm-within w.device mid.device v.device v.device d.exchanged.steady (none-fell v.device) calm))
      by (Refuse e) counted go on = absurd (calm.refusals (subst (λ (y : World D). Rose (means.refusals w.device) (means.refusals y.device)) (sym on.1) counted))
      by Drop counted go on = absurd (calm.faults (subst (λ (y : World D). Rose (means.faults w.device) (means.faults y.device)) (sym on.1) counted))
      by Lose counted go on = absurd (calm.faults (subst (λ (y : World D). Rose (means.faults w.device) (means.faults y.device)) (sym on.1) counted))

  -- ---- a load that was carried out

  module _ (sound : IsSound plan) (are : AreControls plan.controls kept.controls) (kept' : Record) (w v : World D) (result : Outcome) (c : Carried means plan heap (loading plan kept) kept kept' w v result) where
    leaves : AllByRecursion (Leaves plan kept) (bring_up plan kept)
    leaves = bring-leaves plan kept sound

    before : Steady means w.device c.begun.device
    before = Led-steady means (calls_of heap (past.Boot ∷ [])) w c.begun c.first

    later : Steady means c.sent.device v.device
    later = Led-steady means _ c.sent v c.ends.1

    pub load-exactly : SucceedsExactly means plan heap w.device result v.device
    load-exactly = record {
      fit = λ fits faults refusals.
          c.came ∙ all-pass (bring_up plan kept) c.meetings c.begun c.sent (fresh heap) leaves (brings plan heap kept sound are).follow c.walked fits
          (calm-within w.device c.begun.device c.sent.device v.device before later record { faults = faults; refusals = refusals });
      unfit = λ passed. (brings plan heap kept sound are).fits (all-free (bring_up plan kept) c.meetings c.begun c.sent leaves c.walked (sym c.came ∙ passed));
    }

    abbrev EndsSo : Record → Outcome → Type 0
    EndsSo now o = let end = brought_end (with_power On) (first_record plan) now o in (kept' ≡ end.0) × Led means c.sent (calls_of heap end.1) v

    pub load-ends : EndsSo kept result
    load-ends = subst (λ (p : Record × Outcome). EndsSo p.0 p.1) (λ i. (walk-leaves plan kept heap (bring_up plan kept) c.meetings leaves i, sym c.came i)) c.ends

    -- after a failure it is off
    pub failed-off : (fault : HostFault) → result ≡ Err fault → means.on v.device ≡ None
    failed-off fault failed =
        let end = subst (EndsSo kept) failed load-ends in
        ap (λ (y : World D). means.on y.device) end.1.2 ∙ end.1.1.0.on

    pub load-agrees : kept ≡ first_record plan → BroughtUp means plan heap (first_record plan) w.device result v.device → Agrees means plan kept' v.device
    load-agrees first = by result refl
      where
        by : (o : Outcome) → result ≡ o → BroughtUp means plan heap (first_record plan) w.device o v.device → Agrees means plan kept' v.device
        by (Ok done) is left =
            let now = (subst (EndsSo kept) is load-ends).0 ∙ ap (with_power On) first in
            subst (λ (r : Record). Agrees means plan r v.device) (sym now) record { record_is = closed-record On plan; sides = ap (option_map view_of) left }
        by (Err fault) is left = unloaded-agrees means plan kept' v.device (subst (EndsSo kept) is load-ends).0 (failed-off fault is)
