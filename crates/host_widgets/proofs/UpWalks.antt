-- What acts and routines leave of a host that makes pipelines on use.
use Rattle.std.proofs.Common.{◌≡◌, refl, sym, subst, ◌∙◌, Bool, false, List, [], ◌∷◌, Some, None, Ok, Err}
use Rattle.std.specs.Prelude.{Option}
use Rattle.sof_base.specs.declared.errno.Errno.{Errno}
use Rattle.mbox_link.specs.declared.fates.Fate.{Fate}
use Rattle.mbox_link.specs.declared.fates.Fate.TheVariants.{Pass, Refuse, Drop, Lose}
use Rattle.mbox_link.specs.Meetings.{Meeting}
use Rattle.tplg_plan.specs.declared.plans.Plan.{Plan}
use Rattle.host_widgets.specs.Host.{Outcome}
use Rattle.host_widgets.specs.OneAct.{outcome_by, performed, lag_of}
use Rattle.host_widgets.specs.Walk.{Walked, followed_by, goes_past, walk}
use Rattle.host_widgets.specs.Routines.{Routine, Finished, Sending, followed, not_begun, walk_on, walk_routine}
use Rattle.host_widgets.proofs.BuildingActs.{ends-at}
use Rattle.host_widgets.specs.HostActs.{Act, after}
use Rattle.host_widgets.specs.There.{There, there_after}
use Rattle.host_widgets.specs.UpState.{UpState, up_own, up_act_rules}

-- an act that passes was not refused by the firmware itself
pub passed-free : (fate : Fate) (o : Option Errno) → outcome_by fate o ≡ Ok tt → o ≡ None
passed-free Pass None is = refl
passed-free Pass (Some e) is = absurd (cc is)
passed-free (Refuse e) o is = absurd (cc is)
passed-free Drop o is = absurd (cc is)
passed-free Lose o is = absurd (cc is)

module _ (plan : Plan) where
  -- a state in which this is there
  abbrev pub with_there : UpState → There → UpState
  with_there s t = record { kept = s.kept; up = s.up; there = t }

  -- Acts that leave the record, from what is there: before each of them it is so, and once all passed it is as it should be.
  abbrev pub Runs : (There → Type 0) → UpState → List Act → (There → Type 0) → Type 0
  Runs Mid s [] End = End s.there
  Runs Mid s (act ∷ acts) End = Mid s.there × (after plan act s.kept ≡ s.kept) × (up_own plan s act ≡ None → Runs Mid (with_there s (there_after plan act s.there)) acts End)

  -- the result of a walk
  abbrev pub Met : (There → Type 0) → (There → Type 0) → Outcome → There → Type 0
  Met Mid End (Ok passed) t = End t
  Met Mid End (Err fault) t = Mid t

  pub record HasEnded {Q : Type 0} (Mid End : There → Type 0) (s : UpState) (w : Walked UpState Act Q) : Type 0 where
    pub kept : w.kept.kept ≡ s.kept
    pub up : w.kept.up ≡ s.up
    pub met : Met Mid End w.outcome w.kept.there

  module _ {Q : Type 0} (next : Q → Meeting × Q) (Mid End : There → Type 0) where
    pub walk-runs : (acts : List Act) (s : UpState) (q : Q) → Runs Mid s acts End → HasEnded Mid End s (walk (up_act_rules plan) false next s q acts)
    walk-runs [] s q runs = record { kept = refl; up = refl; met = runs }
    walk-runs (act ∷ acts) s q runs = by (outcome_by (next q).0.fate (up_own plan s act)) refl (walk-runs acts ((up_act_rules plan).after act s) (next q).1)
      where
        After : Outcome → Bool → Type 0
        After o b = let a = performed (up_act_rules plan) act s (lag_of (next q).0) o in HasEnded Mid End s (followed_by act a (next q).1 b (walk (up_act_rules plan) false next a.kept (next q).1 acts))

        by : (o : Outcome) → outcome_by (next q).0.fate (up_own plan s act) ≡ o → (Runs Mid ((up_act_rules plan).after act s) acts End → HasEnded Mid End ((up_act_rules plan).after act s) (walk (up_act_rules plan) false next ((up_act_rules plan).after act s) (next q).1 acts)) → After o (goes_past false (performed (up_act_rules plan) act s (lag_of (next q).0) o).outcome)
        by (Ok passed) e go =
            let same : with_there s (there_after plan act s.there) ≡ (up_act_rules plan).after act s = λ i. record { kept = sym runs.1 i; up = s.up; there = there_after plan act s.there } in
            let r = go (subst (λ (x : UpState). Runs Mid x acts End) same (runs.2 (passed-free (next q).0.fate (up_own plan s act) e))) in
            record { kept = r.kept ∙ runs.1; up = r.up; met = r.met }
        by (Err fault) e go = subst (After (Err fault)) (sym (ends-at fault)) (record { kept = refl; up = refl; met = runs.0 })

  -- ---- acts that change the record

  -- acts one after another, from a state: before each of them it is so, and once all passed it is as it should be
  abbrev pub Steps : (UpState → Type 0) → UpState → List Act → (UpState → Type 0) → Type 0
  Steps Mid u [] End = End u
  Steps Mid u (act ∷ acts) End = Mid u × (up_own plan u act ≡ None → Steps Mid ((up_act_rules plan).after act u) acts End)

  abbrev pub Came : (UpState → Type 0) → (UpState → Type 0) → Outcome → UpState → Type 0
  Came Mid End (Ok passed) u = End u
  Came Mid End (Err fault) u = Mid u

  module _ {Q : Type 0} (next : Q → Meeting × Q) (Mid End : UpState → Type 0) where
    pub walk-steps : (acts : List Act) (u : UpState) (q : Q) → Steps Mid u acts End → (let w = walk (up_act_rules plan) false next u q acts in Came Mid End w.outcome w.kept)
    walk-steps [] u q steps = steps
    walk-steps (act ∷ acts) u q steps = by (outcome_by (next q).0.fate (up_own plan u act)) refl (walk-steps acts ((up_act_rules plan).after act u) (next q).1)
      where
        After : Outcome → Bool → Type 0
        After o b = let a = performed (up_act_rules plan) act u (lag_of (next q).0) o in let w = followed_by act a (next q).1 b (walk (up_act_rules plan) false next a.kept (next q).1 acts) in Came Mid End w.outcome w.kept

        by : (o : Outcome) → outcome_by (next q).0.fate (up_own plan u act) ≡ o → (Steps Mid ((up_act_rules plan).after act u) acts End → (let w = walk (up_act_rules plan) false next ((up_act_rules plan).after act u) (next q).1 acts in Came Mid End w.outcome w.kept)) → After o (goes_past false (performed (up_act_rules plan) act u (lag_of (next q).0) o).outcome)
        by (Ok passed) e go = go (steps.1 (passed-free (next q).0.fate (up_own plan u act) e))
        by (Err fault) e go = subst (After (Err fault)) (sym (ends-at fault)) steps.0

  -- ---- routines

  module _ {Q : Type 0} (next : Q → Meeting × Q) (P : UpState → Type 0) where
    -- where it is finished, it is so
    abbrev pub Keeps : UpState → Q → Routine UpState Act → Type 0
    Keeps s q (Finished end moments) = P end
    Keeps s q (Sending acts goes_on then) = let w = walk (up_act_rules plan) goes_on next s q acts in Keeps w.kept w.queue (then w.kept w.outcome)

    keeps-on : (before : Walked UpState Act Q) (routine : Routine UpState Act) → Keeps before.kept before.queue routine → P (walk_on (up_act_rules plan) next before routine).kept
    keeps-on before (Finished end moments) keeps = keeps
    keeps-on before (Sending acts goes_on then) keeps =
        let now = walk (up_act_rules plan) goes_on next before.kept before.queue acts in keeps-on (followed before now) (then now.kept now.outcome) keeps

    pub routine-keeps : (s : UpState) (q : Q) (routine : Routine UpState Act) → Keeps s q routine → P (walk_routine (up_act_rules plan) next s q routine).kept
    routine-keeps s q routine keeps = keeps-on (not_begun s q) routine keeps
