-- Whatever messages meet, a resume leaves a state in which what is up is there.
use Rattle.std.proofs.Common.{◌≡◌, refl, sym, ap, subst, ◌∙◌, ℕ, List, [], ◌∷◌, ◌++◌, map, filter, Bool, true, false, cond, Some, None, Ok, Err}
use Rattle.std.specs.Prelude.{Option, Result, ℤ}
use Rattle.std.specs.List.{zip, flat_map, AllByRecursion}
use Rattle.sof_base.specs.declared.errno.Errno.{Errno}
use Rattle.stream_law.specs.declared.graph.Join.{Join}
use Rattle.stream_law.specs.declared.graph.Graph.{Graph}
use Rattle.stream_law.specs.State.{FwState}
use Rattle.stream_law.specs.Order.{is_among}
use Rattle.mbox_link.specs.Meetings.{Meeting}
use Rattle.mbox_link.specs.BlobParts.{is_last, part_numbers}
use Rattle.mbox_link.specs.Step.{row}
use Rattle.tplg_plan.specs.declared.plans.Plan.{Plan}
use Rattle.tplg_plan.specs.declared.plans.StreamPlan.{StreamPlan}
use Rattle.tplg_plan.specs.Sound.{IsSound}
use Rattle.host_widgets.specs.declared.kept.Power.{Power}
use Rattle.host_widgets.specs.declared.kept.Power.TheVariants as powers
use Rattle.host_widgets.specs.declared.kept.StreamRec.{StreamRec}
use Rattle.host_widgets.specs.declared.kept.Record.{Record}
use Rattle.host_widgets.specs.ActLists.{control_acts, control_acts_by, prepare_acts}
use Rattle.host_widgets.specs.Host.{Outcome}
use Rattle.host_widgets.specs.HostActs.{Act, Make, Put, Part, Finish, Prepare, Trig, Free, after, with_blob}
use Rattle.host_widgets.specs.HostActs as acts
use Rattle.host_widgets.specs.HostRecord.{closed}
use Rattle.host_widgets.specs.Kept.{controls_of, with_control, with_power}
use Rattle.host_widgets.specs.Walk.{walk}
use Rattle.tplg_plan.specs.declared.plans.ControlKind.{ControlKind}
use Rattle.tplg_plan.specs.declared.plans.ControlKind.TheVariants as kinds
use Rattle.host_widgets.specs.declared.kept.ControlRec.{ControlRec}
use Rattle.host_pm.proofs.ParamsAgain.{AnyThere, IsResting, rest-at, prepares-lead, prepares-loose}
use Rattle.host_widgets.specs.UpActs.{widgets_of, making_acts}
use Rattle.host_widgets.specs.There.{There, there_after, booted}
use Rattle.host_dynamic.specs.Dynamic.{after_resuming, resuming_job}
use Rattle.host_widgets.specs.UpState.{UpState, up_own, up_act_rules}
use Rattle.host_widgets.specs.Need.{HasBrought}
use Rattle.host_widgets.specs.Up.{buffer_joins}
use Rattle.host_dynamic.specs.UpStates.{IsThereBy, IsUpState}
use Rattle.host_widgets.proofs.RowsTold.{told}
use Rattle.host_widgets.proofs.StagePrepares.{up-placed, up-has}
use Rattle.host_widgets.proofs.Sublists.{AreOnce, distinct-once}
use Rattle.host_widgets.proofs.UpContext.{IsServing, AreApart}
use Rattle.host_widgets.proofs.RestedRecords.{empty-stage, bare-serves as closed-serves}
use Rattle.host_widgets.proofs.UpExchanges.{SaysSo, IsOwn}
use Rattle.host_widgets.proofs.LeadingOn.{LeadsTo, leads-answered, leads-on, leads-runs}
use Rattle.host_widgets.proofs.UpMaking.{IsMaking, making-leads, making-loose}
use Rattle.host_dynamic.proofs.UpNeeds.{serving, up-brought}
use Rattle.host_widgets.proofs.UpStages.{IsStage, up_stage}
use Rattle.host_dynamic.proofs.UpStanding.{stage-there}
use Rattle.host_widgets.proofs.UpSending.{StagedFirst, AreAnswered}
use Rattle.host_widgets.proofs.UpWalks.{Runs, Met, walk-runs, Keeps}
use Rattle.host_widgets.specs.ActMessages.{act_message}
use Rattle.host_widgets.specs.Groups.{is_control_of, finish_ids}
use Rattle.host_widgets.proofs.BuildingActs.{all-both, all-flat, all-mapped}

-- ---- acts that leave the streams of a record

abbrev pub LeavesStreams : Act → Type 0
LeavesStreams (Prepare host params) = ⊥
LeavesStreams (Trig host what) = ⊥
LeavesStreams (Free host) = ⊥
LeavesStreams act = Unit {0}

module _ (plan : Plan) where
  control-leaves : (comp : ℕ) (kind : ControlKind) (c : ControlRec) → AllByRecursion LeavesStreams (control_acts_by comp kind c)
  control-leaves comp (kinds.Blob most initial) c = all-mapped LeavesStreams (Part comp c.blob) (part_numbers c.blob) (λ k. tt)
  control-leaves comp kind c = (tt, tt)

  pub making-leaves : (kept : Record) (n : List ℕ) → AllByRecursion LeavesStreams (making_acts plan kept n)
  making-leaves kept n =
      all-both LeavesStreams (map Make (widgets_of plan n)) (map (λ (j : Join). acts.Join j.source j.sink) (flat_map (buffer_joins plan.graph) n) ++ (flat_map control_acts (filter (is_control_of plan n) (controls_of plan kept)) ++ map Finish (finish_ids plan.graph n)))
      (all-mapped LeavesStreams Make (widgets_of plan n) (λ id. tt))
      (all-both LeavesStreams (map (λ (j : Join). acts.Join j.source j.sink) (flat_map (buffer_joins plan.graph) n)) (flat_map control_acts (filter (is_control_of plan n) (controls_of plan kept)) ++ map Finish (finish_ids plan.graph n))
      (all-mapped LeavesStreams (λ (j : Join). acts.Join j.source j.sink) (flat_map (buffer_joins plan.graph) n) (λ j. tt))
      (all-both LeavesStreams (flat_map control_acts (filter (is_control_of plan n) (controls_of plan kept))) (map Finish (finish_ids plan.graph n))
      (all-flat LeavesStreams control_acts (filter (is_control_of plan n) (controls_of plan kept)) (λ p. control-leaves p.0.comp p.0.kind p.1))
      (all-mapped LeavesStreams Finish (finish_ids plan.graph n) (λ id. tt))))

  -- What such acts do over a record they do over one with other streams and the same controls.
  module _ (kept : Record) (streams : List StreamRec) (up : List ℕ) where
    abbrev pub other : Record
    other = record { power = kept.power; streams = streams; controls = kept.controls }

    abbrev pub over : Record → There → UpState
    over r t = record { kept = r; up = up; there = t }

    pub kept-over : (act : Act) → LeavesStreams act → after plan act other ≡ other → after plan act kept ≡ kept
    kept-over (Make id) leaves same = refl
    kept-over (acts.Join source sink) leaves same = refl
    kept-over (Put comp values) leaves same = λ i. record { power = kept.power; streams = kept.streams; controls = (ap (λ (r : Record). r.controls) same) i }
    kept-over (Part comp blob k) leaves same = by (is_last blob k) same
      where
        by : (b : Bool) → cond b (with_control plan comp (with_blob blob) other) other ≡ other → cond b (with_control plan comp (with_blob blob) kept) kept ≡ kept
        by true same = λ i. record { power = kept.power; streams = kept.streams; controls = (ap (λ (r : Record). r.controls) same) i }
        by false same = refl
    kept-over (Finish id) leaves same = refl
    kept-over (Prepare host params) leaves same = absurd leaves
    kept-over (Trig host what) leaves same = absurd leaves
    kept-over (Free host) leaves same = absurd leaves
    kept-over act leaves same = refl

    pub own-over : (act : Act) → LeavesStreams act → (t : There) → up_own plan (over other t) act ≡ up_own plan (over kept t) act
    own-over (Prepare host params) leaves t = absurd leaves
    own-over act leaves t = refl

    says-over : (act : Act) (t : There) (o : Option Errno) (said : Result There ℤ) → SaysSo plan (over other t) act o said → SaysSo plan (over kept t) act o said
    says-over act t None said says = says
    says-over act t (Some e) said says = says

    leads-over : (Mid End : There → Type 0) (xs : List Act) → AllByRecursion LeavesStreams xs → (t : There) → LeadsTo plan Mid (over other t) xs End → LeadsTo plan AnyThere (over kept t) xs End
    leads-over Mid End [] leaves t leads = leads
    leads-over Mid End (act ∷ xs) leaves t leads = (
      tt,
      kept-over act leaves.0 leads.1,
      leads.2,
      λ f same staged. own f (leads.3 f same staged),
      leads.4,
      λ free. leads-over Mid End xs leaves.1 (there_after plan act t) (leads.5 (own-over act leaves.0 t ∙ free)),
    )
      where
        own : (f : FwState) → IsOwn plan (over other t) act f → IsOwn plan (over kept t) act f
        own f says =
            subst (λ (o : Option Errno). SaysSo plan (over kept t) act o (told (row f (act_message plan act)))) (own-over act leaves.0 t)
            (says-over act t (up_own plan (over other t) act) (told (row f (act_message plan act))) says)

-- ---- a resume

module _ (plan : Plan) (sound : IsSound plan) (s : UpState) (is : IsUpState plan s) (off : s.kept.power ≡ powers.Off) where
  abbrev g : Graph
  g = plan.graph

  pub serves : IsServing plan s.kept s.up
  serves = serving plan sound s.kept s.up is.record_is is.up

  pub brought : HasBrought plan.graph (is_among s.up)
  brought = up-brought plan sound s.kept s.up is.record_is is.up

  pub resting : IsResting plan s.kept s.up (up_stage plan s.up)
  resting = record {
    over = up-has plan sound s.up brought;
    placed = up-placed plan sound s.up;
    serves = serves;
    record_is = is.record_is;
    still = (subst (λ (power : Power). IsThereBy power plan s) off is.there).1;
  }

  -- ---- all that is up is made, as if each stream were closed

  abbrev pub rested : List StreamRec
  rested = map (λ (x : StreamPlan). closed) plan.streams

  abbrev pub bare : Record
  bare = other plan s.kept rested s.up

  pub bare-serves : IsServing plan bare []
  bare-serves = closed-serves plan s.kept is.record_is.controls

  pub apart : AreApart [] s.up
  apart i in_up = refl

  pub once : AreOnce s.up
  once = distinct-once s.up is.once

  abbrev pub Made : There → Type 0
  Made t = IsStage plan bare (up_stage plan s.up) t

  abbrev pub bare_at : There → UpState
  bare_at t = over plan s.kept rested s.up bare t

  makes : (heap : ℕ) → LeadsTo plan AnyThere (over plan s.kept rested s.up s.kept (booted heap)) (making_acts plan s.kept s.up) Made
  makes heap =
      leads-over plan s.kept rested s.up (IsMaking plan sound (bare_at (booted heap)) [] s.up bare-serves apart brought once) Made (making_acts plan s.kept s.up) (making-leaves plan s.kept s.up) (booted heap)
      (making-leads plan sound (bare_at (booted heap)) [] s.up bare-serves apart brought once (empty-stage plan bare heap))

  -- ---- all of them

  abbrev pub Ready : There → Type 0
  Ready t = IsStage plan s.kept (up_stage plan s.up) t

  abbrev pub real : There → UpState
  real t = record { kept = s.kept; up = s.up; there = t }

  all-lead : (heap : ℕ) → LeadsTo plan AnyThere (real (booted heap)) (making_acts plan s.kept s.up ++ flat_map prepare_acts (zip plan.streams s.kept.streams)) Ready
  all-lead heap =
      leads-on plan AnyThere Made Ready (real (booted heap)) (making_acts plan s.kept s.up) (flat_map prepare_acts (zip plan.streams s.kept.streams)) (makes heap) (prepares-loose (zip plan.streams s.kept.streams))
      (λ t at. subst (λ (x : There). LeadsTo plan AnyThere (real x) (flat_map prepare_acts (zip plan.streams s.kept.streams)) Ready) (sym (at.is ∙ rest-at plan sound s.kept s.up (up_stage plan s.up) resting t.heap))
      (prepares-lead plan sound s.kept s.up (up_stage plan s.up) resting t.heap Ready (record { is = refl; heap = at.heap })))

  pub all-runs : (heap : ℕ) → Runs plan AnyThere (real (booted heap)) (making_acts plan s.kept s.up ++ flat_map prepare_acts (zip plan.streams s.kept.streams)) Ready
  all-runs heap = leads-runs plan AnyThere AnyThere Ready (λ t any. any) (real (booted heap)) (making_acts plan s.kept s.up ++ flat_map prepare_acts (zip plan.streams s.kept.streams)) (all-lead heap)

  -- the firmware answers all of it as the rules say
  pub resuming-answered : (heap : ℕ) → AreAnswered plan (real (booted heap)) (making_acts plan s.kept s.up ++ flat_map prepare_acts (zip plan.streams s.kept.streams))
  resuming-answered heap = leads-answered plan AnyThere Ready (real (booted heap)) (making_acts plan s.kept s.up ++ flat_map prepare_acts (zip plan.streams s.kept.streams)) (all-lead heap)

  -- the first of it asks for nothing that is staged
  pub resuming-loose : (f : FwState) → StagedFirst (making_acts plan s.kept s.up ++ flat_map prepare_acts (zip plan.streams s.kept.streams)) f
  resuming-loose f = by (making_acts plan s.kept s.up) (making-loose plan sound (bare_at (booted 0)) [] s.up bare-serves apart brought once f)
    where
      by : (xs : List Act) → StagedFirst xs f → StagedFirst (xs ++ flat_map prepare_acts (zip plan.streams s.kept.streams)) f
      by [] first = prepares-loose (zip plan.streams s.kept.streams) f
      by (x ∷ xs) first = first

  -- ---- and then the power is on

  resumed : (t : There) → Ready t → IsUpState plan (record { kept = with_power powers.On s.kept; up = s.up; there = t })
  resumed t at = record {
    record_is = record { streams = is.record_is.streams; controls = is.record_is.controls; each = is.record_is.each; shapes = is.record_is.shapes };
    up = λ i. is.up i;
    once = is.once;
    there = stage-there plan sound now (record { is = at.is; heap = at.heap });
  }
    where
      now : UpState
      now = record { kept = with_power powers.On s.kept; up = s.up; there = t }

  module _ {Q : Type 0} (next : Q → Meeting × Q) where
    come : (v : UpState) (r : Q) (o : Outcome) → v.kept ≡ s.kept → v.up ≡ s.up → Met plan AnyThere Ready o v.there → Keeps plan next (IsUpState plan) v r (after_resuming s v o)
    come v r (Ok passed) same same_up met = subst (IsUpState plan) (λ i. record { kept = with_power powers.On (sym same i); up = sym same_up i; there = v.there }) (resumed v.there met)
    come v r (Err fault) same same_up met = is

    pub resuming-keeps : (heap : ℕ) (q : Q) → Keeps plan next (IsUpState plan) (resuming_job plan heap s).from q (resuming_job plan heap s).routine
    resuming-keeps heap q =
        let w = walk (up_act_rules plan) false next (real (booted heap)) q (making_acts plan s.kept s.up ++ flat_map prepare_acts (zip plan.streams s.kept.streams)) in
        let ended = walk-runs plan next AnyThere Ready (making_acts plan s.kept s.up ++ flat_map prepare_acts (zip plan.streams s.kept.streams)) (real (booted heap)) q (all-runs heap) in
        come w.kept w.queue w.outcome ended.kept ended.up ended.met
