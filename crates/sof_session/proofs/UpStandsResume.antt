-- A resume leads on: all that is up is made as if each stream were closed, and then each prepared stream has its parameters again.
use Rattle.std.proofs.Common.{◌≡◌, refl, sym, ap, ◌∙◌, subst, ℕ, Bool, true, false, not, List, [], ◌∷◌, ◌++◌, map, filter, inl, inr, ◌⊎◌, ◌&&◌, Some, None, Ok, Err}
use Rattle.std.specs.Prelude.{Option, IsTrue}
use Rattle.std.specs.List.{zip, flat_map, list_all, AllByRecursion}
use Rattle.std.proofs.lemmas.Bool.{true≢false, false≢true}
use Rattle.sof_base.specs.declared.format.Params.{Params}
use Rattle.stream_law.specs.declared.graph.Graph.{Graph}
use Rattle.stream_law.specs.declared.stream.Phase.{Phase}
use Rattle.stream_law.specs.declared.stream.Phase.TheVariants as phases
use Rattle.stream_law.specs.declared.stream.StreamView.{StreamView}
use Rattle.stream_law.specs.State.{FwState, HeapView, View, view_of}
use Rattle.stream_law.specs.Past.{Now}
use Rattle.stream_law.specs.Silence.{is_silent}
use Rattle.stream_law.specs.Viewing.{IsPlayable}
use Rattle.stream_law.specs.Ways.{agree, active, is_live_phase, is_running_phase, on_way}
use Rattle.stream_law.proofs.Members.{IsIn, kept-in}
use Rattle.mbox_link.specs.Step.{row}
use Rattle.tplg_plan.specs.declared.plans.Plan.{Plan}
use Rattle.tplg_plan.specs.declared.plans.StreamPlan.{StreamPlan}
use Rattle.tplg_plan.specs.Sound.{IsSound}
use Rattle.host_widgets.specs.declared.answers.HostFault.TheVariants as faults
use Rattle.host_widgets.specs.declared.kept.Found.TheVariants as founds
use Rattle.host_widgets.specs.declared.kept.Power.TheVariants as powers
use Rattle.host_widgets.specs.declared.kept.Record.{Record}
use Rattle.host_widgets.specs.declared.kept.StreamRec.{StreamRec}
use Rattle.host_widgets.specs.ActCalls.{next_of}
use Rattle.host_widgets.specs.ActLists.{prepare_acts}
use Rattle.host_widgets.specs.ActMessages.{act_message}
use Rattle.host_widgets.specs.Expected.{stream_view}
use Rattle.host_widgets.specs.Host.{Outcome}
use Rattle.host_widgets.specs.HostActs.{Act, Prepare}
use Rattle.host_widgets.specs.HostRecord.{closed, may_have}
use Rattle.host_widgets.specs.IdleStreams.{idle_view}
use Rattle.host_widgets.specs.Walk.{walk}
use Rattle.host_widgets.proofs.StandingOn.{LeadsOn}
use Rattle.host_widgets.proofs.WalksHold.{ByLink}
use Rattle.host_widgets.specs.UpActs.{making_acts}
use Rattle.host_widgets.specs.There.{There, there_in, there_view, there_after, booted}
use Rattle.host_dynamic.specs.Dynamic.{after_resuming, resuming_job}
use Rattle.host_widgets.specs.UpState.{UpState, up_act_rules}
use Rattle.host_dynamic.specs.UpStates.{IsUpState}
use Rattle.host_widgets.proofs.Needs.{in-left, in-either}
use Rattle.host_widgets.proofs.StageMakes.{none-passes}
use Rattle.host_widgets.proofs.StageStays.{from-map}
use Rattle.host_widgets.proofs.UpContext.{IsServing}
use Rattle.host_widgets.proofs.RestedRecords.{empty-stage}
use Rattle.host_widgets.proofs.UpMaking.{IsMaking, makes-up}
use Rattle.host_pm.proofs.ParamsAgain.{at_part, left, partly, partly-in, some-agree, still, next-in, prepared-there, own-prepared, kept-same, part-by-part-from, prepares-loose, rest-at}
use Rattle.host_dynamic.proofs.UpResuming.{LeavesStreams, making-leaves, other, over, kept-over, own-over, serves, brought, resting, rested, bare, bare-serves, bare_at, apart, once, Made, real, resuming-loose}
use Rattle.host_widgets.proofs.UpSending.{StagedFirst}
use Rattle.host_widgets.proofs.UpStages.{StreamPair, stage_graph, stage_streams, IsStage, up_stage}
use Rattle.host_widgets.proofs.UpWalks.{Runs}
use Rattle.sof_session.proofs.UpStandsWalks.{AreLed, RowLeads, LeadsBy, IsCutThen, LeadsOver}
use Rattle.sof_session.proofs.UpStandsLists.{PlaysAtStages, RowsAtStages, row-takes, making-led}
use Rattle.host_widgets.proofs.StagePrepares.{up-amid}

-- parameters that are given again while nothing is Live leave what stood standing
abbrev pub QuietRows : Plan → Type 0
QuietRows plan = (host : ℕ) (params : Params) (f g : FwState) → IsTrue (is_silent (view_of f)) → IsTrue (is_silent (view_of g)) → agree (view_of g) ≡ true → row f (act_message plan (Prepare host params)) ≡ Ok g →
    LeadsOn (Some f) (Some g) (Now (view_of g) None ∷ [])

-- ---- nothing is Live

is-quiet : (v : View) → ((s : StreamView) → IsIn s v.streams → is_live_phase s.phase ≡ false) → IsTrue (is_silent v)
is-quiet v each = ap not (none-passes (λ (s : StreamView). is_live_phase s.phase) v.streams each)

running-live : (p : Phase) → is_live_phase p ≡ false → is_running_phase p ≡ false
running-live phases.Running dead = dead
running-live p dead = refl

none-active : (v : View) (x : ℕ) → ((s : StreamView) → IsIn s v.streams → is_live_phase s.phase ≡ false) → active v x ≡ false
unfolding active
none-active v x each = none-passes (λ (s : StreamView). is_running_phase s.phase && on_way v.graph s.host x) v.streams (λ s there.
    ap (λ (b : Bool). b && on_way v.graph s.host x) (running-live s.phase (each s there)))

-- a graph that is playable with some streams is so with streams that are not Live
quiet-plays : (g : Graph) (before ss : List StreamView) → IsPlayable (record { graph = g; streams = before }) → ((s : StreamView) → IsIn s ss → is_live_phase s.phase ≡ false) → IsPlayable (record { graph = g; streams = ss })
quiet-plays g before ss plays each = record {
  ends = plays.ends;
  ordered = plays.ordered;
  fits = λ c among runs. absurd (true≢false (sym runs ∙ none-active (record { graph = g; streams = ss }) c each));
}

-- ---- acts over a record with other streams

-- what leads on over the one does over the other, and so do those after it
led-over : (plan : Plan) (kept : Record) (streams : List StreamRec) (up : List ℕ) (Mid End : There → Type 0) (xs more : List Act) → AllByRecursion LeavesStreams xs → (t : There) →
    AreLed plan false (over plan kept streams up (other plan kept streams up) t) xs → Runs plan Mid (over plan kept streams up (other plan kept streams up) t) xs End →
    ((f : FwState) → StagedFirst more f) → ((x : There) → End x → AreLed plan false (over plan kept streams up kept x) more) → AreLed plan false (over plan kept streams up kept t) (xs ++ more)
led-over plan kept streams up Mid End [] more leaves t led runs loose then = then t runs
led-over plan kept streams up Mid End (act ∷ xs) more leaves t led runs loose then = (
  led.0,
  λ f g same staged free done.
      (let r : RowLeads plan false (over plan kept streams up (other plan kept streams up) t) act xs g f = led.1 f g same staged (own-over plan kept streams up act leaves.0 t ∙ free) done in
      record { there = r.there; leads = r.leads; staged = first xs g r.staged }),
  λ free.
      subst (λ (r : Record). AreLed plan false (over plan kept streams up r (there_after plan act t)) (xs ++ more)) (sym (kept-over plan kept streams up act leaves.0 runs.1))
      (led-over plan kept streams up Mid End xs more leaves.1 (there_after plan act t)
      (subst (λ (r : Record). AreLed plan false (over plan kept streams up r (there_after plan act t)) xs) runs.1 (led.2 (own-over plan kept streams up act leaves.0 t ∙ free)))
      (runs.2 (own-over plan kept streams up act leaves.0 t ∙ free)) loose then),
  λ on. absurd (false≢true on),
)
  where
    first : (ys : List Act) (g : FwState) → StagedFirst ys g → StagedFirst (ys ++ more) g
    first [] g staged = loose g
    first (y ∷ ys) g staged = staged

-- ---- a resume

module _ (plan : Plan) (sound : IsSound plan) (s : UpState) (is : IsUpState plan s) (off : s.kept.power ≡ powers.Off) (plays : PlaysAtStages plan) (stage-rows : RowsAtStages plan) (quiet-rows : QuietRows plan) where
  abbrev ps : List StreamPair
  ps = zip plan.streams s.kept.streams

  abbrev k : Graph
  k = stage_graph plan s.kept (up_stage plan s.up)

  abbrev some_of : List StreamPair → List StreamPair → List StreamView
  some_of done rest = partly plan sound s.kept s.up (up_stage plan s.up) (resting plan sound s is off) done rest

  -- none of the streams moves
  some-still : (done rest : List StreamPair) → ((p : StreamPair) → IsIn p done → IsIn p ps) → (v : StreamView) → IsIn v (some_of done rest) → is_live_phase v.phase ≡ false
  some-still done rest within v there = by (in-either (map stream_view (filter left_now done)) (map (λ (q : StreamPair). idle_view q.0.host) (filter left_now rest)) v there)
    where
      left_now : StreamPair → Bool
      left_now = left plan sound s.kept s.up (up_stage plan s.up) (resting plan sound s is off)

      by : IsIn v (map stream_view (filter left_now done)) ⊎ IsIn v (map (λ (q : StreamPair). idle_view q.0.host) (filter left_now rest)) → is_live_phase v.phase ≡ false
      by (inl a) = let r = from-map stream_view (filter left_now done) v a in ap (λ (x : StreamView). is_live_phase x.phase) r.2 ∙ still plan sound s.kept s.up (up_stage plan s.up) (resting plan sound s is off) r.0 (within r.0 (kept-in left_now done r.0 r.1).0)
      by (inr b) = let r = from-map (λ (q : StreamPair). idle_view q.0.host) (filter left_now rest) v b in ap (λ (x : StreamView). is_live_phase x.phase) r.2

  whole-plays : IsPlayable (record { graph = k; streams = stage_streams plan s.kept (up_stage plan s.up) })
  whole-plays = plays s.kept s.up [] (serves plan sound s is off) is.record_is.each (up_stage plan s.up) (up-amid plan sound s.up (brought plan sound s is off))

  module _ (h : HeapView) where
    abbrev now_at : List StreamPair → List StreamPair → There
    now_at done rest = at_part plan sound s.kept s.up (up_stage plan s.up) (resting plan sound s is off) h done rest

    part-plays : (done rest : List StreamPair) → ((p : StreamPair) → IsIn p done → IsIn p ps) → (t : There) → t ≡ now_at done rest → IsPlayable (there_view t)
    part-plays done rest within t at =
        subst IsPlayable (sym (ap there_view at)) (quiet-plays (stage_graph plan s.kept (up_stage plan s.up)) (stage_streams plan s.kept (up_stage plan s.up)) (some_of done rest) whole-plays (some-still done rest within))

    part-silent : (done rest : List StreamPair) → ((p : StreamPair) → IsIn p done → IsIn p ps) → (f : FwState) → there_in f ≡ now_at done rest → IsTrue (is_silent (view_of f))
    part-silent done rest within f at = subst (λ (t : There). IsTrue (is_silent (there_view t))) (sym at) (is-quiet (there_view (now_at done rest)) (some-still done rest within))

    part-agrees : (done rest : List StreamPair) → ((p : StreamPair) → IsIn p done → IsIn p ps) → (f : FwState) → there_in f ≡ now_at done rest → agree (view_of f) ≡ true
    part-agrees done rest within f at = ap (λ (t : There). agree (there_view t)) at ∙ some-agree plan sound s.kept s.up (up_stage plan s.up) (resting plan sound s is off) (some_of done rest) (partly-in plan sound s.kept s.up (up_stage plan s.up) (resting plan sound s is off) done rest within)

    abbrev IsLed : There → List Act → Type 0
    IsLed t acts = AreLed plan false (real plan sound s is off t) acts

    one-led : (done rest : List StreamPair) (q : StreamPair) (cut : zip plan.streams s.kept.streams ≡ done ++ q ∷ rest) (params : Params) (found_is : q.1.found ≡ founds.Prepared) (params_are : q.1.params ≡ Some params) → IsLed (now_at (done ++ q ∷ []) rest) (flat_map prepare_acts rest) →
        IsLed (now_at done (q ∷ rest)) (Prepare q.0.host params ∷ flat_map prepare_acts rest)
    one-led done rest q cut params e p more = (
      part-plays done (q ∷ rest) within (now_at done (q ∷ rest)) refl,
      λ f g same staged free passed.
          (let taken : there_in g ≡ there_after plan (Prepare q.0.host params) (now_at done (q ∷ rest)) = row-takes plan (real plan sound s is off (now_at done (q ∷ rest))) (Prepare q.0.host params) f g (own-prepared plan sound s.kept s.up (up_stage plan s.up) (resting plan sound s is off) done rest q cut params e p h f same) free passed in
          let now : there_in g ≡ now_at (done ++ q ∷ []) rest = taken ∙ next-at in
          record {
            there = taken;
            leads = subst (λ (x : There). LeadsOn (Some f) (Some g) (Now (there_view x) None ∷ [])) taken
                (quiet-rows q.0.host params f g (part-silent done (q ∷ rest) within f same) (part-silent (done ++ q ∷ []) rest within-then g now) (part-agrees (done ++ q ∷ []) rest within-then g now) passed);
            staged = prepares-loose rest g;
          }),
      λ free.
          subst (λ (kept : Record). AreLed plan false (record { kept = kept; up = s.up; there = there_after plan (Prepare q.0.host params) (now_at done (q ∷ rest)) }) (flat_map prepare_acts rest)) (sym (kept-same plan sound s.kept s.up (up_stage plan s.up) (resting plan sound s is off) done rest q cut params e p))
          (subst (λ (x : There). IsLed x (flat_map prepare_acts rest)) (sym next-at) more),
      λ on. absurd (false≢true on),
    )
      where
        within : (x : StreamPair) → IsIn x done → IsIn x ps
        within x there = subst (IsIn x) (sym cut) (in-left done (q ∷ rest) x there)

        within-then : (x : StreamPair) → IsIn x (done ++ q ∷ []) → IsIn x ps
        within-then = next-in plan sound s.kept s.up (up_stage plan s.up) (resting plan sound s is off) done rest q cut params e p

        next-at : there_after plan (Prepare q.0.host params) (now_at done (q ∷ rest)) ≡ now_at (done ++ q ∷ []) rest
        next-at = prepared-there plan sound s.kept s.up (up_stage plan s.up) (resting plan sound s is off) done rest q cut params e p h

    prepares-led : IsLed (now_at [] (zip plan.streams s.kept.streams)) (flat_map prepare_acts (zip plan.streams s.kept.streams))
    prepares-led = part-by-part-from plan sound s.kept s.up (up_stage plan s.up) (resting plan sound s is off) h IsLed tt one-led

  ready-led : (t : There) → Made plan sound s is off t → AreLed plan false (real plan sound s is off t) (flat_map prepare_acts (zip plan.streams s.kept.streams))
  ready-led t at = subst (λ (x : There). IsLed t.heap x (flat_map prepare_acts (zip plan.streams s.kept.streams))) (sym (at.is ∙ rest-at plan sound s.kept s.up (up_stage plan s.up) (resting plan sound s is off) t.heap)) (prepares-led t.heap)

  -- each stream may have no parameters
  all-closed : (ss : List StreamPlan) → list_all (λ (r : StreamRec). may_have r.found r.params) (map (λ (x : StreamPlan). closed) ss) ≡ true
  all-closed [] = refl
  all-closed (x ∷ ss) = all-closed ss

  all-led : (heap : ℕ) → AreLed plan false (real plan sound s is off (booted heap)) (making_acts plan s.kept s.up ++ flat_map prepare_acts (zip plan.streams s.kept.streams))
  all-led heap =
      led-over plan s.kept (rested plan sound s is off) s.up (IsMaking plan sound bare_now [] s.up bare-now-serves (apart plan sound s is off) (brought plan sound s is off) (once plan sound s is off)) (Made plan sound s is off) (making_acts plan s.kept s.up) (flat_map prepare_acts (zip plan.streams s.kept.streams))
      (making-leaves plan s.kept s.up) (booted heap)
      (making-led plan plays stage-rows sound bare_now [] s.up bare-now-serves (all-closed plan.streams) (apart plan sound s is off) (brought plan sound s is off) (once plan sound s is off) begun)
      (makes-up plan sound bare_now [] s.up bare-now-serves (apart plan sound s is off) (brought plan sound s is off) (once plan sound s is off) begun)
      (prepares-loose ps) ready-led
    where
      bare_now : UpState
      bare_now = bare_at plan sound s is off (booted heap)

      bare-now-serves : IsServing plan (bare plan sound s is off) []
      bare-now-serves = bare-serves plan sound s is off

      begun : IsStage plan (bare plan sound s is off) (up_stage plan []) (booted heap)
      begun = empty-stage plan (bare plan sound s is off) heap

  -- it ends once all passed, or the device is cut
  resuming-ends : (now : UpState) (o : Outcome) → ByLink o (LeadsBy plan now (after_resuming s now o)) (IsCutThen (after_resuming s now o))
  resuming-ends now (Ok passed) = inl refl
  resuming-ends now (Err faults.LinkDown) = refl
  resuming-ends now (Err (faults.Refused e)) = inr refl
  resuming-ends now (Err fault) = inr refl

  pub resuming-leads : (heap : ℕ) → LeadsBy plan (resuming_job plan heap s).from (resuming_job plan heap s).routine
  resuming-leads heap = (
    all-led heap,
    resuming-loose plan sound s is off,
    λ ms. let w = walk (up_act_rules plan) false next_of (real plan sound s is off (booted heap)) ms (making_acts plan s.kept s.up ++ flat_map prepare_acts (zip plan.streams s.kept.streams)) in resuming-ends w.kept w.outcome,
  )

  -- over any device
  pub resume-leads : (heap : ℕ) (device : Option FwState) → LeadsOver plan heap device (resuming_job plan heap s)
  resume-leads heap device = inr (inl (refl, refl, resuming-leads heap))
