-- What commands do to pipelines that are made on use leads on: a stream is opened and closed.
use Rattle.std.proofs.Common.{◌≡◌, refl, sym, subst, ℕ, true, false, not, List, [], ◌∷◌, ◌++◌, inl, inr, ◌==◌, Some, Ok, Err}
use Rattle.std.specs.Prelude.{find}
use Rattle.std.specs.List.{zip, AllByRecursion, IsDistinct}
use Rattle.std.proofs.lemmas.Bool.{false≢true}
use Rattle.stream_law.specs.declared.graph.Comp.{Comp}
use Rattle.stream_law.specs.State.{FwState}
use Rattle.stream_law.specs.Ways.{comp_of}
use Rattle.stream_law.specs.Order.{is_among}
use Rattle.stream_law.specs.Past.{Now}
use Rattle.stream_law.specs.Viewing.{IsPlayable}
use Rattle.mbox_link.specs.Step.{row}
use Rattle.tplg_plan.specs.declared.plans.Plan.{Plan}
use Rattle.tplg_plan.specs.Sound.{IsSound}
use Rattle.host_widgets.specs.declared.answers.HostFault.TheVariants as faults
use Rattle.host_widgets.specs.declared.kept.Found.{Found}
use Rattle.host_widgets.specs.declared.kept.Found.TheVariants as founds
use Rattle.host_widgets.specs.declared.kept.Power.{Power}
use Rattle.host_widgets.specs.declared.kept.Power.TheVariants as powers
use Rattle.host_widgets.specs.declared.kept.Record.{Record}
use Rattle.host_widgets.specs.declared.trigger.Trigger.TheVariants as triggers
use Rattle.host_widgets.specs.ActLists.{close_by}
use Rattle.host_widgets.specs.ActMessages.{act_message}
use Rattle.host_widgets.specs.HostActs.{Act, Trig, Free, fresh_in}
use Rattle.host_widgets.specs.Host.{Outcome, IsRecordOf}
use Rattle.host_widgets.specs.ActCalls.{next_of}
use Rattle.host_widgets.specs.Walk.{walk}
use Rattle.host_widgets.proofs.StandingOn.{LeadsOn}
use Rattle.host_widgets.proofs.WalksHold.{ByLink}
use Rattle.host_pcm.specs.Asks.{is_closed}
use Rattle.host_pcm.specs.StreamCalls.{shut}
use Rattle.host_widgets.specs.Kept.{with_stream}
use Rattle.host_widgets.specs.UpActs.{making_acts, unmaking_acts, unmade_order}
use Rattle.host_widgets.specs.There.{There, there_in, there_view, there_after, ids_there_of}
use Rattle.host_dynamic.specs.Dynamic.{lacking, after_unmaking, unmade, after_making, opening_by, parting, staying, with_stream_shut, after_closing, closing_by}
use Rattle.host_widgets.specs.UpState.{UpState, up_act_rules}
use Rattle.host_widgets.specs.Need.{need_in, is_needed, HasBrought}
use Rattle.host_dynamic.specs.UpStates.{IsThere, IsThereBy, IsUpState}
use Rattle.host_widgets.proofs.StagePrepares.{up-amid}
use Rattle.host_widgets.proofs.Sublists.{AreOnce, once-filter, distinct-once}
use Rattle.host_dynamic.proofs.UpAgreeing.{unmakes-loose}
use Rattle.host_dynamic.proofs.UpAsked.{close-answered}
use Rattle.host_dynamic.proofs.UpClosing.{parts-apart, shut-amid, gone-serves, serves}
use Rattle.host_widgets.proofs.UpContext.{IsServing, AreApart}
use Rattle.host_widgets.proofs.UpMaking.{IsMaking, makes-up, making-loose}
use Rattle.host_dynamic.proofs.UpNeeds.{IsAsked, serving, up-brought, lacking-need, both-brought}
use Rattle.host_widgets.proofs.UpSending.{StagedFirst, AreAnswered}
use Rattle.host_dynamic.proofs.UpShutting.{Ended, steps}
use Rattle.host_widgets.proofs.UpStages.{Stage, StreamPair, IsStage, up_stage, IsAmid}
use Rattle.host_dynamic.proofs.UpStanding.{there-stage, stage-there}
use Rattle.host_widgets.proofs.UpWalks.{Runs, Met, walk-runs, Steps, Came, walk-steps}
use Rattle.sof_session.proofs.UpPlainRows.{IsPlainly}
use Rattle.sof_session.proofs.UpStandsWalks.{AreLed, LeadsBy, IsCutThen}
use Rattle.sof_session.proofs.UpStandsLists.{PlaysAtStages, RowsAtStages, AllMay, at-plays, row-takes, making-led, unmaking-led}
use Rattle.host_widgets.specs.Indices.{pipe_indices}

-- an act that neither makes nor unmakes leaves what stood standing, where what is up is there before it and after it
abbrev pub PlainRows : Plan → Type 0
PlainRows plan = (act : Act) → IsPlainly act → (s : UpState) → IsRecordOf plan s.kept → IsServing plan s.kept s.up → IsThere plan s → IsRecordOf plan ((up_act_rules plan).after act s).kept → IsThere plan ((up_act_rules plan).after act s) →
    (f g : FwState) → there_in f ≡ s.there → there_in g ≡ ((up_act_rules plan).after act s).there → row f (act_message plan act) ≡ Ok g →
    LeadsOn (Some f) (Some g) (Now (there_view ((up_act_rules plan).after act s).there) (fresh_in plan act) ∷ [])

module _ (plan : Plan) (sound : IsSound plan) (plays : PlaysAtStages plan) (stage-rows : RowsAtStages plan) (plain-rows : PlainRows plan) where
  -- ---- acts that neither make nor unmake

  pub record IsThereSo (u : UpState) : Type 0 where
    pub record_is : IsRecordOf plan u.kept
    pub serves_now : IsServing plan u.kept u.up
    pub there : IsThere plan u

  pub record EndsThereSo (u : UpState) : Type 0 where
    pub record_is : IsRecordOf plan u.kept
    pub there : IsThere plan u

  -- what is up is there
  pub so-there : (u : UpState) → IsUpState plan u → u.kept.power ≡ powers.On → IsThereSo u
  so-there u is on = record { record_is = is.record_is; serves_now = serving plan sound u.kept u.up is.record_is is.up; there = subst (λ (p : Power). IsThereBy p plan u) on is.there }

  pub so-plays : (u : UpState) → IsThereSo u → IsPlayable (there_view u.there)
  so-plays u so = at-plays plan plays stage-rows u.kept u.up [] so.serves_now so.record_is.each u.there (up_stage plan u.up, up-amid plan sound u.up so.serves_now.brought, there-stage plan sound u so.there)

  pub ends-there : (u : UpState) → IsUpState plan u → u.kept.power ≡ powers.On → EndsThereSo u
  ends-there u is on = let so = so-there u is on in record { record_is = so.record_is; there = so.there }

  -- the state at the beginning of such acts, or at their end
  begins : (acts : List Act) (u : UpState) → Steps plan IsThereSo u acts EndsThereSo → EndsThereSo u
  begins [] u steps = steps
  begins (act ∷ acts) u steps = record { record_is = steps.0.record_is; there = steps.0.there }

  pub plain-led : (xs : List Act) → AllByRecursion IsPlainly xs → (u : UpState) → AreAnswered plan u xs → Steps plan IsThereSo u xs EndsThereSo → AreLed plan false u xs
  plain-led [] all u answered steps = tt
  plain-led (act ∷ xs) all u answered steps = (
    so-plays u steps.0,
    λ f g same staged free done.
        (let is : there_in g ≡ there_after plan act u.there = row-takes plan u act f g (answered.1 f same staged) free done in
        let next = begins xs ((up_act_rules plan).after act u) (steps.1 free) in
        record {
          there = is;
          leads = plain-rows act all.0 u steps.0.record_is steps.0.serves_now steps.0.there next.record_is next.there f g same is done;
          staged = answered.2 f g staged done;
        }),
    λ free. plain-led xs all.1 ((up_act_rules plan).after act u) (answered.3 free) (steps.1 free),
    λ on. absurd (false≢true on),
  )

  -- ---- what is unmade

  unmaking-ends : (done : UpState → UpState) (s : UpState) (o : Outcome) → ByLink o (LeadsBy plan s (after_unmaking done s o)) (IsCutThen (after_unmaking done s o))
  unmaking-ends done s (Ok passed) = inl refl
  unmaking-ends done s (Err faults.LinkDown) = refl
  unmaking-ends done s (Err (faults.Refused e)) = inr refl
  unmaking-ends done s (Err fault) = inr refl

  pub unmade-leads : (u : UpState) (up n : List ℕ) (done : UpState → UpState) → IsServing plan u.kept up → AllMay u.kept → AreApart up n → HasBrought plan.graph (is_among up) → (st : Stage) → IsAmid plan up n st → IsStage plan u.kept st u.there → LeadsBy plan u (unmade plan n done u)
  unmade-leads u up n done serving_is may apart brought st amid is = (
    unmaking-led plan plays stage-rows sound u up n serving_is may apart brought st u.there amid is,
    λ f. unmakes-loose (unmade_order plan.graph (ids_there_of plan n u.there)) f,
    λ ms. let w = walk (up_act_rules plan) false next_of u ms (unmaking_acts plan (ids_there_of plan n u.there)) in unmaking-ends done w.kept w.outcome,
  )

  -- ---- a stream is opened

  module _ (s : UpState) (is : IsUpState plan s) (on : s.kept.power ≡ powers.On) (host : ℕ) (c : Comp) (found : comp_of plan.graph host ≡ Some c) where
    abbrev n : List ℕ
    n = lacking plan s.up host

    apart : AreApart s.up n
    apart i in_n = (lacking-need plan sound s.kept s.up is.record_is is.up host c found i in_n).0

    once : AreOnce n
    once = once-filter (λ i. not (is_among s.up i)) (need_in plan.graph host) (once-filter (is_needed plan.graph host) (pipe_indices plan.graph) (distinct-once (pipe_indices plan.graph) sound.indices))

    serves_it : IsServing plan s.kept s.up
    serves_it = serving plan sound s.kept s.up is.record_is is.up

    both : HasBrought plan.graph (is_among (s.up ++ n))
    both = both-brought plan sound s.kept s.up is.record_is is.up host c found

    begun : IsStage plan s.kept (up_stage plan s.up) s.there
    begun = there-stage plan sound s (subst (λ (power : Power). IsThereBy power plan s) on is.there)

    abbrev Mid : There → Type 0
    Mid t = IsMaking plan sound s s.up n serves_it apart both once t

    abbrev End : There → Type 0
    End t = IsStage plan s.kept (up_stage plan (s.up ++ n)) t

    runs : Runs plan Mid s (making_acts plan s.kept n) End
    runs = makes-up plan sound s s.up n serves_it apart both once begun

    module _ (u : UpState) (same : u.kept ≡ s.kept) where
      refused : Mid u.there → LeadsBy plan u (unmade plan n (λ now. now) u)
      refused (st, amid, at) =
          unmade-leads u s.up n (λ now. now) (subst (λ (r : Record). IsServing plan r s.up) (sym same) serves_it) (subst AllMay (sym same) is.record_is.each) apart serves_it.brought st amid (subst (λ (r : Record). IsStage plan r st u.there) (sym same) at)

      come : (o : Outcome) → Met plan Mid End o u.there → ByLink o (LeadsBy plan u (after_making plan host n u o)) (IsCutThen (after_making plan host n u o))
      come (Ok passed) met = inl refl
      come (Err faults.LinkDown) met = refl
      come (Err (faults.Refused e)) met = refused met
      come (Err fault) met = inr refl

    pub opening-leads : LeadsBy plan s (opening_by powers.On plan host n s)
    opening-leads = (
      making-led plan plays stage-rows sound s s.up n serves_it is.record_is.each apart both once begun,
      making-loose plan sound s s.up n serves_it apart both once,
      λ ms.
          (let w = walk (up_act_rules plan) false next_of s ms (making_acts plan s.kept n) in
          let ended = walk-runs plan next_of Mid End (making_acts plan s.kept n) s ms runs in
          come w.kept ended.kept w.outcome ended.met),
    )

  -- ---- a stream is closed

  module _ (s : UpState) (is : IsUpState plan s) (on : s.kept.power ≡ powers.On) (host : ℕ) (p : StreamPair) (found : find (λ (q : StreamPair). q.0.host == host) (zip plan.streams s.kept.streams) ≡ Some p) (open_yet : is_closed p.1.found ≡ false) where
    close-plain : (stands : Found) → AllByRecursion IsPlainly (close_by host stands)
    close-plain founds.Running = (tt, (tt, tt))
    close-plain founds.Paused = (tt, (tt, tt))
    close-plain founds.Prepared = (tt, tt)
    close-plain stands = tt

    close-loose : (stands : Found) (f : FwState) → StagedFirst (close_by host stands) f
    close-loose founds.Running f = tt
    close-loose stands f = tt

    abbrev Freed : UpState → Type 0
    Freed u = Ended plan sound s is on host p found open_yet u

    -- once they passed, what is up is there yet
    freed-there : (u : UpState) → Freed u → EndsThereSo u
    freed-there u h = record {
      record_is = h.record_is;
      there = stage-there plan sound u (subst (λ (l : List ℕ). IsStage plan u.kept (up_stage plan l) u.there) (sym h.up_is) h.stage);
    }

    close-steps : (stands : Found) (u : UpState) → u.kept.power ≡ powers.On → Steps plan (IsUpState plan) u (close_by host stands) Freed → Steps plan IsThereSo u (close_by host stands) EndsThereSo
    close-steps founds.Running u on_u x = (so-there u x.0 on_u, λ free. (let y = x.1 free in (so-there ((up_act_rules plan).after (Trig host triggers.Stop) u) y.0 on_u, λ free'. freed-there ((up_act_rules plan).after (Free host) ((up_act_rules plan).after (Trig host triggers.Stop) u)) (y.1 free'))))
    close-steps founds.Paused u on_u x = (so-there u x.0 on_u, λ free. (let y = x.1 free in (so-there ((up_act_rules plan).after (Trig host triggers.Stop) u) y.0 on_u, λ free'. freed-there ((up_act_rules plan).after (Free host) ((up_act_rules plan).after (Trig host triggers.Stop) u)) (y.1 free'))))
    close-steps founds.Prepared u on_u x = (so-there u x.0 on_u, λ free. freed-there ((up_act_rules plan).after (Free host) u) (x.1 free))
    close-steps stands u on_u x = freed-there u x

    -- what no other stream needs is unmade
    parts-lead : (u : UpState) → Freed u → LeadsBy plan u (unmade plan (parting plan host u) (with_stream_shut plan host) u)
    parts-lead u h =
        unmade-leads u (staying plan host u) (parting plan host u) (with_stream_shut plan host) serving-left h.record_is.each
        (parts-apart plan sound u host h.record_is once-up asked-up) serving-left.brought (up_stage plan u.up)
        (shut-amid plan sound u host h.record_is once-up asked-up (gone-serves plan sound u host h.record_is once-up asked-up brought-up h.rests h.bare h.on) brought-up)
        (subst (λ (l : List ℕ). IsStage plan u.kept (up_stage plan l) u.there) (sym h.up_is) h.stage)
      where
        once-up : IsDistinct (λ m n. m == n) u.up
        once-up = subst (IsDistinct (λ m n. m == n)) (sym h.up_is) is.once

        asked-up : (i : ℕ) → IsAsked plan sound (with_stream plan host shut u.kept) i → is_among u.up i ≡ true
        asked-up i asked = subst (λ (l : List ℕ). is_among l i ≡ true) (sym h.up_is) (h.asked i asked)

        brought-up : HasBrought plan.graph (is_among u.up)
        brought-up = subst (λ (l : List ℕ). HasBrought plan.graph (is_among l)) (sym h.up_is) (up-brought plan sound s.kept s.up is.record_is is.up)

        serving-left : IsServing plan u.kept (staying plan host u)
        serving-left = serves plan sound u host h.record_is once-up asked-up brought-up h.rests h.bare h.on

    closed : (u : UpState) (o : Outcome) → Came plan (IsUpState plan) Freed o u → ByLink o (LeadsBy plan u (after_closing plan host u o)) (IsCutThen (after_closing plan host u o))
    closed u (Ok passed) h = parts-lead u h
    closed u (Err faults.LinkDown) h = refl
    closed u (Err (faults.Refused e)) h = inl refl
    closed u (Err fault) h = inr refl

    pub closing-leads : LeadsBy plan s (closing_by powers.On plan host p.1.found s)
    closing-leads = (
      plain-led (close_by host p.1.found) (close-plain p.1.found) s (close-answered plan sound s is on host p found p.1.found refl) (close-steps p.1.found s on (steps plan sound s is on host p found open_yet p.1.found refl)),
      close-loose p.1.found,
      λ ms.
          (let w = walk (up_act_rules plan) false next_of s ms (close_by host p.1.found) in
          closed w.kept w.outcome (walk-steps plan next_of (IsUpState plan) Freed (close_by host p.1.found) s ms (steps plan sound s is on host p found open_yet p.1.found refl))),
    )
