-- Commands on the stream of a name lead on, and so do those that send nothing.
use Rattle.std.proofs.Common.{◌≡◌, refl, sym, ap, ◌∙◌, subst, ℕ, ◌<◌, Bool, true, false, not, List, [], ◌∷◌, length, get_or, inl, inr, ◌==◌, Some, None, Ok, Err, unwrap_or}
use Rattle.std.specs.Prelude.{Option, find}
use Rattle.std.specs.List.{zip, AllByRecursion}
use Rattle.std.proofs.lemmas.Bool.{false≢true}
use Rattle.sof_base.specs.declared.format.Params.{Params}
use Rattle.stream_law.specs.declared.graph.Comp.{Comp}
use Rattle.stream_law.specs.State.{FwState, view_of}
use Rattle.stream_law.specs.Past.{Cut, Tick}
use Rattle.stream_law.specs.Viewing.{IsPlayable}
use Rattle.stream_law.specs.Ways.{comp_of}
use Rattle.stream_law.proofs.Members.{IsIn, find-in}
use Rattle.tplg_plan.specs.declared.plans.Plan.{Plan}
use Rattle.tplg_plan.specs.Sound.{IsSound}
use Rattle.host_widgets.specs.declared.answers.Answer.{Answer}
use Rattle.host_widgets.specs.declared.answers.Answer.TheVariants as answers
use Rattle.host_widgets.specs.declared.answers.HostFault.TheVariants as faults
use Rattle.host_widgets.specs.declared.kept.Power.{Power}
use Rattle.host_widgets.specs.declared.kept.Power.TheVariants as powers
use Rattle.host_widgets.specs.declared.kept.Record.{Record}
use Rattle.host_widgets.specs.declared.trigger.Trigger.{Trigger}
use Rattle.host_widgets.specs.Host.{Outcome}
use Rattle.host_widgets.specs.HostActs.{Act, Prepare, Trig}
use Rattle.host_widgets.specs.HostRecord.{no_stream, are_in_range}
use Rattle.host_widgets.specs.ActCalls.{next_of}
use Rattle.host_widgets.specs.Orders.{plain_end, quiet, sends, where_on, ticking}
use Rattle.host_widgets.specs.Routines.{Finished, Job}
use Rattle.host_widgets.specs.StreamStands.{takes_trigger, takes_params}
use Rattle.host_widgets.specs.Walk.{walk}
use Rattle.host_widgets.proofs.WalksHold.{ByLink}
use Rattle.host_pcm.specs.declared.asking.Ask.{Ask}
use Rattle.host_pcm.specs.declared.asking.Ask.TheVariants.{Opening, Preparing, Triggering, Closing}
use Rattle.host_pcm.specs.Asks.{stream_place, is_closed, stream_at, named_fault, early_fault}
use Rattle.host_pcm.specs.StreamCalls.{stream_caps, host_at}
use Rattle.host_pcm.specs.StreamOrders.{asking_order, stream_order}
use Rattle.host_pcm.proofs.HostTests.{Found_place, found_place}
use Rattle.host_pcm.proofs.StreamCalls.{ranges}
use Rattle.host_ctl.proofs.ControlTests.{loaded}
use Rattle.host_widgets.specs.There.{there_in, there_view}
use Rattle.host_dynamic.specs.Dynamic.{plain_job, loading_job, unloading_job, lacking, opening_by, opening_job, closing_by, closing_job, unsent}
use Rattle.host_widgets.specs.UpState.{UpState, settled, up_act_rules}
use Rattle.host_dynamic.specs.UpDevices.{there_on}
use Rattle.host_dynamic.specs.UpStates.{IsUpState}
use Rattle.host_widgets.proofs.HostStreams.{IsHostKind, stream-comp}
use Rattle.host_dynamic.proofs.UpAsked.{trigger-answered, params-answered}
use Rattle.host_dynamic.proofs.UpNamed.{found-at}
use Rattle.host_dynamic.proofs.UpPreparing.{prepared-state}
use Rattle.host_widgets.proofs.UpSending.{StagedFirst, AreAnswered}
use Rattle.host_widgets.proofs.UpStages.{StreamPair}
use Rattle.host_dynamic.proofs.UpTriggers.{triggered, triggered-state}
use Rattle.host_widgets.proofs.UpWalks.{Steps}
use Rattle.sof_session.proofs.UpStandsWalks.{LeadsBy, IsCutThen, LeadsOver}
use Rattle.sof_session.proofs.UpPlainRows.{IsPlainly}
use Rattle.sof_session.proofs.UpStandsLists.{PlaysAtStages, RowsAtStages}
use Rattle.sof_session.proofs.UpStandsJobs.{PlainRows, IsThereSo, EndsThereSo, so-there, ends-there, so-plays, plain-led, opening-leads, closing-leads}

module _ (plan : Plan) (sound : IsSound plan) (plays : PlaysAtStages plan) (stage-rows : RowsAtStages plan) (plain-rows : PlainRows plan) (heap : ℕ) (device : Option FwState) (s : UpState) (is : IsUpState plan s)
    (there_is : s.there ≡ there_on device) (on_device : s.kept.power ≡ powers.On → (f : FwState) × (device ≡ Some f)) where
  abbrev pub Leads : Job UpState Act → Type 0
  Leads job = LeadsOver plan heap device job

  -- while the power is on, what is kept is there in the device
  pub on-there : s.kept.power ≡ powers.On → (f : FwState) × (device ≡ Some f) × (there_in f ≡ s.there)
  on-there on = let d = on_device on in (d.0, d.1, sym (there_is ∙ ap there_on d.1))

  -- ---- those that send nothing

  pub quiet-leads : (answer : Answer) → Leads (plain_job plan s (quiet answer))
  quiet-leads answer = inr (inr (inr (inl refl, inl refl)))

  pub load-leads : Leads (loading_job heap s)
  load-leads = inr (inl (refl, refl, inl refl))

  pub unload-leads : Leads (unloading_job plan s)
  unload-leads = by s.kept.power
    where
      by : (power : Power) → Leads (record { first = where_on power (Cut ∷ []); from = s; routine = (unloading_job plan s).routine; answer = (unloading_job plan s).answer })
      by powers.On = inr (inr (inr (inr refl, inl refl)))
      by powers.Off = inr (inr (inr (inl refl, inl refl)))
      by powers.Unloaded = inr (inr (inr (inl refl, inl refl)))

  pub tick-leads : Leads (plain_job plan s (ticking s.kept))
  tick-leads = by s.kept.power refl
    where
      by : (power : Power) → s.kept.power ≡ power → Leads (record { first = where_on power (Tick ∷ []); from = s; routine = (plain_job plan s (ticking s.kept)).routine; answer = (plain_job plan s (ticking s.kept)).answer })
      by powers.On e =
          let d = on-there e in
          let playable : IsPlayable (view_of d.0) = subst IsPlayable (sym (ap there_view d.2)) (so-plays plan sound plays stage-rows plain-rows s (so-there plan sound plays stage-rows plain-rows s is e)) in
          inr (inr (inl (refl, (d.0, d.1, playable), inl refl)))
      by powers.Off e = inr (inr (inr (inl refl, inl refl)))
      by powers.Unloaded e = inr (inr (inr (inl refl, inl refl)))

  -- ---- those that send where the power is on

  plain-ends : (done : Record → Record) (u : UpState) (o : Outcome) → (let e = plain_end done u.kept o in ByLink o (LeadsBy plan u (Finished (settled e.0 u) e.1)) (IsCutThen (Finished (settled e.0 u) e.1)))
  plain-ends done u (Ok passed) = inl refl
  plain-ends done u (Err faults.LinkDown) = refl
  plain-ends done u (Err (faults.Refused e)) = inl refl
  plain-ends done u (Err fault) = inl refl

  -- what acts that neither make nor unmake ask
  pub record AreSent (xs : List Act) : Type 0 where
    pub plainly : AllByRecursion IsPlainly xs
    pub answered : AreAnswered plan s xs
    pub loose : (f : FwState) → StagedFirst xs f
    pub steps : Steps plan (IsThereSo plan sound plays stage-rows plain-rows) s xs (EndsThereSo plan sound plays stage-rows plain-rows)

  pub sends-lead : (xs : List Act) (done : Record → Record) (answer : Answer) → (s.kept.power ≡ powers.On → AreSent xs) → Leads (plain_job plan s (sends s.kept.power xs done answer))
  sends-lead xs done answer sent = by s.kept.power refl
    where
      by : (power : Power) → s.kept.power ≡ power → Leads (plain_job plan s (sends power xs done answer))
      by powers.On e =
          let x = sent e in
          inl (
            refl,
            on-there e,
            (
              plain-led plan sound plays stage-rows plain-rows xs x.plainly s x.answered x.steps,
              x.loose,
              λ ms. (let w = walk (up_act_rules plan) false next_of s ms xs in plain-ends done w.kept w.outcome),
            ),
          )
      by powers.Off e = inr (inr (inr (inl refl, inl refl)))
      by powers.Unloaded e = inr (inr (inr (inl refl, inl refl)))

  pub unsent-leads : (xs : List Act) (done : Record → Record) (answer : Answer) → Leads (plain_job plan s (unsent (sends s.kept.power xs done answer)))
  unsent-leads xs done answer = by s.kept.power
    where
      by : (power : Power) → Leads (plain_job plan s (unsent (sends power xs done answer)))
      by powers.On = inr (inr (inr (inl refl, inl refl)))
      by power = inr (inr (inr (inl refl, inl refl)))

  -- ---- the stream at a place

  module _ (k : ℕ) (low : k < length plan.streams) where
    abbrev host : ℕ
    host = host_at plan k

    abbrev p : StreamPair
    p = (get_or plan.streams k no_stream, stream_at s.kept k)

    found : find (λ (x : StreamPair). x.0.host == host) (zip plan.streams s.kept.streams) ≡ Some p
    found = found-at plan sound s is k low

    p-in : IsIn p (zip plan.streams s.kept.streams)
    p-in = (find-in (λ (x : StreamPair). x.0.host == host) (zip plan.streams s.kept.streams) p found).0

    open-at : Leads (opening_job plan s host)
    open-at = by s.kept.power refl
      where
        c : (c : Comp) × (comp_of plan.graph p.0.host ≡ Some c) × IsHostKind c.kind
        c = stream-comp plan sound s.kept p p-in

        by : (power : Power) → s.kept.power ≡ power → Leads (record { first = []; from = s; routine = opening_by power plan host (lacking plan s.up host) s; answer = answers.Done })
        by powers.On e = inl (refl, on-there e, opening-leads plan sound plays stage-rows plain-rows s is e host c.0 c.1)
        by powers.Off e = inr (inr (inr (inl refl, inl refl)))
        by powers.Unloaded e = inr (inr (inr (inl refl, inl refl)))

    close-at : is_closed p.1.found ≡ false → Leads (closing_job plan s host p.1.found)
    close-at open_yet = by s.kept.power refl
      where
        by : (power : Power) → s.kept.power ≡ power → Leads (record { first = []; from = s; routine = closing_by power plan host p.1.found s; answer = answers.Done })
        by powers.On e = inl (refl, on-there e, closing-leads plan sound plays stage-rows plain-rows s is e host p found open_yet)
        by powers.Off e = inr (inr (inr (inl refl, inl refl)))
        by powers.Unloaded e = inr (inr (inr (inl refl, inl refl)))

    trigger-at : (what : Trigger) → takes_trigger what p.1.found ≡ true → Leads (plain_job plan s (asking_order plan s.kept host p.1.found (Triggering what)))
    trigger-at what moves = sends-lead (Trig host what ∷ []) (λ now. now) answers.Done (λ on. record {
      plainly = (tt, tt);
      answered = trigger-answered plan sound s is on host p found what moves;
      loose = λ f. tt;
      steps = (so-there plan sound plays stage-rows plain-rows s is on, λ free. ends-there plan sound plays stage-rows plain-rows (triggered plan sound s is host p found on what moves) (triggered-state plan sound s is host p found on what moves) on);
    })

    params-at : (params : Params) → are_in_range params ≡ true → takes_params p.1.found ≡ true → Leads (plain_job plan s (asking_order plan s.kept host p.1.found (Preparing params)))
    params-at params range takes = sends-lead (Prepare host params ∷ []) (λ now. now) answers.Done (λ on. record {
      plainly = (tt, tt);
      answered = params-answered plan sound s is on host p found params range takes;
      loose = λ f. tt;
      steps = (so-there plan sound plays stage-rows plain-rows s is on, λ free. ends-there plan sound plays stage-rows plain-rows ((up_act_rules plan).after (Prepare host params) s) (prepared-state plan sound s is on host p found takes params range free) on);
    })

  -- ---- the stream of a name

  is-false : (b : Bool) → not b ≡ true → b ≡ false
  is-false true e = absurd (false≢true e)
  is-false false e = refl

  module _ (name : List ℕ) where
    -- where no test fails, there is one
    place-of : (ask : Ask) → early_fault plan s.kept name ask ≡ None → (k : ℕ) × Found_place plan s.kept name ask k
    place-of ask none = by (stream_place plan name) refl
      where
        by : (o : Option ℕ) → stream_place plan name ≡ o → (k : ℕ) × Found_place plan s.kept name ask k
        by None e = absurd (cc (sym (ap (named_fault plan s.kept name ask) e) ∙ (loaded s.kept.power (named_fault plan s.kept name ask (stream_place plan name)) none).1))
        by (Some k) e = (k, found_place plan s.kept name ask (Ok k) k e none refl)

    pub open-leads : early_fault plan s.kept name Opening ≡ None → Leads (opening_job plan s (host_at plan (unwrap_or (stream_place plan name) 0)))
    open-leads none =
        let r = place-of Opening none in
        subst (λ (o : Option ℕ). Leads (opening_job plan s (host_at plan (unwrap_or o 0)))) (sym r.1.place) (open-at r.0 r.1.within)

    pub close-leads : early_fault plan s.kept name Closing ≡ None → Leads (closing_job plan s (host_at plan (unwrap_or (stream_place plan name) 0)) (stream_at s.kept (unwrap_or (stream_place plan name) 0)).found)
    close-leads none =
        let r = place-of Closing none in
        subst (λ (o : Option ℕ). Leads (closing_job plan s (host_at plan (unwrap_or o 0)) (stream_at s.kept (unwrap_or o 0)).found)) (sym r.1.place)
        (close-at r.0 r.1.within (is-false (is_closed (stream_at s.kept r.0).found) r.1.stood.takes_it))

    pub trigger-leads : (what : Trigger) → early_fault plan s.kept name (Triggering what) ≡ None → Leads (plain_job plan s (stream_order plan s.kept name (Triggering what)))
    trigger-leads what none =
        let r = place-of (Triggering what) none in
        subst (λ (o : Option ℕ). Leads (plain_job plan s (asking_order plan s.kept (host_at plan (unwrap_or o 0)) (stream_at s.kept (unwrap_or o 0)).found (Triggering what)))) (sym r.1.place)
        (trigger-at r.0 r.1.within what r.1.stood.takes_it)

    pub params-lead : (params : Params) → early_fault plan s.kept name (Preparing params) ≡ None → Leads (plain_job plan s (stream_order plan s.kept name (Preparing params)))
    params-lead params none =
        let r = place-of (Preparing params) none in
        subst (λ (o : Option ℕ). Leads (plain_job plan s (asking_order plan s.kept (host_at plan (unwrap_or o 0)) (stream_at s.kept (unwrap_or o 0)).found (Preparing params)))) (sym r.1.place)
        (params-at r.0 r.1.within params (ranges (stream_caps plan r.0) params r.1.stood.range) r.1.stood.takes_it)
