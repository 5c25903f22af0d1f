-- Commands on the stream of a name, where no test fails, leave what is up there.
use Rattle.std.proofs.Common.{◌≡◌, refl, sym, ap, subst, ◌∙◌, ℕ, zero, suc, ◌<◌, List, [], ◌∷◌, length, get_or, true, false, inl, inr, ◌==◌, Option, Some, None, Ok, unwrap_or, arith}
use Rattle.std.specs.Prelude.{find}
use Rattle.std.specs.List.{zip}
use Rattle.std.proofs.lemmas.Bool.{eq-eqb, not-true}
use Rattle.sof_base.specs.declared.format.Params.{Params}
use Rattle.stream_law.specs.declared.graph.Comp.{Comp}
use Rattle.stream_law.specs.Ways.{comp_of}
use Rattle.stream_law.proofs.Members.{IsIn, in-all}
use Rattle.mbox_link.specs.Meetings.{Meeting}
use Rattle.tplg_plan.specs.declared.plans.Plan.{Plan}
use Rattle.tplg_plan.specs.declared.plans.StreamPlan.{StreamPlan}
use Rattle.tplg_plan.specs.Sound.{IsSound}
use Rattle.host_widgets.specs.declared.answers.Answer.TheVariants as answers
use Rattle.host_widgets.specs.declared.kept.Found.TheVariants as founds
use Rattle.host_widgets.specs.declared.kept.Power.{Power}
use Rattle.host_widgets.specs.declared.kept.Power.TheVariants as powers
use Rattle.host_widgets.specs.declared.kept.StreamRec.{StreamRec}
use Rattle.host_widgets.specs.declared.trigger.Trigger.{Trigger}
use Rattle.host_widgets.specs.Expected.{stream_view, phase_of}
use Rattle.host_widgets.specs.HostActs.{Prepare}
use Rattle.host_widgets.specs.HostRecord.{closed, no_stream, are_in_range}
use Rattle.host_widgets.specs.StreamStands.{takes_trigger, takes_params}
use Rattle.host_widgets.proofs.LookedUp.{each-found}
use Rattle.host_widgets.proofs.StreamPlaces.{streams-ascend}
use Rattle.host_pcm.specs.declared.asking.Ask.{Ask}
use Rattle.host_pcm.specs.declared.asking.Ask.TheVariants.{Opening, Preparing, Triggering, Closing}
use Rattle.host_pcm.specs.Asks.{stream_place, is_closed, stream_at, named_fault, early_fault}
use Rattle.host_pcm.specs.StreamCalls.{stream_caps, opened_stream, host_at}
use Rattle.host_pcm.specs.StreamOrders.{asking_order, stream_order}
use Rattle.host_pcm.proofs.HostTests.{Found_place, found_place}
use Rattle.host_pcm.proofs.StreamCalls.{ranges}
use Rattle.host_ctl.proofs.ControlTests.{loaded}
use Rattle.host_dynamic.specs.Dynamic.{plain_job, lacking, opening_by, opening_job, closing_by, closing_job}
use Rattle.host_widgets.specs.UpState.{UpState, up_act_rules}
use Rattle.host_dynamic.specs.UpStates.{IsUpState}
use Rattle.host_widgets.proofs.HostStreams.{IsHostKind, stream-comp}
use Rattle.host_widgets.proofs.StageMakes.{zip-ascends}
use Rattle.host_dynamic.proofs.UpNeeds.{closed-none}
use Rattle.host_dynamic.proofs.UpOpening.{opening-keeps, opening-off}
use Rattle.host_dynamic.proofs.UpPlain.{settled-state, sends-keeps}
use Rattle.host_dynamic.proofs.UpPreparing.{prepared-state}
use Rattle.host_dynamic.proofs.UpShutting.{closing-keeps, closing-off}
use Rattle.host_widgets.proofs.UpStages.{StreamPair}
use Rattle.host_dynamic.proofs.UpTriggers.{one-pair, may-be, trigger-keeps}
use Rattle.host_widgets.proofs.UpWalks.{Keeps}

-- the stream at a place goes with the record there
zip-at : (ss : List StreamPlan) (rs : List StreamRec) (k : ℕ) → k < length ss → length rs ≡ length ss → IsIn (get_or ss k no_stream, get_or rs k closed) (zip ss rs)
zip-at [] rs k low same = absurd (omega (arith, low))
zip-at (s ∷ ss) [] k low same = absurd (cc same)
zip-at (s ∷ ss) (r ∷ rs) zero low same = inl refl
zip-at (s ∷ ss) (r ∷ rs) (suc k) low same = inr (zip-at ss rs k (omega (arith, low)) (let rest : length rs ≡ length ss = omega (arith, same) in rest))

module _ (plan : Plan) (sound : IsSound plan) (s : UpState) (is : IsUpState plan s) where
  -- ---- the stream at a place

  pub found-at : (k : ℕ) → k < length plan.streams → find (λ (x : StreamPair). x.0.host == host_at plan k) (zip plan.streams s.kept.streams) ≡ Some (get_or plan.streams k no_stream, stream_at s.kept k)
  found-at k low =
      in-all (λ (x : StreamPair). find (λ (y : StreamPair). y.0.host == x.0.host) (zip plan.streams s.kept.streams) ≡ Some x) (zip plan.streams s.kept.streams) (get_or plan.streams k no_stream, stream_at s.kept k)
      (each-found (λ (x : StreamPair). x.0.host) (zip plan.streams s.kept.streams) (zip-ascends plan.streams s.kept.streams (streams-ascend plan sound)))
      (zip-at plan.streams s.kept.streams k low is.record_is.streams)

  module _ (k : ℕ) (low : k < length plan.streams) {Q : Type 0} (next : Q → Meeting × Q) (q : Q) where
    abbrev host : ℕ
    host = host_at plan k

    abbrev p : StreamPair
    p = (get_or plan.streams k no_stream, stream_at s.kept k)

    abbrev pairs : List StreamPair
    pairs = zip plan.streams s.kept.streams

    p-in : IsIn p pairs
    p-in = zip-at plan.streams s.kept.streams k low is.record_is.streams

    found : find (λ (x : StreamPair). x.0.host == host) pairs ≡ Some p
    found = found-at k low

    -- it is opened
    open-at : (s.kept.power ≡ powers.Unloaded → ⊥) → is_closed p.1.found ≡ true → Keeps plan next (IsUpState plan) s q (opening_job plan s host).routine
    open-at some shut_yet = by s.kept.power refl
      where
        c : (c : Comp) × (comp_of plan.graph p.0.host ≡ Some c) × IsHostKind c.kind
        c = stream-comp plan sound s.kept p p-in

        bare : (p.1.found ≡ founds.Closed) × (p.1.params ≡ None)
        bare = closed-none p.1.found p.1.params (may-be plan sound s is host p found) shut_yet

        rest : stream_view (p.0, opened_stream p.1) ≡ stream_view p
        rest = λ i. record { host = p.0.host; phase = phase_of (sym bare.0 i); params = sym bare.1 i }

        alone : (x : StreamPair) → IsIn x pairs → x.0.host ≡ p.0.host → x ≡ p
        alone x there same = one-pair plan sound s is host p found x there (eq-eqb x.0.host host same)

        all-shut : (x : StreamPair) → IsIn x pairs → x.0.host ≡ p.0.host → is_closed x.1.found ≡ true
        all-shut x there same = subst (λ (y : StreamPair). is_closed y.1.found ≡ true) (sym (alone x there same)) shut_yet

        all-rest : (x : StreamPair) → IsIn x pairs → x.0.host ≡ p.0.host → stream_view (x.0, opened_stream x.1) ≡ stream_view x
        all-rest x there same = subst (λ (y : StreamPair). stream_view (y.0, opened_stream y.1) ≡ stream_view y) (sym (alone x there same)) rest

        by : (power : Power) → s.kept.power ≡ power → Keeps plan next (IsUpState plan) s q (opening_by power plan host (lacking plan s.up host) s)
        by powers.On e = opening-keeps plan sound s is p p-in all-shut all-rest c.0 c.1 next e q
        by powers.Off e = opening-off plan sound s is p p-in all-shut all-rest c.0 c.1 next q e
        by powers.Unloaded e = absurd (some e)

    -- it is closed
    close-at : (s.kept.power ≡ powers.Unloaded → ⊥) → is_closed p.1.found ≡ false → Keeps plan next (IsUpState plan) s q (closing_job plan s host p.1.found).routine
    close-at some open_yet = by s.kept.power refl
      where
        by : (power : Power) → s.kept.power ≡ power → Keeps plan next (IsUpState plan) s q (closing_by power plan host p.1.found s)
        by powers.On e = closing-keeps plan sound s is e host p found open_yet next q
        by powers.Off e = closing-off plan sound s is host next q p.1.found e
        by powers.Unloaded e = absurd (some e)

    -- it is triggered
    trigger-at : s.kept.power ≡ powers.On → (what : Trigger) → takes_trigger what p.1.found ≡ true → Keeps plan next (IsUpState plan) s q (plain_job plan s (asking_order plan s.kept host p.1.found (Triggering what))).routine
    trigger-at on what moves = trigger-keeps plan sound s is host p found on what moves next q

    -- it has parameters
    params-at : s.kept.power ≡ powers.On → (params : Params) → are_in_range params ≡ true → takes_params p.1.found ≡ true → Keeps plan next (IsUpState plan) s q (plain_job plan s (asking_order plan s.kept host p.1.found (Preparing params))).routine
    params-at on params range takes = sends-keeps plan sound next (λ now. now) s q (Prepare host params ∷ []) answers.Done
        (λ e. (is, λ free. settled-state plan sound ((up_act_rules plan).after (Prepare host params) s) (prepared-state plan sound s is on host p found takes params range free)))
        (λ off. absurd (off on))

  -- ---- the stream of a name

  module _ (name : List ℕ) {Q : Type 0} (next : Q → Meeting × Q) (q : Q) where
    -- where no test fails, there is one
    place-of : (ask : Ask) → early_fault plan s.kept name ask ≡ None → (k : ℕ) × Found_place plan s.kept name ask k
    place-of ask none = by (stream_place plan name) refl
      where
        by : (o : Option ℕ) → stream_place plan name ≡ o → (k : ℕ) × Found_place plan s.kept name ask k
        by None e = absurd (cc (sym (ap (named_fault plan s.kept name ask) e) ∙ (loaded s.kept.power (named_fault plan s.kept name ask (stream_place plan name)) none).1))
        by (Some k) e = (k, found_place plan s.kept name ask (Ok k) k e none refl)

    pub open-keeps : early_fault plan s.kept name Opening ≡ None → Keeps plan next (IsUpState plan) s q (opening_job plan s (host_at plan (unwrap_or (stream_place plan name) 0))).routine
    open-keeps none =
        let r = place-of Opening none in
        subst (λ (o : Option ℕ). Keeps plan next (IsUpState plan) s q (opening_job plan s (host_at plan (unwrap_or o 0))).routine) (sym r.1.place)
        (open-at r.0 r.1.within next q r.1.stood.up r.1.stood.takes_it)

    pub close-keeps : early_fault plan s.kept name Closing ≡ None → Keeps plan next (IsUpState plan) s q (closing_job plan s (host_at plan (unwrap_or (stream_place plan name) 0)) (stream_at s.kept (unwrap_or (stream_place plan name) 0)).found).routine
    close-keeps none =
        let r = place-of Closing none in
        subst (λ (o : Option ℕ). Keeps plan next (IsUpState plan) s q (closing_job plan s (host_at plan (unwrap_or o 0)) (stream_at s.kept (unwrap_or o 0)).found).routine) (sym r.1.place)
        (close-at r.0 r.1.within next q r.1.stood.up (not-true (is_closed (stream_at s.kept r.0).found) r.1.stood.takes_it))

    pub trigger-named : (what : Trigger) → early_fault plan s.kept name (Triggering what) ≡ None → Keeps plan next (IsUpState plan) s q (plain_job plan s (stream_order plan s.kept name (Triggering what))).routine
    trigger-named what none =
        let r = place-of (Triggering what) none in
        subst (λ (o : Option ℕ). Keeps plan next (IsUpState plan) s q (plain_job plan s (asking_order plan s.kept (host_at plan (unwrap_or o 0)) (stream_at s.kept (unwrap_or o 0)).found (Triggering what))).routine) (sym r.1.place)
        (trigger-at r.0 r.1.within next q (r.1.stood.powered refl) what r.1.stood.takes_it)

    pub params-keep : (params : Params) → early_fault plan s.kept name (Preparing params) ≡ None → Keeps plan next (IsUpState plan) s q (plain_job plan s (stream_order plan s.kept name (Preparing params))).routine
    params-keep params none =
        let r = place-of (Preparing params) none in
        subst (λ (o : Option ℕ). Keeps plan next (IsUpState plan) s q (plain_job plan s (asking_order plan s.kept (host_at plan (unwrap_or o 0)) (stream_at s.kept (unwrap_or o 0)).found (Preparing params))).routine) (sym r.1.place)
        (params-at r.0 r.1.within next q (r.1.stood.powered refl) params (ranges (stream_caps plan r.0) params r.1.stood.range) r.1.stood.takes_it)
