-- What a call left of what is up, over any device, by its test.
use Rattle.std.proofs.Common.{◌≡◌, refl, sym, ap, subst, ◌∙◌, ℕ, ◌*◌, List, ◌++◌, filter, length, get_or, true, false, not, ◌==◌, Some, None, Result, Ok, Err}
use Rattle.std.specs.Prelude.{Option, IfErr, is_some, unwrap_or, find}
use Rattle.std.specs.List.{zip}
use Rattle.std.proofs.lemmas.Bool.{not-true}
use Rattle.sof_base.specs.Ports.{HasRoom}
use Rattle.stream_law.specs.declared.graph.Comp.{Comp}
use Rattle.stream_law.specs.State.{FwState}
use Rattle.stream_law.specs.Ways.{comp_of}
use Rattle.stream_law.specs.Order.{is_among}
use Rattle.mbox_link.specs.Calls.{World, Meaning}
use Rattle.tplg_plan.specs.declared.plans.Plan.{Plan}
use Rattle.tplg_plan.specs.Sound.{IsSound}
use Rattle.host_widgets.specs.declared.answers.Answer.TheVariants as answers
use Rattle.host_widgets.specs.declared.answers.HostFault.{HostFault}
use Rattle.host_widgets.specs.declared.answers.HostFault.TheVariants as faults
use Rattle.host_widgets.specs.declared.kept.Power.{Power}
use Rattle.host_widgets.specs.declared.kept.Power.TheVariants as powers
use Rattle.host_widgets.specs.declared.kept.Record.{Record}
use Rattle.host_widgets.specs.AnsweredOrders.{ActsAnswered, OrderAnswered}
use Rattle.host_widgets.specs.ActCalls.{next_of}
use Rattle.host_widgets.specs.ActLists.{close_by}
use Rattle.host_widgets.specs.Host.{Outcome}
use Rattle.host_widgets.specs.HostRecord.{closed, no_stream}
use Rattle.host_widgets.specs.Kept.{with_stream}
use Rattle.host_widgets.specs.Orders.{sends}
use Rattle.host_widgets.specs.Walk.{first_of}
use Rattle.host_widgets.specs.Routines.{Job, JobDone}
use Rattle.host_widgets.proofs.AnsweredActs.{answered-sent}
use Rattle.host_widgets.proofs.Exchanges.{state_of}
use Rattle.host_widgets.proofs.Walks.{sent-room}
use Rattle.host_pcm.specs.declared.asking.Ask.TheVariants.{Opening, Closing}
use Rattle.host_pcm.specs.Asks.{early_fault, is_closed, stream_at, stream_place}
use Rattle.host_pcm.specs.StreamCalls.{host_at, opened_stream, place_order, shut, with_stream_at}
use Rattle.host_pcm.proofs.HostTests.{Found_place}
use Rattle.host_pcm.proofs.Places.{place-changed}
use Rattle.host_dynamic.specs.Dynamic.{lacking, needed, opening_job, opening_by, closing_job, closing_by, with_stream_open, with_stream_shut, without_stream}
use Rattle.host_widgets.specs.UpState.{UpState, up_act_rules}
use Rattle.host_widgets.specs.There.{shown_ids}
use Rattle.host_dynamic.specs.UpCalls.{AfterMaking, MadeWhereOn, UnmadeWhereOn}
use Rattle.host_dynamic.specs.UpDevices.{there_on, up_state_in, UpAgrees}
use Rattle.host_dynamic.specs.UpStates.{IsUpState}
use Rattle.host_widgets.proofs.HostStreams.{stream-comp}
use Rattle.host_dynamic.proofs.JobLegs.{none-sent}
use Rattle.host_dynamic.proofs.UpAgreeing.{IsSwitched, switched-of, done-state, IsCalled, called-early, called-late}
use Rattle.host_dynamic.proofs.UpAnswered.{Split, split}
use Rattle.host_dynamic.proofs.UpCloses.{closes-not, closes-so, on-now, power-left}
use Rattle.host_dynamic.proofs.UpNamed.{found-at, open-keeps, close-keeps}
use Rattle.host_dynamic.proofs.UpOpens.{HasOpened, opens-on}
use Rattle.host_widgets.proofs.UpStages.{StreamPair}
use Rattle.host_dynamic.proofs.UpTriggers.{in-pairs}
use Rattle.host_widgets.specs.HostActs.{Act}

module _ {D : Type 0} (means : Meaning D) (plan : Plan) (sound : IsSound plan) (heap : ℕ) (kept : Record) (up : List ℕ) (w : World D) (name : List ℕ) (is : IsUpState plan (up_state_in means kept up w.device)) (agree : UpAgrees means plan kept up w.device) where
  abbrev s : UpState
  s = up_state_in means kept up w.device

  switched : IsSwitched kept.power (means.on w.device)
  switched = switched-of means plan kept up w.device agree

  -- the device is on where the record says so
  pub device-on : kept.power ≡ powers.On → is_some (means.on w.device) ≡ true
  device-on on = subst (λ (power : Power). IsSwitched power (means.on w.device)) on switched

  abbrev pub Called : Option HostFault → Job UpState Act → Record → List ℕ → World D → Outcome → Type 0
  Called test job kept' up' v result = IsCalled means plan heap test job s kept' up' w v result

  -- its test reported a fault
  pub early-called : (test : Option HostFault) (job : Job UpState Act) (r : Result ℕ HostFault) (fault : HostFault) (result : Outcome) → IfErr r (λ f. test ≡ Some f) → r ≡ Err fault → result ≡ Err fault → Called test job kept up w result
  early-called test job r fault result told failed this =
      called-early means plan heap kept up w is agree test job fault result (subst (λ (x : Result ℕ HostFault). IfErr x (λ f. test ≡ Some f)) failed told) this

  -- ---- opening

  abbrev pub opened_at : ℕ → Job UpState Act
  opened_at k = opening_job plan s (host_at plan k)

  abbrev pub opened_named : Job UpState Act
  opened_named = opened_at (unwrap_or (stream_place plan name) 0)

  abbrev pub closed_at : ℕ → Job UpState Act
  closed_at k = closing_job plan s (host_at plan k) (stream_at kept k).found

  abbrev pub closed_named : Job UpState Act
  closed_named = closed_at (unwrap_or (stream_place plan name) 0)

  open-called : (k : ℕ) → stream_place plan name ≡ Some k → early_fault plan kept name Opening ≡ None → (kept' : Record) (up' : List ℕ) (v : World D) (result : Outcome) → JobDone means (up_act_rules plan) heap (opened_at k) (up_state_in means kept' up' v.device) w v result →
      IsSwitched kept'.power (means.on v.device) → Called (early_fault plan kept name Opening) opened_named kept' up' v result
  open-called k place none kept' up' v result done on =
      let named : JobDone means (up_act_rules plan) heap opened_named (up_state_in means kept' up' v.device) w v result = subst (λ (o : Option ℕ). JobDone means (up_act_rules plan) heap (opened_at (unwrap_or o 0)) (up_state_in means kept' up' v.device) w v result) (sym place) done in
      called-late means plan heap kept up w (early_fault plan kept name Opening) opened_named kept' up' v result none named (done-state means plan heap opened_named (up_state_in means kept' up' v.device) w v result named (open-keeps plan sound s is name next_of named.meetings none)) on

  close-called : (k : ℕ) → stream_place plan name ≡ Some k → early_fault plan kept name Closing ≡ None → (kept' : Record) (up' : List ℕ) (v : World D) (result : Outcome) → JobDone means (up_act_rules plan) heap (closed_at k) (up_state_in means kept' up' v.device) w v result →
      IsSwitched kept'.power (means.on v.device) → Called (early_fault plan kept name Closing) closed_named kept' up' v result
  close-called k place none kept' up' v result done on =
      let named : JobDone means (up_act_rules plan) heap closed_named (up_state_in means kept' up' v.device) w v result = subst (λ (o : Option ℕ). JobDone means (up_act_rules plan) heap (closed_at (unwrap_or o 0)) (up_state_in means kept' up' v.device) w v result) (sym place) done in
      called-late means plan heap kept up w (early_fault plan kept name Closing) closed_named kept' up' v result none named (done-state means plan heap closed_named (up_state_in means kept' up' v.device) w v result named (close-keeps plan sound s is name next_of named.meetings none)) on

  module _ (k : ℕ) (at : Found_place plan kept name Opening k) where
    abbrev n : List ℕ
    n = lacking plan up (host_at plan k)

    p-in : (c : Comp) × (comp_of plan.graph (host_at plan k) ≡ Some c)
    p-in = let c = stream-comp plan sound kept (get_or plan.streams k no_stream, stream_at kept k) (in-pairs plan sound s is (host_at plan k) (get_or plan.streams k no_stream, stream_at kept k) (found-at plan sound s is k at.within)) in (c.0, c.1)

    module _ (on : kept.power ≡ powers.On) where
      f : (f : FwState) × (means.on w.device ≡ Some f)
      f = state_of (means.on w.device) (subst (λ (power : Power). IsSwitched power (means.on w.device)) on switched)

      opened : (kept' : Record) (v : World D) (result : Outcome) → MadeWhereOn means plan heap n powers.On kept kept' w v result → HasOpened means plan sound heap s is on (host_at plan k) p-in.0 p-in.1 kept' w v result
      opened kept' v result made = opens-on means plan sound heap s is on (host_at plan k) p-in.0 p-in.1 w f.0 f.1 (sym (ap there_on f.1)) kept' v result made

    -- it was refused, or its link failed
    pub opened-not : (kept' : Record) (v : World D) (result : Outcome) (fault : HostFault) → MadeWhereOn means plan heap n kept.power kept kept' w v result → result ≡ Err fault → Called (early_fault plan kept name Opening) opened_named kept' up v (Err fault)
    opened-not kept' v result fault made failed = by kept.power refl made
      where
        by : (power : Power) → kept.power ≡ power → MadeWhereOn means plan heap n power kept kept' w v result → Called (early_fault plan kept name Opening) opened_named kept' up v (Err fault)
        by powers.On on made =
            let h = subst (λ (o : Outcome). HasOpened means plan sound heap s is on (host_at plan k) p-in.0 p-in.1 kept' w v o) failed (opened on kept' v result made) in
            open-called k at.place at.none kept' up v (Err fault) h.done h.switched
        by powers.Off off made = absurd (cc (sym made.2 ∙ failed))
        by powers.Unloaded off made = absurd (cc (sym made.2 ∙ failed))

    -- all was made, or the power is off
    pub opened-so : (kept1 : Record) (v : World D) (result : Outcome) → MadeWhereOn means plan heap n kept.power kept kept1 w v result → result ≡ Ok tt → Called (early_fault plan kept name Opening) opened_named (with_stream plan (host_at plan k) opened_stream kept1) (up ++ n) v (Ok tt)
    opened-so kept1 v result made passed = by kept.power refl made
      where
        off-so : (power : Power) → opening_by power plan (host_at plan k) n s ≡ opening_by powers.Off plan (host_at plan k) n s → kept.power ≡ power → (kept1 ≡ kept) × (v ≡ w) × (result ≡ Ok tt) →
            Called (early_fault plan kept name Opening) opened_named (with_stream plan (host_at plan k) opened_stream kept1) (up ++ n) v (Ok tt)
        off-so power same off (left, stays, told) =
            let end : up_state_in means (with_stream plan (host_at plan k) opened_stream kept1) (up ++ n) v.device ≡ with_stream_open plan (host_at plan k) n s = λ i. record { kept = with_stream plan (host_at plan k) opened_stream (left i); up = up ++ n; there = there_on (means.on (stays i).device) } in
            open-called k at.place at.none (with_stream plan (host_at plan k) opened_stream kept1) (up ++ n) v (Ok tt)
            (none-sent means (up_act_rules plan) heap (opened_at k) (with_stream_open plan (host_at plan k) n s) (up_state_in means (with_stream plan (host_at plan k) opened_stream kept1) (up ++ n) v.device) w v refl (ap (λ (power : Power). opening_by power plan (host_at plan k) n s) off ∙ same) end stays)
            (subst (λ (x : Power × World D). IsSwitched x.0 (means.on x.1.device)) (λ i. (sym (ap (λ (r : Record). r.power) left) i, sym stays i)) switched)

        by : (power : Power) → kept.power ≡ power → MadeWhereOn means plan heap n power kept kept1 w v result → Called (early_fault plan kept name Opening) opened_named (with_stream plan (host_at plan k) opened_stream kept1) (up ++ n) v (Ok tt)
        by powers.On on made =
            let h = subst (λ (o : Outcome). HasOpened means plan sound heap s is on (host_at plan k) p-in.0 p-in.1 kept1 w v o) passed (opened on kept1 v result made) in
            open-called k at.place at.none (with_stream plan (host_at plan k) opened_stream kept1) (up ++ n) v (Ok tt) h.done h.switched
        by powers.Off off made = off-so powers.Off refl off made
        by powers.Unloaded off made = off-so powers.Unloaded refl off made

    -- ---- by what the call has of it

    first-fails : (fault : HostFault) (rest : Outcome) → first_of (Err fault) rest ≡ Ok tt → ⊥
    first-fails fault (Ok done) is = cc is
    first-fails fault (Err (faults.Refused e)) is = cc is
    first-fails fault (Err other) is = cc is

    -- where all was made the record stays
    made-kept : (power : Power) (ids : List ℕ) (kept1 : Record) (v : World D) (result : Outcome) → MadeWhereOn means plan heap ids power kept kept1 w v result → result ≡ Ok tt → kept1 ≡ kept
    made-kept powers.Off ids kept1 v result made ok = made.0
    made-kept powers.Unloaded ids kept1 v result made ok = made.0
    made-kept powers.On ids kept1 v result made ok = by made.outcome made.rest
      where
        by : (o : Outcome) → AfterMaking means plan heap made.made o kept kept1 made.mid v result → kept1 ≡ kept
        by (Ok done) (told, same, stays) = same
        by (Err (faults.Refused e)) (done, un, told) = absurd (first-fails (faults.Refused e) done (sym told ∙ ok))
        by (Err fault) after = absurd (cc (sym after.0 ∙ ok))

    module _ (ids : List ℕ) (ids_are : ids ≡ n) (kept1 : Record) (v : World D) (result : Outcome) (made : MadeWhereOn means plan heap ids kept.power kept kept1 w v result) where
      made-n : MadeWhereOn means plan heap n kept.power kept kept1 w v result
      made-n = subst (λ (xs : List ℕ). MadeWhereOn means plan heap xs kept.power kept kept1 w v result) ids_are made

      pub opens-not : (fault : HostFault) → result ≡ Err fault → Called (early_fault plan kept name Opening) opened_named kept1 up v (Err fault)
      opens-not fault failed = opened-not kept1 v result fault made-n failed

      -- it has as many streams as before
      pub opened-long : result ≡ Ok tt → length kept1.streams ≡ length plan.streams
      opened-long ok = ap (λ (r : Record). length r.streams) (made-kept kept.power ids kept1 v result made ok) ∙ is.record_is.streams

      pub opens-so : result ≡ Ok tt → (kept' : Record) → kept' ≡ with_stream_at k (opened_stream closed) kept1 → (up' : List ℕ) → up' ≡ up ++ ids → Called (early_fault plan kept name Opening) opened_named kept' up' v (Ok tt)
      opens-so ok kept' left up' raised =
          let changed : kept' ≡ with_stream plan (host_at plan k) opened_stream kept1 = left ∙ place-changed plan sound k at.within opened_stream kept1 (opened-long ok) in
          subst (λ (x : Record × List ℕ). Called (early_fault plan kept name Opening) opened_named x.0 x.1 v (Ok tt)) (λ i. (sym changed i, sym (raised ∙ ap (λ (xs : List ℕ). up ++ xs) ids_are) i)) (opened-so kept1 v result made-n ok)

  -- ---- closing

  module _ (k : ℕ) (at : Found_place plan kept name Closing k) where
    abbrev p : StreamPair
    p = (get_or plan.streams k no_stream, stream_at kept k)

    found : find (λ (q : StreamPair). q.0.host == host_at plan k) (zip plan.streams kept.streams) ≡ Some p
    found = found-at plan sound s is k at.within

    open_yet : is_closed p.1.found ≡ false
    open_yet = not-true (is_closed p.1.found) at.stood.takes_it

    module _ (kept1 : Record) (m1 : World D) (result1 : Outcome) (answered : OrderAnswered means plan heap (place_order plan kept k Closing) kept kept1 w m1 result1) where
      module _ (on : kept.power ≡ powers.On) where
        is_on : (f : FwState) × (means.on w.device ≡ Some f)
        is_on = state_of (means.on w.device) (subst (λ (power : Power). IsSwitched power (means.on w.device)) on switched)

        by_acts : ActsAnswered means plan heap (with_stream plan (host_at plan k) shut) (close_by (host_at plan k) p.1.found) kept kept1 w m1 result1
        by_acts = subst (λ (power : Power). OrderAnswered means plan heap (sends power (close_by (host_at plan k) p.1.found) (with_stream plan (host_at plan k) shut) answers.Done) kept kept1 w m1 result1) on answered

        a : Split plan means heap (with_stream plan (host_at plan k) shut) s (close_by (host_at plan k) p.1.found) kept1 w m1 result1
        a = split plan means heap (with_stream plan (host_at plan k) shut) (close_by (host_at plan k) p.1.found) s kept1 w m1 result1 by_acts

      -- its messages did not pass
      pub closed-not : (fault : HostFault) → result1 ≡ Err fault → Called (early_fault plan kept name Closing) closed_named kept1 up m1 (Err fault)
      closed-not fault failed = by kept.power refl answered
        where
          by : (power : Power) → kept.power ≡ power → OrderAnswered means plan heap (sends power (close_by (host_at plan k) p.1.found) (with_stream plan (host_at plan k) shut) answers.Done) kept kept1 w m1 result1 → Called (early_fault plan kept name Closing) closed_named kept1 up m1 (Err fault)
          by powers.On on told =
              let h = closes-not means plan sound heap s is on (host_at plan k) p found open_yet w (is_on on).0 (is_on on).1 (sym (ap there_on (is_on on).1)) kept1 m1 result1 (a on) fault failed in
              close-called k at.place at.none kept1 up m1 (Err fault) h.done h.switched
          by powers.Off off told = absurd (cc (sym told.2 ∙ failed))
          by powers.Unloaded off told = absurd (cc (sym told.2 ∙ failed))

      -- they passed, or the power is off: what no other stream needs is unmade
      abbrev pub stay : List ℕ
      stay = filter (is_among (needed plan kept1)) up

      abbrev pub part : List ℕ
      part = filter (λ i. not (is_among (needed plan kept1) i)) up

      -- the outputs still have room
      pub room-left : result1 ≡ Ok tt → HasRoom (61440 * means.pending w.device) w.io.outputs → HasRoom (61440 * means.pending m1.device) m1.io.outputs
      room-left ok room =
          let o = place_order plan kept k Closing in
          sent-room means plan o.acts w m1 (Ok tt) (answered-sent means plan heap o.acts o.done kept kept1 w m1 (subst (λ (r : Outcome). OrderAnswered means plan heap o kept kept1 w m1 r) ok answered)) room

      -- the power stays, and a device that is on
      pub power-stays : result1 ≡ Ok tt → (kept1.power ≡ kept.power) × (kept1.power ≡ powers.On → is_some (means.on m1.device) ≡ true)
      power-stays ok = by kept.power refl answered
        where
          by : (power : Power) → kept.power ≡ power → OrderAnswered means plan heap (sends power (close_by (host_at plan k) p.1.found) (with_stream plan (host_at plan k) shut) answers.Done) kept kept1 w m1 result1 → (kept1.power ≡ kept.power) × (kept1.power ≡ powers.On → is_some (means.on m1.device) ≡ true)
          by powers.On on told = (
            power-left means plan sound heap s is on (host_at plan k) p found open_yet w (is_on on).0 (is_on on).1 (sym (ap there_on (is_on on).1)) kept1 m1 result1 (a on) ok ∙ sym on,
            λ e. on-now means plan sound heap s is on (host_at plan k) p found open_yet w (is_on on).0 (is_on on).1 (sym (ap there_on (is_on on).1)) kept1 m1 result1 (a on) ok,
          )
          by powers.Off off told = (ap (λ (r : Record). r.power) told.0, λ e. absurd (cc (sym off ∙ sym (ap (λ (r : Record). r.power) told.0) ∙ e)))
          by powers.Unloaded off told = (ap (λ (r : Record). r.power) told.0, λ e. absurd (cc (sym off ∙ sym (ap (λ (r : Record). r.power) told.0) ∙ e)))

      pub closed-so : result1 ≡ Ok tt → (kept' : Record) (v : World D) (result : Outcome) → UnmadeWhereOn means plan heap (shown_ids plan part) kept1.power kept1 kept' m1 v result → Called (early_fault plan kept name Closing) closed_named kept' stay v result
      closed-so ok kept' v result unmade = by kept.power refl answered (subst (λ (power : Power). UnmadeWhereOn means plan heap (shown_ids plan part) power kept1 kept' m1 v result) (power-stays ok).0 unmade)
        where
          none : (power : Power) → closing_by power plan (host_at plan k) p.1.found s ≡ closing_by powers.Off plan (host_at plan k) p.1.found s → kept.power ≡ power → (kept1 ≡ without_stream plan (host_at plan k) kept) × (m1 ≡ w) × (result1 ≡ Ok tt) → (kept' ≡ kept1) × (v ≡ m1) × (result ≡ Ok tt) →
              Called (early_fault plan kept name Closing) closed_named kept' stay v result
          none power same off (left, stays, told) (left', stays', told') =
              let end : up_state_in means kept' stay v.device ≡ with_stream_shut plan (host_at plan k) s = λ i. record { kept = (left' ∙ left) i; up = filter (is_among (needed plan (left i))) up; there = there_on (means.on ((stays' ∙ stays) i).device) } in
              subst (Called (early_fault plan kept name Closing) closed_named kept' stay v) (sym told')
              (close-called k at.place at.none kept' stay v (Ok tt)
              (none-sent means (up_act_rules plan) heap (closed_at k) (with_stream_shut plan (host_at plan k) s) (up_state_in means kept' stay v.device) w v refl (ap (λ (power : Power). closing_by power plan (host_at plan k) p.1.found s) off ∙ same) end (stays' ∙ stays))
              (subst (λ (x : Power × World D). IsSwitched x.0 (means.on x.1.device)) (λ i. (sym (ap (λ (r : Record). r.power) (left' ∙ left)) i, sym (stays' ∙ stays) i)) switched))

          by : (power : Power) → kept.power ≡ power → OrderAnswered means plan heap (sends power (close_by (host_at plan k) p.1.found) (with_stream plan (host_at plan k) shut) answers.Done) kept kept1 w m1 result1 → UnmadeWhereOn means plan heap (shown_ids plan part) power kept1 kept' m1 v result →
              Called (early_fault plan kept name Closing) closed_named kept' stay v result
          by powers.On on told un =
              let h = closes-so means plan sound heap s is on (host_at plan k) p found open_yet w (is_on on).0 (is_on on).1 (sym (ap there_on (is_on on).1)) kept1 m1 result1 (a on) ok kept' v result un in
              close-called k at.place at.none kept' stay v result h.done h.switched
          by powers.Off off told un = none powers.Off refl off told un
          by powers.Unloaded off told un = none powers.Unloaded refl off told un

      pub closes-called : result1 ≡ Ok tt → (ids : List ℕ) → ids ≡ shown_ids plan part → (kept' : Record) (up' : List ℕ) → up' ≡ stay → (v : World D) (result : Outcome) → UnmadeWhereOn means plan heap ids kept1.power kept1 kept' m1 v result → Called (early_fault plan kept name Closing) closed_named kept' up' v result
      closes-called ok ids ids_are kept' up' up_is v result unmade =
          subst (λ (xs : List ℕ). Called (early_fault plan kept name Closing) closed_named kept' xs v result) (sym up_is)
          (closed-so ok kept' v result (subst (λ (xs : List ℕ). UnmadeWhereOn means plan heap xs kept1.power kept1 kept' m1 v result) ids_are unmade))
