-- Plain commands of a host that makes pipelines on use, by how their messages were answered: each is done as the rules say.
use Rattle.std.proofs.Common.{◌≡◌, refl, sym, ap, subst, ◌∙◌, ℕ, zero, suc, ◌<◌, List, [], ◌∷◌, map, length, get_or, Bool, true, false, Option, Some, None, Ok, Err, unwrap_or}
use Rattle.std.specs.Prelude.{if◌then◌else◌}
use Rattle.std.specs.List.{range_with_len}
use Rattle.std.specs.Option.{option_map_or, option_or, option_and_then}
use Rattle.std.proofs.lemmas.Bool.{true≢false, false≢true}
use Rattle.stream_law.specs.State.{FwState}
use Rattle.stream_law.specs.Order.{is_among}
use Rattle.mbox_link.specs.Calls.{World, Meaning}
use Rattle.tplg_plan.specs.declared.plans.Plan.{Plan}
use Rattle.tplg_plan.specs.declared.plans.ControlPlan.{ControlPlan}
use Rattle.tplg_plan.specs.declared.plans.ControlKind.{ControlKind}
use Rattle.tplg_plan.specs.declared.plans.ControlKind.TheVariants.{Blob}
use Rattle.tplg_plan.specs.Sound.{IsSound, IsLive}
use Rattle.host_widgets.specs.declared.answers.Answer.TheVariants as answers
use Rattle.host_widgets.specs.declared.answers.HostFault.{HostFault}
use Rattle.host_widgets.specs.declared.answers.HostFault.TheVariants as faults
use Rattle.host_widgets.specs.declared.kept.ControlRec.{ControlRec}
use Rattle.host_widgets.specs.declared.kept.Power.{Power}
use Rattle.host_widgets.specs.declared.kept.Power.TheVariants as powers
use Rattle.host_widgets.specs.declared.kept.Record.{Record}
use Rattle.host_widgets.specs.ActLists.{part_acts}
use Rattle.host_widgets.specs.AnsweredOrders.{OrderAnswered, TestedAnswered}
use Rattle.host_widgets.specs.Host.{Outcome}
use Rattle.host_widgets.specs.HostActs.{Act, Part, Put, Prepare, Trig, Ask, with_values, with_blob}
use Rattle.host_widgets.specs.HostRecord.{no_stream}
use Rattle.host_widgets.specs.Kept.{control_at, with_control}
use Rattle.host_widgets.specs.Orders.{Procedure, sends}
use Rattle.host_widgets.specs.Routines.{JobTested}
use Rattle.mbox_link.specs.BlobParts.{parts}
use Rattle.host_pcm.specs.declared.asking.Ask.{Ask as Asking}
use Rattle.host_pcm.specs.declared.asking.Ask.TheVariants.{Opening, Preparing, Triggering, Closing}
use Rattle.host_pcm.specs.Asks.{stream_place, stream_at, asks_for_power, named_fault, early_fault}
use Rattle.host_pcm.specs.StreamCalls.{stream_caps, host_at}
use Rattle.host_pcm.specs.StreamOrders.{asking_order, stream_order}
use Rattle.host_pcm.proofs.HostTests.{Found_place, found_place}
use Rattle.host_pcm.proofs.StreamCalls.{ranges}
use Rattle.host_ctl.specs.ControlAsks.{channels_of, spread, setting_fault, set_fault, installing_fault, bytes_fault, read_fault, name_fault}
use Rattle.host_ctl.specs.ControlOrders.{setting_order, set_order, installing_order, bytes_order, control_answer, ask_acts, reading_order, read_order, KeptAlone}
use Rattle.host_ctl.specs.ControlPlaces.{control_place, control_here, record_here}
use Rattle.host_ctl.proofs.BlobTests.{installable}
use Rattle.host_ctl.proofs.ControlTests.{loaded, settable}
use Rattle.host_ctl.proofs.ControlsThere.{live, at-here, named-here}
use Rattle.host_widgets.specs.Named.{off_fault}
use Rattle.host_dynamic.specs.Dynamic.{plain_job, unsent, is_control_up, control_order, read_up_fault}
use Rattle.host_widgets.specs.UpState.{UpState, up_act_rules}
use Rattle.host_dynamic.specs.UpDevices.{up_state_in}
use Rattle.host_dynamic.specs.UpStates.{IsUpState}
use Rattle.host_dynamic.proofs.NamedControls.{at-place}
use Rattle.host_dynamic.proofs.UpAgreeing.{IsSwitched}
use Rattle.host_dynamic.proofs.UpAsked.{trigger-answered, params-answered, put-answered, install-answered, ask-answered}
use Rattle.host_widgets.proofs.UpContext.{comp-up-by}
use Rattle.host_dynamic.proofs.UpNamed.{found-at}
use Rattle.host_dynamic.proofs.UpOrders.{IsDoneSo, order-done, unsent-done}
use Rattle.host_widgets.proofs.UpSending.{StagedFirst}
use Rattle.host_widgets.proofs.UpStages.{index_of_id}
use Rattle.host_widgets.specs.Indices.{is_up}

module _ {D : Type 0} (means : Meaning D) (plan : Plan) (sound : IsSound plan) (heap : ℕ) (kept : Record) (up : List ℕ) (w : World D) (is : IsUpState plan (up_state_in means kept up w.device)) (switched : IsSwitched kept.power (means.on w.device)) where
  abbrev s : UpState
  s = up_state_in means kept up w.device

  -- the order's job was done where no test fails; and the device is on then where the power is
  pub record HasTested (test : Option HostFault) (o : Procedure) (kept' : Record) (v : World D) (result : Outcome) : Type 0 where
    pub tested : JobTested means (up_act_rules plan) heap test (plain_job plan s o) s (up_state_in means kept' up v.device) w v result
    pub switched_then : IsSwitched kept'.power (means.on v.device)

  pub tested-by : (test : Option HostFault) (o : Procedure) (kept' : Record) (v : World D) (result : Outcome) → ((fault : HostFault) → test ≡ Some fault → (result ≡ Err fault) × (v ≡ w) × (kept' ≡ kept)) → (test ≡ None → IsDoneSo means plan heap up o kept kept' w v result) →
      HasTested test o kept' v result
  tested-by test o kept' v result early late = by test refl
    where
      by : (t : Option HostFault) → test ≡ t → HasTested test o kept' v result
      by None e = let d = late e in record {
        tested = record { early = λ fault is. absurd (cc (sym e ∙ is)); late = λ none. d.job };
        switched_then = d.switched_then;
      }
      by (Some x) e = let r = early x e in record {
        tested = record {
          early = λ fault is. (let r = early fault is in (r.0, r.1, λ i. up_state_in means (r.2 i) up (r.1 i).device));
          late = λ none. absurd (cc (sym e ∙ none));
        };
        switched_then = subst (λ (y : Record × World D). IsSwitched y.0.power (means.on y.1.device)) (λ i. (sym r.2 i, sym r.1 i)) switched;
      }

  -- the first part of a blob asks for nothing that is staged
  loose-parts : (comp : ℕ) (blob : List ℕ) (f : FwState) → StagedFirst (part_acts comp blob) f
  loose-parts comp blob f = by (parts blob)
    where
      by : (n : ℕ) → StagedFirst (map (Part comp blob) (range_with_len 0 n)) f
      by zero = tt
      by (suc n) = λ some. absurd (true≢false some)

  -- ---- streams

  module _ (name : List ℕ) where
    -- where no test fails, there is one
    place-of : (ask : Asking) → early_fault plan kept name ask ≡ None → (k : ℕ) × Found_place plan kept name ask k
    place-of ask none = by (stream_place plan name) refl
      where
        by : (o : Option ℕ) → stream_place plan name ≡ o → (k : ℕ) × Found_place plan kept name ask k
        by None e = absurd (cc (sym (ap (named_fault plan kept name ask) e) ∙ (loaded kept.power (named_fault plan kept name ask (stream_place plan name)) none).1))
        by (Some k) e = (k, found_place plan kept name ask (Ok k) k e none refl)

    -- parameters, and triggers
    pub ask-done : (ask : Asking) → asks_for_power ask ≡ true → (kept' : Record) (v : World D) (result : Outcome) → TestedAnswered means plan heap (early_fault plan kept name ask) (stream_order plan kept name ask) kept kept' w v result →
        HasTested (early_fault plan kept name ask) (stream_order plan kept name ask) kept' v result
    ask-done ask sending kept' v result t = tested-by (early_fault plan kept name ask) (stream_order plan kept name ask) kept' v result t.early (λ none.
        let r = place-of ask none in
        subst (λ (o : Option ℕ). OrderAnswered means plan heap (asking_order plan kept (host_at plan (unwrap_or o 0)) (stream_at kept (unwrap_or o 0)).found ask) kept kept' w v result →
        IsDoneSo means plan heap up (asking_order plan kept (host_at plan (unwrap_or o 0)) (stream_at kept (unwrap_or o 0)).found ask) kept kept' w v result) (sym r.1.place)
        (by ask r.0 r.1 sending) (t.late none))
      where
        by : (ask : Asking) (k : ℕ) → Found_place plan kept name ask k → asks_for_power ask ≡ true → OrderAnswered means plan heap (asking_order plan kept (host_at plan k) (stream_at kept k).found ask) kept kept' w v result →
            IsDoneSo means plan heap up (asking_order plan kept (host_at plan k) (stream_at kept k).found ask) kept kept' w v result
        by Opening k at none all = absurd (false≢true none)
        by Closing k at none all = absurd (false≢true none)
        by (Preparing params) k at some all = order-done plan means heap (λ now. now) (λ k. refl) kept up w is switched answers.Done (Prepare (host_at plan k) params ∷ []) kept' v result
            (λ on. params-answered plan sound s is on (host_at plan k) (get_or plan.streams k no_stream, stream_at kept k) (found-at plan sound s is k at.within) params (ranges (stream_caps plan k) params at.stood.range) at.stood.takes_it) (λ f. tt) all
        by (Triggering what) k at some all = order-done plan means heap (λ now. now) (λ k. refl) kept up w is switched answers.Done (Trig (host_at plan k) what ∷ []) kept' v result
            (λ on. trigger-answered plan sound s is on (host_at plan k) (get_or plan.streams k no_stream, stream_at kept k) (found-at plan sound s is k at.within) what at.stood.takes_it) (λ f. tt) all

  -- ---- controls

  module _ (name : List ℕ) where
    -- the component of a control that is up
    pub here-up : (i : ℕ) (low : i < length plan.controls) → control_place plan name ≡ Some i → is_control_up plan up name ≡ true → is_among up (index_of_id plan (control_here plan i).comp) ≡ true
    here-up i low at here =
        let there : IsLive plan.graph (control_here plan i) = live plan sound kept is.record_is i low in
        sym (comp-up-by plan sound up (control_here plan i).comp there.comp there.there)
        ∙ ap (λ (o : Option ControlPlan). option_map_or (λ (k : ControlPlan). is_up plan.graph up k.comp) o true) (sym (named-here plan sound kept is.record_is i low name at)) ∙ here

    -- its order is done where it is up
    done-up : (test : Option HostFault) (o : Procedure) (kept' : Record) (v : World D) (result : Outcome) → is_control_up plan up name ≡ true → (test ≡ None → OrderAnswered means plan heap o kept kept' w v result → IsDoneSo means plan heap up o kept kept' w v result) →
        TestedAnswered means plan heap test o kept kept' w v result → HasTested test (control_order plan up name o) kept' v result
    done-up test o kept' v result here so t =
        subst (λ (x : Procedure). HasTested test x kept' v result) (ap (λ (b : Bool). if b then o else unsent o) (sym here)) (tested-by test o kept' v result t.early (λ none. so none (t.late none)))

    -- and in the record alone where it is down
    kept-down : (test : Option HostFault) (o : Procedure) (kept' : Record) (result : Outcome) → is_control_up plan up name ≡ false → (test ≡ None → kept' ≡ o.done kept → result ≡ Ok tt → IsDoneSo means plan heap up (unsent o) kept kept' w w result) →
        KeptAlone test o.done kept kept' result → HasTested test (control_order plan up name o) kept' w result
    kept-down test o kept' result down so t =
        subst (λ (x : Procedure). HasTested test x kept' w result) (ap (λ (b : Bool). if b then o else unsent o) (sym down))
        (tested-by test (unsent o) kept' w result (λ fault is. ((t.early fault is).0, refl, (t.early fault is).1)) (λ none. so none (t.late none).1 (t.late none).0))

    unsent-so : (comp : ℕ) (g : ControlRec → ControlRec) (acts : List Act) (kept' : Record) (result : Outcome) → kept' ≡ (sends kept.power acts (with_control plan comp g) answers.Done).done kept → result ≡ Ok tt →
        IsDoneSo means plan heap up (unsent (sends kept.power acts (with_control plan comp g) answers.Done)) kept kept' w w result
    unsent-so comp g acts kept' result left ok = unsent-done plan means heap (with_control plan comp g) (λ now. refl) kept up w is switched answers.Done kept.power acts kept' w result (left ∙ done-of kept.power) refl ok
      where
        done-of : (power : Power) → (sends power acts (with_control plan comp g) answers.Done).done kept ≡ with_control plan comp g kept
        done-of powers.On = refl
        done-of power = refl

    -- ---- values

    pub set-done : (values : List ℕ) (kept' : Record) (v : World D) (result : Outcome) → is_control_up plan up name ≡ true → TestedAnswered means plan heap (set_fault plan kept name values) (set_order plan kept name values) kept kept' w v result →
        HasTested (set_fault plan kept name values) (control_order plan up name (set_order plan kept name values)) kept' v result
    set-done values kept' v result here = done-up (set_fault plan kept name values) (set_order plan kept name values) kept' v result here (λ none. at-place plan sound kept is.record_is name (setting_fault name values) (faults.NoSuch name) refl none
        (λ (o : Option ControlPlan). OrderAnswered means plan heap (setting_order plan kept values o) kept kept' w v result → IsDoneSo means plan heap up (setting_order plan kept values o) kept kept' w v result)
        (λ i low at passes.
        let k = control_here plan i in
        let there = live plan sound kept is.record_is i low in
        let all_values : List ℕ = spread (unwrap_or (channels_of k.kind) 0) values in
        order-done plan means heap (with_control plan k.comp (with_values all_values)) (λ now. refl) kept up w is switched answers.Done (Put k.comp all_values ∷ []) kept' v result
        (λ on. put-answered plan sound s is on i low (here-up i low at here) all_values (settable name k.kind values there.comp.kind there.kind passes).may) (λ f. tt)))

    pub set-kept : (values : List ℕ) (kept' : Record) (result : Outcome) → is_control_up plan up name ≡ false → KeptAlone (set_fault plan kept name values) (set_order plan kept name values).done kept kept' result →
        HasTested (set_fault plan kept name values) (control_order plan up name (set_order plan kept name values)) kept' w result
    set-kept values kept' result down = kept-down (set_fault plan kept name values) (set_order plan kept name values) kept' result down (λ none. at-place plan sound kept is.record_is name (setting_fault name values) (faults.NoSuch name) refl none
        (λ (o : Option ControlPlan). kept' ≡ (setting_order plan kept values o).done kept → result ≡ Ok tt → IsDoneSo means plan heap up (unsent (setting_order plan kept values o)) kept kept' w w result)
        (λ i low at passes. unsent-so (control_here plan i).comp (with_values (spread (unwrap_or (channels_of (control_here plan i).kind) 0) values)) (Put (control_here plan i).comp (spread (unwrap_or (channels_of (control_here plan i).kind) 0) values) ∷ []) kept' result))

    -- ---- a blob

    pub bytes-done : (blob : List ℕ) (kept' : Record) (v : World D) (result : Outcome) → is_control_up plan up name ≡ true → TestedAnswered means plan heap (bytes_fault plan kept name blob) (bytes_order plan kept name blob) kept kept' w v result →
        HasTested (bytes_fault plan kept name blob) (control_order plan up name (bytes_order plan kept name blob)) kept' v result
    bytes-done blob kept' v result here = done-up (bytes_fault plan kept name blob) (bytes_order plan kept name blob) kept' v result here (λ none. at-place plan sound kept is.record_is name (installing_fault name blob) (faults.NoSuch name) refl none
        (λ (o : Option ControlPlan). OrderAnswered means plan heap (installing_order plan kept blob o) kept kept' w v result → IsDoneSo means plan heap up (installing_order plan kept blob o) kept kept' w v result)
        (λ i low at passes.
        let k = control_here plan i in
        order-done plan means heap (with_control plan k.comp (with_blob blob)) (λ now. refl) kept up w is switched answers.Done (part_acts k.comp blob) kept' v result
        (λ on. install-answered plan sound s is on i low (here-up i low at here) blob (installable name k.kind blob passes)) (loose-parts k.comp blob)))

    pub bytes-kept : (blob : List ℕ) (kept' : Record) (result : Outcome) → is_control_up plan up name ≡ false → KeptAlone (bytes_fault plan kept name blob) (bytes_order plan kept name blob).done kept kept' result →
        HasTested (bytes_fault plan kept name blob) (control_order plan up name (bytes_order plan kept name blob)) kept' w result
    bytes-kept blob kept' result down = kept-down (bytes_fault plan kept name blob) (bytes_order plan kept name blob) kept' result down (λ none. at-place plan sound kept is.record_is name (installing_fault name blob) (faults.NoSuch name) refl none
        (λ (o : Option ControlPlan). kept' ≡ (installing_order plan kept blob o).done kept → result ≡ Ok tt → IsDoneSo means plan heap up (unsent (installing_order plan kept blob o)) kept kept' w w result)
        (λ i low at passes. unsent-so (control_here plan i).comp (with_blob blob) (part_acts (control_here plan i).comp blob) kept' result))

    -- ---- what is asked for

    -- what is up has no test of its own
    read-test : is_control_up plan up name ≡ true → read_fault plan kept name ≡ read_up_fault plan s name
    read-test here = by (read_fault plan kept name) ∙ ap (λ (b : Bool). option_or (read_fault plan kept name) (if b then None else Some faults.Off)) (sym here)
      where
        by : (o : Option HostFault) → o ≡ option_or o None
        by None = refl
        by (Some x) = refl

    loose-asks : (comp : ℕ) (kind : ControlKind) (c : ControlRec) (f : FwState) → StagedFirst (ask_acts comp kind c) f
    loose-asks comp (Blob most initial) c f = by (parts c.blob)
      where
        by : (n : ℕ) → StagedFirst (map (Ask comp) (range_with_len 0 n)) f
        by zero = tt
        by (suc n) = tt
    loose-asks comp kind c f = tt

    pub read-done : (kept' : Record) (v : World D) (result : Outcome) → is_control_up plan up name ≡ true → TestedAnswered means plan heap (read_fault plan kept name) (read_order plan kept name) kept kept' w v result →
        HasTested (read_up_fault plan s name) (read_order plan kept name) kept' v result
    read-done kept' v result here t =
        subst (λ (test : Option HostFault). HasTested test (read_order plan kept name) kept' v result) (read-test here)
        (tested-by (read_fault plan kept name) (read_order plan kept name) kept' v result t.early (λ none. at-place plan sound kept is.record_is name (λ o. name_fault name o (off_fault kept.power)) (faults.NoSuch name) refl none
        (λ (o : Option ControlPlan). Reads (option_and_then (λ (x : ControlPlan). control_at plan kept x.comp) o))
        (λ i low at passes.
        let k = control_here plan i in
        let r = record_here kept i in
        subst Reads (sym (at-here plan sound kept is.record_is i low))
        (order-done plan means heap (λ now. now) (λ now. refl) kept up w is switched (control_answer k.kind r) (ask_acts k.comp k.kind r) kept' v result
        (λ on. ask-answered plan sound s is on i low (here-up i low at here) k.kind refl) (loose-asks k.comp k.kind r)))
        (t.late none)))
      where
        Reads : Option (ControlPlan × ControlRec) → Type 0
        Reads o = OrderAnswered means plan heap (reading_order kept o) kept kept' w v result → IsDoneSo means plan heap up (reading_order kept o) kept kept' w v result
