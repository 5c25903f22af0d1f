-- Commands on the control of a name lead on.
use Rattle.std.proofs.Common.{◌≡◌, refl, sym, ap, subst, ◌∙◌, ℕ, zero, suc, ◌+◌, ◌<◌, ◌≤◌, List, [], ◌∷◌, map, Bool, true, false, cond, length, Option, Some, None, unwrap_or, arith}
use Rattle.std.specs.Prelude.{if◌then◌else◌, option_and_then}
use Rattle.std.specs.Option.{option_map, option_map_or, option_or}
use Rattle.std.specs.List.{range_with_len, AllByRecursion}
use Rattle.std.proofs.lemmas.Bool.{true≢false}
use Rattle.sof_base.specs.BlobFaults.{is_blob}
use Rattle.stream_law.specs.declared.graph.Kind.{Kind}
use Rattle.stream_law.specs.declared.graph.Setting.TheVariants as settings
use Rattle.stream_law.specs.State.{FwState}
use Rattle.stream_law.specs.Order.{is_among}
use Rattle.mbox_link.specs.BlobParts.{is_last, parts, part_numbers}
use Rattle.mbox_link.specs.Step.{row}
use Rattle.tplg_plan.specs.declared.plans.Plan.{Plan}
use Rattle.tplg_plan.specs.declared.plans.ControlPlan.{ControlPlan}
use Rattle.tplg_plan.specs.declared.plans.ControlKind.{ControlKind}
use Rattle.tplg_plan.specs.declared.plans.ControlKind.TheVariants.{Blob}
use Rattle.tplg_plan.specs.Sound.{IsLive, IsSound}
use Rattle.host_widgets.specs.declared.answers.Answer.TheVariants as answers
use Rattle.host_widgets.specs.declared.answers.HostFault.{HostFault}
use Rattle.host_widgets.specs.declared.answers.HostFault.TheVariants as faults
use Rattle.host_widgets.specs.declared.kept.Power.TheVariants as powers
use Rattle.host_widgets.specs.declared.kept.ControlRec.{ControlRec}
use Rattle.host_widgets.specs.declared.kept.Record.{Record}
use Rattle.host_widgets.specs.ActLists.{part_acts}
use Rattle.host_widgets.specs.ActMessages.{act_message}
use Rattle.host_widgets.specs.Host.{IsRecordOf}
use Rattle.host_widgets.specs.HostActs.{Put, Part, Ask, with_values, with_blob, Act}
use Rattle.host_widgets.specs.Kept.{control_at, with_control}
use Rattle.host_widgets.specs.Named.{is_named, off_fault}
use Rattle.host_widgets.specs.Routines.{Job}
use Rattle.host_widgets.specs.ViewOf.{record_setting}
use Rattle.host_widgets.proofs.PartFacts.{few-parts, more-behind, none-behind}
use Rattle.host_ctl.specs.ControlAnswers.{MaySet, MayInstall}
use Rattle.host_ctl.specs.ControlAsks.{named_control, channels_of, spread, setting_fault, set_fault, installing_fault, bytes_fault, name_fault, read_fault}
use Rattle.host_ctl.specs.ControlOrders.{put_order, setting_order, set_order, bytes_order_at, installing_order, bytes_order, control_answer, ask_acts, named_at, reading_order, read_order}
use Rattle.host_ctl.specs.ControlPlaces.{control_place, control_here, record_here}
use Rattle.host_ctl.proofs.BlobCalls.{a-blob, an-equaliser, now-record}
use Rattle.host_ctl.proofs.BlobTests.{bytes-pass, installable}
use Rattle.host_ctl.proofs.ControlTests.{loaded, place-low, settable, set-passes}
use Rattle.host_ctl.proofs.ControlsTaken.{set-all}
use Rattle.host_ctl.proofs.ControlsThere.{lost-here, live, at-here, named-here}
use Rattle.host_ctl.proofs.PutShows.{there-at}
use Rattle.host_ctl.proofs.PutStands.{put-record}
use Rattle.host_widgets.specs.There.{There, there_after, silent_state, by_part}
use Rattle.host_dynamic.specs.Dynamic.{plain_job, unsent, control_order, is_control_up, read_up_fault}
use Rattle.host_widgets.specs.UpState.{UpState, up_act_rules}
use Rattle.host_dynamic.specs.UpDevices.{there_on}
use Rattle.host_dynamic.specs.UpStates.{IsUpState}
use Rattle.host_widgets.proofs.RowsTold.{left-told}
use Rattle.host_dynamic.proofs.UpAsked.{put-answered, install-answered, ask-answered}
use Rattle.host_widgets.proofs.UpContext.{comp-up-by}
use Rattle.host_dynamic.proofs.UpControls.{put-told, blob-set, asks-stay}
use Rattle.host_widgets.proofs.UpSending.{StagedFirst}
use Rattle.host_widgets.proofs.UpStages.{IsStage, at_stage, index_of_id, up_stage}
use Rattle.host_dynamic.proofs.UpStanding.{there-stage, stage-there}
use Rattle.host_widgets.proofs.UpWalks.{Steps}
use Rattle.sof_session.proofs.UpPlainRows.{IsPlainly}
use Rattle.sof_session.proofs.OrderActs.{all-each}
use Rattle.sof_session.proofs.UpStandsLists.{PlaysAtStages, RowsAtStages}
use Rattle.sof_session.proofs.UpStandsJobs.{PlainRows, IsThereSo, EndsThereSo, so-there}
use Rattle.sof_session.proofs.UpStandsStreams.{Leads, sends-lead, unsent-leads}
use Rattle.host_widgets.specs.Indices.{is_up}

module _ (plan : Plan) (sound : IsSound plan) (plays : PlaysAtStages plan) (stage-rows : RowsAtStages plan) (plain-rows : PlainRows plan) (heap : ℕ) (device : Option FwState) (s : UpState) (is : IsUpState plan s)
    (there_is : s.there ≡ there_on device) (on_device : s.kept.power ≡ powers.On → (f : FwState) × (device ≡ Some f)) where
  abbrev LeadsSo : Job UpState Act → Type 0
  LeadsSo job = Leads plan sound plays stage-rows plain-rows heap device s is there_is on_device job

  abbrev ThereSo : UpState → Type 0
  ThereSo u = IsThereSo plan sound plays stage-rows plain-rows u

  abbrev EndsSo : UpState → Type 0
  EndsSo u = EndsThereSo plan sound plays stage-rows plain-rows u

  so : s.kept.power ≡ powers.On → ThereSo s
  so on = so-there plan sound plays stage-rows plain-rows s is on

  begun : s.kept.power ≡ powers.On → IsStage plan s.kept (up_stage plan s.up) s.there
  begun on = there-stage plan sound s (so on).there

  -- ---- the control at a place

  module _ (i : ℕ) (low : i < length plan.controls) where
    abbrev k : ControlPlan
    k = control_here plan i

    abbrev r : ControlRec
    r = record_here s.kept i

    abbrev here : IsLive plan.graph k
    here = live plan sound s.kept is.record_is i low

    up-is : is_up plan.graph s.up k.comp ≡ is_among s.up (index_of_id plan k.comp)
    up-is = comp-up-by plan sound s.up k.comp here.comp here.there

    -- ---- values

    module _ (values : List ℕ) (may : MaySet k.kind values) where
      abbrev put : Record → Record
      put = with_control plan k.comp (with_values values)

      abbrev put_state : UpState
      put_state = (up_act_rules plan).after (Put k.comp values) s

      put-record-is : IsRecordOf plan (put s.kept)
      put-record-is = put-record plan s.kept k.comp (with_values values) (λ c. refl) is.record_is (set-all plan sound s.kept is.record_is i low values may)

      put-ends : s.kept.power ≡ powers.On → is_among s.up (index_of_id plan k.comp) ≡ true → EndsSo put_state
      put-ends on has =
          let b = begun on in
          let t = at_stage plan s.kept (up_stage plan s.up) s.there.heap in
          let now = at_stage plan (put s.kept) (up_stage plan s.up) s.there.heap in
          let at : there_after plan (Put k.comp values) s.there ≡ now =
          ap (there_after plan (Put k.comp values)) b.is ∙ left-told t (row (silent_state t) (act_message plan (Put k.comp values))) now (put-told plan sound s is i low values may has s.there.heap) in
          record { record_is = put-record-is; there = stage-there plan sound put_state (subst (IsStage plan (put s.kept) (up_stage plan s.up)) (sym at) (record { is = refl; heap = b.heap })) }

      pub put-leads : LeadsSo (plain_job plan s (if is_up plan.graph s.up k.comp then put_order plan s.kept k.comp values else unsent (put_order plan s.kept k.comp values)))
      put-leads = by (is_up plan.graph s.up k.comp) refl
        where
          by : (b : Bool) → is_up plan.graph s.up k.comp ≡ b → LeadsSo (plain_job plan s (if b then put_order plan s.kept k.comp values else unsent (put_order plan s.kept k.comp values)))
          by true e = sends-lead plan sound plays stage-rows plain-rows heap device s is there_is on_device (Put k.comp values ∷ []) put answers.Done (λ on. record {
            plainly = (tt, tt);
            answered = put-answered plan sound s is on i low (sym up-is ∙ e) values may;
            loose = λ f. tt;
            steps = (so on, λ free. put-ends on (sym up-is ∙ e));
          })
          by false e = unsent-leads plan sound plays stage-rows plain-rows heap device s is there_is on_device (Put k.comp values ∷ []) put answers.Done

    -- ---- a blob

    module _ (blob : List ℕ) (may : MayInstall k.kind blob) where
      abbrev install : Record → Record
      install = with_control plan k.comp (with_blob blob)

      install-record : IsRecordOf plan (install s.kept)
      install-record = now-record plan sound s.kept is.record_is i low blob may

      blob-at : record_setting here.comp.kind (control_at plan (install s.kept) k.comp) ≡ settings.Blob blob
      blob-at =
          ap (record_setting here.comp.kind)
          (there-at k.comp (with_blob blob) plan.controls s.kept.controls ∙ ap (option_map (λ (p : ControlPlan × ControlRec). (p.0, with_blob blob p.1))) (at-here plan sound s.kept is.record_is i low))
          ∙ ap (λ (kind : Kind). record_setting kind (Some (k, with_blob blob r))) (an-equaliser plan sound s.kept is.record_is i low blob may)

      whole-blob : is_blob blob ≡ true
      whole-blob = a-blob plan sound s.kept is.record_is i low blob may

      -- after a part, by whether it is the last
      abbrev part_then : Bool → UpState
      part_then last = record { kept = cond last (install s.kept) s.kept; up = s.up; there = by_part k.comp blob last s.there }

      module _ (on : s.kept.power ≡ powers.On) (has : is_among s.up (index_of_id plan k.comp) ≡ true) where
        last-ends : EndsSo (part_then true)
        last-ends =
            let b = begun on in
            let at : by_part k.comp blob true s.there ≡ at_stage plan (install s.kept) (up_stage plan s.up) s.there.heap =
            ap (by_part k.comp blob true) b.is ∙ blob-set plan sound s is k.comp (with_blob blob) here.comp here.there has s.there.heap blob blob-at in
            record { record_is = install-record; there = stage-there plan sound (part_then true) (subst (IsStage plan (install s.kept) (up_stage plan s.up)) (sym at) (record { is = refl; heap = b.heap })) }

        parts-steps : (n j : ℕ) → j + suc n ≡ parts blob → Steps plan ThereSo s (map (Part k.comp blob) (range_with_len j (suc n))) EndsSo
        parts-steps zero j all = (so on, λ free. by (is_last blob j) refl)
          where
            few : j < parts blob
            few = omega (arith, all)

            by : (b : Bool) → is_last blob j ≡ b → EndsSo (part_then (is_last blob j))
            by true e = subst (λ (b : Bool). EndsSo (part_then b)) (sym e) last-ends
            by false e = absurd (let more = (more-behind blob whole-blob j few e).0 in omega (arith, all, more))
        parts-steps (suc n) j all = (so on, λ free. by (is_last blob j) refl (parts-steps n (j + 1) (let rest : (j + 1) + suc n ≡ parts blob = omega (arith, all) in rest)))
          where
            few : j < parts blob
            few = omega (arith, all)

            Rest : Bool → Type 0
            Rest last = Steps plan ThereSo (part_then last) (map (Part k.comp blob) (range_with_len (j + 1) (suc n))) EndsSo

            by : (b : Bool) → is_last blob j ≡ b → Rest false → Rest (is_last blob j)
            by true e rest = absurd (let none = none-behind blob whole-blob j few e in omega (arith, all, none))
            by false e rest = subst Rest (sym e) rest

        all-steps : Steps plan ThereSo s (part_acts k.comp blob) EndsSo
        all-steps = by (parts blob) refl (few-parts blob whole-blob).0
          where
            by : (n : ℕ) → parts blob ≡ n → 1 ≤ n → Steps plan ThereSo s (map (Part k.comp blob) (range_with_len 0 n)) EndsSo
            by zero same some = absurd (omega (arith, some))
            by (suc n) same some = parts-steps n 0 (let all : 0 + suc n ≡ parts blob = omega (arith, same) in all)

      loose-parts : (f : FwState) → StagedFirst (part_acts k.comp blob) f
      loose-parts f = by (parts blob)
        where
          by : (m : ℕ) → StagedFirst (map (Part k.comp blob) (range_with_len 0 m)) f
          by zero = tt
          by (suc m) = λ some. absurd (true≢false some)

      pub install-leads : LeadsSo (plain_job plan s (if is_up plan.graph s.up k.comp then bytes_order_at plan s.kept k.comp blob else unsent (bytes_order_at plan s.kept k.comp blob)))
      install-leads = by (is_up plan.graph s.up k.comp) refl
        where
          by : (b : Bool) → is_up plan.graph s.up k.comp ≡ b → LeadsSo (plain_job plan s (if b then bytes_order_at plan s.kept k.comp blob else unsent (bytes_order_at plan s.kept k.comp blob)))
          by true e = sends-lead plan sound plays stage-rows plain-rows heap device s is there_is on_device (part_acts k.comp blob) install answers.Done (λ on. record {
            plainly = all-each IsPlainly (Part k.comp blob) (λ j. tt) (part_numbers blob);
            answered = install-answered plan sound s is on i low (sym up-is ∙ e) blob may;
            loose = loose-parts;
            steps = all-steps on (sym up-is ∙ e);
          })
          by false e = unsent-leads plan sound plays stage-rows plain-rows heap device s is there_is on_device (part_acts k.comp blob) install answers.Done

    -- ---- what is asked for

    asks-steps : s.kept.power ≡ powers.On → (js : List ℕ) → Steps plan ThereSo s (map (Ask k.comp) js) EndsSo
    asks-steps on [] = let x = so on in record { record_is = x.record_is; there = x.there }
    asks-steps on (j ∷ js) = (
      so on,
      λ free. subst (λ (t : There). Steps plan ThereSo (record { kept = s.kept; up = s.up; there = t }) (map (Ask k.comp) js) EndsSo) (sym (asks-stay plan k.comp j s.there)) (asks-steps on js),
    )

    asked-steps : s.kept.power ≡ powers.On → (kind : ControlKind) → Steps plan ThereSo s (ask_acts k.comp kind r) EndsSo
    asked-steps on (Blob most initial) = asks-steps on (part_numbers r.blob)
    asked-steps on kind = asks-steps on (0 ∷ [])

    plain-asks : (kind : ControlKind) → AllByRecursion IsPlainly (ask_acts k.comp kind r)
    plain-asks (Blob most initial) = all-each IsPlainly (Ask k.comp) (λ j. tt) (part_numbers r.blob)
    plain-asks kind = (tt, tt)

    loose-asks : (kind : ControlKind) (f : FwState) → StagedFirst (ask_acts k.comp kind r) f
    loose-asks (Blob most initial) f = by (parts r.blob)
      where
        by : (n : ℕ) → StagedFirst (map (Ask k.comp) (range_with_len 0 n)) f
        by zero = tt
        by (suc n) = tt
    loose-asks kind f = tt

    pub ask-leads : is_among s.up (index_of_id plan k.comp) ≡ true → LeadsSo (plain_job plan s (reading_order s.kept (Some (k, r))))
    ask-leads has = sends-lead plan sound plays stage-rows plain-rows heap device s is there_is on_device (ask_acts k.comp k.kind r) (λ now. now) (control_answer k.kind r) (λ on. record {
      plainly = plain-asks k.kind;
      answered = ask-answered plan sound s is on i low has k.kind refl;
      loose = loose-asks k.kind;
      steps = asked-steps on k.kind;
    })

  -- ---- the control of a name

  module _ (name : List ℕ) where
    lost : control_place plan name ≡ None → named_control plan name ≡ None
    lost at = lost-here (λ (k : ControlPlan). is_named plan name k.comp) plan.controls at

    pub set-leads : (values : List ℕ) → set_fault plan s.kept name values ≡ None → LeadsSo (plain_job plan s (control_order plan s.up name (set_order plan s.kept name values)))
    set-leads values none = by (control_place plan name) refl
      where
        passes : (s.kept.power ≡ powers.Unloaded → ⊥) × (setting_fault name values (named_control plan name) ≡ None)
        passes = loaded s.kept.power (setting_fault name values (named_control plan name)) none

        by : (place : Option ℕ) → control_place plan name ≡ place → LeadsSo (plain_job plan s (control_order plan s.up name (set_order plan s.kept name values)))
        by None at = absurd (cc (sym (ap (setting_fault name values) (lost at)) ∙ passes.1))
        by (Some i) at =
            let low = place-low plan name i at in
            let k = control_here plan i in
            let named = named-here plan sound s.kept is.record_is i low name at in
            let there = live plan sound s.kept is.record_is i low in
            let fits = settable name k.kind values there.comp.kind there.kind (set-passes plan s.kept name values k named none) in
            subst (λ (o : Option ControlPlan). LeadsSo (plain_job plan s (if option_map_or (λ (x : ControlPlan). is_up plan.graph s.up x.comp) o true then setting_order plan s.kept values o else unsent (setting_order plan s.kept values o)))) (sym named)
            (put-leads i low (spread (unwrap_or (channels_of k.kind) 0) values) fits.may)

    pub bytes-lead : (blob : List ℕ) → bytes_fault plan s.kept name blob ≡ None → LeadsSo (plain_job plan s (control_order plan s.up name (bytes_order plan s.kept name blob)))
    bytes-lead blob none = by (control_place plan name) refl
      where
        passes : (s.kept.power ≡ powers.Unloaded → ⊥) × (installing_fault name blob (named_control plan name) ≡ None)
        passes = loaded s.kept.power (installing_fault name blob (named_control plan name)) none

        by : (place : Option ℕ) → control_place plan name ≡ place → LeadsSo (plain_job plan s (control_order plan s.up name (bytes_order plan s.kept name blob)))
        by None at = absurd (cc (sym (ap (installing_fault name blob) (lost at)) ∙ passes.1))
        by (Some i) at =
            let low = place-low plan name i at in
            let k = control_here plan i in
            let named = named-here plan sound s.kept is.record_is i low name at in
            let may = installable name k.kind blob (bytes-pass plan s.kept name blob k named none) in
            subst (λ (o : Option ControlPlan). LeadsSo (plain_job plan s (if option_map_or (λ (x : ControlPlan). is_up plan.graph s.up x.comp) o true then installing_order plan s.kept blob o else unsent (installing_order plan s.kept blob o)))) (sym named)
            (install-leads i low blob may)

    -- what is asked of the firmware is up
    both-none : (a b : Option HostFault) → option_or a b ≡ None → (a ≡ None) × (b ≡ None)
    both-none None b is = (refl, is)
    both-none (Some x) b is = absurd (cc is)

    is-up-so : (b : Bool) → ◌≡◌ {A = Option HostFault} (if b then None else Some faults.Off) None → b ≡ true
    is-up-so true none = refl
    is-up-so false none = absurd (cc none)

    pub read-leads : read_up_fault plan s name ≡ None → LeadsSo (plain_job plan s (read_order plan s.kept name))
    read-leads none = by (control_place plan name) refl
      where
        tests : (read_fault plan s.kept name ≡ None) × (◌≡◌ {A = Option HostFault} (if is_control_up plan s.up name then None else Some faults.Off) None)
        tests = both-none (read_fault plan s.kept name) (if is_control_up plan s.up name then None else Some faults.Off) none

        passes : name_fault name (named_control plan name) (off_fault s.kept.power) ≡ None
        passes = (loaded s.kept.power (name_fault name (named_control plan name) (off_fault s.kept.power)) tests.0).1

        by : (place : Option ℕ) → control_place plan name ≡ place → LeadsSo (plain_job plan s (read_order plan s.kept name))
        by None at = absurd (cc (sym (ap (λ (o : Option ControlPlan). name_fault name o (off_fault s.kept.power)) (lost at)) ∙ passes))
        by (Some i) at =
            let low = place-low plan name i at in
            let k = control_here plan i in
            let r = record_here s.kept i in
            let named : named_control plan name ≡ Some k = named-here plan sound s.kept is.record_is i low name at in
            let there : named_at plan s.kept name ≡ Some (k, r) = ap (option_and_then (λ (x : ControlPlan). control_at plan s.kept x.comp)) named ∙ at-here plan sound s.kept is.record_is i low in
            let has : is_among s.up (index_of_id plan k.comp) ≡ true =
            sym (up-is i low) ∙ ap (λ (o : Option ControlPlan). option_map_or (λ (x : ControlPlan). is_up plan.graph s.up x.comp) o true) (sym named) ∙ is-up-so (is_control_up plan s.up name) tests.1 in
            subst (λ (o : Option (ControlPlan × ControlRec)). LeadsSo (plain_job plan s (reading_order s.kept o))) (sym there) (ask-leads i low has)
