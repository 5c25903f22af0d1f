-- Controls that are set, and controls that are asked for, leave what is up there.
use Rattle.std.proofs.Common.{◌≡◌, refl, sym, ap, subst, ◌∙◌, ℕ, zero, suc, ◌+◌, ◌<◌, ◌≤◌, List, [], ◌∷◌, map, length, get_or, Bool, true, false, not, cond, ◌==◌, Option, Some, None, Ok, Err, unwrap_or, arith}
use Rattle.std.specs.Prelude.{if◌then◌else◌, option_and_then, is_some}
use Rattle.std.specs.Option.{option_map, option_map_or}
use Rattle.std.specs.List.{list_all, range_with_len}
use Rattle.std.proofs.lemmas.Bool.{true≢false, eqb-true, eq-eqb, and_from, false_from_ne_true}
use Rattle.std.proofs.lemmas.List.{length-map}
use Rattle.sof_base.specs.BlobFaults.{is_blob}
use Rattle.stream_law.specs.declared.graph.Kind.{Kind}
use Rattle.stream_law.specs.declared.graph.Kind.TheVariants as kinds
use Rattle.stream_law.specs.declared.graph.Setting.{Setting}
use Rattle.stream_law.specs.declared.graph.Setting.TheVariants as settings
use Rattle.stream_law.specs.declared.graph.Comp.{Comp}
use Rattle.stream_law.specs.declared.graph.Graph.{Graph}
use Rattle.stream_law.specs.State.{FwState, HeapView}
use Rattle.stream_law.specs.Ways.{comp_of, is_of}
use Rattle.stream_law.specs.Seen.{seen, is_volume}
use Rattle.stream_law.specs.Order.{is_among}
use Rattle.stream_law.proofs.Members.{IsIn, in-all, in-each, kept-in}
use Rattle.ipc3_model.specs.declared.message.Message.{Message}
use Rattle.ipc3_model.specs.declared.message.Message.TheVariants.{SetValue, GetValue, GetData}
use Rattle.ipc3_model.specs.declared.control_kind.TheConstants.{CTRL_VOLUME, CTRL_ENUM, CTRL_SWITCH}
use Rattle.mbox_link.specs.BlobParts.{is_last, parts, part_numbers}
use Rattle.mbox_link.specs.Meetings.{Meeting}
use Rattle.mbox_link.specs.Step.{row, is_used, new_setting, with_setting, with_setting_at, with_comps, value_set, control_values_at, part_at, no_device, invalid}
use Rattle.tplg_plan.specs.declared.plans.Plan.{Plan}
use Rattle.tplg_plan.specs.declared.plans.ControlPlan.{ControlPlan}
use Rattle.tplg_plan.specs.declared.plans.ControlKind.{ControlKind}
use Rattle.tplg_plan.specs.declared.plans.ControlKind.TheVariants.{Volume, Choice, Blob, Masks}
use Rattle.tplg_plan.specs.GainOf.{control_gain}
use Rattle.tplg_plan.specs.Sound.{IsControlOf, IsLive, IsSound}
use Rattle.host_widgets.specs.declared.answers.Answer.TheVariants as answers
use Rattle.host_widgets.specs.declared.answers.HostFault.TheVariants as faults
use Rattle.host_widgets.specs.declared.kept.Power.{Power}
use Rattle.host_widgets.specs.declared.kept.Power.TheVariants as powers
use Rattle.host_widgets.specs.declared.kept.ControlRec.{ControlRec}
use Rattle.host_widgets.specs.declared.kept.Record.{Record}
use Rattle.host_widgets.specs.ActLists.{part_acts}
use Rattle.host_widgets.specs.ActMessages.{act_message, set_message, get_message, ask_message}
use Rattle.host_widgets.specs.Controls.{control_of, eight_masks}
use Rattle.host_widgets.specs.Host.{IsRecordOf}
use Rattle.host_widgets.specs.HostActs.{Act, Put, Part, Ask, with_values, with_blob}
use Rattle.host_widgets.specs.Kept.{changed, control_at, with_control}
use Rattle.host_widgets.specs.Orders.{sends}
use Rattle.host_widgets.specs.ViewOf.{set_comp, record_setting}
use Rattle.host_widgets.proofs.ControlLists.{takes-by}
use Rattle.host_widgets.proofs.EightMasks.{is_mask, eight, few-masks, ranged-masks}
use Rattle.host_widgets.proofs.GreatestGains.{gains-are}
use Rattle.host_widgets.proofs.Joined.{edge_with}
use Rattle.host_widgets.proofs.LookedUp.{found-is, map-all}
use Rattle.host_widgets.proofs.NamedIds.{each-comp}
use Rattle.host_widgets.proofs.PartFacts.{few-parts, more-behind, none-behind, none-empty}
use Rattle.host_ctl.specs.ControlAnswers.{MaySet, MayInstall}
use Rattle.host_ctl.specs.ControlAsks.{named_control, channels_of, spread, setting_fault, set_fault, installing_fault, bytes_fault}
use Rattle.host_ctl.specs.ControlOrders.{put_order, setting_order, set_order, bytes_order_at, installing_order, bytes_order, control_answer, ask_acts, named_at, reading_order, read_order}
use Rattle.host_ctl.specs.ControlPlaces.{control_here, record_here}
use Rattle.host_ctl.proofs.BlobCalls.{a-blob, an-equaliser, now-record}
use Rattle.host_ctl.proofs.BlobTests.{installable}
use Rattle.host_ctl.proofs.ControlTests.{loaded, settable}
use Rattle.host_ctl.proofs.ControlsTaken.{set-all, puts}
use Rattle.host_ctl.proofs.ControlsThere.{Was, live, at-here, was-here}
use Rattle.host_ctl.proofs.PutAnswers.{control, gains-new}
use Rattle.host_ctl.proofs.PutShows.{AreKind, there-at, elsewhere-at, all-set}
use Rattle.host_ctl.proofs.PutStands.{put-record}
use Rattle.host_widgets.specs.There.{There, there_after, row_left, silent_state, by_part}
use Rattle.host_dynamic.specs.Dynamic.{plain_job, unsent, control_order}
use Rattle.host_widgets.specs.UpState.{UpState, settled}
use Rattle.host_dynamic.specs.UpStates.{IsThereBy, IsUpState}
use Rattle.host_widgets.proofs.RowsTold.{told, left-told}
use Rattle.host_widgets.proofs.StageBetween.{comp-at}
use Rattle.host_widgets.proofs.StageJoins.{used-comp}
use Rattle.host_widgets.proofs.UpContext.{comp-up-by}
use Rattle.host_dynamic.proofs.NamedControls.{at-place}
use Rattle.host_dynamic.proofs.UpPlain.{settled-state, sends-keeps, unsent-keeps, quiet-keeps}
use Rattle.host_widgets.proofs.UpStages.{Stage, pipe_as, comps_left, edges_left, pipes_left, stage_graph, stage_streams, at_stage, IsStage, index_of_id, up_stage}
use Rattle.host_dynamic.proofs.UpStanding.{there-stage, stage-there}
use Rattle.host_dynamic.proofs.UpStreams.{begun, whole}
use Rattle.host_widgets.proofs.UpWalks.{Keeps, Steps}
use Rattle.host_widgets.specs.Indices.{is_up}

-- ---- a control is changed

module _ (plan : Plan) (sound : IsSound plan) (s : UpState) (is : IsUpState plan s) (id : ℕ) (g : ControlRec → ControlRec) where
  abbrev now : Record
  now = with_control plan id g s.kept

  abbrev st : Stage
  st = up_stage plan s.up

  abbrev left : There → UpState
  left t = record { kept = now; up = s.up; there = t }

  -- with it changed in the record, and what is there as it should be then
  control-state : IsRecordOf plan now → (t : There) → IsThereBy s.kept.power plan (left t) → IsUpState plan (left t)
  control-state record_is t is_there = record { record_is = record_is; up = is.up; once = is.once; there = is_there }

  -- where its component is down, the firmware shows as much
  apart-stage : is_among s.up (index_of_id plan id) ≡ false → (h : HeapView) → at_stage plan s.kept st h ≡ at_stage plan now st h
  apart-stage down h = λ i. record {
    heap = h;
    graph = record {
      comps = map-all (set_comp plan s.kept) (set_comp plan now) (comps_left plan st) (in-each (λ (c : Comp). set_comp plan s.kept c ≡ set_comp plan now c) (comps_left plan st) same) i;
      edges = map (edge_with st.joins) (edges_left plan st);
      pipes = map (pipe_as st.done) (pipes_left plan st);
      joins = st.joins;
    };
    streams = stage_streams plan s.kept st;
  }
    where
      same : (c : Comp) → IsIn c (comps_left plan st) → set_comp plan s.kept c ≡ set_comp plan now c
      same c there =
          let there_up = (kept-in (λ (x : Comp). st.has x.id) plan.graph.comps c there).1 in
          let other : (c.id == id) ≡ false = false_from_ne_true (c.id == id) (λ e. true≢false (sym there_up ∙ ap (λ (x : ℕ). is_among s.up (index_of_id plan x)) (eqb-true c.id id e) ∙ down)) in
          (λ i. record { id = c.id; kind = c.kind; pipe = c.pipe; setting = record_setting c.kind (sym (elsewhere-at id g c.id other plan.controls s.kept.controls) i); ramp = c.ramp })

  -- nothing is sent while the power is off, nor of a component that is down
  unsent-there : (s.kept.power ≡ powers.On → is_among s.up (index_of_id plan id) ≡ false) → (s.kept.power ≡ powers.Unloaded → ⊥) → IsThereBy s.kept.power plan (left s.there)
  unsent-there down some = by s.kept.power refl is.there
    where
      by : (power : Power) → s.kept.power ≡ power → IsThereBy power plan s → IsThereBy power plan (left s.there)
      by powers.On e was = let at = there-stage plan sound s was in stage-there plan sound (left s.there) (record { is = at.is ∙ apart-stage (down e) s.there.heap; heap = at.heap })
      by powers.Off e was = was
      by powers.Unloaded e was = absurd (some e)

  pub unsent-done : IsRecordOf plan now → (s.kept.power ≡ powers.On → is_among s.up (index_of_id plan id) ≡ false) → (s.kept.power ≡ powers.Unloaded → ⊥) → IsUpState plan (settled now s)
  unsent-done record_is down some = settled-state plan sound (left s.there) (control-state record_is s.there (unsent-there down some))

  -- ---- with the firmware

  module _ (c : Comp) (found : comp_of plan.graph id ≡ Some c) (has : is_among s.up (index_of_id plan id) ≡ true) where
    kinds-same : AreKind id c.kind (comps_left plan st)
    kinds-same = in-each (λ (d : Comp). (d.id == id) ≡ true → d.kind ≡ c.kind) (comps_left plan st) (λ d there e.
        let r = kept-in (λ (x : Comp). st.has x.id) plan.graph.comps d there in
        let own = in-all (λ (x : Comp). comp_of plan.graph x.id ≡ Some x) plan.graph.comps d (each-comp plan sound) r.0 in
        let one : d ≡ c = cc (sym own ∙ ap (comp_of plan.graph) (eqb-true d.id id e) ∙ found) in
        ap (λ (x : Comp). x.kind) one)

    graph-set : (setting : Setting) → record_setting c.kind (control_at plan now id) ≡ setting → with_comps (map (with_setting id setting) (stage_graph plan s.kept st).comps) (stage_graph plan s.kept st) ≡ stage_graph plan now st
    graph-set setting at = λ i. record {
      comps = all-set plan s.kept id g c.kind setting at (comps_left plan st) kinds-same i;
      edges = map (edge_with st.joins) (edges_left plan st);
      pipes = map (pipe_as st.done) (pipes_left plan st);
      joins = st.joins;
    }

    module _ (h : HeapView) where
      abbrev old : Graph
      old = stage_graph plan s.kept st

      abbrev f : FwState
      f = silent_state (at_stage plan s.kept st h)

      -- by values
      pub value-set : (command : ℕ) (values : List ℕ) (setting : Setting) → new_setting c.kind (record_setting c.kind (control_at plan s.kept id)) command values ≡ Some setting → record_setting c.kind (control_at plan now id) ≡ setting →
          told (row f (SetValue id command values)) ≡ Ok (at_stage plan now st h)
      value-set command values setting new at = by (is_used old id) asked (used-comp plan sound s.kept st (whole plan sound s.up id s) id c found has) asked-is
        where
          asked : Option Setting
          asked = option_and_then (λ (x : Comp). new_setting x.kind x.setting command values) (comp_of old id)

          same-id : c.id ≡ id
          same-id = found-is (λ (x : Comp). x.id) plan.graph.comps id c found

          asked-is : asked ≡ Some setting
          asked-is =
              ap (option_and_then (λ (x : Comp). new_setting x.kind x.setting command values)) (comp-at plan sound s.kept st id c found has)
              ∙ ap (λ (n : ℕ). new_setting c.kind (record_setting c.kind (control_at plan s.kept n)) command values) same-id
              ∙ new

          end : (b : Bool) → told (Ok (cond b (seen (with_setting_at f id setting) (Some id) f) (record f { graph = (with_setting_at f id setting).graph }))) ≡ Ok (at_stage plan now st h)
          end true = λ i. Ok (record { heap = h; graph = graph-set setting at i; streams = stage_streams plan s.kept st })
          end false = λ i. Ok (record { heap = h; graph = graph-set setting at i; streams = stage_streams plan s.kept st })

          by : (b : Bool) (o : Option Setting) → b ≡ true → o ≡ Some setting → told (cond (not b) (Err no_device) (value_set f id o)) ≡ Ok (at_stage plan now st h)
          by b o used some = subst (λ (x : Bool × Option Setting). told (cond (not x.0) (Err no_device) (value_set f id x.1)) ≡ Ok (at_stage plan now st h)) (λ i. (sym used i, sym some i)) (end (is_of old is_volume id))

      -- by the last part of a blob
      pub blob-set : (blob : List ℕ) → record_setting c.kind (control_at plan now id) ≡ settings.Blob blob → by_part id blob true (at_stage plan s.kept st h) ≡ at_stage plan now st h
      blob-set blob at = λ i. record { heap = h; graph = graph-set (settings.Blob blob) at i; streams = stage_streams plan s.kept st }

  -- what is there has it set
  sent-state : IsRecordOf plan now → s.kept.power ≡ powers.On → (t : There) → t ≡ at_stage plan now st s.there.heap → IsUpState plan (left t)
  sent-state record_is on t at =
      control-state record_is t (subst (λ (power : Power). IsThereBy power plan (left t)) (sym on)
      (stage-there plan sound (left t) (subst (IsStage plan now st) (sym at) (record { is = refl; heap = (begun plan sound s.up id s is refl on).heap }))))

  -- a change that is made twice is made
  module _ (twice : (r : ControlRec) → g (g r) ≡ g r) where
    changed-twice : (ks : List ControlPlan) (rs : List ControlRec) → changed (λ (k : ControlPlan). k.comp) id g ks (changed (λ (k : ControlPlan). k.comp) id g ks rs) ≡ changed (λ (k : ControlPlan). k.comp) id g ks rs
    changed-twice [] rs = refl
    changed-twice (k ∷ ks) [] = refl
    changed-twice (k ∷ ks) (r ∷ rs) = λ i. by (k.comp == id) i ∷ changed-twice ks rs i
      where
        by : (b : Bool) → (if b then g (if b then g r else r) else (if b then g r else r)) ≡ (if b then g r else r)
        by true = twice r
        by false = refl

    now-twice : with_control plan id g now ≡ now
    now-twice = ap (λ (rs : List ControlRec). record { power = s.kept.power; streams = s.kept.streams; controls = rs }) (changed-twice plan.controls s.kept.controls)

    pub sent-done : IsRecordOf plan now → s.kept.power ≡ powers.On → (t : There) → t ≡ at_stage plan now st s.there.heap → IsUpState plan (settled (with_control plan id g now) (left t))
    sent-done record_is on t at = subst (λ (kept : Record). IsUpState plan (settled kept (left t))) (sym now-twice) (settled-state plan sound (left t) (sent-state record_is on t at))

-- ---- the control at a place

module _ (plan : Plan) (sound : IsSound plan) (s : UpState) (is : IsUpState plan s) (i : ℕ) (low : i < length plan.controls) where
  abbrev k : ControlPlan
  k = control_here plan i

  abbrev r : ControlRec
  r = record_here s.kept i

  abbrev here : IsLive plan.graph k
  here = live plan sound s.kept is.record_is i low

  up-is : is_up plan.graph s.up k.comp ≡ is_among s.up (index_of_id plan k.comp)
  up-is = comp-up-by plan sound s.up k.comp here.comp here.there

  -- it is changed in the record, and by these messages where it is up
  module _ (g : ControlRec → ControlRec) (acts : List Act) where
    abbrev change : Record → Record
    change = with_control plan k.comp g

    change-keeps : {Q : Type 0} (next : Q → Meeting × Q) (q : Q) → (s.kept.power ≡ powers.Unloaded → ⊥) → IsRecordOf plan (change s.kept) →
        (s.kept.power ≡ powers.On → is_among s.up (index_of_id plan k.comp) ≡ true → Steps plan (IsUpState plan) s acts (λ u. IsUpState plan (settled (change u.kept) u))) →
        Keeps plan next (IsUpState plan) s q (plain_job plan s (if is_up plan.graph s.up k.comp then sends s.kept.power acts change answers.Done else unsent (sends s.kept.power acts change answers.Done))).routine
    change-keeps {Q} next q some record_is steps = by (is_up plan.graph s.up k.comp) refl
      where
        by : (b : Bool) → is_up plan.graph s.up k.comp ≡ b → Keeps plan next (IsUpState plan) s q (plain_job plan s (if b then sends s.kept.power acts change answers.Done else unsent (sends s.kept.power acts change answers.Done))).routine
        by true e = sends-keeps plan sound next change s q acts answers.Done (λ on. steps on (sym up-is ∙ e)) (λ off. unsent-done plan sound s is k.comp g record_is (λ on. absurd (off on)) some)
        by false e = unsent-keeps plan sound next change s q s.kept.power acts answers.Done (unsent-done plan sound s is k.comp g record_is (λ on. sym up-is ∙ e) some)

  -- ---- values

  module _ (values : List ℕ) (may : MaySet k.kind values) where
    abbrev put : Record → Record
    put = with_control plan k.comp (with_values values)

    put-at : control_at plan (put s.kept) k.comp ≡ Some (k, with_values values r)
    put-at =
        there-at k.comp (with_values values) plan.controls s.kept.controls
        ∙ ap (option_map (λ (p : ControlPlan × ControlRec). (p.0, with_values values p.1))) (at-here plan sound s.kept is.record_is i low)

    put-record-is : IsRecordOf plan (put s.kept)
    put-record-is = put-record plan s.kept k.comp (with_values values) (λ c. refl) is.record_is (set-all plan sound s.kept is.record_is i low values may)

    module _ (has : is_among s.up (index_of_id plan k.comp) ≡ true) (h : HeapView) where
      abbrev t : There
      t = at_stage plan s.kept (up_stage plan s.up) h

      -- one that is set so
      module _ (q : ControlKind) (at : control_at plan s.kept k.comp ≡ Some (control k.comp q, r)) (behind : control_at plan (put s.kept) k.comp ≡ Some (control k.comp q, with_values values r)) (kind : Kind) (of : here.comp.kind ≡ kind) where
        set-so : (command : ℕ) (vs : List ℕ) (setting : Setting) → new_setting kind (record_setting kind (Some (control k.comp q, r))) command vs ≡ Some setting → record_setting kind (Some (control k.comp q, with_values values r)) ≡ setting →
            told (row (silent_state t) (SetValue k.comp command vs)) ≡ Ok (at_stage plan (put s.kept) (up_stage plan s.up) h)
        set-so command vs setting new now = value-set plan sound s is k.comp (with_values values) here.comp here.there has h command vs setting
            (ap (λ (o : Option (ControlPlan × ControlRec)). new_setting here.comp.kind (record_setting here.comp.kind o) command vs) at
            ∙ ap (λ (x : Kind). new_setting x (record_setting x (Some (control k.comp q, r))) command vs) of ∙ new)
            (ap (record_setting here.comp.kind) behind ∙ ap (λ (x : Kind). record_setting x (Some (control k.comp q, with_values values r))) of ∙ now)

      by-kind : (q : ControlKind) → IsControlOf q here.comp.kind → control_at plan s.kept k.comp ≡ Some (control k.comp q, r) → control_at plan (put s.kept) k.comp ≡ Some (control k.comp q, with_values values r) → Was (control k.comp q) r → MaySet q values →
          told (row (silent_state t) (set_message k.comp values q)) ≡ Ok (at_stage plan (put s.kept) (up_stage plan s.up) h)
      by-kind (Volume min max channels lowest step mute) of at behind was may = set-so q at behind kinds.Volume of.0 0 gains (settings.Gains gains) (gains-new was_gains gains long (gains-are q values)) refl
        where
          q : ControlKind
          q = Volume min max channels lowest step mute

          gains : List ℕ
          gains = map (control_gain q) values

          was_gains : List ℕ
          was_gains = map (control_gain q) r.values

          long : length gains ≡ length was_gains
          long = length-map values (control_gain q) ∙ (may [] refl).0 ∙ sym (takes-by q here.comp.kind r of was) ∙ sym (length-map r.values (control_gain q))
      by-kind (Choice items) of at behind was may =
          set-so (Choice items) at behind kinds.Mux of.0 1 values (settings.Choice (get_or values 0 0))
          (subst (λ (vs : List ℕ). new_setting kinds.Mux (record_setting kinds.Mux (Some (control k.comp (Choice items), r))) 1 vs ≡ Some (settings.Choice (get_or vs 0 0))) (sym (may [] refl).1) refl) refl
      by-kind (Masks min max channels) of at behind was may =
          let few : list_all is_mask (eight_masks values) ≡ true = few-masks values (ranged-masks min max of.2 values (may [] refl).1) in
          set-so (Masks min max channels) at behind kinds.Demux of.0 2 (eight_masks values) (settings.Masks (eight_masks values))
          (ap (λ (b : Bool). cond b (Some (settings.Masks (eight_masks values))) None) (and_from (length (eight_masks values) == 8) (list_all is_mask (eight_masks values)) (eq-eqb (length (eight_masks values)) 8 (eight values)) few)) refl
      by-kind (Blob most initial) of at behind was may = absurd (none-empty (may [] refl).2)

      pub put-told : told (row (silent_state t) (act_message plan (Put k.comp values))) ≡ Ok (at_stage plan (put s.kept) (up_stage plan s.up) h)
      put-told =
          ap (λ (m : Message). told (row (silent_state t) m)) (puts plan sound s.kept is.record_is i low values may)
          ∙ by-kind k.kind here.kind (at-here plan sound s.kept is.record_is i low) put-at (was-here plan sound s.kept is.record_is i low) may

      put-there : there_after plan (Put k.comp values) t ≡ at_stage plan (put s.kept) (up_stage plan s.up) h
      put-there = left-told t (row (silent_state t) (act_message plan (Put k.comp values))) (at_stage plan (put s.kept) (up_stage plan s.up) h) put-told

    pub put-keeps : {Q : Type 0} (next : Q → Meeting × Q) (q : Q) → (s.kept.power ≡ powers.Unloaded → ⊥) →
        Keeps plan next (IsUpState plan) s q (plain_job plan s (if is_up plan.graph s.up k.comp then put_order plan s.kept k.comp values else unsent (put_order plan s.kept k.comp values))).routine
    put-keeps next q some = change-keeps (with_values values) (Put k.comp values ∷ []) next q some put-record-is (λ on has. (
      is,
      λ free.
          sent-done plan sound s is k.comp (with_values values) (λ c. refl) put-record-is on (there_after plan (Put k.comp values) s.there)
          (ap (there_after plan (Put k.comp values)) (begun plan sound s.up k.comp s is refl on).is ∙ put-there has s.there.heap),
    ))

  -- ---- a blob

  module _ (blob : List ℕ) (may : MayInstall k.kind blob) where
    abbrev install : Record → Record
    install = with_control plan k.comp (with_blob blob)

    install-record : IsRecordOf plan (install s.kept)
    install-record = now-record plan sound s.kept is.record_is i low blob may

    blob-at : record_setting here.comp.kind (control_at plan (install s.kept) k.comp) ≡ settings.Blob blob
    blob-at =
        ap (record_setting here.comp.kind)
        (there-at k.comp (with_blob blob) plan.controls s.kept.controls ∙ ap (option_map (λ (p : ControlPlan × ControlRec). (p.0, with_blob blob p.1))) (at-here plan sound s.kept is.record_is i low))
        ∙ ap (λ (kind : Kind). record_setting kind (Some (k, with_blob blob r))) (an-equaliser plan sound s.kept is.record_is i low blob may)

    whole-blob : is_blob blob ≡ true
    whole-blob = a-blob plan sound s.kept is.record_is i low blob may

    abbrev IsInstalled : UpState → Type 0
    IsInstalled u = IsUpState plan (settled (install u.kept) u)

    -- after a part, by whether it is the last
    abbrev part_then : Bool → UpState
    part_then last = record { kept = cond last (install s.kept) s.kept; up = s.up; there = by_part k.comp blob last s.there }

    module _ (on : s.kept.power ≡ powers.On) (has : is_among s.up (index_of_id plan k.comp) ≡ true) where
      last-done : IsInstalled (part_then true)
      last-done = sent-done plan sound s is k.comp (with_blob blob) (λ c. refl) install-record on (by_part k.comp blob true s.there)
          (ap (by_part k.comp blob true) (begun plan sound s.up k.comp s is refl on).is ∙ blob-set plan sound s is k.comp (with_blob blob) here.comp here.there has s.there.heap blob blob-at)

      parts-steps : (n j : ℕ) → j + suc n ≡ parts blob → Steps plan (IsUpState plan) s (map (Part k.comp blob) (range_with_len j (suc n))) IsInstalled
      parts-steps zero j all = (is, λ free. by (is_last blob j) refl)
        where
          few : j < parts blob
          few = omega (arith, all)

          by : (b : Bool) → is_last blob j ≡ b → IsInstalled (part_then (is_last blob j))
          by true e = subst (λ (b : Bool). IsInstalled (part_then b)) (sym e) last-done
          by false e = absurd (let more = (more-behind blob whole-blob j few e).0 in omega (arith, all, more))
      parts-steps (suc n) j all = (is, λ free. by (is_last blob j) refl (parts-steps n (j + 1) (let rest : (j + 1) + suc n ≡ parts blob = omega (arith, all) in rest)))
        where
          few : j < parts blob
          few = omega (arith, all)

          Rest : Bool → Type 0
          Rest last = Steps plan (IsUpState plan) (part_then last) (map (Part k.comp blob) (range_with_len (j + 1) (suc n))) IsInstalled

          by : (b : Bool) → is_last blob j ≡ b → Rest false → Rest (is_last blob j)
          by true e rest = absurd (let none = none-behind blob whole-blob j few e in omega (arith, all, none))
          by false e rest = subst Rest (sym e) rest

      all-steps : Steps plan (IsUpState plan) s (part_acts k.comp blob) IsInstalled
      all-steps = by (parts blob) refl (few-parts blob whole-blob).0
        where
          by : (n : ℕ) → parts blob ≡ n → 1 ≤ n → Steps plan (IsUpState plan) s (map (Part k.comp blob) (range_with_len 0 n)) IsInstalled
          by zero same some = absurd (omega (arith, some))
          by (suc n) same some = parts-steps n 0 (let all : 0 + suc n ≡ parts blob = omega (arith, same) in all)

    pub install-keeps : {Q : Type 0} (next : Q → Meeting × Q) (q : Q) → (s.kept.power ≡ powers.Unloaded → ⊥) →
        Keeps plan next (IsUpState plan) s q (plain_job plan s (if is_up plan.graph s.up k.comp then bytes_order_at plan s.kept k.comp blob else unsent (bytes_order_at plan s.kept k.comp blob))).routine
    install-keeps next q some = change-keeps (with_blob blob) (part_acts k.comp blob) next q some install-record all-steps

-- ---- what is asked for

-- an act that asks leaves what is there
pub asks-stay : (plan : Plan) (comp j : ℕ) (t : There) → there_after plan (Ask comp j) t ≡ t
asks-stay plan comp j t = by (control_of plan comp)
  where
    asked : (used some : Bool) → row_left t (cond (not used) (Err no_device) (cond (not some) (Err invalid) (Ok (silent_state t)))) ≡ t
    asked true true = refl
    asked true false = refl
    asked false some = refl

    values : (command : ℕ) → row_left t (row (silent_state t) (GetValue comp command)) ≡ t
    values command = asked (is_used t.graph comp) (is_some (control_values_at t.graph comp command))

    part : row_left t (row (silent_state t) (GetData comp j)) ≡ t
    part = asked (is_used t.graph comp) (is_some (part_at t.graph comp j))

    of-kind : (q : ControlKind) → row_left t (row (silent_state t) (get_message comp j q)) ≡ t
    of-kind (Volume min max channels lowest step mute) = values CTRL_VOLUME
    of-kind (Choice items) = values CTRL_ENUM
    of-kind (Masks min max channels) = values CTRL_SWITCH
    of-kind (Blob most initial) = part

    by : (o : Option ControlPlan) → row_left t (row (silent_state t) (ask_message comp j o)) ≡ t
    by (Some k) = of-kind k.kind
    by None = values CTRL_VOLUME

-- ---- the control of a name

module _ (plan : Plan) (sound : IsSound plan) (s : UpState) (is : IsUpState plan s) {Q : Type 0} (next : Q → Meeting × Q) (q : Q) (name : List ℕ) where
  -- values are set
  pub set-keeps : (values : List ℕ) → set_fault plan s.kept name values ≡ None → Keeps plan next (IsUpState plan) s q (plain_job plan s (control_order plan s.up name (set_order plan s.kept name values))).routine
  set-keeps values none = at-place plan sound s.kept is.record_is name (setting_fault name values) (faults.NoSuch name) refl none
      (λ (o : Option ControlPlan). Keeps plan next (IsUpState plan) s q (plain_job plan s (if option_map_or (λ (x : ControlPlan). is_up plan.graph s.up x.comp) o true then setting_order plan s.kept values o else unsent (setting_order plan s.kept values o))).routine)
      (λ i low at passes.
      let k = control_here plan i in
      let there = live plan sound s.kept is.record_is i low in
      put-keeps plan sound s is i low (spread (unwrap_or (channels_of k.kind) 0) values) (settable name k.kind values there.comp.kind there.kind passes).may next q (loaded s.kept.power (setting_fault name values (named_control plan name)) none).0)

  -- a blob is installed
  pub bytes-keep : (blob : List ℕ) → bytes_fault plan s.kept name blob ≡ None → Keeps plan next (IsUpState plan) s q (plain_job plan s (control_order plan s.up name (bytes_order plan s.kept name blob))).routine
  bytes-keep blob none = at-place plan sound s.kept is.record_is name (installing_fault name blob) (faults.NoSuch name) refl none
      (λ (o : Option ControlPlan). Keeps plan next (IsUpState plan) s q (plain_job plan s (if option_map_or (λ (x : ControlPlan). is_up plan.graph s.up x.comp) o true then installing_order plan s.kept blob o else unsent (installing_order plan s.kept blob o))).routine)
      (λ i low at passes. install-keeps plan sound s is i low blob (installable name (control_here plan i).kind blob passes) next q (loaded s.kept.power (installing_fault name blob (named_control plan name)) none).0)

  -- it is asked for
  asks-steps : (comp : ℕ) (js : List ℕ) → Steps plan (IsUpState plan) s (map (Ask comp) js) (λ u. IsUpState plan (settled u.kept u))
  asks-steps comp [] = settled-state plan sound s is
  asks-steps comp (j ∷ js) = (
    is,
    λ free.
        subst (λ (t : There). Steps plan (IsUpState plan) (record { kept = s.kept; up = s.up; there = t }) (map (Ask comp) js) (λ u. IsUpState plan (settled u.kept u))) (sym (asks-stay plan comp j s.there)) (asks-steps comp js),
  )

  asked-steps : (comp : ℕ) (kind : ControlKind) (c : ControlRec) → Steps plan (IsUpState plan) s (ask_acts comp kind c) (λ u. IsUpState plan (settled u.kept u))
  asked-steps comp (Blob most initial) c = asks-steps comp (part_numbers c.blob)
  asked-steps comp kind c = asks-steps comp (0 ∷ [])

  pub read-keeps : Keeps plan next (IsUpState plan) s q (plain_job plan s (read_order plan s.kept name)).routine
  read-keeps = by (named_at plan s.kept name)
    where
      by : (o : Option (ControlPlan × ControlRec)) → Keeps plan next (IsUpState plan) s q (plain_job plan s (reading_order s.kept o)).routine
      by None = quiet-keeps plan sound next s q is answers.Done
      by (Some (k, c)) = sends-keeps plan sound next (λ kept. kept) s q (ask_acts k.comp k.kind c) (control_answer k.kind c) (λ on. asked-steps k.comp k.kind c) (λ off. settled-state plan sound s is)
