-- A firmware at a stage has one live control set, to what the record says.
use Rattle.std.proofs.Common.{◌≡◌, refl, sym, ap, subst, ◌∙◌, ℕ, zero, suc, ◌+◌, ◌<◌, ◌≤◌, List, [], ◌∷◌, map, length, get_or, Bool, true, false, not, cond, ◌==◌, ◌||◌, Option, Some, None, inl, inr, Ok, Err, arith}
use Rattle.std.specs.Prelude.{option_and_then}
use Rattle.std.specs.List.{list_any, list_all, range_with_len, AllByRecursion}
use Rattle.std.proofs.lemmas.Bool.{eq-eqb, and_from}
use Rattle.std.proofs.lemmas.List.{length-map, length-replicate}
use Rattle.sof_base.specs.BlobFaults.{is_blob}
use Rattle.stream_law.specs.declared.graph.Kind.{Kind}
use Rattle.stream_law.specs.declared.graph.Kind.TheVariants as kinds
use Rattle.stream_law.specs.declared.graph.Setting.{Setting}
use Rattle.stream_law.specs.declared.graph.Setting.TheVariants as settings
use Rattle.stream_law.specs.declared.graph.Comp.{Comp}
use Rattle.stream_law.specs.declared.graph.Join.{Join}
use Rattle.stream_law.specs.declared.graph.Graph.{Graph}
use Rattle.stream_law.specs.State.{FwState, HeapView}
use Rattle.stream_law.specs.Ways.{comp_of, is_of}
use Rattle.stream_law.specs.Seen.{seen, is_volume}
use Rattle.stream_law.proofs.Members.{IsIn, in-all, kept-in}
use Rattle.ipc3_model.specs.declared.message.Message.{Message}
use Rattle.ipc3_model.specs.declared.message.Message.TheVariants.{SetValue, SetData}
use Rattle.ipc3_model.specs.Meanings.{IsMessage}
use Rattle.mbox_link.specs.BlobParts.{blob_part, is_last, parts}
use Rattle.mbox_link.specs.Step.{row, is_used, first_setting, new_setting, with_setting, with_setting_at, with_comps, value_set, no_device}
use Rattle.tplg_plan.specs.declared.plans.Plan.{Plan}
use Rattle.tplg_plan.specs.declared.plans.WidgetPlan.{WidgetPlan}
use Rattle.tplg_plan.specs.declared.plans.ControlPlan.{ControlPlan}
use Rattle.tplg_plan.specs.declared.plans.ControlKind.{ControlKind}
use Rattle.tplg_plan.specs.declared.plans.ControlKind.TheVariants.{Volume, Choice, Blob, Masks}
use Rattle.tplg_plan.specs.GainOf.{control_gain}
use Rattle.tplg_plan.specs.Ranges.{is_initial}
use Rattle.tplg_plan.specs.Sound.{IsControlOf, IsLive, IsSound}
use Rattle.host_widgets.specs.declared.kept.Record.{Record}
use Rattle.host_widgets.specs.declared.kept.ControlRec.{ControlRec}
use Rattle.host_widgets.specs.Controls.{control_of, first_value, first_values, eight_masks}
use Rattle.host_widgets.specs.HostActs.{Act, Put, Part, after}
use Rattle.host_widgets.specs.ActLists.{part_acts, control_acts_by}
use Rattle.host_widgets.specs.ActMessages.{act_message, put_message}
use Rattle.host_widgets.specs.Acts.{widget_words, component_words}
use Rattle.host_widgets.specs.Kept.{control_at}
use Rattle.host_widgets.specs.ViewOf.{record_setting}
use Rattle.host_widgets.proofs.ControlLists.{Pair, Takes}
use Rattle.host_widgets.proofs.EightMasks.{is_mask, eight, few-masks, masks-few}
use Rattle.host_widgets.proofs.GreatestGains.{AreGains, gains-are, set-message}
use Rattle.host_widgets.proofs.Joined.{edge_with}
use Rattle.host_widgets.proofs.LookedUp.{found-is, map-twice, map-all}
use Rattle.host_widgets.proofs.NamedIds.{each-comp, component-found, id-fits}
use Rattle.host_widgets.proofs.PartFacts.{few-parts, more-behind, none-behind}
use Rattle.host_widgets.proofs.PartRows.{HasStaged, part-message, part-more, part-last, staged-then}
use Rattle.host_widgets.proofs.PartsReady.{made-more}
use Rattle.host_widgets.proofs.PutsTaken.{comp_while, setting_while, wanted, with_kind, volume-new, put-comp, kept-comp}
use Rattle.host_widgets.specs.There.{There, there_in, silent_state, by_part}
use Rattle.host_widgets.specs.UpState.{UpState}
use Rattle.host_widgets.proofs.RowsTold.{told, left-told}
use Rattle.host_widgets.proofs.StageBetween.{comp-at}
use Rattle.host_widgets.proofs.StageJoins.{used-comp}
use Rattle.host_widgets.proofs.UpStages.{Stage, pipe_as, comps_left, edges_left, pipes_left, stage_graph, stage_streams, at_stage}
use Rattle.host_widgets.proofs.RowsThere.{IsNoPart}
use Rattle.host_widgets.proofs.UpExchanges.{IsOwn, own-told}
use Rattle.host_widgets.proofs.LeadingOn.{LeadsTo}
use Rattle.host_widgets.proofs.UpWalks.{with_there}

-- these live controls are still to be set
abbrev pub with_todo : List Pair → Stage → Stage
with_todo todo st = record { has = st.has; joins = st.joins; todo = todo; done = st.done }

module _ (plan : Plan) (sound : IsSound plan) (kept : Record) (st : Stage) (whole : (j : Join) → IsIn j st.joins → IsIn j plan.graph.joins) (h : HeapView)
    (id : ℕ) (q : ControlKind) (r : ControlRec) (live : IsLive plan.graph (with_kind id q)) (there : control_of plan id ≡ Some (with_kind id q)) (set : control_at plan kept id ≡ Some (with_kind id q, r))
    (ks : List Pair) (apart : list_any (λ (p : Pair). p.0.comp == id) ks ≡ false) (has : st.has id ≡ true) where
  abbrev before : Stage
  before = with_todo ((with_kind id q, r) ∷ ks) st

  abbrev behind : Stage
  behind = with_todo ks st

  abbrev k : Graph
  k = stage_graph plan kept before

  abbrev f : FwState
  f = silent_state (at_stage plan kept before h)

  -- ---- the graph with the control set

  set-each : (cs : List Comp) → ((c : Comp) → IsIn c cs → IsIn c (comps_left plan st)) → AllByRecursion (λ (c : Comp). with_setting id (wanted q r) (comp_while plan kept ((with_kind id q, r) ∷ ks) c) ≡ comp_while plan kept ks c) cs
  set-each [] within = tt
  set-each (c ∷ cs) within =
      let d = kept-in (λ (x : Comp). st.has x.id) plan.graph.comps c (within c (inl refl)) in
      let found = in-all (λ (x : Comp). comp_of plan.graph x.id ≡ Some x) plan.graph.comps c (each-comp plan sound) d.0 in
      (put-comp plan sound kept id q r live there set ks apart c found, set-each cs (λ x here. within x (inr here)))

  pub graph-set : with_comps (map (with_setting id (wanted q r)) k.comps) k ≡ stage_graph plan kept behind
  graph-set = λ i. record {
    comps = map-twice (with_setting id (wanted q r)) (comp_while plan kept ((with_kind id q, r) ∷ ks)) (comp_while plan kept ks) (comps_left plan st) (set-each (comps_left plan st) (λ c here. here)) i;
    edges = map (edge_with st.joins) (edges_left plan st);
    pipes = map (pipe_as st.done) (pipes_left plan st);
    joins = st.joins;
  }

  -- where nothing is sent, what it begins with is what is set
  keep-each : ((w : WidgetPlan) (kind : Kind) → IsControlOf q kind → first_setting (component_words kind (Some (with_kind id q)) w) ≡ wanted q r) → (cs : List Comp) → ((c : Comp) → IsIn c cs → IsIn c (comps_left plan st)) → AllByRecursion (λ (c : Comp). comp_while plan kept ((with_kind id q, r) ∷ ks) c ≡ comp_while plan kept ks c) cs
  keep-each begins [] within = tt
  keep-each begins (c ∷ cs) within =
      let d = kept-in (λ (x : Comp). st.has x.id) plan.graph.comps c (within c (inl refl)) in
      let found = in-all (λ (x : Comp). comp_of plan.graph x.id ≡ Some x) plan.graph.comps c (each-comp plan sound) d.0 in
      (kept-comp plan sound kept id q r live there set ks apart c found begins, keep-each begins cs (λ x here. within x (inr here)))

  pub graph-kept : ((w : WidgetPlan) (kind : Kind) → IsControlOf q kind → first_setting (component_words kind (Some (with_kind id q)) w) ≡ wanted q r) → stage_graph plan kept before ≡ stage_graph plan kept behind
  graph-kept begins = λ i. record {
    comps = map-all (comp_while plan kept ((with_kind id q, r) ∷ ks)) (comp_while plan kept ks) (comps_left plan st) (keep-each begins (comps_left plan st) (λ c here. here)) i;
    edges = map (edge_with st.joins) (edges_left plan st);
    pipes = map (pipe_as st.done) (pipes_left plan st);
    joins = st.joins;
  }

  -- ---- values

  abbrev begins_with : Setting
  begins_with = first_setting (component_words live.comp.kind (Some (with_kind id q)) (widget_words plan live.comp.id))

  comp-same : live.comp.id ≡ id
  comp-same = found-is (λ (x : Comp). x.id) plan.graph.comps id live.comp live.there

  now-comp : comp_of k id ≡ Some (comp_while plan kept ((with_kind id q, r) ∷ ks) live.comp)
  now-comp = comp-at plan sound kept before id live.comp live.there has

  now-setting : setting_while plan kept ((with_kind id q, r) ∷ ks) live.comp ≡ begins_with
  now-setting =
      ap (λ (b : Bool). cond (b || list_any (λ (p : Pair). p.0.comp == live.comp.id) ks) (first_setting (component_words live.comp.kind (control_of plan live.comp.id) (widget_words plan live.comp.id))) (recorded live.comp)) (eq-eqb id live.comp.id (sym comp-same))
      ∙ ap (λ (o : Option ControlPlan). first_setting (component_words live.comp.kind o (widget_words plan live.comp.id))) (ap (control_of plan) comp-same ∙ there)
    where
      recorded : Comp → Setting
      recorded c = record_setting c.kind (control_at plan kept c.id)

  -- a message that sets it
  pub value-told : (sets : List ℕ) (command : ℕ) (values : List ℕ) → put_message id sets (Some (with_kind id q)) ≡ SetValue id command values → new_setting live.comp.kind begins_with command values ≡ Some (wanted q r) →
      told (row f (act_message plan (Put id sets))) ≡ Ok (at_stage plan kept behind h)
  value-told sets command values is new =
      ap (λ (m : Message). told (row f m)) (ap (put_message id sets) there ∙ is)
      ∙ by (is_used k id) asked (used-comp plan sound kept before whole id live.comp live.there has) asked-is
    where
      asked : Option Setting
      asked = option_and_then (λ (c : Comp). new_setting c.kind c.setting command values) (comp_of k id)

      asked-is : asked ≡ Some (wanted q r)
      asked-is = ap (option_and_then (λ (c : Comp). new_setting c.kind c.setting command values)) now-comp ∙ ap (λ (s : Setting). new_setting live.comp.kind s command values) now-setting ∙ new

      end : (b : Bool) → told (Ok (cond b (seen (with_setting_at f id (wanted q r)) (Some id) f) (record f { graph = (with_setting_at f id (wanted q r)).graph }))) ≡ Ok (at_stage plan kept behind h)
      end true = λ i. Ok (record { heap = h; graph = graph-set i; streams = stage_streams plan kept behind })
      end false = λ i. Ok (record { heap = h; graph = graph-set i; streams = stage_streams plan kept behind })

      by : (b : Bool) (o : Option Setting) → b ≡ true → o ≡ Some (wanted q r) → told (cond (not b) (Err no_device) (value_set f id o)) ≡ Ok (at_stage plan kept behind h)
      by b o used is = subst (λ (x : Bool × Option Setting). told (cond (not x.0) (Err no_device) (value_set f id x.1)) ≡ Ok (at_stage plan kept behind h)) (λ i. (sym used i, sym is i)) (end (is_of k is_volume id))

-- ---- by kinds of controls

module _ (plan : Plan) (sound : IsSound plan) (s : UpState) (Mid : There → Type 0) (st : Stage) (whole : (j : Join) → IsIn j st.joins → IsIn j plan.graph.joins) (h : HeapView) where
  -- the firmware is at this stage but for these controls
  abbrev pub IsTodo : List Pair → There → Type 0
  IsTodo todo t = t ≡ at_stage plan s.kept (with_todo todo st) h

  module _ (id : ℕ) (r : ControlRec) (ks : List Pair) (apart : list_any (λ (p : Pair). p.0.comp == id) ks ≡ false) (has : st.has id ≡ true) where
    abbrev first : ControlKind → There
    first q = at_stage plan s.kept (with_todo ((with_kind id q, r) ∷ ks) st) h

    abbrev last : There
    last = at_stage plan s.kept (with_todo ks st) h

    -- one message that sets it
    one-leads : (q : ControlKind) → Mid (first q) → IsMessage (act_message plan (Put id r.values)) → IsNoPart (act_message plan (Put id r.values)) → after plan (Put id r.values) s.kept ≡ s.kept → told (row (silent_state (first q)) (act_message plan (Put id r.values))) ≡ Ok last →
        LeadsTo plan Mid (with_there plan s (first q)) (Put id r.values ∷ []) (IsTodo ks)
    one-leads q mid fits no_part leaves said = (
      mid,
      leaves,
      fits,
      λ f same staged. own-told plan (with_there plan s (first q)) (Put id r.values) no_part refl f same refl last said,
      λ f g staged done. tt,
      λ free. left-told (first q) (row (silent_state (first q)) (act_message plan (Put id r.values))) last said,
    )

    -- a blob in its parts, of which the last puts it in force
    module _ (most : ℕ) (initial : List ℕ) (live : IsLive plan.graph (with_kind id (Blob most initial))) (there : control_of plan id ≡ Some (with_kind id (Blob most initial))) (set : control_at plan s.kept id ≡ Some (with_kind id (Blob most initial), r))
        (mid : Mid (first (Blob most initial))) (leaves : (k : ℕ) → after plan (Part id r.blob k) s.kept ≡ s.kept) where
      abbrev start : There
      start = first (Blob most initial)

      ends-so : by_part id r.blob true start ≡ last
      ends-so = λ i. record { heap = h; graph = graph-set plan sound s.kept st whole h id (Blob most initial) r live there set ks apart has i; streams = stage_streams plan s.kept (with_todo ks st) }

      abbrev part_acts_from : ℕ → ℕ → List Act
      part_acts_from k n = map (Part id r.blob) (range_with_len k n)

      module _ (is : is_blob r.blob ≡ true) where
        -- one part, by whether it is the last
        part-own : (k : ℕ) → k < parts r.blob → (f : FwState) → there_in f ≡ start → HasStaged id r.blob k f → IsOwn plan (with_there plan s start) (Part id r.blob k) f
        part-own k low f same staged = by (is_last r.blob k) refl
          where
            comp : Comp
            comp = comp_while plan s.kept ((with_kind id (Blob most initial), r) ∷ ks) live.comp

            shown : comp_of f.graph id ≡ Some comp
            shown = ap (λ (t : There). comp_of t.graph id) same ∙ now-comp plan sound s.kept st whole h id (Blob most initial) r live there set ks apart has

            by : (b : Bool) → is_last r.blob k ≡ b → told (row f (SetData id (blob_part r.blob k))) ≡ Ok (by_part id r.blob (is_last r.blob k) start)
            by true e = ap told (part-last id r.blob is k low f staged comp shown live.kind.0 e) ∙ (λ i. Ok (by_part id r.blob true (same i))) ∙ (λ i. Ok (by_part id r.blob (sym e i) start))
            by false e = ap told (part-more id r.blob is k low f staged comp shown live.kind.0 e) ∙ (λ i. Ok (same i)) ∙ (λ i. Ok (by_part id r.blob (sym e i) start))

        part-fits : (k : ℕ) → k < parts r.blob → IsMessage (act_message plan (Part id r.blob k))
        part-fits k low = part-message id r.blob is k low (id-fits plan sound id (component-found plan sound id live.comp live.there).low)

        parts-lead : (n k : ℕ) → k + suc n ≡ parts r.blob → LeadsTo plan Mid (with_there plan s start) (part_acts_from k (suc n)) (IsTodo ks)
        parts-lead zero k all = (
          mid,
          leaves k,
          part-fits k low,
          λ f same staged. part-own k low f same staged,
          λ f g staged done. tt,
          λ free. next (is_last r.blob k) refl,
        )
          where
            low : k < parts r.blob
            low = omega (arith, all)

            next : (b : Bool) → is_last r.blob k ≡ b → by_part id r.blob (is_last r.blob k) start ≡ last
            next true e = ap (λ (b : Bool). by_part id r.blob b start) e ∙ ends-so
            next false e = absurd (let more = (more-behind r.blob is k low e).0 in omega (arith, all, more))
        parts-lead (suc n) k all = (
          mid,
          leaves k,
          part-fits k low,
          λ f same staged. part-own k low f same staged,
          λ f g staged done. subst (HasStaged id r.blob (k + 1)) (sym (made-more id r.blob is k low f g staged more-yet done)) (staged-then id r.blob k f),
          λ free.
              subst (λ (t : There). LeadsTo plan Mid (with_there plan s t) (part_acts_from (k + 1) (suc n)) (IsTodo ks)) (sym stays)
              (parts-lead n (k + 1) (let rest : (k + 1) + suc n ≡ parts r.blob = omega (arith, all) in rest)),
        )
          where
            low : k < parts r.blob
            low = omega (arith, all)

            more-yet : is_last r.blob k ≡ false
            more-yet = by (is_last r.blob k) refl
              where
                by : (b : Bool) → is_last r.blob k ≡ b → is_last r.blob k ≡ false
                by true e = absurd (let none = none-behind r.blob is k low e in omega (arith, all, none))
                by false e = e

            stays : by_part id r.blob (is_last r.blob k) start ≡ start
            stays = ap (λ (b : Bool). by_part id r.blob b start) more-yet

        all-lead : LeadsTo plan Mid (with_there plan s start) (part_acts id r.blob) (IsTodo ks)
        all-lead = by (parts r.blob) refl (few-parts r.blob is).0
          where
            by : (n : ℕ) → parts r.blob ≡ n → 1 ≤ n → LeadsTo plan Mid (with_there plan s start) (part_acts_from 0 n) (IsTodo ks)
            by zero same some = absurd (omega (arith, some))
            by (suc n) same some = parts-lead n 0 (let all : 0 + suc n ≡ parts r.blob = omega (arith, same) in all)

      -- none are sent of an empty one
      blob-leads : is_initial r.blob ≡ true → LeadsTo plan Mid (with_there plan s start) (part_acts id r.blob) (IsTodo ks)
      blob-leads ok = by r.blob refl ok
        where
          none : r.blob ≡ [] → start ≡ last
          none bare = λ i. record { heap = h; graph = graph-kept plan sound s.kept st whole h id (Blob most initial) r live there set ks apart has (λ w kind is. ap (λ (x : Kind). first_setting (component_words x (Some (with_kind id (Blob most initial))) w)) is.0 ∙ ap settings.Blob (sym bare)) i; streams = stage_streams plan s.kept (with_todo ks st) }

          by : (bytes : List ℕ) → r.blob ≡ bytes → is_initial bytes ≡ true → LeadsTo plan Mid (with_there plan s start) (part_acts id r.blob) (IsTodo ks)
          by [] e is = subst (λ (bytes : List ℕ). LeadsTo plan Mid (with_there plan s start) (part_acts id bytes) (IsTodo ks)) (sym e) (none e)
          by (b ∷ bytes) e is = all-lead (ap is_blob e ∙ is)

    -- whatever its kind
    pub put-leads : (q : ControlKind) → IsLive plan.graph (with_kind id q) → control_of plan id ≡ Some (with_kind id q) → control_at plan s.kept id ≡ Some (with_kind id q, r) → Takes q r → Mid (first q) → after plan (Put id r.values) s.kept ≡ s.kept → ((k : ℕ) → after plan (Part id r.blob k) s.kept ≡ s.kept) →
        LeadsTo plan Mid (with_there plan s (first q)) (control_acts_by id q r) (IsTodo ks)
    put-leads (Volume min max channels lowest step mute) live there set takes mid put part =
        one-leads volume mid (subst IsMessage (sym says) (set-message id 0 gains (id-fits plan sound id (component-found plan sound id live.comp live.there).low) (omega arith) (omega (arith, long, live.kind.3)) (omega (arith, long, live.kind.4)) (gains-are volume r.values)))
        (subst IsNoPart (sym says) tt) put (value-told plan sound s.kept st whole h id volume r live there set ks apart has r.values 0 gains refl new)
      where
        volume : ControlKind
        volume = Volume min max channels lowest step mute

        gains : List ℕ
        gains = map (control_gain volume) r.values

        long : length gains ≡ channels
        long = length-map r.values (control_gain volume) ∙ takes

        says : act_message plan (Put id r.values) ≡ SetValue id 0 gains
        says = ap (put_message id r.values) there

        new : new_setting live.comp.kind (first_setting (component_words live.comp.kind (Some (with_kind id volume)) (widget_words plan live.comp.id))) 0 gains ≡ Some (settings.Gains gains)
        new =
            ap (λ (kind : Kind). new_setting kind (first_setting (component_words kind (Some (with_kind id volume)) (widget_words plan live.comp.id))) 0 gains) live.kind.0
            ∙ volume-new (length (first_values volume)) gains (long ∙ sym (length-replicate channels (first_value volume))) (gains-are volume r.values)
    put-leads (Choice items) live there set takes mid put part =
        one-leads (Choice items) mid (subst IsMessage (sym says) (set-message id 1 r.values (id-fits plan sound id (component-found plan sound id live.comp live.there).low) (omega arith) (omega (arith, ap length takes.1)) (omega (arith, ap length takes.1)) (subst AreGains (sym takes.1) (takes.2, tt))))
        (subst IsNoPart (sym says) tt) put (value-told plan sound s.kept st whole h id (Choice items) r live there set ks apart has r.values 1 r.values refl new)
      where
        says : act_message plan (Put id r.values) ≡ SetValue id 1 r.values
        says = ap (put_message id r.values) there

        new : new_setting live.comp.kind (first_setting (component_words live.comp.kind (Some (with_kind id (Choice items))) (widget_words plan live.comp.id))) 1 r.values ≡ Some (settings.Choice (get_or r.values 0 0))
        new =
            ap (λ (kind : Kind). new_setting kind (first_setting (component_words kind (Some (with_kind id (Choice items))) (widget_words plan live.comp.id))) 1 r.values) live.kind.0
            ∙ subst (λ (vs : List ℕ). new_setting kinds.Mux (settings.Choice 0) 1 vs ≡ Some (settings.Choice (get_or vs 0 0))) (sym takes.1) refl
    put-leads (Masks min max channels) live there set takes mid put part =
        one-leads demux mid (subst IsMessage (sym says) (set-message id 2 masks (id-fits plan sound id (component-found plan sound id live.comp live.there).low) (omega arith) (omega (arith, eight r.values)) (omega (arith, eight r.values)) (masks-few masks (few-masks r.values takes))))
        (subst IsNoPart (sym says) tt) put (value-told plan sound s.kept st whole h id demux r live there set ks apart has r.values 2 masks refl new)
      where
        demux : ControlKind
        demux = Masks min max channels

        masks : List ℕ
        masks = eight_masks r.values

        says : act_message plan (Put id r.values) ≡ SetValue id 2 masks
        says = ap (put_message id r.values) there

        new : new_setting live.comp.kind (first_setting (component_words live.comp.kind (Some (with_kind id demux)) (widget_words plan live.comp.id))) 2 masks ≡ Some (settings.Masks masks)
        new =
            ap (λ (kind : Kind). new_setting kind (first_setting (component_words kind (Some (with_kind id demux)) (widget_words plan live.comp.id))) 2 masks) live.kind.0
            ∙ ap (λ (b : Bool). cond b (Some (settings.Masks masks)) None) (and_from (length masks == 8) (list_all is_mask masks) (eq-eqb (length masks) 8 (eight r.values)) (few-masks r.values takes))
    put-leads (Blob most initial) live there set takes mid put part = blob-leads most initial live there set mid part takes
