-- Making these pipelines leads from what is up to what is up with them.
use Rattle.std.proofs.Common.{◌+◌, ◌≡◌, refl, sym, ap, subst, ◌∙◌, ℕ, zero, suc, ◌<◌, List, [], ◌∷◌, ◌++◌, map, filter, length, Bool, true, false, cond, inl, inr, ◌⊎◌, ◌==◌, ◌||◌, Some, None, Ok, Err, append_assoc, append-nil, arith}
use Rattle.std.specs.Prelude.{Option}
use Rattle.std.specs.Option.{option_map_or}
use Rattle.std.specs.List.{zip, flat_map, list_any, range_with_len, AllByRecursion}
use Rattle.std.proofs.lemmas.Bool.{true≢false, eqb-true, eq-eqb, or_left, or_right, or_from, or_cases, false_from_ne_true}
use Rattle.sof_base.specs.Holes.{rounded, fits}
use Rattle.sof_base.specs.declared.errno.Errno.{Errno}
use Rattle.stream_law.specs.declared.graph.Setting.{Setting}
use Rattle.stream_law.specs.declared.graph.Comp.{Comp}
use Rattle.stream_law.specs.declared.graph.Pipe.{Pipe}
use Rattle.stream_law.specs.declared.graph.Join.{Join}
use Rattle.stream_law.specs.declared.graph.Graph.{Graph}
use Rattle.stream_law.specs.State.{FwState, HeapView, view_of}
use Rattle.stream_law.specs.Placed.{Ascends}
use Rattle.stream_law.specs.Ways.{comp_of}
use Rattle.stream_law.specs.Joins.{stays, would_stay}
use Rattle.stream_law.specs.Order.{is_among}
use Rattle.stream_law.proofs.Members.{IsIn, in-all, in-any, any-in, in-kept, kept-in}
use Rattle.stream_law.proofs.Placing.{Ascends-filter}
use Rattle.tplg_plan.specs.declared.plans.Plan.{Plan}
use Rattle.tplg_plan.specs.declared.plans.ControlPlan.{ControlPlan}
use Rattle.tplg_plan.specs.declared.plans.ControlKind.{ControlKind}
use Rattle.tplg_plan.specs.declared.plans.ControlKind.TheVariants.{Volume, Choice, Blob, Masks}
use Rattle.tplg_plan.specs.Sound.{IsSound, IsLive, pipe_at, IsPipelineOf}
use Rattle.host_widgets.specs.declared.kept.Record.{Record}
use Rattle.host_widgets.specs.Controls.{control_of}
use Rattle.host_widgets.specs.HostActs.{Act, Make, Part, Finish}
use Rattle.host_widgets.specs.HostActs as acts
use Rattle.host_widgets.specs.ActLists.{control_acts_by, control_acts}
use Rattle.host_widgets.specs.ActMessages.{act_message}
use Rattle.host_widgets.specs.Host.{errno}
use Rattle.host_widgets.specs.Acts.{widget_ids, widget_words, component_words}
use Rattle.host_widgets.specs.Expected.{stream_view, stated_bytes}
use Rattle.host_widgets.specs.IdleStreams.{idle_view}
use Rattle.host_widgets.specs.ViewOf.{record_setting}
use Rattle.host_widgets.specs.Kept.{controls_of, control_at}
use Rattle.host_widgets.proofs.BuildingActs.{put-leaves, part-leaves}
use Rattle.host_widgets.proofs.ControlLists.{Pair, comp_at, Takes, all-first, all-take, zip-ascends, any-zip}
use Rattle.host_widgets.proofs.LookedUp.{lost-any, first-apart, rest-ascends, each-found}
use Rattle.host_widgets.proofs.NamedIds.{component-found, pipeline-found, each-pipe}
use Rattle.host_widgets.proofs.PutsTaken.{bare-setting, setting_while, comp_while}
use Rattle.ipc3_model.specs.declared.message.Message.TheVariants.{Connect, PipeComplete}
use Rattle.mbox_link.specs.BlobParts.{parts}
use Rattle.mbox_link.specs.Step.{row, first_setting, heap_with_piece, no_memory}
use Rattle.host_widgets.specs.UpActs.{widgets_at, widgets_of, making_acts}
use Rattle.host_widgets.specs.There.{There, there_in, there_after, silent_state}
use Rattle.host_widgets.specs.UpState.{UpState}
use Rattle.host_widgets.specs.Need.{HasAt, HasBrought}
use Rattle.host_widgets.specs.Up.{is_join_at, buffer_joins}
use Rattle.host_widgets.proofs.Needs.{flat-in, in-flat, among-in, in-among, in-left, in-right, in-either, in-map, has-at}
use Rattle.host_widgets.proofs.Between.{same-bools, comp-named}
use Rattle.host_widgets.proofs.HostStreams.{stream-comp}
use Rattle.host_widgets.proofs.StageBetween.{comp-index, stage-between}
use Rattle.host_widgets.proofs.RowsTold.{told, left-told}
use Rattle.host_widgets.proofs.StageFinishes.{finish-told}
use Rattle.host_widgets.proofs.StageJoins.{with_joined, graph-joined, join-told}
use Rattle.host_widgets.proofs.StageMakes.{none-passes, with_id, piece-more, make-told, make-refused}
use Rattle.host_widgets.proofs.StageMessages.{make-fits, make-whole, join-fits, finish-fits}
use Rattle.host_widgets.proofs.StagePuts.{with_todo, put-leads}
use Rattle.host_widgets.proofs.StageSame.{heap-same, at-same}
use Rattle.host_widgets.proofs.StageStays.{ways-stay}
use Rattle.host_widgets.proofs.Sublists.{filter-append, filter-all, filter-none, AreOnce, once-filter, once-flat, once-split, range-low, low-range, range-once}
use Rattle.host_widgets.proofs.UpContext.{IsServing, AreApart, among-both, own-index, comp-up-by, join-at, ends-up, join-low, whole-once}
use Rattle.host_widgets.proofs.UpStages.{Stage, StreamPair, stage_graph, IsHeapAt, at_stage, IsStage, index_of_id, is_join_of, up_stage, IsAmid}
use Rattle.host_widgets.proofs.UpExchanges.{IsOwn, own-told, own-refused}
use Rattle.host_widgets.proofs.UpSending.{StagedFirst, AreAnswered}
use Rattle.host_widgets.proofs.LeadingOn.{LeadsTo, leads-answered, leads-on, leads-runs}
use Rattle.host_widgets.proofs.UpWalks.{Runs, with_there}
use Rattle.host_widgets.specs.Groups.{is_control_of, finish_ids, making_lists}
use Rattle.host_widgets.specs.Indices.{index_at, is_up, join_index}
use Rattle.std.proofs.lemmas.Grind.{flat_map-append}

-- the firmware itself refuses no widget that some hole holds
hole-of : (b : Bool) (e : Errno) → ◌≡◌ {A = Option Errno} (cond b None (Some e)) None → b ≡ true
hole-of true e is = refl
hole-of false e is = absurd (cc is)

-- the first part of a blob asks for nothing that is staged
puts-loose : (behind : List Act) → ((f : FwState) → StagedFirst behind f) → (ps : List Pair) (f : FwState) → StagedFirst (flat_map control_acts ps ++ behind) f
puts-loose behind loose [] f = loose f
puts-loose behind loose (p ∷ ps) f =
    subst (λ (now : List Act). StagedFirst now f) (sym (append_assoc (control_acts p) (flat_map control_acts ps) behind)) (by p.0.kind (puts-loose behind loose ps f))
  where
    parts-first : (m : ℕ) → StagedFirst (flat_map control_acts ps ++ behind) f → StagedFirst (map (Part p.0.comp p.1.blob) (range_with_len 0 m) ++ (flat_map control_acts ps ++ behind)) f
    parts-first zero rest = rest
    parts-first (suc m) rest = λ some. absurd (true≢false some)

    by : (kind : ControlKind) → StagedFirst (flat_map control_acts ps ++ behind) f → StagedFirst (control_acts_by p.0.comp kind p.1 ++ (flat_map control_acts ps ++ behind)) f
    by (Volume min max channels lowest step mute) rest = tt
    by (Choice items) rest = tt
    by (Masks min max channels) rest = tt
    by (Blob most initial) rest = parts-first (parts p.1.blob) rest

-- ---- lists of all that is of these indices

-- a join of the graph, at a buffer of one of these
pub record IsJoinAt (plan : Plan) (n : List ℕ) (j : Join) : Type 0 where
  pub whole : IsIn j plan.graph.joins
  pub index : ℕ
  pub at : join_index plan.graph j ≡ Some index
  pub among : is_among n index ≡ true

-- each widget and each join of these is in its list once, and no other
pub record AreTheirs (plan : Plan) (n ids : List ℕ) (joins : List Join) : Type 0 where
  pub low : (id : ℕ) → IsIn id ids → (id < length plan.widgets) × (is_among n (index_of_id plan id) ≡ true)
  pub all : (id : ℕ) → id < length plan.widgets → is_among n (index_of_id plan id) ≡ true → IsIn id ids
  pub once : AreOnce ids
  pub join : (j : Join) → IsIn j joins → IsJoinAt plan n j
  pub joins_once : AreOnce joins

-- at some stage between what is up and what is up with these
abbrev pub IsMidway : Plan → Record → List ℕ → List ℕ → There → Type 0
IsMidway plan kept up n t = (st : Stage) × IsAmid plan up n st × IsStage plan kept st t

module _ (plan : Plan) (sound : IsSound plan) (s : UpState) (up n : List ℕ) (serving : IsServing plan s.kept up) (apart : AreApart up n) (more : HasBrought plan.graph (is_among (up ++ n))) (ids_of : List ℕ) (joins_of : List Join) (theirs : AreTheirs plan n ids_of joins_of) where
  abbrev g : Graph
  g = plan.graph

  abbrev kept : Record
  kept = s.kept

  abbrev Midway : There → Type 0
  Midway t = IsMidway plan kept up n t

  abbrev todo_of : List Pair
  todo_of = filter (is_control_of plan n) (controls_of plan kept)

  -- ---- the first stage

  abbrev first_stage : Stage
  first_stage = record {
    has = λ id. is_among up (index_of_id plan id);
    joins = flat_map (buffer_joins g) up;
    todo = todo_of;
    done = λ id. is_among up (index_of_id plan id);
  }

  -- a control of these is of no component that is up
  todo-apart : (p : Pair) → IsIn p todo_of → is_among up (index_of_id plan p.0.comp) ≡ false
  todo-apart p there =
      let r = kept-in (is_control_of plan n) (controls_of plan kept) p there in
      let live = live-of p r.0 in
      apart (index_of_id plan p.0.comp) (sym (comp-up-by plan sound n p.0.comp live.comp live.there) ∙ r.1)
    where
      live-of : (p : Pair) → IsIn p (controls_of plan kept) → IsLive g p.0
      live-of p there = in-all (λ (x : Pair). IsLive g x.0) (controls_of plan kept) p (all-first (IsLive g) plan.controls kept.controls sound.live) there

  up-joins-in : (j : Join) → IsIn j (flat_map (buffer_joins g) up) → IsIn j g.joins × (is_among up (index_of_id plan j.source) ≡ true) × (is_among up (index_of_id plan j.sink) ≡ true)
  up-joins-in j there =
      let r = flat-in (buffer_joins g) up j there in
      let k = kept-in (is_join_at g r.0) g.joins j r.2 in
      let e = ends-up plan sound up serving.brought j k.0 r.0 (join-at plan sound r.0 j k.1) (in-among up r.0 r.1) in
      (k.0, e.0, e.1)

  up-joins-all : AllByRecursion (λ (j : Join). is_join_of g up j ≡ true) (flat_map (buffer_joins g) up)
  up-joins-all = each-up (flat_map (buffer_joins g) up) (λ j there. there)
    where
      each-up : (js : List Join) → ((j : Join) → IsIn j js → IsIn j (flat_map (buffer_joins g) up)) → AllByRecursion (λ (j : Join). is_join_of g up j ≡ true) js
      each-up [] within = tt
      each-up (j ∷ js) within =
          let r = flat-in (buffer_joins g) up j (within j (inl refl)) in
          let k = kept-in (is_join_at g r.0) g.joins j r.2 in
          (ap (λ (o : Option ℕ). option_map_or (is_among up) o false) (join-at plan sound r.0 j k.1) ∙ in-among up r.0 r.1, each-up js (λ i there. within i (inr there)))

  first-amid : IsAmid plan up n first_stage
  first-amid = record {
    there = λ id is. is;
    only = λ id is. or_left (is_among up (index_of_id plan id)) (is_among n (index_of_id plan id)) is;
    joins = up-joins-in;
    rest = filter-all (is_join_of g up) (flat_map (buffer_joins g) up) up-joins-all;
    todo = todo-apart;
    done = λ id is. is;
  }

  -- ---- widgets

  -- what making one widget asks of a stage
  record TakesWidget (st : Stage) : Type 0 where
    amid : IsAmid plan up n st
    todo_is : st.todo ≡ todo_of
    done_is : (id : ℕ) → st.done id ≡ is_among up (index_of_id plan id)
    joins_are : st.joins ≡ flat_map (buffer_joins g) up

  abbrev after_ids : List ℕ → Stage → Stage
  after_ids [] st = st
  after_ids (id ∷ ids) st = after_ids ids (with_id id st)

  with-id : (st : Stage) (id : ℕ) → TakesWidget st → is_among n (index_of_id plan id) ≡ true → TakesWidget (with_id id st)
  with-id st id t in_n = record {
    amid = record {
      there = λ x is. or_right (x == id) (st.has x) (t.amid.there x is);
      only = λ x is. by x (or_cases (x == id) (st.has x) is);
      joins = λ j there. let r = t.amid.joins j there in (r.0, or_right (j.source == id) (st.has j.source) r.1, or_right (j.sink == id) (st.has j.sink) r.2);
      rest = t.amid.rest;
      todo = t.amid.todo;
      done = t.amid.done;
    };
    todo_is = t.todo_is;
    done_is = t.done_is;
    joins_are = t.joins_are;
  }
    where
      by : (x : ℕ) → ((x == id) ≡ true) ⊎ (st.has x ≡ true) → (is_among up (index_of_id plan x) || is_among n (index_of_id plan x)) ≡ true
      by x (inl e) = or_right (is_among up (index_of_id plan x)) (is_among n (index_of_id plan x)) (ap (λ (y : ℕ). is_among n (index_of_id plan y)) (eqb-true x id e) ∙ in_n)
      by x (inr there) = t.amid.only x there

  -- a new component of these has what it begins with
  new-setting : (st : Stage) → TakesWidget st → (c : Comp) → comp_of g c.id ≡ Some c → is_among n (index_of_id plan c.id) ≡ true → setting_while plan kept st.todo c ≡ first_setting (component_words c.kind (control_of plan c.id) (widget_words plan c.id))
  new-setting st t c found in_n = ap (λ (todo : List Pair). setting_while plan kept todo c) t.todo_is ∙ by (list_any (λ (p : Pair). p.0.comp == c.id) todo_of) refl
    where
      up-here : is_up g n c.id ≡ true
      up-here = comp-up-by plan sound n c.id c found ∙ in_n

      by : (b : Bool) → list_any (λ (p : Pair). p.0.comp == c.id) todo_of ≡ b → setting_while plan kept todo_of c ≡ first_setting (component_words c.kind (control_of plan c.id) (widget_words plan c.id))
      by true e = ap (λ (b : Bool). cond b (first_setting (component_words c.kind (control_of plan c.id) (widget_words plan c.id))) (recorded c)) e
        where
          recorded : Comp → Setting
          recorded c = record_setting c.kind (control_at plan kept c.id)
      by false e =
          let none-in : list_any (λ (p : Pair). p.0.comp == c.id) (controls_of plan kept) ≡ false = false_from_ne_true (list_any (λ (p : Pair). p.0.comp == c.id) (controls_of plan kept)) (λ is.
          let r = any-in (λ (p : Pair). p.0.comp == c.id) (controls_of plan kept) is in
          let of : is_control_of plan n r.0 ≡ true = ap (is_up g n) (eqb-true r.0.0.comp c.id r.2) ∙ up-here in
          true≢false (sym (in-any (λ (p : Pair). p.0.comp == c.id) todo_of r.0 (in-kept (is_control_of plan n) (controls_of plan kept) r.0 r.1 of) r.2) ∙ e)) in
          let none : control_of plan c.id ≡ None = lost-any (λ (k : ControlPlan). k.comp == c.id) plan.controls (sym (any-zip c.id plan.controls kept.controls serving.controls) ∙ none-in) in
          let unset : control_at plan kept c.id ≡ None = lost-any (λ (p : Pair). p.0.comp == c.id) (controls_of plan kept) none-in in
          ap (λ (b : Bool). cond b (first_setting (component_words c.kind (control_of plan c.id) (widget_words plan c.id))) (record_setting c.kind (control_at plan kept c.id))) e
          ∙ ap (record_setting c.kind) unset ∙ sym (bare-setting c.kind (widget_words plan c.id))
          ∙ ap (λ (o : Option ControlPlan). first_setting (component_words c.kind o (widget_words plan c.id))) (sym none)

  -- no pipeline of these is complete
  none-done : (st : Stage) → TakesWidget st → (i : ℕ) → is_among n i ≡ true → (p : Pipe) → IsIn p g.pipes → p.index ≡ i → st.done p.id ≡ false
  none-done st t i in_n p there same = t.done_is p.id ∙ ap (is_among up) (own-index plan sound p there ∙ same) ∙ apart i in_n

  -- a stream whose host is of these is at rest
  rest-idle : (id : ℕ) → is_among n (index_of_id plan id) ≡ true → (p : StreamPair) → IsIn p (zip plan.streams kept.streams) → p.0.host ≡ id → stream_view p ≡ idle_view id
  rest-idle id in_n p there host =
      let c = stream-comp plan sound kept p there in
      let down : is_up g up p.0.host ≡ false = comp-up-by plan sound up p.0.host c.0 c.1 ∙ ap (λ (x : ℕ). is_among up (index_of_id plan x)) host ∙ apart (index_of_id plan id) in_n in
      serving.rests p there down ∙ ap idle_view host

  -- ids that are made one after another, each once
  abbrev AreNew : List ℕ → Stage → Type 0
  AreNew ids st = (id : ℕ) → IsIn id ids → (id < length plan.widgets) × (is_among n (index_of_id plan id) ≡ true) × (st.has id ≡ false)

  new-rest : (id : ℕ) (ids : List ℕ) (st : Stage) → AreOnce (id ∷ ids) → AreNew (id ∷ ids) st → AreNew ids (with_id id st)
  new-rest id ids st single new x there =
      let r = new x (inr there) in
      (r.0, r.1, or_from (x == id) (st.has x) (false_from_ne_true (x == id) (λ e. single.0 (subst (λ (y : ℕ). IsIn y ids) (eqb-true x id e) there))) r.2)

  -- what the firmware says to one that some hole holds, and to one that none holds
  widget-told : (id : ℕ) (st : Stage) (t : There) → (id < length plan.widgets) × (is_among n (index_of_id plan id) ≡ true) × (st.has id ≡ false) → TakesWidget st → IsStage plan kept st t → fits (rounded (stated_bytes plan id)) t.heap.holes ≡ true →
      told (row (silent_state t) (act_message plan (Make id))) ≡ Ok (at_stage plan kept (with_id id st) (heap_with_piece id (stated_bytes plan id) t.heap))
  widget-told id st t r takes is hole =
      ap (λ (x : There). told (row (silent_state x) (act_message plan (Make id)))) is.is
      ∙ make-told plan sound kept st t.heap id r.0 r.2 hole
      (λ p there same here. none-done st takes (index_of_id plan id) r.1 p there same)
      (λ c found. let own = (component-found plan sound id c found).same in new-setting st takes c (ap (comp_of g) own ∙ found) (ap (λ (x : ℕ). is_among n (index_of_id plan x)) own ∙ r.1))
      (λ j there. let ends = takes.amid.joins j there in (ends.1, ends.2))
      (rest-idle id r.1) serving.long (takes.done_is id ∙ apart (index_of_id plan id) r.1)

  widget-refused : (id : ℕ) (st : Stage) (t : There) → (id < length plan.widgets) × (is_among n (index_of_id plan id) ≡ true) × (st.has id ≡ false) → TakesWidget st → IsStage plan kept st t → fits (rounded (stated_bytes plan id)) t.heap.holes ≡ false →
      told (row (silent_state t) (act_message plan (Make id))) ≡ Err no_memory
  widget-refused id st t r takes is none =
      ap (λ (x : There). told (row (silent_state x) (act_message plan (Make id)))) is.is
      ∙ make-refused plan sound kept st t.heap id r.0 r.2 (λ p there same here. none-done st takes (index_of_id plan id) r.1 p there same) none

  own-widget : (id : ℕ) (st : Stage) (t : There) → (id < length plan.widgets) × (is_among n (index_of_id plan id) ≡ true) × (st.has id ≡ false) → TakesWidget st → IsStage plan kept st t → (f : FwState) → there_in f ≡ t → IsOwn plan (with_there plan s t) (Make id) f
  own-widget id st t r takes is f same = by (fits (rounded (stated_bytes plan id)) t.heap.holes) refl
    where
      by : (b : Bool) → fits (rounded (stated_bytes plan id)) t.heap.holes ≡ b → IsOwn plan (with_there plan s t) (Make id) f
      by true e = own-told plan (with_there plan s t) (Make id) (make-whole plan sound id r.0) refl f same (ap (λ (b : Bool). cond b None (Some (errno no_memory))) e)
          (at_stage plan kept (with_id id st) (heap_with_piece id (stated_bytes plan id) t.heap)) (widget-told id st t r takes is e)
      by false e = own-refused plan (with_there plan s t) (Make id) (make-whole plan sound id r.0) refl f same no_memory (ap (λ (b : Bool). cond b None (Some (errno no_memory))) e) (widget-refused id st t r takes is e)

  -- each of these is made, one after another
  makes-lead : (ids : List ℕ) (st : Stage) (t : There) → AreOnce ids → AreNew ids st → TakesWidget st → IsStage plan kept st t → LeadsTo plan Midway (with_there plan s t) (map Make ids) (λ t. IsStage plan kept (after_ids ids st) t)
  makes-lead [] st t single new takes is = is
  makes-lead (id ∷ ids) st t single new takes is = (
    (st, takes.amid, is),
    refl,
    make-fits plan sound id r.0,
    λ f same staged. own-widget id st t r takes is f same,
    λ f after staged done. first ids after,
    λ free. makes-lead ids (with_id id st) (there_after plan (Make id) t) single.1 (new-rest id ids st single new) (with-id st id takes r.1) (next (hole-of (fits (rounded (stated_bytes plan id)) t.heap.holes) _ free)),
  )
    where
      r : (id < length plan.widgets) × (is_among n (index_of_id plan id) ≡ true) × (st.has id ≡ false)
      r = new id (inl refl)

      first : (ids : List ℕ) (f : FwState) → StagedFirst (map Make ids) f
      first [] f = tt
      first (x ∷ xs) f = tt

      next : fits (rounded (stated_bytes plan id)) t.heap.holes ≡ true → IsStage plan kept (with_id id st) (there_after plan (Make id) t)
      next hole =
          let made = left-told t (row (silent_state t) (act_message plan (Make id))) (at_stage plan kept (with_id id st) (heap_with_piece id (stated_bytes plan id) t.heap)) (widget-told id st t r takes is hole) in
          let piece = piece-more plan sound kept st t.heap id r.0 r.2 is.heap in
          subst (IsStage plan kept (with_id id st)) (sym made) (record { is = refl; heap = piece })

  -- ---- all widgets of these

  abbrev made_stage : Stage
  made_stage = after_ids ids_of first_stage

  first-new : AreNew ids_of first_stage
  first-new id there = let r = theirs.low id there in (r.0, r.1, apart (index_of_id plan id) r.1)

  first-takes : TakesWidget first_stage
  first-takes = record { amid = first-amid; todo_is = refl; done_is = λ id. refl; joins_are = refl }

  made-takes : (ids : List ℕ) (st : Stage) → ((id : ℕ) → IsIn id ids → is_among n (index_of_id plan id) ≡ true) → TakesWidget st → TakesWidget (after_ids ids st)
  made-takes [] st of takes = takes
  made-takes (id ∷ ids) st of takes = made-takes ids (with_id id st) (λ x there. of x (inr there)) (with-id st id takes (of id (inl refl)))

  takes : TakesWidget made_stage
  takes = made-takes ids_of first_stage (λ id there. (theirs.low id there).1) first-takes

  made-has : (ids : List ℕ) (st : Stage) (x : ℕ) → IsIn x ids ⊎ (st.has x ≡ true) → (after_ids ids st).has x ≡ true
  made-has [] st x (inl none) = absurd none
  made-has [] st x (inr there) = there
  made-has (id ∷ ids) st x (inl (inl same)) = made-has ids (with_id id st) x (inr (or_left (x == id) (st.has x) (eq-eqb x id same)))
  made-has (id ∷ ids) st x (inl (inr more)) = made-has ids (with_id id st) x (inl more)
  made-has (id ∷ ids) st x (inr there) = made-has ids (with_id id st) x (inr (or_right (x == id) (st.has x) there))

  -- all is there that is up, or of these
  has-all : (id : ℕ) → id < length plan.widgets → is_among (up ++ n) (index_of_id plan id) ≡ true → made_stage.has id ≡ true
  has-all id low is = by (or_cases (is_among up (index_of_id plan id)) (is_among n (index_of_id plan id)) (sym (among-both up n (index_of_id plan id)) ∙ is))
    where
      by : (is_among up (index_of_id plan id) ≡ true) ⊎ (is_among n (index_of_id plan id) ≡ true) → made_stage.has id ≡ true
      by (inl a) = made-has ids_of first_stage id (inr a)
      by (inr b) = made-has ids_of first_stage id (inl (theirs.all id low b))

  -- ---- joins

  -- its ends are there
  join-has : (j : Join) → IsIn j joins_of → (made_stage.has j.source ≡ true) × (made_stage.has j.sink ≡ true)
  join-has j there =
      let o = theirs.join j there in
      let e = ends-up plan sound (up ++ n) more j o.whole o.index o.at (among-both up n o.index ∙ or_right (is_among up o.index) (is_among n o.index) o.among) in
      let low = join-low plan sound j o.whole in
      (has-all j.source low.0 e.0, has-all j.sink low.1 e.1)

  -- it is at no buffer that is up
  join-apart : (j : Join) → IsIn j joins_of → is_join_of g up j ≡ false
  join-apart j there = let o = theirs.join j there in ap (λ (x : Option ℕ). option_map_or (is_among up) x false) o.at ∙ apart o.index o.among

  abbrev joined_stage : List Join → Stage
  joined_stage done = record { has = made_stage.has; joins = flat_map (buffer_joins g) up ++ done; todo = todo_of; done = λ id. is_among up (index_of_id plan id) }

  joined-amid : (done : List Join) → ((j : Join) → IsIn j done → IsIn j joins_of) → IsAmid plan up n (joined_stage done)
  joined-amid done within = record {
    there = takes.amid.there;
    only = takes.amid.only;
    joins = λ j there. by j (in-either (flat_map (buffer_joins g) up) done j there);
    rest =
        filter-append (is_join_of g up) (flat_map (buffer_joins g) up) done
        ∙ (λ i. filter-all (is_join_of g up) (flat_map (buffer_joins g) up) up-joins-all i ++ filter-none (is_join_of g up) done (none done within) i)
        ∙ append-nil (flat_map (buffer_joins g) up);
    todo = todo-apart;
    done = λ id is. is;
  }
    where
      by : (j : Join) → IsIn j (flat_map (buffer_joins g) up) ⊎ IsIn j done → IsIn j g.joins × (made_stage.has j.source ≡ true) × (made_stage.has j.sink ≡ true)
      by j (inl a) = let r = up-joins-in j a in (r.0, takes.amid.there j.source r.1, takes.amid.there j.sink r.2)
      by j (inr b) = let h = join-has j (within j b) in ((theirs.join j (within j b)).whole, h.0, h.1)

      none : (js : List Join) → ((j : Join) → IsIn j js → IsIn j joins_of) → AllByRecursion (λ (j : Join). is_join_of g up j ≡ false) js
      none [] w = tt
      none (j ∷ js) w = (join-apart j (w j (inl refl)), none js (λ i there. w i (inr there)))

  -- the state at the end of the widgets
  joins-begin : (t : There) → IsStage plan kept made_stage t → t ≡ at_stage plan kept (joined_stage []) t.heap
  joins-begin t is = is.is ∙ (λ i. at_stage plan kept (same i) t.heap)
    where
      same : made_stage ≡ joined_stage []
      same = λ i. record {
        has = made_stage.has;
        joins = (takes.joins_are ∙ sym (append-nil (flat_map (buffer_joins g) up))) i;
        todo = takes.todo_is i;
        done = λ id. takes.done_is id i;
      }

  abbrev join_acts : List Join → List Act
  join_acts js = map (λ (j : Join). acts.Join j.source j.sink) js

  abbrev put_stage : List Pair → Stage
  put_stage todo = with_todo todo (joined_stage joins_of)

  abbrev finish_stage : (ℕ → Bool) → Stage
  finish_stage done = record { has = made_stage.has; joins = flat_map (buffer_joins g) up ++ joins_of; todo = []; done = done }

  abbrev done_with : List ℕ → (ℕ → Bool) → ℕ → Bool
  done_with [] done = done
  done_with (id ∷ ids) done = done_with ids (λ x. (x == id) || done x)

  -- pipelines of these, by id
  abbrev pipes_of : List Pipe
  pipes_of = filter (λ (p : Pipe). is_among n p.index) g.pipes

  -- the heap stays
  module _ (h : HeapView) (heap : IsHeapAt plan made_stage h) where
    abbrev Arrives : Stage → There → Type 0
    Arrives st t = t ≡ at_stage plan kept st h

    arrived : (st : Stage) (t : There) → IsAmid plan up n st → (st.has ≡ made_stage.has) → Arrives st t → Midway t
    arrived st t amid same is = (st, amid, subst (IsStage plan kept st) (sym is) (record { is = refl; heap = record { pieces = heap.pieces ∙ ap (λ (p : ℕ → Bool). filter p (widget_ids plan)) (sym same); sizes = heap.sizes } }))

    -- what the firmware says to a join
    join-said : (done rest : List Join) (j : Join) (t : There) → joins_of ≡ done ++ j ∷ rest → Arrives (joined_stage done) t → told (row (silent_state t) (Connect j.source j.sink)) ≡ Ok (at_stage plan kept (joined_stage (done ++ j ∷ [])) h)
    join-said done rest j t cut is =
        ap (λ (x : There). told (row (silent_state x) (Connect j.source j.sink))) is
        ∙ join-told plan sound kept now (λ i there. (amid-now.joins i there).0) j (theirs.join j here).whole not-yet (join-has j here).0 (join-has j here).1 h stay
        ∙ (λ i. Ok (at_stage plan kept (record { has = now.has; joins = append_assoc (flat_map (buffer_joins g) up) done (j ∷ []) i; todo = now.todo; done = now.done }) h))
      where
        in-done : (i : Join) → IsIn i done → IsIn i joins_of
        in-done i there = subst (IsIn i) (sym cut) (in-left done (j ∷ rest) i there)

        here : IsIn j joins_of
        here = subst (IsIn j) (sym cut) (in-right done (j ∷ rest) j (inl refl))

        in-next : (i : Join) → IsIn i (done ++ j ∷ []) → IsIn i joins_of
        in-next i there = by (in-either done (j ∷ []) i there)
          where
            by : IsIn i done ⊎ IsIn i (j ∷ []) → IsIn i joins_of
            by (inl a) = in-done i a
            by (inr (inl same)) = subst (λ (x : Join). IsIn x joins_of) (sym same) here
            by (inr (inr none)) = absurd none

        now : Stage
        now = joined_stage done

        amid-now : IsAmid plan up n now
        amid-now = joined-amid done in-done

        not-yet : IsIn j now.joins → ⊥
        not-yet there = by (in-either (flat_map (buffer_joins g) up) done j there)
          where
            by : IsIn j (flat_map (buffer_joins g) up) ⊎ IsIn j done → ⊥
            by (inl a) =
                let r = flat-in (buffer_joins g) up j a in
                let p = join-at plan sound r.0 j (kept-in (is_join_at g r.0) g.joins j r.2).1 in
                let o = theirs.join j here in
                let same : r.0 ≡ o.index = cc (sym p ∙ o.at) in
                true≢false (sym (in-among up r.0 r.1) ∙ ap (is_among up) same ∙ apart o.index o.among)
            by (inr b) = once-split done j rest (subst AreOnce cut theirs.joins_once) b

        stay : would_stay (view_of (silent_state (at_stage plan kept now h))) j.source j.sink ≡ true
        stay = ap (stays (view_of (silent_state (at_stage plan kept now h)))) (graph-joined plan sound kept now (λ i there. (amid-now.joins i there).0) j (theirs.join j here).whole not-yet)
            ∙ ways-stay plan sound kept up serving.held serving.shapes (λ (p : StreamPair). now.has p.0.host) (stage_graph plan kept now) (stage_graph plan kept (with_joined j now))
            (stage-between plan sound kept up n now amid-now) (stage-between plan sound kept up n (with_joined j now) amid-next)
          where
            amid-next : IsAmid plan up n (with_joined j now)
            amid-next = subst (IsAmid plan up n) (λ i. record { has = now.has; joins = sym (append_assoc (flat_map (buffer_joins g) up) done (j ∷ [])) i; todo = now.todo; done = now.done }) (joined-amid (done ++ j ∷ []) in-next)

    joins-lead : (done rest : List Join) (t : There) → joins_of ≡ done ++ rest → Arrives (joined_stage done) t → LeadsTo plan Midway (with_there plan s t) (join_acts rest) (Arrives (joined_stage joins_of))
    joins-lead done [] t cut is = is ∙ (λ i. at_stage plan kept (joined_stage ((sym (append-nil done) ∙ sym cut) i)) h)
    joins-lead done (j ∷ rest) t cut is = (
      arrived (joined_stage done) t (joined-amid done (λ i there. subst (IsIn i) (sym cut) (in-left done (j ∷ rest) i there))) refl is,
      refl,
      join-fits plan sound j.source j.sink low.0 low.1,
      λ f same staged. own-told plan (with_there plan s t) (acts.Join j.source j.sink) tt refl f same refl (at_stage plan kept (joined_stage (done ++ j ∷ [])) h) (join-said done rest j t cut is),
      λ f after staged passed. first rest after,
      λ free.
          joins-lead (done ++ j ∷ []) rest (there_after plan (acts.Join j.source j.sink) t) (cut ∙ sym (append_assoc done (j ∷ []) rest))
          (left-told t (row (silent_state t) (Connect j.source j.sink)) (at_stage plan kept (joined_stage (done ++ j ∷ [])) h) (join-said done rest j t cut is)),
    )
      where
        low : (j.source < length plan.widgets) × (j.sink < length plan.widgets)
        low = join-low plan sound j (theirs.join j (subst (IsIn j) (sym cut) (in-right done (j ∷ rest) j (inl refl)))).whole

        first : (js : List Join) (f : FwState) → StagedFirst (join_acts js) f
        first [] f = tt
        first (x ∷ xs) f = tt

    -- ---- controls

    put-amid : (todo : List Pair) → ((p : Pair) → IsIn p todo → IsIn p todo_of) → IsAmid plan up n (put_stage todo)
    put-amid todo within =
        let a = joined-amid joins_of (λ j there. there) in
        record { there = a.there; only = a.only; joins = a.joins; rest = a.rest; todo = λ p there. todo-apart p (within p there); done = a.done }

    control-facts : AllByRecursion (λ (p : Pair). control_at plan kept p.0.comp ≡ Some p) (controls_of plan kept)
    control-facts = each-found comp_at (controls_of plan kept) (zip-ascends plan.controls kept.controls sound.controls_ascend)

    puts-lead : (todo : List Pair) (t : There) → ((p : Pair) → IsIn p todo → IsIn p todo_of) → Ascends comp_at todo → Arrives (put_stage todo) t → LeadsTo plan Midway (with_there plan s t) (flat_map control_acts todo) (Arrives (put_stage []))
    puts-lead [] t within rising is = is
    puts-lead (p ∷ todo) t within rising is =
        leads-on plan Midway (Arrives (put_stage todo)) (Arrives (put_stage [])) (with_there plan s t) (control_acts p) (flat_map control_acts todo)
        (subst (λ (x : There). LeadsTo plan Midway (with_there plan s x) (control_acts p) (Arrives (put_stage todo))) (sym is)
        (put-leads plan sound s Midway (joined_stage joins_of) (λ j there. ((joined-amid joins_of (λ i here. here)).joins j there).0) h p.0.comp p.1 todo (first-apart comp_at p todo rising) has p.0.kind live found set takes-it
        (arrived (put_stage (p ∷ todo)) (at_stage plan kept (put_stage (p ∷ todo)) h) (put-amid (p ∷ todo) within) refl refl)
        (put-leaves plan kept control-facts p set) (part-leaves plan kept control-facts p set)))
        (λ f. subst (λ (xs : List Act). StagedFirst xs f) (append-nil (flat_map control_acts todo)) (puts-loose [] (λ g. tt) todo f))
        (λ x arrives. puts-lead todo x (λ q there. within q (inr there)) (rest-ascends comp_at p todo rising) arrives)
      where
        mine : IsIn p (controls_of plan kept) × (is_control_of plan n p ≡ true)
        mine = kept-in (is_control_of plan n) (controls_of plan kept) p (within p (inl refl))

        live : IsLive g p.0
        live = in-all (λ (x : Pair). IsLive g x.0) (controls_of plan kept) p (all-first (IsLive g) plan.controls kept.controls sound.live) mine.0

        found : control_of plan p.0.comp ≡ Some p.0
        found = in-all (λ (x : Pair). control_of plan x.0.comp ≡ Some x.0) (controls_of plan kept) p (all-first (λ (k : ControlPlan). control_of plan k.comp ≡ Some k) plan.controls kept.controls (each-found (λ (k : ControlPlan). k.comp) plan.controls sound.controls_ascend)) mine.0

        set : control_at plan kept p.0.comp ≡ Some p
        set = in-all (λ (x : Pair). control_at plan kept x.0.comp ≡ Some x) (controls_of plan kept) p control-facts mine.0

        takes-it : Takes p.0.kind p.1
        takes-it = in-all (λ (x : Pair). Takes x.0.kind x.1) (controls_of plan kept) p (all-take g plan.controls kept.controls sound.live serving.controls) mine.0

        has : made_stage.has p.0.comp ≡ true
        has = has-all p.0.comp (component-found plan sound p.0.comp live.comp live.there).low
            (among-both up n (index_of_id plan p.0.comp) ∙ or_right (is_among up (index_of_id plan p.0.comp)) (is_among n (index_of_id plan p.0.comp)) (sym (comp-up-by plan sound n p.0.comp live.comp live.there) ∙ mine.1))

    -- ---- pipelines

    finish-amid : (done : ℕ → Bool) → ((id : ℕ) → is_among up (index_of_id plan id) ≡ true → done id ≡ true) → IsAmid plan up n (finish_stage done)
    finish-amid done keeps =
        let a = joined-amid joins_of (λ j there. there) in
        record { there = a.there; only = a.only; joins = a.joins; rest = a.rest; todo = λ p none. absurd none; done = keeps }

    -- what the firmware says to a pipeline that is complete
    finish-said : (p : Pipe) (done : ℕ → Bool) (t : There) → IsIn p pipes_of → ((id : ℕ) → is_among up (index_of_id plan id) ≡ true → done id ≡ true) → done p.id ≡ false → Arrives (finish_stage done) t →
        told (row (silent_state t) (PipeComplete p.id)) ≡ Ok (at_stage plan kept (finish_stage (λ x. (x == p.id) || done x)) h)
    finish-said p done t there keeps undone is =
        ap (λ (x : There). told (row (silent_state x) (PipeComplete p.id))) is
        ∙ finish-told plan sound kept (finish_stage done) (λ j there. ((finish-amid done keeps).joins j there).0) h p.id p found
        (has-all p.id (pipeline-found plan sound p.id p found).low (ap (is_among (up ++ n)) (own-index plan sound p mine.0) ∙ both p.index mine.1)) undone
        named.sched named.scheduled (has-all p.sched (component-found plan sound p.sched named.sched named.scheduled).low sched-index)
      where
        mine : IsIn p g.pipes × (is_among n p.index ≡ true)
        mine = kept-in (λ (q : Pipe). is_among n q.index) g.pipes p there

        found : pipe_at g p.id ≡ Some p
        found = in-all (λ (x : Pipe). pipe_at g x.id ≡ Some x) g.pipes p (each-pipe plan sound) mine.0

        named : IsPipelineOf g (widget_words plan p.id) p
        named = (pipeline-found plan sound p.id p found).is

        both : (i : ℕ) → is_among n i ≡ true → is_among (up ++ n) i ≡ true
        both i is = among-both up n i ∙ or_right (is_among up i) (is_among n i) is

        sched-index : is_among (up ++ n) (index_of_id plan p.sched) ≡ true
        sched-index =
            ap (is_among (up ++ n)) (comp-index plan sound p.sched named.sched named.scheduled)
            ∙ has-at (is_among (up ++ n)) (index_at g p.sched) named.sched.pipe (comp-named plan sound up p.sched named.sched named.scheduled)
            (in-all (λ (x : Pipe). is_among (up ++ n) x.index ≡ true → HasAt (is_among (up ++ n)) (index_at g x.sched)) g.pipes p more.schedulers mine.0 (both p.index mine.1))

    finishes-lead : (ps : List Pipe) (done : ℕ → Bool) (t : There) → ((p : Pipe) → IsIn p ps → IsIn p pipes_of) → Ascends (λ (p : Pipe). p.id) ps → ((id : ℕ) → is_among up (index_of_id plan id) ≡ true → done id ≡ true) →
        ((p : Pipe) → IsIn p ps → done p.id ≡ false) → (End : There → Type 0) → ((x : There) → Arrives (finish_stage (done_with (map (λ (p : Pipe). p.id) ps) done)) x → End x) → Arrives (finish_stage done) t →
        LeadsTo plan Midway (with_there plan s t) (map Finish (map (λ (p : Pipe). p.id) ps)) End
    finishes-lead [] done t within rising keeps undone End ends is = ends t is
    finishes-lead (p ∷ ps) done t within rising keeps undone End ends is = (
      arrived (finish_stage done) t (finish-amid done keeps) refl is,
      refl,
      finish-fits plan sound p.id (pipeline-found plan sound p.id p found).low,
      λ f same staged. own-told plan (with_there plan s t) (Finish p.id) tt refl f same refl (at_stage plan kept (finish_stage (λ x. (x == p.id) || done x)) h) said,
      λ f after staged passed. first ps after,
      λ free.
          finishes-lead ps (λ x. (x == p.id) || done x) (there_after plan (Finish p.id) t) (λ q there. within q (inr there)) (rest-ascends (λ (q : Pipe). q.id) p ps rising) (λ id in_up. or_right (id == p.id) (done id) (keeps id in_up)) still-open End ends
          (left-told t (row (silent_state t) (PipeComplete p.id)) (at_stage plan kept (finish_stage (λ x. (x == p.id) || done x)) h) said),
    )
      where
        found : pipe_at g p.id ≡ Some p
        found = in-all (λ (x : Pipe). pipe_at g x.id ≡ Some x) g.pipes p (each-pipe plan sound) (kept-in (λ (q : Pipe). is_among n q.index) g.pipes p (within p (inl refl))).0

        said : told (row (silent_state t) (PipeComplete p.id)) ≡ Ok (at_stage plan kept (finish_stage (λ x. (x == p.id) || done x)) h)
        said = finish-said p done t (within p (inl refl)) keeps (undone p (inl refl)) is

        still-open : (q : Pipe) → IsIn q ps → ((q.id == p.id) || done q.id) ≡ false
        still-open q there =
            or_from (q.id == p.id) (done q.id) (false_from_ne_true (q.id == p.id) (λ e. true≢false (sym (in-any (λ (x : Pipe). x.id == p.id) ps q there e) ∙ first-apart (λ (x : Pipe). x.id) p ps rising))) (undone q (inr there))

        first : (qs : List Pipe) (f : FwState) → StagedFirst (map Finish (map (λ (q : Pipe). q.id) qs)) f
        first [] f = tt
        first (x ∷ xs) f = tt

  -- ---- from what is up

  -- no control of these is set at what is up
  begin-set : (c : Comp) → IsIn c g.comps → is_among up (index_of_id plan c.id) ≡ true → comp_while plan kept [] c ≡ comp_while plan kept todo_of c
  begin-set c there in_up = ap (λ (b : Bool). record { id = c.id; kind = c.kind; pipe = c.pipe; setting = cond b (first_setting (component_words c.kind (control_of plan c.id) (widget_words plan c.id))) (record_setting c.kind (control_at plan kept c.id)); ramp = c.ramp }) (sym none)
    where
      none : list_any (λ (p : Pair). p.0.comp == c.id) todo_of ≡ false
      none = none-passes (λ (p : Pair). p.0.comp == c.id) todo_of (λ p here. false_from_ne_true (p.0.comp == c.id) (λ e.
          true≢false (sym in_up ∙ ap (λ (x : ℕ). is_among up (index_of_id plan x)) (sym (eqb-true p.0.comp c.id e)) ∙ todo-apart p here)))

  begin-same : (h : HeapView) → at_stage plan kept (up_stage plan up) h ≡ at_stage plan kept first_stage h
  begin-same h = at-same plan sound kept (up_stage plan up) first_stage (λ id low. refl) begin-set refl
      (λ p there in_up. sym in_up) h

  -- ---- to what is up with them

  -- every pipeline that is there is complete in the end
  done-all : (ids : List ℕ) (done : ℕ → Bool) (x : ℕ) → IsIn x ids ⊎ (done x ≡ true) → done_with ids done x ≡ true
  done-all [] done x (inl none) = absurd none
  done-all [] done x (inr is) = is
  done-all (id ∷ ids) done x (inl (inl same)) = done-all ids (λ y. (y == id) || done y) x (inr (or_left (x == id) (done x) (eq-eqb x id same)))
  done-all (id ∷ ids) done x (inl (inr rest)) = done-all ids (λ y. (y == id) || done y) x (inl rest)
  done-all (id ∷ ids) done x (inr is) = done-all ids (λ y. (y == id) || done y) x (inr (or_right (x == id) (done x) is))

  abbrev up_done : ℕ → Bool
  up_done id = is_among up (index_of_id plan id)

  abbrev last_stage : Stage
  last_stage = finish_stage (done_with (map (λ (p : Pipe). p.id) pipes_of) up_done)

  end-has : (id : ℕ) → id < length plan.widgets → made_stage.has id ≡ is_among (up ++ n) (index_of_id plan id)
  end-has id low = same-bools (made_stage.has id) (is_among (up ++ n) (index_of_id plan id)) (λ is. among-both up n (index_of_id plan id) ∙ takes.amid.only id is) (has-all id low)

  end-done : (p : Pipe) → IsIn p g.pipes → made_stage.has p.id ≡ true → last_stage.done p.id ≡ true
  end-done p there has = done-all (map (λ (q : Pipe). q.id) pipes_of) up_done p.id (by (or_cases (is_among up (index_of_id plan p.id)) (is_among n (index_of_id plan p.id)) (takes.amid.only p.id has)))
    where
      by : (is_among up (index_of_id plan p.id) ≡ true) ⊎ (is_among n (index_of_id plan p.id) ≡ true) → IsIn p.id (map (λ (q : Pipe). q.id) pipes_of) ⊎ (up_done p.id ≡ true)
      by (inl a) = inr a
      by (inr b) = inl (in-map (λ (q : Pipe). q.id) pipes_of p (in-kept (λ (q : Pipe). is_among n q.index) g.pipes p there (ap (is_among n) (sym (own-index plan sound p there)) ∙ b)))

  -- all is there that is up or of these, with these joins last
  abbrev pub with_these : Stage
  with_these = record { has = λ id. is_among (up ++ n) (index_of_id plan id); joins = flat_map (buffer_joins g) up ++ joins_of; todo = []; done = λ id. true }

  end-same : (h : HeapView) → at_stage plan kept last_stage h ≡ at_stage plan kept with_these h
  end-same h = at-same plan sound kept last_stage with_these end-has (λ c there has. refl) refl (λ p there has. end-done p there has) h

  -- ---- all of it

  abbrev puts_then : List Act
  puts_then = flat_map control_acts todo_of ++ map Finish (finish_ids g n)

  finishes-loose : (ps : List Pipe) (f : FwState) → StagedFirst (map Finish (map (λ (p : Pipe). p.id) ps)) f
  finishes-loose [] f = tt
  finishes-loose (p ∷ ps) f = tt

  puts-then-loose : (f : FwState) → StagedFirst puts_then f
  puts-then-loose f = puts-loose (map Finish (finish_ids g n)) (finishes-loose pipes_of) todo_of f

  joins-loose : (js : List Join) (f : FwState) → StagedFirst (join_acts js ++ puts_then) f
  joins-loose [] f = puts-then-loose f
  joins-loose (j ∷ js) f = tt

  -- the first of them asks for nothing that is staged
  pub lists-loose : (f : FwState) → StagedFirst (making_lists plan kept ids_of joins_of n) f
  lists-loose f = by ids_of
    where
      by : (ids : List ℕ) → StagedFirst (map Make ids ++ (join_acts joins_of ++ puts_then)) f
      by [] = joins-loose joins_of f
      by (id ∷ ids) = tt

  making-ends : (t : There) → IsStage plan kept made_stage t → LeadsTo plan Midway (with_there plan s t) (join_acts joins_of ++ puts_then) (λ x. IsStage plan kept with_these x)
  making-ends t is =
      leads-on plan Midway (Arrives h heap (joined_stage joins_of)) Last (with_there plan s t) (join_acts joins_of) puts_then (joins-lead h heap [] joins_of t refl (joins-begin t is)) puts-then-loose
      (λ x arrives. leads-on plan Midway (Arrives h heap (put_stage [])) Last (with_there plan s x) (flat_map control_acts todo_of) (map Finish (finish_ids g n))
      (puts-lead h heap todo_of x (λ p there. there) todo-ascends arrives) (finishes-loose pipes_of)
      (λ y put. finishes-lead h heap pipes_of up_done y (λ p there. there) (Ascends-filter (λ (p : Pipe). is_among n p.index) (λ (p : Pipe). p.id) g.pipes sound.pipes_ascend) (λ id in_up. in_up) none-open Last arrives-last put))
    where
      h : HeapView
      h = t.heap

      heap : IsHeapAt plan made_stage h
      heap = is.heap

      Last : There → Type 0
      Last x = IsStage plan kept with_these x

      todo-ascends : Ascends comp_at todo_of
      todo-ascends = Ascends-filter (is_control_of plan n) comp_at (controls_of plan kept) (zip-ascends plan.controls kept.controls sound.controls_ascend)

      none-open : (p : Pipe) → IsIn p pipes_of → up_done p.id ≡ false
      none-open p there =
          let r = kept-in (λ (q : Pipe). is_among n q.index) g.pipes p there in
          ap (is_among up) (own-index plan sound p r.0) ∙ apart p.index r.1

      arrives-last : (x : There) → Arrives h heap last_stage x → Last x
      arrives-last x is = subst Last (sym (is ∙ end-same h)) (record { is = refl; heap = heap-same plan sound kept last_stage with_these end-has h (record { pieces = heap.pieces; sizes = heap.sizes }) })

  pub lists-lead : IsStage plan kept (up_stage plan up) s.there → LeadsTo plan Midway s (making_lists plan kept ids_of joins_of n) (λ t. IsStage plan kept with_these t)
  lists-lead is =
      leads-on plan Midway (λ t. IsStage plan kept made_stage t) (λ t. IsStage plan kept with_these t) s (map Make ids_of) (join_acts joins_of ++ puts_then)
      (makes-lead ids_of first_stage s.there theirs.once first-new first-takes (record { is = is.is ∙ begin-same s.there.heap; heap = record { pieces = is.heap.pieces; sizes = is.heap.sizes } }))
      (joins-loose joins_of) making-ends

-- ---- index by index

module _ (plan : Plan) (sound : IsSound plan) (s : UpState) (up n : List ℕ) (serving : IsServing plan s.kept up) (apart : AreApart up n) (more : HasBrought plan.graph (is_among (up ++ n))) (once : AreOnce n) where
  abbrev pub IsMaking : There → Type 0
  IsMaking t = IsMidway plan s.kept up n t

  own-lists : AreTheirs plan n (widgets_of plan n) (flat_map (buffer_joins plan.graph) n)
  own-lists = record {
    low = λ id there.
        (let r = flat-in (widgets_at plan) n id there in
        let k = kept-in (λ (x : ℕ). index_of_id plan x == r.0) (widget_ids plan) id r.2 in
        ((let low : id < 0 + length plan.widgets = range-low 0 (length plan.widgets) id k.0 in omega (arith, low)), ap (is_among n) (eqb-true (index_of_id plan id) r.0 k.1) ∙ in-among n r.0 r.1));
    all = λ id low is.
        in-flat (widgets_at plan) n (index_of_id plan id) id (among-in n (index_of_id plan id) is)
        (in-kept (λ (x : ℕ). index_of_id plan x == index_of_id plan id) (widget_ids plan) id (low-range 0 (length plan.widgets) id (omega arith) (omega (arith, low))) (eq-eqb (index_of_id plan id) (index_of_id plan id) refl));
    once = once-flat (widgets_at plan) n once
        (λ i. once-filter (λ (x : ℕ). index_of_id plan x == i) (widget_ids plan) (range-once 0 (length plan.widgets)))
        (λ i k id a b. sym (eqb-true (index_of_id plan id) i (kept-in (λ (x : ℕ). index_of_id plan x == i) (widget_ids plan) id a).1) ∙ eqb-true (index_of_id plan id) k (kept-in (λ (x : ℕ). index_of_id plan x == k) (widget_ids plan) id b).1);
    join = λ j there.
        (let r = flat-in (buffer_joins plan.graph) n j there in
        let k = kept-in (is_join_at plan.graph r.0) plan.graph.joins j r.2 in
        record { whole = k.0; index = r.0; at = join-at plan sound r.0 j k.1; among = in-among n r.0 r.1 });
    joins_once = once-flat (buffer_joins plan.graph) n once
        (λ i. once-filter (is_join_at plan.graph i) plan.graph.joins (whole-once plan sound))
        (λ i k j a b.
        (let p = join-at plan sound i j (kept-in (is_join_at plan.graph i) plan.graph.joins j a).1 in
        let q = join-at plan sound k j (kept-in (is_join_at plan.graph k) plan.graph.joins j b).1 in
        let one : Some i ≡ Some k = sym p ∙ q in cc one));
  }

  pub making-leads : IsStage plan s.kept (up_stage plan up) s.there → LeadsTo plan IsMaking s (making_acts plan s.kept n) (λ t. IsStage plan s.kept (up_stage plan (up ++ n)) t)
  making-leads is =
      subst (λ (js : List Join). LeadsTo plan IsMaking s (making_acts plan s.kept n) (λ t. IsStage plan s.kept (record { has = λ id. is_among (up ++ n) (index_of_id plan id); joins = js; todo = []; done = λ id. true }) t)) (sym (flat_map-append (buffer_joins plan.graph) up n))
      (lists-lead plan sound s up n serving apart more (widgets_of plan n) (flat_map (buffer_joins plan.graph) n) own-lists is)

  pub makes-up : IsStage plan s.kept (up_stage plan up) s.there → Runs plan IsMaking s (making_acts plan s.kept n) (λ t. IsStage plan s.kept (up_stage plan (up ++ n)) t)
  makes-up is = leads-runs plan IsMaking IsMaking (λ t. IsStage plan s.kept (up_stage plan (up ++ n)) t) (λ t mid. mid) s (making_acts plan s.kept n) (making-leads is)

  pub makes-answered : IsStage plan s.kept (up_stage plan up) s.there → AreAnswered plan s (making_acts plan s.kept n)
  makes-answered is = leads-answered plan IsMaking (λ t. IsStage plan s.kept (up_stage plan (up ++ n)) t) s (making_acts plan s.kept n) (making-leads is)

  pub making-loose : (f : FwState) → StagedFirst (making_acts plan s.kept n) f
  making-loose f = lists-loose plan sound s up n serving apart more (widgets_of plan n) (flat_map (buffer_joins plan.graph) n) own-lists f
