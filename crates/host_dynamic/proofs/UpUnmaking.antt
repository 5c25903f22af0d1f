-- Unmaking what there is of these pipelines leads back to what is up.
use Rattle.std.proofs.Common.{◌≡◌, refl, sym, ap, subst, ◌∙◌, arith, ℕ, ◌<◌, List, [], ◌∷◌, ◌++◌, map, filter, length, Bool, true, false, cond, not, inl, inr, ◌⊎◌, ◌==◌, ◌&&◌, Some, Ok}
use Rattle.std.specs.Prelude.{Option}
use Rattle.std.specs.Option.{option_map_or}
use Rattle.std.specs.List.{flat_map, list_any}
use Rattle.std.proofs.lemmas.List.{map-append}
use Rattle.std.proofs.lemmas.Bool.{true≢false, false≢true, eqb-true, eq-eqb, or_from, or_cases, or_parts, and_parts, and_from, and_right, false_from_ne_true}
use Rattle.stream_law.specs.declared.graph.Comp.{Comp}
use Rattle.stream_law.specs.declared.graph.Edge.{Edge}
use Rattle.stream_law.specs.declared.graph.Pipe.{Pipe}
use Rattle.stream_law.specs.declared.graph.Join.{Join}
use Rattle.stream_law.specs.declared.graph.Graph.{Graph}
use Rattle.stream_law.specs.declared.stream.StreamView.{StreamView}
use Rattle.stream_law.specs.State.{HeapView, view_of}
use Rattle.stream_law.specs.Ways.{comp_of, edge_of, components, buffers}
use Rattle.stream_law.specs.Joins.{stays}
use Rattle.stream_law.specs.Order.{is_among}
use Rattle.stream_law.proofs.Among.{is_among-filter}
use Rattle.stream_law.proofs.Members.{IsIn, in-all, in-each, in-kept, kept-in}
use Rattle.stream_law.proofs.Placing.{Ascends-distinct}
use Rattle.mbox_link.specs.Step.{row, first_setting, touches, is_held, is_index_held, without_edge, without_piece}
use Rattle.tplg_plan.specs.declared.plans.Plan.{Plan}
use Rattle.tplg_plan.specs.Sound.{IsSound, Names, pipe_at}
use Rattle.host_widgets.specs.declared.kept.Record.{Record}
use Rattle.host_widgets.specs.Acts.{widget_ids, widget_words, component_words}
use Rattle.host_widgets.specs.Controls.{control_of}
use Rattle.host_widgets.specs.Kept.{control_at}
use Rattle.host_widgets.specs.ViewOf.{record_setting}
use Rattle.host_widgets.proofs.ControlLists.{Pair}
use Rattle.host_widgets.proofs.Joined.{edge_with}
use Rattle.host_widgets.proofs.NamedIds.{named-at, component-found, buffer-found, pipeline-found, each-comp, each-edge, each-pipe}
use Rattle.host_widgets.proofs.PutsTaken.{comp_while}
use Rattle.host_widgets.specs.UpActs.{pipe_ids, unmade_order, unmaking_acts}
use Rattle.host_widgets.specs.There.{There, there_after, ids_there, ids_there_of, silent_state}
use Rattle.host_widgets.specs.UpState.{UpState}
use Rattle.host_widgets.specs.Up.{buffer_joins}
use Rattle.host_widgets.proofs.Needs.{in-among, in-map}
use Rattle.host_widgets.proofs.Between.{same-bools, member-found, found-member, comp-named, edge-named}
use Rattle.host_widgets.proofs.StageBetween.{comp-index, edge-index, stage-between}
use Rattle.host_widgets.proofs.RowsTold.{told, left-told}
use Rattle.host_widgets.proofs.StageFrees.{without_id, piece-less, buffer-gone, edge-named as edge-index-of, comp-named as comp-index-of, free-pipe-told, free-buffer-told, free-comp-told}
use Rattle.host_widgets.proofs.StageMessages.{unmake-fits, unmake-whole}
use Rattle.host_widgets.proofs.StageMakes.{none-passes}
use Rattle.host_widgets.proofs.StageSame.{heap-same, at-same}
use Rattle.host_widgets.proofs.StageStays.{from-map, ways-stay, not-held}
use Rattle.host_widgets.proofs.Sublists.{filter-same, filter-both, filter-append, filter-all, AreOnce, once-filter, keys-once, low-range}
use Rattle.host_widgets.proofs.UpContext.{IsServing, AreApart, own-index, JoinEnds, join-ends, ends-up}
use Rattle.host_widgets.proofs.UpStages.{Stage, StreamPair, comps_left, edges_left, stage_graph, stage_streams, at_stage, IsStage, index_of_id, is_join_of, up_stage, IsAmid}
use Rattle.host_widgets.proofs.UpExchanges.{own-told}
use Rattle.host_widgets.proofs.UpSending.{AreAnswered}
use Rattle.host_widgets.proofs.LeadingOn.{LeadsTo, leads-answered, leads-on, leads-runs}
use Rattle.host_widgets.proofs.UpMaking.{IsMidway}
use Rattle.host_widgets.proofs.UpWalks.{Runs, with_there}
use Rattle.host_widgets.specs.HostActs.{Act, Unmake}
use Rattle.host_widgets.specs.ActMessages.{act_message}
use Rattle.host_widgets.specs.Indices.{index_at}
use Rattle.host_dynamic.proofs.UpAgreeing.{unmakes-loose}

module _ (plan : Plan) (sound : IsSound plan) (s : UpState) (up n : List ℕ) (serving : IsServing plan s.kept up) (apart : AreApart up n) where
  abbrev g : Graph
  g = plan.graph

  abbrev kept : Record
  kept = s.kept

  abbrev of_n : ℕ → Bool
  of_n id = is_among n (index_of_id plan id)

  abbrev of_up : ℕ → Bool
  of_up id = is_among up (index_of_id plan id)

  -- ---- one widget of these less

  -- it is at no join of what is up
  up-untouched : (id : ℕ) → of_n id ≡ true → (j : Join) → IsIn j g.joins → is_join_of g up j ≡ true → touches id j ≡ false
  up-untouched id in_n j there is = by (join-ends plan sound j there)
    where
      apart-id : (x : ℕ) → of_up x ≡ true → (x == id) ≡ false
      apart-id x in_up = false_from_ne_true (x == id) (λ e. true≢false (sym in_up ∙ ap of_up (eqb-true x id e) ∙ apart (index_of_id plan id) in_n))

      by : JoinEnds plan sound j → touches id j ≡ false
      by r =
          let in_up : is_among up r.edge.pipe ≡ true = ap (λ (o : Option ℕ). option_map_or (is_among up) o false) (sym r.at) ∙ is in
          let e = ends-up plan sound up serving.brought j there r.edge.pipe r.at in_up in
          or_from (j.source == id) (j.sink == id) (apart-id j.source e.0) (apart-id j.sink e.1)

  less-amid : (st : Stage) (id : ℕ) → IsAmid plan up n st → of_n id ≡ true → IsAmid plan up n (without_id id st)
  less-amid st id a in_n = record {
    there = λ x in_up. and_from (st.has x) (not (x == id)) (a.there x in_up) (ap not (false_from_ne_true (x == id) (λ e. true≢false (sym in_up ∙ ap of_up (eqb-true x id e) ∙ apart (index_of_id plan id) in_n))));
    only = λ x is. a.only x (and_parts (st.has x) (not (x == id)) is).0;
    joins = λ j here.
        (let r = kept-in (λ (i : Join). not (touches id i)) st.joins j here in
        let o = a.joins j r.0 in
        let t = or_parts (j.source == id) (j.sink == id) (not-true (touches id j) r.1) in
        (o.0, and_from (st.has j.source) (not (j.source == id)) o.1 (ap not t.0), and_from (st.has j.sink) (not (j.sink == id)) o.2 (ap not t.1)));
    rest =
        filter-both (is_join_of g up) (λ (j : Join). not (touches id j)) st.joins
        ∙ filter-same (λ (j : Join). not (touches id j) && is_join_of g up j) (is_join_of g up) st.joins
        (in-each (λ (j : Join). (not (touches id j) && is_join_of g up j) ≡ is_join_of g up j) st.joins (λ j here. one j here (is_join_of g up j) refl))
        ∙ a.rest;
    todo = a.todo;
    done = a.done;
  }
    where
      not-true : (b : Bool) → not b ≡ true → b ≡ false
      not-true true is = absurd (false≢true is)
      not-true false is = refl

      one : (j : Join) → IsIn j st.joins → (b : Bool) → is_join_of g up j ≡ b → (not (touches id j) && is_join_of g up j) ≡ is_join_of g up j
      one j here true e = ap (λ (t : Bool). not t && is_join_of g up j) (up-untouched id in_n j (a.joins j here).0 e)
      one j here false e = and_right (not (touches id j)) (is_join_of g up j) e ∙ sym e

  -- ---- what is held

  module _ (st : Stage) (a : IsAmid plan up n st) where
    abbrev k : Graph
    k = stage_graph plan kept st

    abbrev streams : List StreamView
    streams = stage_streams plan kept st

    whole : (j : Join) → IsIn j st.joins → IsIn j g.joins
    whole j here = (a.joins j here).0

    none-held : (x i : ℕ) → index_at g x ≡ Some i → is_among n i ≡ true → is_held k streams x ≡ false
    none-held x i at in_n = not-held plan sound kept up serving.held serving.shapes (λ (p : StreamPair). st.has p.0.host) k (stage-between plan sound kept up n st a) x i at (apart i in_n)

    index-free : (i : ℕ) → is_among n i ≡ true → is_index_held k streams i ≡ false
    index-free i in_n = or_from (list_any (λ (c : Comp). c.pipe == i && is_held k streams c.id) k.comps) (list_any (λ (e : Edge). e.pipe == i && is_held k streams e.buffer) k.edges)
        (none-passes (λ (c : Comp). c.pipe == i && is_held k streams c.id) k.comps (λ c there. comp c (from-map (comp_while plan kept st.todo) (comps_left plan st) c there)))
        (none-passes (λ (e : Edge). e.pipe == i && is_held k streams e.buffer) k.edges (λ e there. edge e (from-map (edge_with st.joins) (edges_left plan st) e there)))
      where
        comp : (c : Comp) → (d : Comp) × IsIn d (comps_left plan st) × (c ≡ comp_while plan kept st.todo d) → (c.pipe == i && is_held k streams c.id) ≡ false
        comp c (d, there, is) = false_from_ne_true (c.pipe == i && is_held k streams c.id) (λ holds.
            let p = and_parts (d.pipe == i) (is_held k streams d.id) (ap (λ (x : Comp). x.pipe == i && is_held k streams x.id) (sym is) ∙ holds) in
            let found = in-all (λ (x : Comp). comp_of g x.id ≡ Some x) g.comps d (each-comp plan sound) (kept-in (λ (x : Comp). st.has x.id) g.comps d there).0 in
            true≢false (sym p.1 ∙ none-held d.id i (comp-named plan sound up d.id d found ∙ ap Some (eqb-true d.pipe i p.0)) in_n))

        edge : (e : Edge) → (d : Edge) × IsIn d (edges_left plan st) × (e ≡ edge_with st.joins d) → (e.pipe == i && is_held k streams e.buffer) ≡ false
        edge e (d, there, is) = false_from_ne_true (e.pipe == i && is_held k streams e.buffer) (λ holds.
            let p = and_parts (d.pipe == i) (is_held k streams d.buffer) (ap (λ (x : Edge). x.pipe == i && is_held k streams x.buffer) (sym is) ∙ holds) in
            let found = in-all (λ (x : Edge). edge_of g x.buffer ≡ Some x) g.edges d (each-edge plan sound) (kept-in (λ (x : Edge). st.has x.buffer) g.edges d there).0 in
            true≢false (sym p.1 ∙ none-held d.buffer i (edge-named plan sound up d.buffer d found ∙ ap Some (eqb-true d.pipe i p.0)) in_n))

  -- ---- one after another

  abbrev Any : There → Type 0
  Any t = Unit {0}

  abbrev Midway : There → Type 0
  Midway t = IsMidway plan kept up n t

  -- what is left of a stage, and of what is there
  less-stage : (st : Stage) (t : There) (id : ℕ) → IsAmid plan up n st → st.has id ≡ true → IsStage plan kept st t → there_after plan (Unmake id) (at_stage plan kept st t.heap) ≡ at_stage plan kept (without_id id st) (without_piece id t.heap) → IsStage plan kept (without_id id st) (there_after plan (Unmake id) t)
  less-stage st t id a has is gone =
      subst (IsStage plan kept (without_id id st)) (sym (ap (there_after plan (Unmake id)) is.is ∙ gone))
      (record { is = refl; heap = piece-less plan sound kept st (λ j here. (a.joins j here).0) t.heap id has is.heap })

  -- these are there, once each, and of these pipelines
  abbrev AreLeft : List ℕ → Stage → Type 0
  AreLeft ids st = (id : ℕ) → IsIn id ids → (of_n id ≡ true) × (st.has id ≡ true)

  left-rest : (id : ℕ) (ids : List ℕ) (st : Stage) → AreOnce (id ∷ ids) → AreLeft (id ∷ ids) st → AreLeft ids (without_id id st)
  left-rest id ids st once left x there =
      let r = left x (inr there) in
      (r.0, and_from (st.has x) (not (x == id)) r.1 (ap not (false_from_ne_true (x == id) (λ e. once.0 (subst (λ (y : ℕ). IsIn y ids) (eqb-true x id e) there)))))

  abbrev drops : List ℕ → Stage → Stage
  drops [] st = st
  drops (id ∷ ids) st = drops ids (without_id id st)

  drops-amid : (ids : List ℕ) (st : Stage) → ((id : ℕ) → IsIn id ids → of_n id ≡ true) → IsAmid plan up n st → IsAmid plan up n (drops ids st)
  drops-amid [] st of a = a
  drops-amid (id ∷ ids) st of a = drops-amid ids (without_id id st) (λ x there. of x (inr there)) (less-amid st id a (of id (inl refl)))

  -- what is left was there, and is none of these
  drops-has : (ids : List ℕ) (st : Stage) (x : ℕ) → (drops ids st).has x ≡ true → (st.has x ≡ true) × (IsIn x ids → ⊥)
  drops-has [] st x is = (is, λ none. none)
  drops-has (id ∷ ids) st x is = by (drops-has ids (without_id id st) x is)
    where
      by : ((st.has x && not (x == id)) ≡ true) × (IsIn x ids → ⊥) → (st.has x ≡ true) × (IsIn x (id ∷ ids) → ⊥)
      by (there, out) = (p.0, no)
        where
          p : (st.has x ≡ true) × (not (x == id) ≡ true)
          p = and_parts (st.has x) (not (x == id)) there

          no : IsIn x (id ∷ ids) → ⊥
          no (inl same) = true≢false (sym p.1 ∙ ap not (eq-eqb x id same))
          no (inr more) = out more

  -- one of these is unmade, and the others after it
  one-less : (id : ℕ) (ids : List ℕ) (st : Stage) (t : There) → IsAmid plan up n st → st.has id ≡ true → id < length plan.widgets → IsStage plan kept st t →
      told (row (silent_state (at_stage plan kept st t.heap)) (act_message plan (Unmake id))) ≡ Ok (at_stage plan kept (without_id id st) (without_piece id t.heap)) → (End : There → Type 0) →
      (IsStage plan kept (without_id id st) (there_after plan (Unmake id) t) → LeadsTo plan Midway (with_there plan s (there_after plan (Unmake id) t)) (map Unmake ids) End) → LeadsTo plan Midway (with_there plan s t) (map Unmake (id ∷ ids)) End
  one-less id ids st t a has low is said End then = (
    (st, a, is),
    refl,
    unmake-fits plan sound id low,
    λ f same staged. own-told plan (with_there plan s t) (Unmake id) (unmake-whole plan sound id) refl f same refl (at_stage plan kept (without_id id st) (without_piece id t.heap)) (ap (λ (x : There). told (row (silent_state x) (act_message plan (Unmake id)))) is.is ∙ said),
    λ f after staged done. unmakes-loose ids after,
    λ free.
        then (less-stage st t id a has is (left-told (at_stage plan kept st t.heap) (row (silent_state (at_stage plan kept st t.heap)) (act_message plan (Unmake id))) (at_stage plan kept (without_id id st) (without_piece id t.heap)) said)),
  )

  -- ids of one sort: where this holds of a stage, each that is there may go, and this holds of what is left
  abbrev MayGo : (ℕ → Type 0) → (Stage → Type 0) → Type 0
  MayGo Named Holds = (id : ℕ) → Named id → (st : Stage) → Holds st → IsAmid plan up n st → of_n id ≡ true → st.has id ≡ true → (h : HeapView) →
      (id < length plan.widgets) × (told (row (silent_state (at_stage plan kept st h)) (act_message plan (Unmake id))) ≡ Ok (at_stage plan kept (without_id id st) (without_piece id h))) × Holds (without_id id st)

  all-go : (Named : ℕ → Type 0) (Holds : Stage → Type 0) → MayGo Named Holds → (ids : List ℕ) (st : Stage) (t : There) → AreOnce ids → AreLeft ids st → ((id : ℕ) → IsIn id ids → Named id) → Holds st → IsAmid plan up n st → IsStage plan kept st t →
      (End : There → Type 0) → ((x : There) → IsStage plan kept (drops ids st) x → End x) → LeadsTo plan Midway (with_there plan s t) (map Unmake ids) End
  all-go Named Holds may [] st t once left named holds a is End ends = ends t is
  all-go Named Holds may (id ∷ ids) st t once left named holds a is End ends =
      let here = left id (inl refl) in
      let goes = may id (named id (inl refl)) st holds a here.0 here.1 t.heap in
      one-less id ids st t a here.1 goes.0 is goes.1 End
      (λ at. all-go Named Holds may ids (without_id id st) (there_after plan (Unmake id) t) once.1 (left-rest id ids st once left) (λ x there. named x (inr there)) goes.2 (less-amid st id a here.0) at End ends)

  -- ---- pipelines

  pipe-goes : MayGo (λ id. (p : Pipe) × (pipe_at g id ≡ Some p)) (λ st. Unit {0})
  pipe-goes id (p, found) st holds a in_n has h =
      let named = pipeline-found plan sound id p found in
      (named.low, free-pipe-told plan sound kept st (whole st a) h id has p found (index-free st a p.index (ap (is_among n) (sym named.is.index) ∙ in_n)), tt)

  -- ---- buffers

  -- no pipeline of these is there any more
  abbrev ArePipesGone : Stage → Type 0
  ArePipesGone st = (p : Pipe) → IsIn p g.pipes → is_among n p.index ≡ true → st.has p.id ≡ true → ⊥

  pipes-still : (st : Stage) (id : ℕ) → ArePipesGone st → ArePipesGone (without_id id st)
  pipes-still st id gone p there in_n has = gone p there in_n (and_parts (st.has p.id) (not (p.id == id)) has).0

  buffer-goes : MayGo (λ id. (e : Edge) × (edge_of g id ≡ Some e)) ArePipesGone
  buffer-goes id (e, found) st gone a in_n has h = (
    (buffer-found plan sound id e found).low,
    free-buffer-told plan sound kept st (whole st a) h id has e.pipe (edge-index-of plan sound kept st (whole st a) h id has e found) no-pipe e found (none-held st a id e.pipe (edge-named plan sound up id e found) of_edge) stay,
    pipes-still st id gone,
  )
    where
      of_edge : is_among n e.pipe ≡ true
      of_edge = ap (is_among n) (sym (edge-index plan sound id e found)) ∙ in_n

      no-pipe : (p : Pipe) → IsIn p g.pipes → p.index ≡ e.pipe → st.has p.id ≡ true → ⊥
      no-pipe p there same still = gone p there (ap (is_among n) same ∙ of_edge) still

      stay : stays (view_of (silent_state (at_stage plan kept st h))) (without_edge id (stage_graph plan kept st)) ≡ true
      stay =
          ap (stays (view_of (silent_state (at_stage plan kept st h)))) (buffer-gone plan sound kept st (whole st a) h id has e.pipe (edge-index-of plan sound kept st (whole st a) h id has e found) no-pipe e found)
          ∙ ways-stay plan sound kept up serving.held serving.shapes (λ (p : StreamPair). st.has p.0.host) (stage_graph plan kept st) (stage_graph plan kept (without_id id st)) (stage-between plan sound kept up n st a)
          (stage-between plan sound kept up n (without_id id st) (less-amid st id a in_n))

  -- ---- components

  -- the joins that are left are those of what is up
  abbrev AreUpJoins : Stage → Type 0
  AreUpJoins st = (j : Join) → IsIn j st.joins → is_join_of g up j ≡ true

  comp-goes : MayGo (λ id. (c : Comp) × (comp_of g id ≡ Some c)) (λ st. ArePipesGone st × AreUpJoins st)
  comp-goes id (c, found) st (gone, joins) a in_n has h = (
    (component-found plan sound id c found).low,
    free-comp-told plan sound kept st (whole st a) h id has c.pipe (comp-index-of plan sound kept st (whole st a) h id has c found)
        (λ p there same still. gone p there (ap (is_among n) (same ∙ sym (comp-index plan sound id c found)) ∙ in_n) still) c found (λ j there. up-untouched id in_n j (whole st a j there) (joins j there)),
    (pipes-still st id gone, λ j there. joins j (kept-in (λ (i : Join). not (touches id i)) st.joins j there).0),
  )

  -- ---- all of what there is

  module _ (st : Stage) (t : There) (a : IsAmid plan up n st) (is : IsStage plan kept st t) where
    abbrev ids : List ℕ
    ids = ids_there_of plan n t

    -- what of them there is
    among-ids : (x : ℕ) → is_among ids x ≡ true → (of_n x ≡ true) × (st.has x ≡ true)
    among-ids x in_ids =
        let p = and_parts (of_n x) (is_among (ids_there t) x) (sym (is_among-filter of_n (ids_there t) x) ∙ in_ids) in
        let q = and_parts (st.has x) (is_among (widget_ids plan) x) (sym (is_among-filter st.has (widget_ids plan) x) ∙ ap (λ (l : List ℕ). is_among l x) (sym pieces-are) ∙ p.1) in
        (p.0, q.0)
      where
        pieces-are : ids_there t ≡ filter st.has (widget_ids plan)
        pieces-are = is.heap.pieces

    ids-among : (x : ℕ) → x < length plan.widgets → of_n x ≡ true → st.has x ≡ true → is_among ids x ≡ true
    ids-among x low in_n has =
        is_among-filter of_n (ids_there t) x ∙ and_from (of_n x) (is_among (ids_there t) x) in_n
        (ap (λ (l : List ℕ). is_among l x) is.heap.pieces ∙ is_among-filter st.has (widget_ids plan) x ∙ and_from (st.has x) (is_among (widget_ids plan) x) has (in-among (widget_ids plan) x (low-range 0 (length plan.widgets) x (omega arith) (omega (arith, low)))))

    abbrev picked : List ℕ → List ℕ
    picked xs = filter (is_among ids) xs

    picked-left : (xs : List ℕ) → AreLeft (picked xs) st
    picked-left xs x there = among-ids x (kept-in (is_among ids) xs x there).1

    abbrev ps : List ℕ
    ps = picked (pipe_ids g)

    abbrev bs : List ℕ
    bs = picked (buffers g)

    abbrev cs : List ℕ
    cs = picked (components g)

    order-is : unmade_order g ids ≡ ps ++ (bs ++ cs)
    order-is = filter-append (is_among ids) (pipe_ids g) (buffers g ++ components g) ∙ ap (λ (l : List ℕ). ps ++ l) (filter-append (is_among ids) (buffers g) (components g))

    -- lists of ids that name something
    pipe-named : (id : ℕ) → IsIn id ps → (p : Pipe) × (pipe_at g id ≡ Some p)
    pipe-named id there = member-found (λ (p : Pipe). p.id) g.pipes id (kept-in (is_among ids) (pipe_ids g) id there).0

    edge-there : (id : ℕ) → IsIn id bs → (e : Edge) × (edge_of g id ≡ Some e)
    edge-there id there = member-found (λ (e : Edge). e.buffer) g.edges id (kept-in (is_among ids) (buffers g) id there).0

    comp-there : (id : ℕ) → IsIn id cs → (c : Comp) × (comp_of g id ≡ Some c)
    comp-there id there = member-found (λ (c : Comp). c.id) g.comps id (kept-in (is_among ids) (components g) id there).0

    -- ---- after the pipelines

    abbrev st1 : Stage
    st1 = drops ps st

    a1 : IsAmid plan up n st1
    a1 = drops-amid ps st (λ id there. (picked-left (pipe_ids g) id there).0) a

    gone1 : ArePipesGone st1
    gone1 p there in_n has =
        let r = drops-has ps st p.id has in
        let low = (pipeline-found plan sound p.id p (in-all (λ (x : Pipe). pipe_at g x.id ≡ Some x) g.pipes p (each-pipe plan sound) there)).low in
        r.1 (in-kept (is_among ids) (pipe_ids g) p.id (in-map (λ (x : Pipe). x.id) g.pipes p there) (ids-among p.id low (ap (is_among n) (own-index plan sound p there) ∙ in_n) r.0))

    -- what is left of a stage is left where its ids are others
    still-left : (xs ys : List ℕ) (w : Stage) → AreLeft ys w → ((x : ℕ) → IsIn x xs → IsIn x ys → ⊥) → AreLeft ys (drops xs w)
    still-left [] ys w left apart-from = left
    still-left (x ∷ xs) ys w left apart-from = still-left xs ys (without_id x w) (λ y there. let r = left y there in (r.0, and_from (w.has y) (not (y == x)) r.1 (ap not (false_from_ne_true (y == x) (λ e. apart-from x (inl refl) (subst (λ (z : ℕ). IsIn z ys) (eqb-true y x e) there)))))) (λ y there. apart-from y (inr there))

    pipe-no-edge : (x : ℕ) → IsIn x ps → IsIn x bs → ⊥
    pipe-no-edge x there here = let p = pipe-named x there in let e = edge-there x here in cc (sym (pipeline-found plan sound x p.0 p.1).no_edge ∙ e.1)

    pipe-no-comp : (x : ℕ) → IsIn x ps → IsIn x cs → ⊥
    pipe-no-comp x there here = let p = pipe-named x there in let c = comp-there x here in cc (sym (pipeline-found plan sound x p.0 p.1).no_comp ∙ c.1)

    edge-no-comp : (x : ℕ) → IsIn x bs → IsIn x cs → ⊥
    edge-no-comp x there here = let e = edge-there x there in let c = comp-there x here in cc (sym (buffer-found plan sound x e.0 e.1).no_comp ∙ c.1)

    -- ---- after the buffers

    abbrev st2 : Stage
    st2 = drops bs st1

    a2 : IsAmid plan up n st2
    a2 = drops-amid bs st1 (λ id there. (picked-left (buffers g) id there).0) a1

    gone2 : ArePipesGone st2
    gone2 p there in_n has = gone1 p there in_n (drops-has bs st1 p.id has).0

    joins2 : AreUpJoins st2
    joins2 j there = by (join-ends plan sound j o.0)
      where
        o : IsIn j g.joins × (st2.has j.source ≡ true) × (st2.has j.sink ≡ true)
        o = a2.joins j there

        by : JoinEnds plan sound j → is_join_of g up j ≡ true
        by r = ap (λ (x : Option ℕ). option_map_or (is_among up) x false) r.at ∙ ap (is_among up) (sym (edge-index plan sound b r.edge r.found)) ∙ in-up (or_cases (of_up b) (of_n b) (a2.only b has))
          where
            b : ℕ
            b = r.edge.buffer

            has : st2.has b ≡ true
            has = ends r.ends
              where
                ends : ((j.sink ≡ b) × (r.edge.source ≡ Some j.source)) ⊎ ((j.source ≡ b) × (r.edge.sink ≡ Some j.sink)) → st2.has b ≡ true
                ends (inl x) = ap st2.has (sym x.0) ∙ o.2
                ends (inr x) = ap st2.has (sym x.0) ∙ o.1

            in-up : (of_up b ≡ true) ⊎ (of_n b ≡ true) → of_up b ≡ true
            in-up (inl x) = x
            in-up (inr x) =
                let d = drops-has bs st1 b has in
                let d0 = drops-has ps st b d.0 in
                let low = (buffer-found plan sound b r.edge r.found).low in
                absurd (d.1 (in-kept (is_among ids) (buffers g) b (found-member (λ (e : Edge). e.buffer) g.edges b r.edge r.found) (ids-among b low x d0.0)))

    -- ---- after the components

    abbrev st3 : Stage
    st3 = drops cs st2

    a3 : IsAmid plan up n st3
    a3 = drops-amid cs st2 (λ id there. (picked-left (components g) id there).0) a2

    none-left : (x : ℕ) → x < length plan.widgets → st3.has x ≡ true → of_n x ≡ true → ⊥
    none-left x low has in_n = by (named-at plan sound x low)
      where
        d3 : (st2.has x ≡ true) × (IsIn x cs → ⊥)
        d3 = drops-has cs st2 x has

        d2 : (st1.has x ≡ true) × (IsIn x bs → ⊥)
        d2 = drops-has bs st1 x d3.0

        d1 : (st.has x ≡ true) × (IsIn x ps → ⊥)
        d1 = drops-has ps st x d2.0

        in_ids : is_among ids x ≡ true
        in_ids = ids-among x low in_n d1.0

        by : Names g x (widget_words plan x) → ⊥
        by (inl c) = d3.1 (in-kept (is_among ids) (components g) x (found-member (λ (y : Comp). y.id) g.comps x c.comp c.there) in_ids)
        by (inr (inl e)) = d2.1 (in-kept (is_among ids) (buffers g) x (found-member (λ (y : Edge). y.buffer) g.edges x e.edge e.there) in_ids)
        by (inr (inr p)) = d1.1 (in-kept (is_among ids) (pipe_ids g) x (found-member (λ (y : Pipe). y.id) g.pipes x p.pipe p.there) in_ids)

    end-has : (id : ℕ) → id < length plan.widgets → st3.has id ≡ of_up id
    end-has id low = same-bools (st3.has id) (of_up id) one (a3.there id)
      where
        one : st3.has id ≡ true → of_up id ≡ true
        one has = by (or_cases (of_up id) (of_n id) (a3.only id has))
          where
            by : (of_up id ≡ true) ⊎ (of_n id ≡ true) → of_up id ≡ true
            by (inl x) = x
            by (inr x) = absurd (none-left id low has x)

    -- the joins that are left are in their order
    end-joins : st3.joins ≡ flat_map (buffer_joins g) up
    end-joins = sym (filter-all (is_join_of g up) st3.joins (in-each (λ (j : Join). is_join_of g up j ≡ true) st3.joins (λ j there. joins3 cs st2 joins2 j there))) ∙ a3.rest
      where
        joins3 : (xs : List ℕ) (w : Stage) → AreUpJoins w → AreUpJoins (drops xs w)
        joins3 [] w up_joins = up_joins
        joins3 (x ∷ xs) w up_joins = joins3 xs (without_id x w) (λ j there. up_joins j (kept-in (λ (i : Join). not (touches x i)) w.joins j there).0)

    -- what is still to be set is of none that is up
    end-set : (c : Comp) → IsIn c g.comps → st3.has c.id ≡ true → comp_while plan kept st3.todo c ≡ comp_while plan kept [] c
    end-set c there has = ap (λ (b : Bool). comp_of_setting b) none
      where
        comp_of_setting : Bool → Comp
        comp_of_setting b = record { id = c.id; kind = c.kind; pipe = c.pipe; setting = cond b (first_setting (component_words c.kind (control_of plan c.id) (widget_words plan c.id))) (record_setting c.kind (control_at plan kept c.id)); ramp = c.ramp }

        in_up : of_up c.id ≡ true
        in_up = sym (end-has c.id (in-all (λ (x : Comp). x.id < length plan.widgets) g.comps c sound.comps_below there)) ∙ has

        none : list_any (λ (p : Pair). p.0.comp == c.id) st3.todo ≡ false
        none = none-passes (λ (p : Pair). p.0.comp == c.id) st3.todo (λ p here. false_from_ne_true (p.0.comp == c.id) (λ e.
            true≢false (sym in_up ∙ ap of_up (sym (eqb-true p.0.comp c.id e)) ∙ a3.todo p here)))

    end-same : (h : HeapView) → at_stage plan kept st3 h ≡ at_stage plan kept (up_stage plan up) h
    end-same h = at-same plan sound kept st3 (up_stage plan up) end-has end-set end-joins
        (λ p there has. a3.done p.id (sym (end-has p.id (in-all (λ (x : Pipe). x.id < length plan.widgets) g.pipes p sound.pipes_below there)) ∙ has)) h

    ends-up-so : (x : There) → IsStage plan kept st3 x → IsStage plan kept (up_stage plan up) x
    ends-up-so x at = record { is = at.is ∙ end-same x.heap; heap = heap-same plan sound kept st3 (up_stage plan up) end-has x.heap at.heap }

    -- ---- all acts

    -- two lists of them, one after another
    both-lead : (xs ys : List ℕ) (u : UpState) (Mid Last : There → Type 0) → LeadsTo plan Midway u (map Unmake xs) Mid → ((x : There) → Mid x → LeadsTo plan Midway (with_there plan u x) (map Unmake ys) Last) → LeadsTo plan Midway u (map Unmake (xs ++ ys)) Last
    both-lead xs ys u Mid Last first then = subst (λ (acts : List Act). LeadsTo plan Midway u acts Last) (sym (map-append Unmake xs ys)) (leads-on plan Midway Mid Last u (map Unmake xs) (map Unmake ys) first (unmakes-loose ys) then)

    unmakes-lead : LeadsTo plan Midway (with_there plan s t) (unmaking_acts plan ids) (λ x. IsStage plan kept (up_stage plan up) x)
    unmakes-lead =
        subst (λ (l : List ℕ). LeadsTo plan Midway (with_there plan s t) (map Unmake l) (λ x. IsStage plan kept (up_stage plan up) x)) (sym order-is)
        (both-lead ps (bs ++ cs) (with_there plan s t) (λ x. IsStage plan kept st1 x) (λ x. IsStage plan kept (up_stage plan up) x)
        (all-go (λ id. (p : Pipe) × (pipe_at g id ≡ Some p)) (λ st. Unit {0}) pipe-goes ps st t (once-filter (is_among ids) (pipe_ids g) (keys-once (λ (p : Pipe). p.id) g.pipes (Ascends-distinct (λ (p : Pipe). p.id) g.pipes sound.pipes_ascend))) (picked-left (pipe_ids g)) pipe-named tt a is (λ x. IsStage plan kept st1 x) (λ x at. at))
        (λ x at1. both-lead bs cs (with_there plan s x) (λ y. IsStage plan kept st2 y) (λ y. IsStage plan kept (up_stage plan up) y)
        (all-go (λ id. (e : Edge) × (edge_of g id ≡ Some e)) ArePipesGone buffer-goes bs st1 x (once-filter (is_among ids) (buffers g) (keys-once (λ (e : Edge). e.buffer) g.edges (Ascends-distinct (λ (e : Edge). e.buffer) g.edges sound.edges_ascend))) (still-left ps bs st (picked-left (buffers g)) pipe-no-edge) edge-there gone1 a1 at1 (λ y. IsStage plan kept st2 y) (λ y at. at))
        (λ y at2. all-go (λ id. (c : Comp) × (comp_of g id ≡ Some c)) (λ st. ArePipesGone st × AreUpJoins st) comp-goes cs st2 y (once-filter (is_among ids) (components g) (keys-once (λ (c : Comp). c.id) g.comps (Ascends-distinct (λ (c : Comp). c.id) g.comps sound.comps_ascend)))
        (still-left bs cs st1 (still-left ps cs st (picked-left (components g)) pipe-no-comp) edge-no-comp) comp-there (gone2, joins2) a2 at2 (λ z. IsStage plan kept (up_stage plan up) z) ends-up-so)))

    -- before each of them it is midway
    pub unmakes-amid : Runs plan Midway (with_there plan s t) (unmaking_acts plan ids) (λ x. IsStage plan kept (up_stage plan up) x)
    unmakes-amid = leads-runs plan Midway Midway (λ x. IsStage plan kept (up_stage plan up) x) (λ x mid. mid) (with_there plan s t) (unmaking_acts plan ids) unmakes-lead

    pub unmakes : Runs plan Any (with_there plan s t) (unmaking_acts plan ids) (λ x. IsStage plan kept (up_stage plan up) x)
    unmakes = leads-runs plan Midway Any (λ x. IsStage plan kept (up_stage plan up) x) (λ x mid. tt) (with_there plan s t) (unmaking_acts plan ids) unmakes-lead

    -- the firmware answers all of it as the rules say
    pub unmakes-answered : AreAnswered plan (with_there plan s t) (unmaking_acts plan ids)
    unmakes-answered = leads-answered plan Midway (λ x. IsStage plan kept (up_stage plan up) x) (with_there plan s t) (unmaking_acts plan ids) unmakes-lead
