-- A firmware at a stage makes one join more, between what is there.
use Rattle.std.proofs.Common.{◌≡◌, refl, sym, ap, subst, ◌∙◌, ℕ, ◌+◌, ◌≤◌, List, [], ◌∷◌, ◌++◌, map, filter, length, Bool, true, false, cond, not, inl, inr, ◌⊎◌, ◌==◌, ◌||◌, ◌&&◌, Some, None, Ok, is_some, arith}
use Rattle.std.specs.Prelude.{Option, find, count_by, option_and_then}
use Rattle.std.specs.Option.{option_map}
use Rattle.std.specs.List.{list_any, AllByRecursion}
use Rattle.std.proofs.lemmas.Bool.{true≢false, eqb-true, eq-eqb, or_left, or_right, or_from, and_from, and_left, and_right, and_parts, le-leb, false_from_ne_true}
use Rattle.std.proofs.lemmas.List.Sums.{length-filter}
use Rattle.stream_law.specs.declared.graph.Comp.{Comp}
use Rattle.stream_law.specs.declared.graph.Edge.{Edge}
use Rattle.stream_law.specs.declared.graph.Join.{Join}
use Rattle.stream_law.specs.declared.graph.Graph.{Graph}
use Rattle.stream_law.specs.State.{HeapView, view_of}
use Rattle.stream_law.specs.Ways.{comp_of, edge_of, source_of, sink_of, is_end, ins, outs, leads, buffers}
use Rattle.stream_law.specs.Joins.{kind_ins, kind_outs, fits_kind, joined_edge, with_join, would_cycle, would_stay}
use Rattle.stream_law.proofs.Members.{IsIn, in-all, in-any, in-kept, kept-in}
use Rattle.stream_law.proofs.Waits.{eqb_turned}
use Rattle.stream_law.proofs.Walking.{path-of, walk-in, walks-lead}
use Rattle.ipc3_model.specs.declared.message.Message.TheVariants.{Connect}
use Rattle.mbox_link.specs.Step.{row, has_comp, has_edge, has_pipe, is_used, is_joined, takes_join, has_free_in, has_free_out, leads_in, leads_out, kind_at}
use Rattle.tplg_plan.specs.declared.plans.Plan.{Plan}
use Rattle.tplg_plan.specs.Sound.{IsSound, IsSideOf, IsPassed, FillsBuffer, DrainsBuffer}
use Rattle.host_widgets.specs.declared.kept.Record.{Record}
use Rattle.host_widgets.proofs.Joined.{source_by, sink_by, edge_with, never-both}
use Rattle.host_widgets.proofs.JoinRows.{connects, within-outs, within-ins, list_all-found, end-at}
use Rattle.host_widgets.proofs.LookedUp.{all-found, any-found, any-lost, map-twice, filter-fewer}
use Rattle.host_widgets.proofs.NamedIds.{component-found, buffer-found, each-edge}
use Rattle.host_widgets.proofs.PutsTaken.{comp_while}
use Rattle.host_widgets.specs.There.{silent_state}
use Rattle.host_widgets.proofs.Between.{found-member, side-of}
use Rattle.host_widgets.proofs.RowsTold.{told}
use Rattle.host_widgets.proofs.StageBetween.{comp-at, edge-at, at-comp, at-edge, source-in, sink-in}
use Rattle.host_widgets.proofs.Sublists.{filter-both, filter-map}
use Rattle.host_widgets.proofs.UpStages.{Stage, pipe_as, edges_left, comps_left, pipes_left, stage_graph, stage_streams, at_stage}
use Rattle.stream_law.proofs.OneSolution.{is_end-some}

-- ---- one of a kind

one-of : {X : Type 0} (xs : List X) (a b : X) → length xs ≡ 1 → IsIn a xs → IsIn b xs → a ≡ b
one-of [] a b long none b_in = absurd none
one-of {X} (x ∷ []) a b long a_in b_in = by a_in b_in
  where
    by : IsIn a (x ∷ []) → IsIn b (x ∷ []) → a ≡ b
    by (inl p) (inl q) = p ∙ sym q
    by (inl p) (inr none) = absurd none
    by (inr none) q = absurd none
one-of (x ∷ y ∷ ys) a b long a_in b_in = absurd (cc long)

-- where one member passes, it is the only one
pub count-one : {X : Type 0} (p : X → Bool) (xs : List X) (a b : X) → count_by p xs ≡ 1 → IsIn a xs → p a ≡ true → IsIn b xs → p b ≡ true → a ≡ b
count-one p xs a b one a_in a_is b_in b_is = one-of (filter p xs) a b (length-filter p xs ∙ one) (in-kept p xs a a_in a_is) (in-kept p xs b b_in b_is)

find-push : {X : Type 0} (p : X → Bool) (xs : List X) (x : X) → p x ≡ false → find p (xs ++ x ∷ []) ≡ find p xs
find-push p [] x apart = ap (λ (h : Bool). cond h (Some x) None) apart
find-push {X} p (y ∷ ys) x apart = ap (λ (o : Option X). cond (p y) (Some y) o) (find-push p ys x apart)

find-last : {X : Type 0} (p : X → Bool) (xs : List X) (x : X) → find p xs ≡ None → p x ≡ true → find p (xs ++ x ∷ []) ≡ Some x
find-last p [] x none here = ap (λ (h : Bool). cond h (Some x) None) here
find-last {X} p (y ∷ ys) x none here = by (p y) none (find-last p ys x)
  where
    by : (h : Bool) → cond h (Some y) (find p ys) ≡ None → (find p ys ≡ None → p x ≡ true → find p (ys ++ x ∷ []) ≡ Some x) → cond h (Some y) (find p (ys ++ x ∷ [])) ≡ Some x
    by true none rest = absurd (cc none)
    by false none rest = rest none here

-- nothing is found where no member passes
pub none-found : {X : Type 0} (p : X → Bool) (xs : List X) → ((x : X) → IsIn x xs → p x ≡ true → ⊥) → find p xs ≡ None
none-found p [] none = refl
none-found {X} p (x ∷ xs) none = by (p x) refl (none-found p xs (λ y there is. none y (inr there) is))
  where
    by : (h : Bool) → p x ≡ h → find p xs ≡ None → cond h (Some x) (find p xs) ≡ None
    by true e rest = absurd (none x (inl refl) e)
    by false e rest = rest

-- one join more
abbrev pub with_joined : Join → Stage → Stage
with_joined j st = record { has = st.has; joins = st.joins ++ j ∷ []; todo = st.todo; done = st.done }

module _ (plan : Plan) (sound : IsSound plan) (kept : Record) (st : Stage) (whole : (i : Join) → IsIn i st.joins → IsIn i plan.graph.joins) where
  abbrev g : Graph
  g = plan.graph

  abbrev k : Graph
  k = stage_graph plan kept st

  abbrev js : List Join
  js = st.joins

  -- ---- ids at a stage

  pub has-comp : (id : ℕ) (c : Comp) → comp_of g id ≡ Some c → st.has id ≡ true → has_comp k id ≡ true
  has-comp id c found there = any-found (λ (x : Comp). x.id == id) k.comps (comp_while plan kept st.todo c) (comp-at plan sound kept st id c found there)

  pub has-edge : (id : ℕ) (e : Edge) → edge_of g id ≡ Some e → st.has id ≡ true → has_edge k id ≡ true
  has-edge id e found there = any-found (λ (x : Edge). x.buffer == id) k.edges (edge_with js e) (edge-at plan sound kept st id e found there)

  pub no-comp : (id : ℕ) → comp_of g id ≡ None → comp_of k id ≡ None
  no-comp id none = by (comp_of k id) refl
    where
      by : (o : Option Comp) → comp_of k id ≡ o → comp_of k id ≡ None
      by None at = at
      by (Some c) at = let r = at-comp plan sound kept st id c at in absurd (cc (sym none ∙ r.1))

  pub no-edge : (id : ℕ) → edge_of g id ≡ None → edge_of k id ≡ None
  no-edge id none = by (edge_of k id) refl
    where
      by : (o : Option Edge) → edge_of k id ≡ o → edge_of k id ≡ None
      by None at = at
      by (Some e) at = let r = at-edge plan sound kept st id e at in absurd (cc (sym none ∙ r.1))

  pub used-comp : (id : ℕ) (c : Comp) → comp_of g id ≡ Some c → st.has id ≡ true → is_used k id ≡ true
  used-comp id c found there = or_left (has_comp k id || has_edge k id) (has_pipe k id) (or_left (has_comp k id) (has_edge k id) (has-comp id c found there))

  pub used-edge : (id : ℕ) (e : Edge) → edge_of g id ≡ Some e → st.has id ≡ true → is_used k id ≡ true
  used-edge id e found there = or_left (has_comp k id || has_edge k id) (has_pipe k id) (or_right (has_comp k id) (has_edge k id) (has-edge id e found there))

  pub stage-buffers : buffers k ≡ filter st.has (buffers g)
  stage-buffers =
      map-twice (λ (e : Edge). e.buffer) (edge_with js) (λ (e : Edge). e.buffer) (edges_left plan st) (each (edges_left plan st))
      ∙ sym (filter-map (λ (e : Edge). e.buffer) st.has g.edges)
    where
      each : (es : List Edge) → AllByRecursion (λ (e : Edge). (edge_with js e).buffer ≡ e.buffer) es
      each [] = tt
      each (e ∷ es) = (refl, each es)

  -- the sides at a stage are sides of the whole
  pub source-whole : (b c : ℕ) → source_of k b ≡ Some c → source_of g b ≡ Some c
  source-whole b c is = by (edge_of k b) refl
    where
      by : (o : Option Edge) → edge_of k b ≡ o → source_of g b ≡ Some c
      by None at = absurd (cc (sym is ∙ ap (option_and_then (λ (e : Edge). e.source)) at))
      by (Some e) at =
          let r = at-edge plan sound kept st b e at in
          let here : e.source ≡ Some c = sym (ap (option_and_then (λ (x : Edge). x.source)) at) ∙ is in
          ap (option_and_then (λ (x : Edge). x.source)) r.1 ∙ source-in plan sound js whole b r.0 r.1 c (ap (λ (x : Edge). x.source) r.3 ∙ here)

  pub sink-whole : (b c : ℕ) → sink_of k b ≡ Some c → sink_of g b ≡ Some c
  sink-whole b c is = by (edge_of k b) refl
    where
      by : (o : Option Edge) → edge_of k b ≡ o → sink_of g b ≡ Some c
      by None at = absurd (cc (sym is ∙ ap (option_and_then (λ (e : Edge). e.sink)) at))
      by (Some e) at =
          let r = at-edge plan sound kept st b e at in
          let here : e.sink ≡ Some c = sym (ap (option_and_then (λ (x : Edge). x.sink)) at) ∙ is in
          ap (option_and_then (λ (x : Edge). x.sink)) r.1 ∙ sink-in plan sound js whole b r.0 r.1 c (ap (λ (x : Edge). x.sink) r.3 ∙ here)

  module _ (j : Join) (there : IsIn j g.joins) (once : IsIn j js → ⊥) where
    -- ---- the side is free

    -- the only join into a buffer, and the only one out of it
    free-source : (b : ℕ) (e : Edge) → edge_of g b ≡ Some e → j.sink ≡ e.buffer → find (λ (i : Join). i.sink == e.buffer) js ≡ None
    free-source b e found at = none-found (λ (i : Join). i.sink == e.buffer) js (λ i here is.
        let passed = all-found (IsPassed g) (λ (x : Edge). x.buffer == b) g.edges e sound.passed found in
        once (subst (λ (x : Join). IsIn x js) (count-one (λ (x : Join). x.sink == e.buffer) g.joins i j passed.ins (whole i here) is there (eq-eqb j.sink e.buffer at)) here))

    free-sink : (b : ℕ) (e : Edge) → edge_of g b ≡ Some e → j.source ≡ e.buffer → find (λ (i : Join). i.source == e.buffer) js ≡ None
    free-sink b e found at = none-found (λ (i : Join). i.source == e.buffer) js (λ i here is.
        let passed = all-found (IsPassed g) (λ (x : Edge). x.buffer == b) g.edges e sound.passed found in
        once (subst (λ (x : Join). IsIn x js) (count-one (λ (x : Join). x.source == e.buffer) g.joins i j passed.outs (whole i here) is there (eq-eqb j.source e.buffer at)) here))

    -- ---- edges with one join more

    one-side : (e : Edge) → edge_of g e.buffer ≡ Some e → (j.source == e.buffer) ≡ true → (j.sink == e.buffer) ≡ false
    one-side e found here = by (side-of plan sound [] j there)
      where
        from : j.source ≡ e.buffer
        from = eqb-true j.source e.buffer here

        by : FillsBuffer g j ⊎ DrainsBuffer g j → (j.sink == e.buffer) ≡ false
        by (inl (c, f, comp, edge, is)) = never-both plan sound e.buffer c e (ap (comp_of g) (sym from) ∙ comp) found
        by (inr (f, c, edge, comp, is)) = false_from_ne_true (j.sink == e.buffer) (λ h. never-both plan sound e.buffer c e (ap (comp_of g) (sym (eqb-true j.sink e.buffer h)) ∙ comp) found)

    abbrev edge_by : Bool → Bool → Edge → Edge
    edge_by at_source at_sink e = cond at_source (record { buffer = e.buffer; pipe = e.pipe; size = e.size; source = source_by js e.buffer; sink = Some j.sink }) (cond at_sink (record { buffer = e.buffer; pipe = e.pipe; size = e.size; source = Some j.source; sink = sink_by js e.buffer }) (edge_with js e))

    edge-more : (e : Edge) → edge_of g e.buffer ≡ Some e → joined_edge j (edge_with js e) ≡ edge_with (js ++ j ∷ []) e
    edge-more e found = (λ i. edge_by (eqb_turned e.buffer j.source i) (eqb_turned e.buffer j.sink i) e) ∙ by (j.source == e.buffer) refl (j.sink == e.buffer) refl
      where
        sink_kept : (j.source == e.buffer) ≡ false → sink_by js e.buffer ≡ sink_by (js ++ j ∷ []) e.buffer
        sink_kept apart = ap (option_map (λ (x : Join). x.sink)) (sym (find-push (λ (x : Join). x.source == e.buffer) js j apart))

        source_kept : (j.sink == e.buffer) ≡ false → source_by js e.buffer ≡ source_by (js ++ j ∷ []) e.buffer
        source_kept apart = ap (option_map (λ (x : Join). x.source)) (sym (find-push (λ (x : Join). x.sink == e.buffer) js j apart))

        sink_set : (j.source == e.buffer) ≡ true → Some j.sink ≡ sink_by (js ++ j ∷ []) e.buffer
        sink_set here = ap (option_map (λ (x : Join). x.sink)) (sym (find-last (λ (x : Join). x.source == e.buffer) js j (free-sink e.buffer e found (eqb-true j.source e.buffer here)) here))

        source_set : (j.sink == e.buffer) ≡ true → Some j.source ≡ source_by (js ++ j ∷ []) e.buffer
        source_set here = ap (option_map (λ (x : Join). x.source)) (sym (find-last (λ (x : Join). x.sink == e.buffer) js j (free-source e.buffer e found (eqb-true j.sink e.buffer here)) here))

        by : (h : Bool) → (j.source == e.buffer) ≡ h → (m : Bool) → (j.sink == e.buffer) ≡ m → edge_by h m e ≡ edge_with (js ++ j ∷ []) e
        by true at m to = λ i. record { buffer = e.buffer; pipe = e.pipe; size = e.size; source = source_kept (one-side e found at) i; sink = sink_set at i }
        by false at true to = λ i. record { buffer = e.buffer; pipe = e.pipe; size = e.size; source = source_set to i; sink = sink_kept at i }
        by false at false to = λ i. record { buffer = e.buffer; pipe = e.pipe; size = e.size; source = source_kept to i; sink = sink_kept at i }

    pub graph-joined : with_join k j ≡ stage_graph plan kept (with_joined j st)
    graph-joined = λ i. record { comps = map (comp_while plan kept st.todo) (comps_left plan st); edges = map-twice (joined_edge j) (edge_with js) (edge_with (js ++ j ∷ [])) (edges_left plan st) (more (edges_left plan st) (λ e here. here)) i; pipes = map (pipe_as st.done) (pipes_left plan st); joins = js ++ j ∷ [] }
      where
        more : (es : List Edge) → ((e : Edge) → IsIn e es → IsIn e (edges_left plan st)) → AllByRecursion (λ (e : Edge). joined_edge j (edge_with js e) ≡ edge_with (js ++ j ∷ []) e) es
        more [] within = tt
        more (e ∷ es) within =
            let r = kept-in (λ (x : Edge). st.has x.buffer) g.edges e (within e (inl refl)) in
            (edge-more e (in-all (λ (x : Edge). edge_of g x.buffer ≡ Some x) g.edges e (each-edge plan sound) r.0), more es (λ x here. within x (inr here)))

    -- ---- the row

    no-cycle : would_cycle k j.source j.sink ≡ false
    unfolding would_cycle
    no-cycle = false_from_ne_true (leads js (length js) j.sink j.source) (λ h.
        let w = path-of js (length js) j.sink j.source h in
        true≢false (sym (walks-lead g.joins j.sink j.source (w.0, walk-in js g.joins whole w.0 j.sink j.source w.1)) ∙ (in-all (IsSideOf g) g.joins j sound.joins there).open_ends))

    module _ (from : st.has j.source ≡ true) (to : st.has j.sink ≡ true) where
      record AreReady : Type 0 where
        source_used : is_used k j.source ≡ true
        sink_used : is_used k j.sink ≡ true
        free : is_joined k j.source j.sink ≡ false
        takes : takes_join k j.source j.sink ≡ true

      -- from a component into a buffer
      module _ (c : Comp) (e : Edge) (comp : comp_of g j.source ≡ Some c) (edge : edge_of g j.sink ≡ Some e) (is : e.source ≡ Some j.source) where
        in-same : j.sink ≡ e.buffer
        in-same = sym (buffer-found plan sound j.sink e edge).same

        in-none : source_of k j.sink ≡ None
        in-none = ap (option_and_then (λ (x : Edge). x.source)) (edge-at plan sound kept st j.sink e edge to) ∙ ap (option_map (λ (x : Join). x.source)) (free-source j.sink e edge in-same)

        in-apart : has_edge k j.source ≡ false
        in-apart = any-lost (λ (x : Edge). x.buffer == j.source) k.edges (no-edge j.source (component-found plan sound j.source c comp).no_edge)

        in-free : is_joined k j.source j.sink ≡ false
        in-free = or_from (leads_in k j.source j.sink && is_some (source_of k j.sink)) (leads_out k j.source j.sink && is_some (sink_of k j.source)) (and_right (leads_in k j.source j.sink) (is_some (source_of k j.sink)) (ap is_some in-none)) (and_left (leads_out k j.source j.sink) (is_some (sink_of k j.source)) (and_left (has_edge k j.source) (has_comp k j.sink) in-apart))

        in-fewer : length (outs k j.source) + 1 ≤ length (outs g j.source)
        in-fewer = subst (λ (ids : List ℕ). length (filter before ids) + 1 ≤ length (outs g j.source)) (sym stage-buffers)
            (subst (λ (ids : List ℕ). length ids + 1 ≤ length (outs g j.source)) (sym (filter-both before st.has (buffers g)))
            (filter-fewer (λ (b : ℕ). st.has b && before b) after step (buffers g) some))
          where
            before : ℕ → Bool
            before b = is_end (source_of k b) j.source

            after : ℕ → Bool
            after b = is_end (source_of g b) j.source

            step : (b : ℕ) → (st.has b && before b) ≡ true → after b ≡ true
            step b h = end-at (source_of g b) j.source (source-whole b j.source (is_end-some (source_of k b) j.source (and_parts (st.has b) (before b) h).1))

            some : list_any (λ (b : ℕ). not (st.has b && before b) && after b) (buffers g) ≡ true
            some = in-any (λ (b : ℕ). not (st.has b && before b) && after b) (buffers g) j.sink (found-member (λ (x : Edge). x.buffer) g.edges j.sink e edge)
                (and_from (not (st.has j.sink && before j.sink)) (after j.sink)
                (ap not (and_right (st.has j.sink) (before j.sink) (ap (λ (o : Option ℕ). is_end o j.source) in-none)))
                (end-at (source_of g j.sink) j.source (ap (option_and_then (λ (x : Edge). x.source)) edge ∙ is)))

        in-takes : takes_join k j.source j.sink ≡ true
        in-takes =
            let kind : kind_at k j.source ≡ Some c.kind = ap (option_map (λ (x : Comp). x.kind)) (comp-at plan sound kept st j.source c comp from) in
            let fits = list_all-found (λ (x : Comp). fits_kind x.kind (length (ins g x.id)) (length (outs g x.id))) (λ (x : Comp). x.id == j.source) g.comps c sound.fits comp in
            let same : c.id ≡ j.source = (component-found plan sound j.source c comp).same in
            let most : length (outs g c.id) ≤ kind_outs c.kind = within-outs c.kind (length (ins g c.id)) (length (outs g c.id)) fits in
            let one : length (outs g c.id) ≡ length (outs g j.source) = ap (λ (id : ℕ). length (outs g id)) same in
            let room : has_free_out k j.source (kind_at k j.source) ≡ true = ap (has_free_out k j.source) kind ∙ le-leb (length (outs k j.source) + 1) (kind_outs c.kind) (omega (arith, in-fewer, most, one)) in
            or_left (leads_in k j.source j.sink && has_free_out k j.source (kind_at k j.source)) (leads_out k j.source j.sink && has_free_in k j.sink (kind_at k j.sink))
            (and_from (leads_in k j.source j.sink) (has_free_out k j.source (kind_at k j.source)) (and_from (has_comp k j.source) (has_edge k j.sink) (has-comp j.source c comp from) (has-edge j.sink e edge to)) room)

        in-ready : AreReady
        in-ready = record { source_used = used-comp j.source c comp from; sink_used = used-edge j.sink e edge to; free = in-free; takes = in-takes }

      -- from a buffer into a component
      module _ (e : Edge) (c : Comp) (edge : edge_of g j.source ≡ Some e) (comp : comp_of g j.sink ≡ Some c) (is : e.sink ≡ Some j.sink) where
        out-same : j.source ≡ e.buffer
        out-same = sym (buffer-found plan sound j.source e edge).same

        out-none : sink_of k j.source ≡ None
        out-none = ap (option_and_then (λ (x : Edge). x.sink)) (edge-at plan sound kept st j.source e edge from) ∙ ap (option_map (λ (x : Join). x.sink)) (free-sink j.source e edge out-same)

        out-apart : has_comp k j.source ≡ false
        out-apart = any-lost (λ (x : Comp). x.id == j.source) k.comps (no-comp j.source (buffer-found plan sound j.source e edge).no_comp)

        out-free : is_joined k j.source j.sink ≡ false
        out-free = or_from (leads_in k j.source j.sink && is_some (source_of k j.sink)) (leads_out k j.source j.sink && is_some (sink_of k j.source)) (and_left (leads_in k j.source j.sink) (is_some (source_of k j.sink)) (and_left (has_comp k j.source) (has_edge k j.sink) out-apart)) (and_right (leads_out k j.source j.sink) (is_some (sink_of k j.source)) (ap is_some out-none))

        out-fewer : length (ins k j.sink) + 1 ≤ length (ins g j.sink)
        out-fewer = subst (λ (ids : List ℕ). length (filter before ids) + 1 ≤ length (ins g j.sink)) (sym stage-buffers)
            (subst (λ (ids : List ℕ). length ids + 1 ≤ length (ins g j.sink)) (sym (filter-both before st.has (buffers g)))
            (filter-fewer (λ (b : ℕ). st.has b && before b) after step (buffers g) some))
          where
            before : ℕ → Bool
            before b = is_end (sink_of k b) j.sink

            after : ℕ → Bool
            after b = is_end (sink_of g b) j.sink

            step : (b : ℕ) → (st.has b && before b) ≡ true → after b ≡ true
            step b h = end-at (sink_of g b) j.sink (sink-whole b j.sink (is_end-some (sink_of k b) j.sink (and_parts (st.has b) (before b) h).1))

            some : list_any (λ (b : ℕ). not (st.has b && before b) && after b) (buffers g) ≡ true
            some = in-any (λ (b : ℕ). not (st.has b && before b) && after b) (buffers g) j.source (found-member (λ (x : Edge). x.buffer) g.edges j.source e edge)
                (and_from (not (st.has j.source && before j.source)) (after j.source)
                (ap not (and_right (st.has j.source) (before j.source) (ap (λ (o : Option ℕ). is_end o j.sink) out-none)))
                (end-at (sink_of g j.source) j.sink (ap (option_and_then (λ (x : Edge). x.sink)) edge ∙ is)))

        out-takes : takes_join k j.source j.sink ≡ true
        out-takes =
            let kind : kind_at k j.sink ≡ Some c.kind = ap (option_map (λ (x : Comp). x.kind)) (comp-at plan sound kept st j.sink c comp to) in
            let fits = list_all-found (λ (x : Comp). fits_kind x.kind (length (ins g x.id)) (length (outs g x.id))) (λ (x : Comp). x.id == j.sink) g.comps c sound.fits comp in
            let same : c.id ≡ j.sink = (component-found plan sound j.sink c comp).same in
            let most : length (ins g c.id) ≤ kind_ins c.kind = within-ins c.kind (length (ins g c.id)) (length (outs g c.id)) fits in
            let one : length (ins g c.id) ≡ length (ins g j.sink) = ap (λ (id : ℕ). length (ins g id)) same in
            let room : has_free_in k j.sink (kind_at k j.sink) ≡ true = ap (has_free_in k j.sink) kind ∙ le-leb (length (ins k j.sink) + 1) (kind_ins c.kind) (omega (arith, out-fewer, most, one)) in
            or_right (leads_in k j.source j.sink && has_free_out k j.source (kind_at k j.source)) (leads_out k j.source j.sink && has_free_in k j.sink (kind_at k j.sink))
            (and_from (leads_out k j.source j.sink) (has_free_in k j.sink (kind_at k j.sink)) (and_from (has_edge k j.source) (has_comp k j.sink) (has-edge j.source e edge from) (has-comp j.sink c comp to)) room)

        out-ready : AreReady
        out-ready = record { source_used = used-edge j.source e edge from; sink_used = used-comp j.sink c comp to; free = out-free; takes = out-takes }

      ready : AreReady
      ready = by (side-of plan sound [] j there)
        where
          by : FillsBuffer g j ⊎ DrainsBuffer g j → AreReady
          by (inl (c, e, comp, edge, is)) = in-ready c e comp edge is
          by (inr (e, c, edge, comp, is)) = out-ready e c edge comp is

      -- what is there after it, where the ways of streams stay
      pub join-told : (h : HeapView) → would_stay (view_of (silent_state (at_stage plan kept st h))) j.source j.sink ≡ true →
          told (row (silent_state (at_stage plan kept st h)) (Connect j.source j.sink)) ≡ Ok (at_stage plan kept (with_joined j st) h)
      join-told h stay =
          ap told (connects (silent_state (at_stage plan kept st h)) j.source j.sink ready.source_used ready.sink_used ready.free ready.takes no-cycle stay)
          ∙ (λ i. Ok (record { heap = h; graph = graph-joined i; streams = stage_streams plan kept st }))
