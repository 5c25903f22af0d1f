-- A stage at which all that is up is there is between what is up and the whole.
use Rattle.std.proofs.Common.{◌≡◌, refl, sym, ap, subst, ◌∙◌, ℕ, List, [], ◌∷◌, filter, Bool, true, false, cond, inl, inr, ◌==◌, Some, None}
use Rattle.std.specs.Prelude.{Option, find}
use Rattle.std.specs.Option.{option_map, option_map_or}
use Rattle.std.specs.List.{flat_map, AllByRecursion}
use Rattle.std.proofs.lemmas.Bool.{false≢true, eqb-true, eq-eqb}
use Rattle.stream_law.specs.declared.graph.Comp.{Comp}
use Rattle.stream_law.specs.declared.graph.Edge.{Edge}
use Rattle.stream_law.specs.declared.graph.Join.{Join}
use Rattle.stream_law.specs.declared.graph.Graph.{Graph}
use Rattle.stream_law.specs.Ways.{comp_of, edge_of}
use Rattle.stream_law.specs.Order.{is_among}
use Rattle.stream_law.proofs.Members.{IsIn, in-all, in-each, find-in, in-kept, kept-in}
use Rattle.tplg_plan.specs.declared.plans.Plan.{Plan}
use Rattle.tplg_plan.specs.Sound.{IsSound, IsSideOf, IsBufferOf}
use Rattle.host_widgets.specs.declared.kept.Record.{Record}
use Rattle.host_widgets.specs.Acts.{widget_words}
use Rattle.host_widgets.proofs.Joined.{source_by, sink_by, edge_with, side-source, side-sink}
use Rattle.host_widgets.proofs.LookedUp.{find-map}
use Rattle.host_widgets.proofs.NamedIds.{component-found, buffer-found, each-comp, each-edge}
use Rattle.host_widgets.proofs.PutsTaken.{comp_while}
use Rattle.host_widgets.specs.Up.{is_join_at, buffer_joins}
use Rattle.host_widgets.proofs.Needs.{in-flat, among-in}
use Rattle.host_widgets.proofs.Between.{IsBetween, EndsIn, join-into, join-outof, fills-index, drains-index}
use Rattle.host_widgets.proofs.PartsBetween.{found-left}
use Rattle.host_widgets.proofs.UpStages.{Stage, index_of_id, is_join_of, stage_graph, comps_left, edges_left, HasUp, IsAmid}
use Rattle.host_widgets.specs.Indices.{join_index}

-- what a map of an option comes to
pub mapped : {X Y : Type 0} (f : X → Y) (o : Option X) (y : Y) → option_map f o ≡ Some y → (x : X) × (o ≡ Some x) × (f x ≡ y)
mapped f None y is = absurd (cc is)
mapped f (Some x) y is = (x, refl, cc is)

-- where a member passes, one is found
pub passing-found : {X : Type 0} (p : X → Bool) (xs : List X) (x : X) → IsIn x xs → p x ≡ true → (y : X) × (find p xs ≡ Some y)
passing-found p [] x none is = absurd none
passing-found {X} p (z ∷ zs) x there is = by (p z) refl there (passing-found p zs x)
  where
    by : (h : Bool) → p z ≡ h → IsIn x (z ∷ zs) → (IsIn x zs → p x ≡ true → (y : X) × (find p zs ≡ Some y)) → (y : X) × (cond h (Some z) (find p zs) ≡ Some y)
    by true e there rest = (z, refl)
    by false e (inl same) rest = absurd (false≢true (sym e ∙ ap p (sym same) ∙ is))
    by false e (inr more) rest = rest more is

module _ (plan : Plan) (sound : IsSound plan) where
  abbrev g : Graph
  g = plan.graph

  -- the words of a component's or a buffer's widget have its index
  pub comp-index : (a : ℕ) (c : Comp) → comp_of g a ≡ Some c → index_of_id plan a ≡ c.pipe
  comp-index a c found = (component-found plan sound a c found).is.pipe

  pub edge-index : (b : ℕ) (e : Edge) → edge_of g b ≡ Some e → index_of_id plan b ≡ e.pipe
  edge-index b e found = (buffer-found plan sound b e found).is.pipe

  -- what is found among those that are left is what is found in the whole
  pub comp-whole : (p : ℕ → Bool) (a : ℕ) (c : Comp) → find (λ (x : Comp). x.id == a) (filter (λ (x : Comp). p x.id) g.comps) ≡ Some c → (comp_of g a ≡ Some c) × (p a ≡ true)
  comp-whole p a c found =
      let r = find-in (λ (x : Comp). x.id == a) (filter (λ (x : Comp). p x.id) g.comps) c found in
      let k = kept-in (λ (x : Comp). p x.id) g.comps c r.0 in
      let same : c.id ≡ a = eqb-true c.id a r.1 in
      (ap (comp_of g) (sym same) ∙ in-all (λ (x : Comp). comp_of g x.id ≡ Some x) g.comps c (each-comp plan sound) k.0, ap p (sym same) ∙ k.1)

  pub edge-whole : (p : ℕ → Bool) (b : ℕ) (e : Edge) → find (λ (x : Edge). x.buffer == b) (filter (λ (x : Edge). p x.buffer) g.edges) ≡ Some e → (edge_of g b ≡ Some e) × (p b ≡ true)
  edge-whole p b e found =
      let r = find-in (λ (x : Edge). x.buffer == b) (filter (λ (x : Edge). p x.buffer) g.edges) e found in
      let k = kept-in (λ (x : Edge). p x.buffer) g.edges e r.0 in
      let same : e.buffer ≡ b = eqb-true e.buffer b r.1 in
      (ap (edge_of g) (sym same) ∙ in-all (λ (x : Edge). edge_of g x.buffer ≡ Some x) g.edges e (each-edge plan sound) k.0, ap p (sym same) ∙ k.1)

  module _ (kept : Record) (st : Stage) where
    abbrev k : Graph
    k = stage_graph plan kept st

    -- ---- look-ups at a stage

    pub stage-comp : (a : ℕ) → comp_of k a ≡ option_map (comp_while plan kept st.todo) (find (λ (x : Comp). x.id == a) (comps_left plan st))
    stage-comp a = find-map (λ (x : Comp). x.id) (λ (x : Comp). x.id) (comp_while plan kept st.todo) (λ (x : Comp). refl) (comps_left plan st) a

    pub stage-edge : (b : ℕ) → edge_of k b ≡ option_map (edge_with st.joins) (find (λ (x : Edge). x.buffer == b) (edges_left plan st))
    stage-edge b = find-map (λ (x : Edge). x.buffer) (λ (x : Edge). x.buffer) (edge_with st.joins) (λ (x : Edge). refl) (edges_left plan st) b

    pub comp-at : (a : ℕ) (c : Comp) → comp_of g a ≡ Some c → st.has a ≡ true → comp_of k a ≡ Some (comp_while plan kept st.todo c)
    comp-at a c found there =
        let same : c.id ≡ a = (component-found plan sound a c found).same in
        stage-comp a ∙ ap (option_map (comp_while plan kept st.todo)) (found-left (λ (x : Comp). x.id == a) (λ (x : Comp). st.has x.id) g.comps c found (ap st.has same ∙ there))

    pub edge-at : (b : ℕ) (e : Edge) → edge_of g b ≡ Some e → st.has b ≡ true → edge_of k b ≡ Some (edge_with st.joins e)
    edge-at b e found there =
        let same : e.buffer ≡ b = (buffer-found plan sound b e found).same in
        stage-edge b ∙ ap (option_map (edge_with st.joins)) (found-left (λ (x : Edge). x.buffer == b) (λ (x : Edge). st.has x.buffer) g.edges e found (ap st.has same ∙ there))

    pub at-comp : (a : ℕ) (c : Comp) → comp_of k a ≡ Some c → (d : Comp) × (comp_of g a ≡ Some d) × (st.has a ≡ true) × (comp_while plan kept st.todo d ≡ c)
    at-comp a c found =
        let m = mapped (comp_while plan kept st.todo) (find (λ (x : Comp). x.id == a) (comps_left plan st)) c (sym (stage-comp a) ∙ found) in
        let w = comp-whole st.has a m.0 m.1 in
        (m.0, w.0, w.1, m.2)

    pub at-edge : (b : ℕ) (e : Edge) → edge_of k b ≡ Some e → (f : Edge) × (edge_of g b ≡ Some f) × (st.has b ≡ true) × (edge_with st.joins f ≡ e)
    at-edge b e found =
        let m = mapped (edge_with st.joins) (find (λ (x : Edge). x.buffer == b) (edges_left plan st)) e (sym (stage-edge b) ∙ found) in
        let w = edge-whole st.has b m.0 m.1 in
        (m.0, w.0, w.1, m.2)

  -- ---- sides by joins of the whole

  module _ (js : List Join) (whole : (j : Join) → IsIn j js → IsIn j g.joins) where
    pub sides-of : AllByRecursion (IsSideOf g) js
    sides-of = in-each (IsSideOf g) js (λ j there. in-all (IsSideOf g) g.joins j sound.joins (whole j there))

    -- a side that is set is that of the whole
    pub source-in : (b : ℕ) (f : Edge) → edge_of g b ≡ Some f → EndsIn (source_by js f.buffer) f.source
    source-in b f found c is =
        let same : f.buffer ≡ b = (buffer-found plan sound b f found).same in
        let m = mapped (λ (j : Join). j.source) (find (λ (j : Join). j.sink == f.buffer) js) c is in
        side-source plan sound js sides-of f.buffer f m.0 (ap (edge_of g) same ∙ found) m.1 ∙ ap Some m.2

    pub sink-in : (b : ℕ) (f : Edge) → edge_of g b ≡ Some f → EndsIn (sink_by js f.buffer) f.sink
    sink-in b f found c is =
        let same : f.buffer ≡ b = (buffer-found plan sound b f found).same in
        let m = mapped (λ (j : Join). j.sink) (find (λ (j : Join). j.source == f.buffer) js) c is in
        side-sink plan sound js sides-of f.buffer f m.0 (ap (edge_of g) same ∙ found) m.1 ∙ ap Some m.2

    -- with all joins at a buffer its edge is that of the whole
    pub edge-full : (b : ℕ) (f : Edge) → edge_of g b ≡ Some f → ((j : Join) → IsIn j g.joins → join_index g j ≡ Some f.pipe → IsIn j js) → edge_with js f ≡ f
    edge-full b f found all = λ i. record { buffer = f.buffer; pipe = f.pipe; size = f.size; source = source i; sink = sink i }
      where
        same : f.buffer ≡ b
        same = (buffer-found plan sound b f found).same

        at : edge_of g f.buffer ≡ Some f
        at = ap (edge_of g) same ∙ found

        ends : IsBufferOf g (widget_words plan b) f
        ends = (buffer-found plan sound b f found).is

        source : source_by js f.buffer ≡ f.source
        source =
            let j = join-into plan sound [] f.buffer f ends.source.id at ends.from.0 in
            let from : comp_of g j.0.source ≡ Some ends.source = ap (comp_of g) j.2 ∙ ends.from.1 in
            let index = fills-index plan sound [] j.0 ends.source f from (ap (edge_of g) j.3 ∙ at) in
            let r = passing-found (λ (x : Join). x.sink == f.buffer) js j.0 (all j.0 j.1 index) (eq-eqb j.0.sink f.buffer j.3) in
            ap (option_map (λ (x : Join). x.source)) r.1 ∙ sym (side-source plan sound js sides-of f.buffer f r.0 at r.1)

        sink : sink_by js f.buffer ≡ f.sink
        sink =
            let j = join-outof plan sound [] f.buffer f ends.sink.id at ends.to.0 in
            let index = drains-index plan sound [] j.0 f (ap (edge_of g) j.2 ∙ at) in
            let r = passing-found (λ (x : Join). x.source == f.buffer) js j.0 (all j.0 j.1 index) (eq-eqb j.0.source f.buffer j.2) in
            ap (option_map (λ (x : Join). x.sink)) r.1 ∙ sym (side-sink plan sound js sides-of f.buffer f r.0 at r.1)

  -- ---- between

  module _ (kept : Record) (up : List ℕ) (st : Stage) (over : HasUp plan up st) where
    pub up-between : IsBetween g up (stage_graph plan kept st)
    up-between = record {
      comp_whole = λ a c found. let r = at-comp kept st a c found in (r.0, r.1, ap (λ (x : Comp). x.kind) (sym r.3));
      comp_up = λ a d found there. (comp_while plan kept st.todo d, comp-at kept st a d found (over.there a (ap (is_among up) (comp-index a d found) ∙ there)), refl);
      edge_whole = λ b e found. let r = at-edge kept st b e found in (
        r.0,
        r.1,
        subst (λ (x : Edge). EndsIn x.source r.0.source) r.3 (source-in st.joins over.whole b r.0 r.1),
        subst (λ (x : Edge). EndsIn x.sink r.0.sink) r.3 (sink-in st.joins over.whole b r.0 r.1),
      );
      edge_up = λ b f found there. edge-at kept st b f found (over.there b (ap (is_among up) (edge-index b f found) ∙ there))
          ∙ ap Some (edge-full st.joins over.whole b f found (λ j here at. over.joined j f.pipe here at there));
      join_whole = over.whole;
      join_up = over.joined;
    }

  module _ (up n : List ℕ) (st : Stage) (amid : IsAmid plan up n st) where
    pub amid-has : HasUp plan up st
    amid-has = record {
      there = amid.there;
      whole = λ j here. (amid.joins j here).0;
      joined = λ j i here at in_up.
          (let listed : IsIn j (flat_map (buffer_joins g) up) = in-flat (buffer_joins g) up i j (among-in up i in_up)
          (in-kept (is_join_at g i) g.joins j here (ap (λ (o : Option ℕ). option_map_or (λ m. m == i) o false) at ∙ eq-eqb i i refl)) in
          (kept-in (is_join_of g up) st.joins j (subst (IsIn j) (sym amid.rest) listed)).0);
      done = amid.done;
    }

  pub stage-between : (kept : Record) (up n : List ℕ) (st : Stage) → IsAmid plan up n st → IsBetween g up (stage_graph plan kept st)
  stage-between kept up n st amid = up-between kept up st (amid-has up n st amid)
