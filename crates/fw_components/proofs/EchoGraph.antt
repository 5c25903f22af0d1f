-- The echo edges that are found by walks are those of the graph.
use Rattle.std.proofs.Common.{◌≡◌, refl, sym, ap, ◌∙◌, ℕ, List, [], ◌∷◌, map, filter, Bool, true, false, cond, not, ◌==◌, ◌&&◌, ◌||◌, Option, Some, None, inl, inr}
use Rattle.std.specs.Prelude.{find, option_and_then}
use Rattle.std.specs.List.{list_any}
use Rattle.std.specs.Option.{option_map_or}
use Rattle.std.proofs.lemmas.Bool.{eqb-true, true≢false, false≢true, and_parts, and_from, or_left}
use Rattle.std.proofs.lemmas.List.Folds.{list_any-append}
use Rattle.stream_law.specs.declared.graph.Comp.{Comp}
use Rattle.stream_law.specs.declared.graph.Edge.{Edge}
use Rattle.stream_law.specs.declared.graph.Join.{Join}
use Rattle.stream_law.specs.declared.graph.Pipe.{Pipe}
use Rattle.stream_law.specs.declared.graph.Graph.{Graph}
use Rattle.stream_law.specs.Ways.{components, edge_of, source_of, sink_of, is_of, is_play, is_capture, is_dai_play, splits, reaches, reached_by_some, reaches_some, leaves_split, enters_capture, is_echo, way_joins}
use Rattle.stream_law.specs.Order.{is_among}
use Rattle.stream_law.specs.Placed.{Ascends, HasDistinct}
use Rattle.stream_law.proofs.Members.{IsIn, in-filter, filter-any, find-in, any-in, in-any}
use Rattle.fw_places.specs.Charts.{Chart}
use Rattle.fw_places.specs.Walks.{leads_by}
use Rattle.fw_places.specs.WayCharts.{echo_edges}
use Rattle.fw_places.proofs.Charts.{member-listed, listed-member}
use Rattle.fw_places.proofs.EchoLaws.{find-own as find-edge}
use Rattle.fw_places.proofs.Reaching.{both-true}
use Rattle.fw_places.proofs.WayWalks.{echo-ends}
use Rattle.fw_units.specs.declared.component.Component.{Component}
use Rattle.fw_units.specs.Units.{comp_by, kind_by}
use Rattle.fw_components.specs.declared.echo_edges.KindSort.{KindSort}
use Rattle.fw_components.specs.declared.echo_edges.KindSort.TheVariants.{Play, Capture, DaiPlay, Split}
use Rattle.fw_components.specs.EchoEdges.{linked_ids, kind_test, is_kind_at, is_reached_by_kind, is_echo_between, is_echo_by, is_edge_in}
use Rattle.fw_components.proofs.HostWays.{find-own}

-- ---- tests and lists

-- the same test of each leaves the same
pub filter-same : {X : Type 0} (p q : X → Bool) (xs : List X) → ((x : X) → IsIn x xs → p x ≡ q x) → filter p xs ≡ filter q xs
filter-same p q [] same = refl
filter-same p q (x ∷ xs) same = (λ i. cond (same x (inl refl) i) (x ∷ filter-same p q xs (λ y there. same y (inr there)) i) (filter-same p q xs (λ y there. same y (inr there)) i))

-- where none passes, nothing is left
pub filter-none : {X : Type 0} (p : X → Bool) (xs : List X) → ((x : X) → p x ≡ false) → filter p xs ≡ []
filter-none p [] none = refl
filter-none p (x ∷ xs) none = ap (λ h. cond h (x ∷ filter p xs) (filter p xs)) (none x) ∙ filter-none p xs none

-- where all pass, all are left
pub filter-whole : {X : Type 0} (p : X → Bool) (xs : List X) → ((x : X) → p x ≡ true) → filter p xs ≡ xs
filter-whole p [] all = refl
filter-whole {X} p (x ∷ xs) all = ap (λ h. cond h (x ∷ filter p xs) (filter p xs)) (all x) ∙ ap (λ (ys : List X). x ∷ ys) (filter-whole p xs all)

and-assoc : (a b c : Bool) → (a && b && c) ≡ (a && (b && c))
and-assoc true b c = refl
and-assoc false b c = refl

-- ---- the graph of components, edges and joins

module _ (comps : List Component) (edges : List Edge) (pipes : List Pipe) (joins : List Join) (up : Ascends (λ c. c.id) comps) where
  abbrev pub graph : Graph
  graph = record { comps = map comp_by comps; edges = edges; pipes = pipes; joins = joins }

  -- a component of an id is of a kind as the one that is found by it is
  pub of-kind : (sort : KindSort) (id : ℕ) → is_kind_at comps sort id ≡ is_of graph (kind_test sort) id
  of-kind sort id = both-true _ _ forth back
    where
      forth : is_kind_at comps sort id ≡ true → is_of graph (kind_test sort) id ≡ true
      forth any =
          let r = any-in (λ (c : Component). c.id == id && kind_test sort (kind_by c.unit)) comps any in
          let parts = and_parts (r.0.id == id) (kind_test sort (kind_by r.0.unit)) r.2 in
          ap (λ (o : Option Comp). option_map_or (λ x. kind_test sort x.kind) o false) (ap (λ n. find (λ (x : Comp). x.id == n) (map comp_by comps)) (sym (eqb-true r.0.id id parts.0)) ∙ find-own comps r.0 up r.1)
          ∙ parts.1

      back : is_of graph (kind_test sort) id ≡ true → is_kind_at comps sort id ≡ true
      back is = found comps is
        where
          found : (cs : List Component) → option_map_or (λ x. kind_test sort x.kind) (find (λ x. x.id == id) (map comp_by cs)) false ≡ true → is_kind_at cs sort id ≡ true
          found [] is = absurd (false≢true is)
          found (c ∷ cs) is = by (c.id == id) is (found cs)
            where
              by : (h : Bool) → option_map_or (λ x. kind_test sort x.kind) (cond h (Some (comp_by c)) (find (λ x. x.id == id) (map comp_by cs))) false ≡ true
                  → (option_map_or (λ x. kind_test sort x.kind) (find (λ x. x.id == id) (map comp_by cs)) false ≡ true → is_kind_at cs sort id ≡ true)
                  → ((h && kind_test sort (kind_by c.unit)) || is_kind_at cs sort id) ≡ true
              by true is rest = or_left (kind_test sort (kind_by c.unit)) _ is
              by false is rest = rest is

  module _ (ids : List ℕ) (all : ids ≡ linked_ids comps edges) where
    abbrev chart : Chart
    chart = record { ids = ids; joins = joins }

    comp-listed : (id : ℕ) → IsIn id (components graph) → IsIn id ids
    comp-listed id there =
        listed-member ids id
        (ap (λ (xs : List ℕ). is_among xs id) all
        ∙ list_any-append (λ y. y == id) (map (λ (c : Component). c.id) comps) (map (λ (e : Edge). e.buffer) edges)
        ∙ or_left (is_among (map (λ (c : Component). c.id) comps) id) _ (ap (λ (xs : List ℕ). is_among xs id) (own comps) ∙ member-listed (components graph) id there))
      where
        own : (cs : List Component) → map (λ (c : Component). c.id) cs ≡ map (λ x. x.id) (map comp_by cs)
        own [] = refl
        own (c ∷ cs) = ap (λ (xs : List ℕ). c.id ∷ xs) (own cs)

    kind-listed : (sort : KindSort) (id : ℕ) → is_kind_at comps sort id ≡ true → IsIn id (components graph)
    kind-listed sort id any =
        let r = any-in (λ (c : Component). c.id == id && kind_test sort (kind_by c.unit)) comps any in
        member comps r.0 r.1 (eqb-true r.0.id id (and_parts (r.0.id == id) (kind_test sort (kind_by r.0.unit)) r.2).0)
      where
        member : (cs : List Component) (c : Component) → IsIn c cs → c.id ≡ id → IsIn id (map (λ x. x.id) (map comp_by cs))
        member [] c there is = absurd there
        member (d ∷ cs) c (inl same) is = inl (sym is ∙ ap (λ (x : Component). x.id) same)
        member (d ∷ cs) c (inr more) is = inr (member cs c more is)

    pub from-kind : (sort : KindSort) (x : ℕ) → is_reached_by_kind comps chart sort false x ≡ reached_by_some graph (kind_test sort) x
    unfolding reaches
    from-kind sort x = both-true _ _
        (λ any.
        let r = any-in (λ s. is_kind_at comps sort s && leads_by false joins s x) ids any in
        let parts = and_parts (is_kind_at comps sort r.0) (leads_by false joins r.0 x) r.2 in
        filter-any (λ c. reaches graph c x) (is_of graph (kind_test sort)) (components graph) r.0 (kind-listed sort r.0 parts.0) (sym (of-kind sort r.0) ∙ parts.0) parts.1)
        (λ any.
        let r = in-filter (λ c. reaches graph c x) (is_of graph (kind_test sort)) (components graph) any in
        in-any (λ s. is_kind_at comps sort s && leads_by false joins s x) ids r.0 (comp-listed r.0 r.1) (and_from (is_kind_at comps sort r.0) (leads_by false joins r.0 x) (of-kind sort r.0 ∙ r.2) r.3))

    pub to-kind : (sort : KindSort) (x : ℕ) → is_reached_by_kind comps chart sort true x ≡ reaches_some graph (kind_test sort) x
    unfolding reaches
    to-kind sort x = both-true _ _
        (λ any.
        let r = any-in (λ s. is_kind_at comps sort s && leads_by true joins s x) ids any in
        let parts = and_parts (is_kind_at comps sort r.0) (leads_by true joins r.0 x) r.2 in
        filter-any (λ c. reaches graph x c) (is_of graph (kind_test sort)) (components graph) r.0 (kind-listed sort r.0 parts.0) (sym (of-kind sort r.0) ∙ parts.0) parts.1)
        (λ any.
        let r = in-filter (λ c. reaches graph x c) (is_of graph (kind_test sort)) (components graph) any in
        in-any (λ s. is_kind_at comps sort s && leads_by true joins s x) ids r.0 (comp-listed r.0 r.1) (and_from (is_kind_at comps sort r.0) (leads_by true joins r.0 x) (of-kind sort r.0 ∙ r.2) r.3))

    -- an edge is an echo edge by its ends
    between : (source sink : Option ℕ) → is_echo_between comps chart source sink ≡ (option_map_or (leaves_split graph) source false && option_map_or (enters_capture graph) sink false)
    between None sink = refl
    between (Some a) None = no (leaves_split graph a)
      where
        no : (h : Bool) → false ≡ (h && false)
        no true = refl
        no false = refl
    between (Some a) (Some c) =
        (λ i. of-kind Split a i && from-kind Play a i && to-kind DaiPlay a i && to-kind Capture c i && not (to-kind DaiPlay c i))
        ∙ and-assoc (leaves_split graph a) (reaches_some graph is_capture c) (not (reaches_some graph is_dai_play c))

    module _ (distinct : HasDistinct (λ e. e.buffer) edges) where
      pub echo-by : (e : Edge) → IsIn e edges → is_echo_by comps chart e ≡ is_echo graph e.buffer
      unfolding is_echo
      echo-by e there =
          let found = find-edge edges e distinct there in
          between e.source e.sink
          ∙ sym (λ i. option_map_or (leaves_split graph) (option_and_then (λ (f : Edge). f.source) (found i)) false && option_map_or (enters_capture graph) (option_and_then (λ (f : Edge). f.sink) (found i)) false)

      pub echoes-are : filter (is_echo_by comps chart) edges ≡ echo_edges graph
      echoes-are = filter-same (is_echo_by comps chart) (λ e. is_echo graph e.buffer) edges echo-by

  -- an id is that of an echo edge
  pub echo-in : (x : ℕ) → is_edge_in (echo_edges graph) x ≡ is_echo graph x
  echo-in x = both-true _ _
      (λ any.
      let r = in-filter (λ (e : Edge). e.buffer == x) (λ e. is_echo graph e.buffer) edges any in
      ap (is_echo graph) (sym (eqb-true r.0.buffer x r.3)) ∙ r.2)
      (λ echo. has (edge_of graph x) refl echo)
    where
      has : (o : Option Edge) → edge_of graph x ≡ o → is_echo graph x ≡ true → is_edge_in (echo_edges graph) x ≡ true
      has None none echo = absurd (false≢true (sym (ap (λ (o : Option Edge). option_map_or (leaves_split graph) (option_and_then (λ e. e.source) o) false && option_map_or (enters_capture graph) (option_and_then (λ e. e.sink) o) false) none) ∙ echo-ends graph x echo))
      has (Some e) some echo =
          let it = find-in (λ f. f.buffer == x) edges e some in
          filter-any (λ (e : Edge). e.buffer == x) (λ e. is_echo graph e.buffer) edges e it.0 (ap (is_echo graph) (eqb-true e.buffer x it.1) ∙ echo) it.1

  pub left-joins : filter (λ j. not (is_edge_in (echo_edges graph) j.source) && not (is_edge_in (echo_edges graph) j.sink)) joins ≡ way_joins graph
  unfolding way_joins
  left-joins = filter-same (λ j. not (is_edge_in (echo_edges graph) j.source) && not (is_edge_in (echo_edges graph) j.sink)) (λ j. not (is_echo graph j.source) && not (is_echo graph j.sink)) joins
      (λ j there. (λ i. not (echo-in j.source i) && not (echo-in j.sink i)))

  -- ---- where no component splits

  module _ (plain : list_any (λ c. splits (kind_by c.unit)) comps ≡ false) where
    no-split : (id : ℕ) → is_of graph splits id ≡ false
    no-split id = by (is_of graph splits id) refl
      where
        by : (h : Bool) → is_of graph splits id ≡ h → is_of graph splits id ≡ false
        by true is =
            let r = any-in (λ (c : Component). c.id == id && splits (kind_by c.unit)) comps (of-kind Split id ∙ is) in
            absurd (true≢false (sym (in-any (λ (c : Component). splits (kind_by c.unit)) comps r.0 r.1 (and_parts (r.0.id == id) (splits (kind_by r.0.unit)) r.2).1) ∙ plain))
        by false is = is

    pub no-echo : (x : ℕ) → is_echo graph x ≡ false
    unfolding is_echo
    no-echo x = by (source_of graph x)
      where
        by : (o : Option ℕ) → (option_map_or (leaves_split graph) o false && option_map_or (enters_capture graph) (sink_of graph x) false) ≡ false
        by None = refl
        by (Some a) = (λ i. no-split a i && reached_by_some graph is_play a && reaches_some graph is_dai_play a && option_map_or (enters_capture graph) (sink_of graph x) false)

    pub no-echoes : echo_edges graph ≡ []
    no-echoes = filter-none (λ e. is_echo graph e.buffer) edges (λ e. no-echo e.buffer)

    pub all-joins : way_joins graph ≡ joins
    unfolding way_joins
    all-joins = filter-whole (λ j. not (is_echo graph j.source) && not (is_echo graph j.sink)) joins (λ j. (λ i. not (no-echo j.source i) && not (no-echo j.sink i)))
