-- Walks of ways are walks along the edges that are no echo edges. So no host that captures is on a way of one that plays.
use Rattle.std.proofs.Common.{◌≡◌, refl, sym, ap, subst, ◌∙◌, ℕ, zero, suc, List, [], ◌∷◌, map, length, filter, Bool, true, false, not, cond, ◌&&◌, ◌||◌, ◌==◌, Option, Some, None, find, ◌⊎◌, inl, inr, slice_get, option_and_then}
use Rattle.std.specs.Option.{option_map, option_map_or}
use Rattle.std.specs.List.{list_any, AllByRecursion}
use Rattle.std.proofs.lemmas.Bool.{false≢true, true≢false, and_parts, and_from, or_cases, or_left, or_right, eq-eqb, eqb-true, false_from_ne_true, cases_Bool}
use Rattle.std.proofs.lemmas.Option.{same_Some, slice_get_within}
use Rattle.stream_law.specs.declared.graph.Kind.{Kind}
use Rattle.stream_law.specs.declared.graph.Comp.{Comp}
use Rattle.stream_law.specs.declared.graph.Edge.{Edge}
use Rattle.stream_law.specs.declared.graph.Join.{Join}
use Rattle.stream_law.specs.Ways as law
use Rattle.stream_law.specs.Ways.{comp_of, edge_of, components, reaches, is_echo, is_end, is_play, is_capture, is_dai_play, splits, way_joins, ways_to}
use Rattle.stream_law.specs.Joins.{crosses}
use Rattle.stream_law.proofs.Members.{IsIn, in-all, any-in, in-any, find-in, in-filter, filter-any, kept-in}
use Rattle.stream_law.proofs.Walking.{Path, Walks, path-of, leads-same, walk-on, walks-lead}
use Rattle.tplg_widgets.specs.declared.entry.Entry.{Entry}
use Rattle.tplg_widgets.specs.Entries.{interpreted}
use Rattle.tplg_widgets.specs.GraphLists.{edge_at, components_on, edges_on, route_in, route_out}
use Rattle.tplg_walks.specs.Rules.{HoldsAll}
use Rattle.tplg_rules.specs.RuleTable.{buffers_rule}
use Rattle.tplg_walks.specs.Cycles.{are_joined, EdgeWalk, Reaches, ReachesCapture, ways_rule}
use Rattle.tplg_walks.specs.Echoes as rules
use Rattle.tplg_walks.specs.Echoes.{plain_edges}
use Rattle.tplg_walks.proofs.Among.{is_end-some}
use Rattle.tplg_walks.proofs.Leading.{reaches-from, reaches-to, some-to}
use Rattle.tplg_graph.proofs.KeyedLists.{all-made}
use Rattle.tplg_graph.proofs.ByIds.{made_edge, of-edge}
use Rattle.tplg_graph.proofs.NamedIds.{graph_of, edge-by-id, edge-there}
use Rattle.tplg_graph.proofs.OrderableEnds.{IsComp, IsBuf, Good, apart, find-good}
use Rattle.tplg_graph.proofs.WalkedJoins.{JoinWalk, IsOwn, own, one-way, leads-joins, reaches-edges, route-in-is, route-out-is}

-- ---- members

-- a member has a place
in-place : {X : Type 0} (x : X) (xs : List X) → IsIn x xs → (k : ℕ) × (slice_get xs k ≡ Some x)
in-place x [] here = absurd here
in-place x (y ∷ ys) (inl e) = (0, ap Some (sym e))
in-place x (y ∷ ys) (inr more) = let r = in-place x ys more in (suc r.0, r.1)

-- the id of a member is among the ids
in-ids : (c : Comp) (cs : List Comp) → IsIn c cs → IsIn c.id (map (λ (x : Comp). x.id) cs)
in-ids c [] here = absurd here
in-ids c (d ∷ ds) (inl e) = inl (ap (λ (x : Comp). x.id) e)
in-ids c (d ∷ ds) (inr more) = inr (in-ids c ds more)

-- an option that is mapped is there
map-some : {X : Type 0} (f : X → ℕ) (o : Option X) (a : ℕ) → option_map f o ≡ Some a → (x : X) × (o ≡ Some x) × (f x ≡ a)
map-some f None a e = cc
map-some f (Some x) a e = (x, refl, (let s : f x ≡ a = cc in s))

test-some : {X : Type 0} (p : X → Bool) (o : Option X) → option_map_or p o false ≡ true → (x : X) × (o ≡ Some x) × (p x ≡ true)
test-some p None e = absurd (false≢true e)
test-some p (Some x) e = (x, refl, e)

-- ---- over real routes

module _ (es : List Entry) (js : List Join) (good : AllByRecursion (Good (interpreted es)) js) (rule : HoldsAll (buffers_rule es js)) where
  -- a component of a sort by the rules, and by the graph
  record IsSort (sort : Kind → Bool) (a : ℕ) : Type 0 where
    pub comp : Comp
    pub there : IsIn comp (components_on (interpreted es) js)
    pub id : comp.id ≡ a
    pub found : comp_of (graph_of es js) a ≡ Some comp
    pub passes : sort comp.kind ≡ true
    pub is : IsComp (interpreted es) a

  ruled : (sort : Kind → Bool) (a : ℕ) → rules.is_sort_at (components_on (interpreted es) js) sort a ≡ true → IsSort sort a
  ruled sort a h =
      let c = any-in (λ c. c.id == a && sort c.kind) (components_on (interpreted es) js) h in
      let parts = and_parts (c.0.id == a) (sort c.0.kind) c.2 in
      let same : c.0.id ≡ a = eqb-true c.0.id a parts.0 in
      let o = in-all (IsOwn es js good rule) (components_on (interpreted es) js) c.0 (own es js good rule) c.1 in
      record { comp = c.0; there = c.1; id = same; found = ap (comp_of (graph_of es js)) (sym same) ∙ o.found; passes = parts.1; is = subst (IsComp (interpreted es)) same o.sort }

  seen : (sort : Kind → Bool) (a : ℕ) → law.is_of (graph_of es js) sort a ≡ true → IsSort sort a
  seen sort a h =
      let c = test-some (λ (x : Comp). sort x.kind) (comp_of (graph_of es js) a) h in
      let f = find-in (λ (x : Comp). x.id == a) (components_on (interpreted es) js) c.0 c.1 in
      let same : c.0.id ≡ a = eqb-true c.0.id a f.1 in
      let o = in-all (IsOwn es js good rule) (components_on (interpreted es) js) c.0 (own es js good rule) f.0 in
      record { comp = c.0; there = f.0; id = same; found = c.1; passes = c.2; is = subst (IsComp (interpreted es)) same o.sort }

  -- so both say the same
  shown : (sort : Kind → Bool) (a : ℕ) → IsSort sort a → law.is_of (graph_of es js) sort a ≡ true
  shown sort a s = ap (λ o. option_map_or (λ (x : Comp). sort x.kind) o false) s.found ∙ s.passes

  told : (sort : Kind → Bool) (a : ℕ) → IsSort sort a → rules.is_sort_at (components_on (interpreted es) js) sort a ≡ true
  told sort a s = in-any (λ c. c.id == a && sort c.kind) (components_on (interpreted es) js) s.comp s.there (and_from (s.comp.id == a) (sort s.comp.kind) (eq-eqb s.comp.id a s.id) s.passes)

  listed : (sort : Kind → Bool) (a : ℕ) → IsSort sort a → IsIn a (components (graph_of es js))
  listed sort a s = subst (λ x. IsIn x (components (graph_of es js))) s.id (in-ids s.comp (components_on (interpreted es) js) s.there)

  -- ---- edges

  record IsMade (e : Edge) : Type 0 where
    pub buffer : IsBuf (interpreted es) e.buffer
    pub source : e.source ≡ option_map (λ j. j.source) (route_in js e.buffer)
    pub sink : e.sink ≡ option_map (λ j. j.sink) (route_out js e.buffer)
    pub found : edge_of (graph_of es js) e.buffer ≡ Some e

  made : AllByRecursion IsMade (edges_on (interpreted es) js)
  made = all-made IsMade (edge_at (interpreted es) js) 0 (length (interpreted es)) (λ k e high h.
      let o = of-edge (interpreted es) js k e h in
      record {
        buffer = subst (IsBuf (interpreted es)) (sym o.buffer) (record { entry = o.entry; there = o.there; sort = o.sort });
        source = o.source ∙ ap (λ b. option_map (λ j. j.source) (route_in js b)) (sym o.buffer);
        sink = o.sink ∙ ap (λ b. option_map (λ j. j.sink) (route_out js b)) (sym o.buffer);
        found = ap (edge_of (graph_of es js)) o.buffer ∙ edge-by-id es js k ∙ h;
      })

  made-in : (e : Edge) → IsIn e (edges_on (interpreted es) js) → IsMade e
  made-in e here = in-all IsMade (edges_on (interpreted es) js) e made here

  -- an edge is two joins
  edge-path : (e : Edge) (a c : ℕ) → IsIn e (edges_on (interpreted es) js) → e.source ≡ Some a → e.sink ≡ Some c → Path js 2 a c
  edge-path e a c here is_a is_c =
      let m = made-in e here in
      let i = map-some (λ (j : Join). j.source) (route_in js e.buffer) a (sym m.source ∙ is_a) in
      let o = map-some (λ (j : Join). j.sink) (route_out js e.buffer) c (sym m.sink ∙ is_c) in
      let into = find-in (λ (j : Join). j.sink == e.buffer) js i.0 i.1 in
      let out = find-in (λ (j : Join). j.source == e.buffer) js o.0 o.1 in
      (i.0, into.0, i.2, (o.0, out.0, eqb-true o.0.source e.buffer out.1 ∙ sym (eqb-true i.0.sink e.buffer into.1), o.2))

  -- its ends are components
  sink-comp : (e : Edge) (c : ℕ) → IsIn e (edges_on (interpreted es) js) → e.sink ≡ Some c → IsComp (interpreted es) c
  sink-comp e c here is =
      let m = made-in e here in
      let o = map-some (λ (j : Join). j.sink) (route_out js e.buffer) c (sym m.sink ∙ is) in
      by o.0 o.2 m.buffer (find-good (interpreted es) (λ (j : Join). j.source == e.buffer) js o.0 good o.1)
    where
      by : (j : Join) → j.sink ≡ c → IsBuf (interpreted es) e.buffer → Good (interpreted es) j × ((j.source == e.buffer) ≡ true) → IsComp (interpreted es) c
      by j same b (inl g, s) = absurd (apart (interpreted es) e.buffer j.source (eqb-true j.source e.buffer s) b g.0)
      by j same b (inr g, s) = subst (IsComp (interpreted es)) same g.1

  -- a walk of edges is one of joins
  edges-walk : (n a b : ℕ) → EdgeWalk (edges_on (interpreted es) js) n a b → Walks js a b
  edges-walk zero a b w = (0, w)
  edges-walk (suc n) a b w =
      let e = any-in (λ e. is_end e.source a && is_end e.sink w.0) (edges_on (interpreted es) js) w.1 in
      let ends = and_parts (is_end e.0.source a) (is_end e.0.sink w.0) e.2 in
      walk-on js 2 a w.0 b (edge-path e.0 a w.0 e.1 (is_end-some e.0.source a ends.0) (is_end-some e.0.sink w.0 ends.1)) (edges-walk n w.0 b w.2)

  reach-to : (a b : ℕ) → Reaches (edges_on (interpreted es) js) a b → law.reaches (graph_of es js) a b ≡ true
  unfolding reaches
  reach-to a b r = walks-lead js a b (edges-walk (suc r.0) a b r.1)

  reach-same : (a : ℕ) → law.reaches (graph_of es js) a a ≡ true
  unfolding reaches
  reach-same a = leads-same js (length js) a a refl

  reach-from : (a b : ℕ) → IsComp (interpreted es) a → IsComp (interpreted es) b → law.reaches (graph_of es js) a b ≡ true → (a ≡ b) ⊎ Reaches (edges_on (interpreted es) js) a b
  unfolding reaches
  reach-from a b c d h = by (leads-joins js (length js) a b h)
    where
      by : (n : ℕ) × JoinWalk js n a b → (a ≡ b) ⊎ Reaches (edges_on (interpreted es) js) a b
      by (zero, w) = inl w
      by (suc n, w) = inr (reaches-edges es js good rule n a b c d w)

  -- ---- an echo edge by the rules is one of the graph

  some-on : (sort : Kind → Bool) (a : ℕ) → rules.reaches_sort (components_on (interpreted es) js) (edges_on (interpreted es) js) sort a ≡ true → law.reaches_some (graph_of es js) sort a ≡ true
  some-on sort a h =
      let c = any-in (λ c. sort c.kind && rules.reaches (edges_on (interpreted es) js) a c.id) (components_on (interpreted es) js) h in
      let parts = and_parts (sort c.0.kind) (rules.reaches (edges_on (interpreted es) js) a c.0.id) c.2 in
      let s = ruled sort c.0.id (in-any (λ x. x.id == c.0.id && sort x.kind) (components_on (interpreted es) js) c.0 c.1 (and_from (c.0.id == c.0.id) (sort c.0.kind) (eq-eqb c.0.id c.0.id refl) parts.0)) in
      filter-any (λ d. law.reaches (graph_of es js) a d) (law.is_of (graph_of es js) sort) (components (graph_of es js)) c.0.id (listed sort c.0.id s) (shown sort c.0.id s) (reach-to a c.0.id (reaches-from (edges_on (interpreted es) js) a c.0.id parts.1))

  some-by : (sort : Kind → Bool) (a : ℕ) → rules.reached_by_sort (components_on (interpreted es) js) (edges_on (interpreted es) js) sort a ≡ true → law.reached_by_some (graph_of es js) sort a ≡ true
  some-by sort a h =
      let c = any-in (λ c. sort c.kind && rules.reaches (edges_on (interpreted es) js) c.id a) (components_on (interpreted es) js) h in
      let parts = and_parts (sort c.0.kind) (rules.reaches (edges_on (interpreted es) js) c.0.id a) c.2 in
      let s = ruled sort c.0.id (in-any (λ x. x.id == c.0.id && sort x.kind) (components_on (interpreted es) js) c.0 c.1 (and_from (c.0.id == c.0.id) (sort c.0.kind) (eq-eqb c.0.id c.0.id refl) parts.0)) in
      filter-any (λ d. law.reaches (graph_of es js) d a) (law.is_of (graph_of es js) sort) (components (graph_of es js)) c.0.id (listed sort c.0.id s) (shown sort c.0.id s) (reach-to c.0.id a (reaches-from (edges_on (interpreted es) js) c.0.id a parts.1))

  some-self : (sort : Kind → Bool) (a : ℕ) → rules.is_sort_at (components_on (interpreted es) js) sort a ≡ true → law.reaches_some (graph_of es js) sort a ≡ true
  some-self sort a h =
      let s = ruled sort a h in
      filter-any (λ d. law.reaches (graph_of es js) a d) (law.is_of (graph_of es js) sort) (components (graph_of es js)) a (listed sort a s) (shown sort a s) (reach-same a)

  some-back : (sort : Kind → Bool) (a : ℕ) → IsComp (interpreted es) a → law.reaches_some (graph_of es js) sort a ≡ true → (rules.is_sort_at (components_on (interpreted es) js) sort a || rules.reaches_sort (components_on (interpreted es) js) (edges_on (interpreted es) js) sort a) ≡ true
  some-back sort a c h =
      let d = in-filter (λ d. law.reaches (graph_of es js) a d) (law.is_of (graph_of es js) sort) (components (graph_of es js)) h in
      by d.0 (seen sort d.0 d.2) (reach-from a d.0 c (seen sort d.0 d.2).is d.3)
    where
      by : (d : ℕ) → IsSort sort d → (a ≡ d) ⊎ Reaches (edges_on (interpreted es) js) a d → (rules.is_sort_at (components_on (interpreted es) js) sort a || rules.reaches_sort (components_on (interpreted es) js) (edges_on (interpreted es) js) sort a) ≡ true
      by d s (inl same) = or_left (rules.is_sort_at (components_on (interpreted es) js) sort a) _ (ap (rules.is_sort_at (components_on (interpreted es) js) sort) same ∙ told sort d s)
      by d s (inr r) = or_right (rules.is_sort_at (components_on (interpreted es) js) sort a) _ (some-to (components_on (interpreted es) js) (edges_on (interpreted es) js) sort a d (told sort d s) (reaches-to (edges_on (interpreted es) js) a d r))

  leaves : (a : ℕ) → rules.leaves_demux (components_on (interpreted es) js) (edges_on (interpreted es) js) a ≡ true → law.leaves_split (graph_of es js) a ≡ true
  leaves a h =
      let last = and_parts (rules.is_sort_at (components_on (interpreted es) js) splits a && rules.reached_by_sort (components_on (interpreted es) js) (edges_on (interpreted es) js) is_play a) (rules.reaches_sort (components_on (interpreted es) js) (edges_on (interpreted es) js) is_dai_play a) h in
      let first = and_parts (rules.is_sort_at (components_on (interpreted es) js) splits a) (rules.reached_by_sort (components_on (interpreted es) js) (edges_on (interpreted es) js) is_play a) last.0 in
      and_from (law.is_of (graph_of es js) splits a && law.reached_by_some (graph_of es js) is_play a) (law.reaches_some (graph_of es js) is_dai_play a)
      (and_from (law.is_of (graph_of es js) splits a) (law.reached_by_some (graph_of es js) is_play a) (shown splits a (ruled splits a first.0)) (some-by is_play a first.1))
      (some-on is_dai_play a last.1)

  enters : (c : ℕ) → IsComp (interpreted es) c → rules.enters_host_capture (components_on (interpreted es) js) (edges_on (interpreted es) js) c ≡ true → law.enters_capture (graph_of es js) c ≡ true
  enters c is h =
      let parts = and_parts (rules.is_sort_at (components_on (interpreted es) js) is_capture c || rules.reaches_sort (components_on (interpreted es) js) (edges_on (interpreted es) js) is_capture c) (not (rules.is_sort_at (components_on (interpreted es) js) is_dai_play c || rules.reaches_sort (components_on (interpreted es) js) (edges_on (interpreted es) js) is_dai_play c)) h in
      and_from (law.reaches_some (graph_of es js) is_capture c) (not (law.reaches_some (graph_of es js) is_dai_play c))
      (captures (or_cases (rules.is_sort_at (components_on (interpreted es) js) is_capture c) (rules.reaches_sort (components_on (interpreted es) js) (edges_on (interpreted es) js) is_capture c) parts.0))
      (no-dai (cases_Bool (law.reaches_some (graph_of es js) is_dai_play c)) parts.1)
    where
      captures : (rules.is_sort_at (components_on (interpreted es) js) is_capture c ≡ true) ⊎ (rules.reaches_sort (components_on (interpreted es) js) (edges_on (interpreted es) js) is_capture c ≡ true) → law.reaches_some (graph_of es js) is_capture c ≡ true
      captures (inl k) = some-self is_capture c k
      captures (inr k) = some-on is_capture c k

      no-dai : (law.reaches_some (graph_of es js) is_dai_play c ≡ true) ⊎ (law.reaches_some (graph_of es js) is_dai_play c ≡ false) → not (rules.is_sort_at (components_on (interpreted es) js) is_dai_play c || rules.reaches_sort (components_on (interpreted es) js) (edges_on (interpreted es) js) is_dai_play c) ≡ true → not (law.reaches_some (graph_of es js) is_dai_play c) ≡ true
      no-dai (inl k) none = absurd (false≢true (ap not (sym (some-back is_dai_play c is k)) ∙ none))
      no-dai (inr k) none = ap not k

  echo-seen : (e : Edge) → IsIn e (edges_on (interpreted es) js) → rules.is_echo_edge (components_on (interpreted es) js) (edges_on (interpreted es) js) e ≡ true → law.is_echo (graph_of es js) e.buffer ≡ true
  unfolding is_echo
  echo-seen e here h =
      let parts = and_parts (option_map_or (rules.leaves_demux (components_on (interpreted es) js) (edges_on (interpreted es) js)) e.source false) (option_map_or (rules.enters_host_capture (components_on (interpreted es) js) (edges_on (interpreted es) js)) e.sink false) h in
      let a = test-some (rules.leaves_demux (components_on (interpreted es) js) (edges_on (interpreted es) js)) e.source parts.0 in
      let c = test-some (rules.enters_host_capture (components_on (interpreted es) js) (edges_on (interpreted es) js)) e.sink parts.1 in
      let m = made-in e here in
      let source : law.source_of (graph_of es js) e.buffer ≡ Some a.0 = ap (option_and_then (λ (x : Edge). x.source)) m.found ∙ a.1 in
      let sink : law.sink_of (graph_of es js) e.buffer ≡ Some c.0 = ap (option_and_then (λ (x : Edge). x.sink)) m.found ∙ c.1 in
      and_from (option_map_or (law.leaves_split (graph_of es js)) (law.source_of (graph_of es js) e.buffer) false) (option_map_or (law.enters_capture (graph_of es js)) (law.sink_of (graph_of es js) e.buffer) false)
      (ap (λ o. option_map_or (law.leaves_split (graph_of es js)) o false) source ∙ leaves a.0 a.2)
      (ap (λ o. option_map_or (law.enters_capture (graph_of es js)) o false) sink ∙ enters c.0 (sink-comp e c.0 here c.1) c.2)

  -- ---- walks of ways

  -- what joins of ways have: they are joins, and neither end is an echo edge
  record IsWay (j : Join) : Type 0 where
    pub there : IsIn j js
    pub sink : law.is_echo (graph_of es js) j.sink ≡ false

  way-in : (j : Join) → IsIn j (way_joins (graph_of es js)) → IsWay j
  unfolding way_joins
  way-in j here =
      let k = kept-in (λ (j : Join). not (law.is_echo (graph_of es js) j.source) && not (law.is_echo (graph_of es js) j.sink)) js j here in
      let parts = and_parts (not (law.is_echo (graph_of es js) j.source)) (not (law.is_echo (graph_of es js) j.sink)) k.1 in
      record { there = k.0; sink = none (law.is_echo (graph_of es js) j.sink) parts.1 }
    where
      none : (b : Bool) → not b ≡ true → b ≡ false
      none true h = absurd (false≢true h)
      none false h = refl

  -- a join into a buffer that is no echo edge and one out of it are a plain edge
  plain-step : (j k : Join) → IsWay j → IsIn k js → k.source ≡ j.sink → IsBuf (interpreted es) j.sink → are_joined (plain_edges (components_on (interpreted es) js) (edges_on (interpreted es) js)) j.source k.sink ≡ true
  plain-step j k way there same b =
      let x = j.sink in
      let e = made_edge js x b.entry in
      let found : edge_of (graph_of es js) x ≡ Some e = edge-by-id es js x ∙ edge-there (interpreted es) js x b in
      let here : IsIn e (edges_on (interpreted es) js) = (find-in (λ (y : Edge). y.buffer == x) (edges_on (interpreted es) js) e found).0 in
      let pj = in-place j js way.there in
      let pk = in-place k js there in
      let source : e.source ≡ Some j.source = ap (option_map (λ (i : Join). i.source)) (route-in-is es js good rule pj.0 j pj.1 b) in
      let sink : e.sink ≡ Some k.sink = ap (λ y. option_map (λ (i : Join). i.sink) (route_out js y)) (sym same) ∙ ap (option_map (λ (i : Join). i.sink)) (route-out-is es js good rule pk.0 k pk.1 (subst (IsBuf (interpreted es)) (sym same) b)) in
      let plain : not (rules.is_echo_edge (components_on (interpreted es) js) (edges_on (interpreted es) js) e) ≡ true = no-echo e here way.sink (cases_Bool (rules.is_echo_edge (components_on (interpreted es) js) (edges_on (interpreted es) js) e)) in
      filter-any (λ (y : Edge). is_end y.source j.source && is_end y.sink k.sink) (λ (y : Edge). not (rules.is_echo_edge (components_on (interpreted es) js) (edges_on (interpreted es) js) y)) (edges_on (interpreted es) js) e here plain
      (and_from (is_end e.source j.source) (is_end e.sink k.sink) (ap (λ o. is_end o j.source) source ∙ eq-eqb j.source j.source refl) (ap (λ o. is_end o k.sink) sink ∙ eq-eqb k.sink k.sink refl))
    where
      no-echo : (e : Edge) → IsIn e (edges_on (interpreted es) js) → law.is_echo (graph_of es js) e.buffer ≡ false → (rules.is_echo_edge (components_on (interpreted es) js) (edges_on (interpreted es) js) e ≡ true) ⊎ (rules.is_echo_edge (components_on (interpreted es) js) (edges_on (interpreted es) js) e ≡ false) → not (rules.is_echo_edge (components_on (interpreted es) js) (edges_on (interpreted es) js) e) ≡ true
      no-echo e here none (inl h) = absurd (true≢false (sym (echo-seen e here h) ∙ none))
      no-echo e here none (inr h) = ap not h

  -- what a join leads to
  leads-buffer : (j : Join) (a : ℕ) → IsIn j js → j.source ≡ a → IsComp (interpreted es) a → IsBuf (interpreted es) j.sink
  leads-buffer j a here same c = by (in-all (Good (interpreted es)) js j good here)
    where
      by : Good (interpreted es) j → IsBuf (interpreted es) j.sink
      by (inl g) = g.1
      by (inr g) = absurd (apart (interpreted es) j.source a (sym same) g.0 c)

  leads-comp : (k : Join) (x : ℕ) → IsIn k js → k.source ≡ x → IsBuf (interpreted es) x → IsComp (interpreted es) k.sink
  leads-comp k x here same b = by (in-all (Good (interpreted es)) js k good here)
    where
      by : Good (interpreted es) k → IsComp (interpreted es) k.sink
      by (inl g) = absurd (apart (interpreted es) x k.source same b g.0)
      by (inr g) = g.1

  -- a walk of ways between components is one of plain edges
  plain-walk : (n a b : ℕ) → IsComp (interpreted es) a → IsComp (interpreted es) b → Path (way_joins (graph_of es js)) n a b → (m : ℕ) × EdgeWalk (plain_edges (components_on (interpreted es) js) (edges_on (interpreted es) js)) m a b
  plain-walk zero a b c d w = (0, w)
  plain-walk (suc zero) a b c d w =
      let way = way-in w.0 w.1 in
      absurd (apart (interpreted es) w.0.sink b (sym w.3) (leads-buffer w.0 a way.there w.2 c) d)
  plain-walk (suc (suc n)) a b c d w =
      let j = w.0 in let way = way-in j w.1 in let v = w.3 in let k = v.0 in let on = way-in k v.1 in
      let buffer = leads-buffer j a way.there w.2 c in
      let rest = plain-walk n k.sink b (leads-comp k j.sink on.there v.2 buffer) d v.3 in
      (suc rest.0, (k.sink, subst (λ x. are_joined (plain_edges (components_on (interpreted es) js) (edges_on (interpreted es) js)) x k.sink ≡ true) w.2 (plain-step j k way on.there v.2 buffer), rest.1))

  -- ---- hosts

  module _ (ways : HoldsAll (ways_rule (length (interpreted es)) (components_on (interpreted es) js) (edges_on (interpreted es) js))) where
    no-capture : (a b : ℕ) → IsSort is_play a → IsSort is_capture b → (m : ℕ) → EdgeWalk (plain_edges (components_on (interpreted es) js) (edges_on (interpreted es) js)) m a b → ⊥
    no-capture a b play capture zero w =
        let same : play.comp ≡ capture.comp = same_Some play.comp capture.comp (sym play.found ∙ ap (comp_of (graph_of es js)) w ∙ capture.found) in
        one-way play.comp.kind play.passes (ap (λ (c : Comp). is_capture c.kind) same ∙ capture.passes)
    no-capture a b play capture (suc m) w =
        ways a (slice_get_within (interpreted es) a play.is.entry play.is.there) (told is_play a play) (b, told is_capture b capture, (m, w))

    pub are-apart : crosses (graph_of es js) ≡ false
    unfolding ways_to crosses
    are-apart = false_from_ne_true (crosses (graph_of es js)) none
      where
        none : crosses (graph_of es js) ≡ true → ⊥
        none h =
            let a = in-filter (λ a. list_any (λ b. ways_to (graph_of es js) a b) (filter (law.is_of (graph_of es js) is_capture) (components (graph_of es js)))) (law.is_of (graph_of es js) is_play) (components (graph_of es js)) h in
            let b = in-filter (λ b. ways_to (graph_of es js) a.0 b) (law.is_of (graph_of es js) is_capture) (components (graph_of es js)) a.3 in
            let play = seen is_play a.0 a.2 in
            let capture = seen is_capture b.0 b.2 in
            let path = path-of (way_joins (graph_of es js)) (length (way_joins (graph_of es js))) a.0 b.0 b.3 in
            let walk = plain-walk path.0 a.0 b.0 play.is capture.is path.1 in
            no-capture a.0 b.0 play capture walk.0 walk.1
