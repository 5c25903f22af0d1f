-- A graph of which a component that no join is at is taken away.
use Rattle.std.proofs.Common.{◌≡◌, refl, sym, ap, ◌∙◌, ℕ, zero, suc, ◌≤◌, List, [], ◌∷◌, ◌++◌, map, filter, length, Option, Some, None, Bool, true, false, cond, not, ◌==◌, ◌&&◌, ◌||◌, arith}
use Rattle.std.proofs.lemmas.Bool.{true≢false, false≢true, false_from_ne_true, or_parts, or_from, or_left, or_right, and_parts, and_from, eqb-true}
use Rattle.std.proofs.lemmas.List.{length-map}
use Rattle.std.specs.Prelude.{is_some, option_map}
use Rattle.std.specs.Option.{option_map_or}
use Rattle.std.specs.List.{list_any, list_all, AllByRecursion}
use Rattle.sof_base.specs.declared.format.Params.{Params}
use Rattle.stream_law.specs.declared.graph.Kind.{Kind}
use Rattle.stream_law.specs.declared.graph.Kind.TheVariants.{HostPlay}
use Rattle.stream_law.specs.declared.graph.Comp.{Comp}
use Rattle.stream_law.specs.declared.graph.Edge.{Edge}
use Rattle.stream_law.specs.declared.graph.Join.{Join}
use Rattle.stream_law.specs.declared.graph.Graph.{Graph}
use Rattle.stream_law.specs.declared.stream.StreamView.{StreamView}
use Rattle.stream_law.specs.Placed.{HasDistinct}
use Rattle.stream_law.specs.Ways.{comp_of, components, buffers, source_of, sink_of, ins, outs, is_end, leads, is_of, is_capture, is_echo, way_joins, ways_to, on_way}
use Rattle.stream_law.specs.Joins.{fits_kind}
use Rattle.stream_law.specs.Order.{is_among}
use Rattle.mbox_link.specs.Step.{has_comp, has_edge, has_kind, is_host, kind_at, is_complete, is_ready_comp, is_ready_edge, is_way_ready, touches, is_used}
use Rattle.row_laws.specs.Wired.{IsWired, HasJoinedSides, IsSide, IsBetween, IsJoinedFrom, IsJoinedTo, is_node, has_join}
use Rattle.row_laws.specs.Played.{IsStreamSet, IsSetBy, is_idle}
use Rattle.row_laws.proofs.Echoes.{ends-of, echo-same, way-same}
use Rattle.row_laws.proofs.Found.{ends-agree}
use Rattle.row_laws.proofs.Unreached.{IsApart}
use Rattle.row_laws.proofs.Growing.{all-by, some-found}
use Rattle.row_laws.proofs.Joined.{among-map}
use Rattle.row_laws.proofs.Fewer.{all-kept, all-both, all-test, test-all, any-with, any-to, none-kept, none-each, among-kept, among-both, filter-none, distinct-filter, distinct-most, eq-refl, not-true, not-false, other-any, other-find}

-- each host is a component, so there are no more streams than components
pub streams-few : (g : Graph) (ss : List StreamView) → HasDistinct (λ s. s.host) ss → AllByRecursion (λ s. has_kind is_host (kind_at g s.host) ≡ true) ss → length ss ≤ length g.comps
streams-few g ss distinct owned = omega (arith, distinct-most (map (λ (s : StreamView). s.host) ss) (components g) distinct (each ss owned), length-map g.comps (λ (c : Comp). c.id), length-map ss (λ (s : StreamView). s.host))
  where
    each : (xs : List StreamView) → AllByRecursion (λ s. has_kind is_host (kind_at g s.host) ≡ true) xs → AllByRecursion (λ n. is_among (components g) n ≡ true) (map (λ (s : StreamView). s.host) xs)
    each [] all = tt
    each (s ∷ xs) all = (among-map (λ (c : Comp). c.id) g.comps s.host (some-found is_host g.comps s.host all.0), each xs all.1)

-- no kind plays with no buffer
never-fits : (k : Kind) → fits_kind k 0 0 ≡ false
never-fits HostPlay = refl
never-fits kind = refl

ways-here : (g : Graph) (a : ℕ) → ways_to g a a ≡ true
unfolding ways_to
ways-here g a = by (length (way_joins g))
  where
    by : (n : ℕ) → leads (way_joins g) n a a ≡ true
    by zero = eq-refl a
    by (suc n) = or_left (a == a) _ (eq-refl a)

pub way-here : (g : Graph) (h : ℕ) → on_way g h h ≡ true
unfolding on_way
way-here g h = by (is_of g is_capture h)
  where
    by : (t : Bool) → cond t (ways_to g h h || (is_echo g h && option_map_or (λ c. ways_to g c h) (sink_of g h) false)) (ways_to g h h) ≡ true
    by true = or_left (ways_to g h h) _ (ways-here g h)
    by false = ways-here g h

module _ (g : Graph) (id : ℕ) (wired : IsWired g) (linked : HasJoinedSides g) (free : list_any (touches id) g.joins ≡ false) where
  abbrev less : Graph
  less = record { comps = filter (λ c. not (c.id == id)) g.comps; edges = g.edges; pipes = g.pipes; joins = g.joins }

  -- ---- sides

  -- a join that is at this id is none of these
  no-join : (a b : ℕ) → has_join g a b ≡ true → ((a == id) || (b == id)) ≡ true → ⊥
  no-join a b there at = true≢false (sym (any-to (λ (j : Join). Unit {0}) (λ j. j.source == a && j.sink == b) (touches id) same g.joins (every g.joins) there) ∙ free)
    where
      every : (js : List Join) → AllByRecursion (λ (j : Join). Unit {0}) js
      every [] = tt
      every (j ∷ js) = (tt, every js)

      same : (j : Join) → Unit {0} → (j.source == a && j.sink == b) ≡ true → touches id j ≡ true
      same j u e =
          let parts = and_parts (j.source == a) (j.sink == b) e in
          ap (λ (p : ℕ × ℕ). (p.0 == id) || (p.1 == id)) (λ i. (eqb-true j.source a parts.0 i, eqb-true j.sink b parts.1 i)) ∙ at

  source-none : (o : Option ℕ) (b : ℕ) → IsJoinedFrom g o b → is_end o id ≡ false
  source-none None b joined = refl
  source-none (Some c) b joined = false_from_ne_true (c == id) (λ e. no-join c b joined (or_left (c == id) _ e))

  sink-none : (b : ℕ) (o : Option ℕ) → IsJoinedTo g b o → is_end o id ≡ false
  sink-none b None joined = refl
  sink-none b (Some c) joined = false_from_ne_true (c == id) (λ e. no-join b c joined (or_right (b == id) _ e))

  sources-none : AllByRecursion (λ e. is_end e.source id ≡ false) g.edges
  sources-none = all-by (λ e. IsJoinedFrom g e.source e.buffer) (λ e. is_end e.source id ≡ false) (λ e joined. source-none e.source e.buffer joined) g.edges linked.from

  sinks-none : AllByRecursion (λ e. is_end e.sink id ≡ false) g.edges
  sinks-none = all-by (λ e. IsJoinedTo g e.buffer e.sink) (λ e. is_end e.sink id ≡ false) (λ e joined. sink-none e.buffer e.sink joined) g.edges linked.to

  ins-none : length (ins g id) ≡ 0
  ins-none = ends-agree (λ (e : Edge). e.sink) id g.edges wired.buffers ∙ ap (λ (es : List Edge). length es) (filter-none (λ (e : Edge). is_end e.sink id) g.edges sinks-none)

  outs-none : length (outs g id) ≡ 0
  outs-none = ends-agree (λ (e : Edge). e.source) id g.edges wired.buffers ∙ ap (λ (es : List Edge). length es) (filter-none (λ (e : Edge). is_end e.source id) g.edges sources-none)

  -- so it is no host whose way is ready
  never-ready : has_comp g id ≡ true → is_way_ready g id ≡ true → ⊥
  unfolding is_way_ready
  never-ready there ready =
      let parts = and_parts (list_all (λ x. not (on_way g id x.id) || is_ready_comp g x) g.comps) (list_all (λ e. not (on_way g id e.buffer) || is_ready_edge g e) g.edges) ready in
      let found = any-with (λ (x : Comp). (not (on_way g id x.id) || is_ready_comp g x) ≡ true) (λ x. x.id == id) g.comps (all-test (λ (x : Comp). not (on_way g id x.id) || is_ready_comp g x) g.comps parts.0) there in
      let c : Comp = found.0 in
      let is : c.id ≡ id = eqb-true c.id id found.2 in
      let on : on_way g id c.id ≡ true = ap (on_way g id) is ∙ way-here g id in
      let now : is_ready_comp g c ≡ true = sym (ap (λ h. not h || is_ready_comp g c) on) ∙ found.1 in
      let fits = (and_parts (is_complete g c.pipe) (fits_kind c.kind (length (ins g c.id)) (length (outs g c.id))) now).1 in
      true≢false (sym fits ∙ ap (λ n. fits_kind c.kind (length (ins g n)) (length (outs g n))) is ∙ ap (λ (p : ℕ × ℕ). fits_kind c.kind p.0 p.1) (λ i. (ins-none i, outs-none i)) ∙ never-fits c.kind)

  -- ---- what is left

  pub comp-other : (n : ℕ) → (n == id) ≡ false → comp_of less n ≡ comp_of g n
  comp-other n other = other-find (λ (c : Comp). c.id) id n other g.comps

  pub has-other : (n : ℕ) → (n == id) ≡ false → has_comp less n ≡ has_comp g n
  has-other n other = other-any (λ (c : Comp). c.id) id n other g.comps

  pub used-other : (n : ℕ) → (n == id) ≡ false → is_used g n ≡ true → is_used less n ≡ true
  used-other n other used = ap (λ h. (h || list_any (λ e. e.buffer == n) g.edges) || list_any (λ p. p.id == n) g.pipes) (has-other n other) ∙ used

  -- no join is at it, so echo edges and ways are what they were
  far : IsApart id g.joins
  far = record {
    sources = all-by (λ j. touches id j ≡ false) (λ j. (j.source == id) ≡ false) (λ j e. (or_parts (j.source == id) (j.sink == id) e).0) g.joins (none-each (touches id) g.joins free);
    sinks = all-by (λ j. touches id j ≡ false) (λ j. (j.sink == id) ≡ false) (λ j e. (or_parts (j.source == id) (j.sink == id) e).1) g.joins (none-each (touches id) g.joins free);
  }

  ends : (b : ℕ) → (is_end (source_of g b) id ≡ false) × (is_end (sink_of g b) id ≡ false)
  ends = ends-of g id (all-both (λ e. is_end e.source id ≡ false) (λ e. is_end e.sink id ≡ false) g.edges sources-none sinks-none)

  kinds-other : (sort : Kind → Bool) (n : ℕ) → (n == id) ≡ false → is_of g sort n ≡ is_of less sort n
  kinds-other sort n other = ap (λ (o : Option Comp). option_map_or (λ x. sort x.kind) o false) (sym (comp-other n other))

  pub echo-comp : (b : ℕ) → is_echo less b ≡ true → (is_echo g b ≡ true) × (source_of less b ≡ source_of g b) × (sink_of less b ≡ sink_of g b)
  echo-comp b is = (echo-same g less id refl far (λ b. refl) (λ b. refl) ends kinds-other b ∙ is, refl, refl)

  way-other : (n x : ℕ) → (n == id) ≡ false → on_way less n x ≡ on_way g n x
  way-other n x other = sym (way-same g less id refl far (λ b. refl) (λ b. refl) ends kinds-other n x other)

  node-other : (n : ℕ) → (n == id) ≡ false → is_node g n ≡ true → is_node less n ≡ true
  node-other n other there = ap (λ h. h || list_any (λ e. e.buffer == n) g.edges) (has-other n other) ∙ there

  side-other : (o : Option ℕ) → is_end o id ≡ false → IsSide g o → IsSide less o
  side-other None other is = tt
  side-other (Some c) other is = has-other c other ∙ is

  from-same : (o : Option ℕ) (b : ℕ) → IsJoinedFrom g o b → IsJoinedFrom less o b
  from-same None b joined = tt
  from-same (Some c) b joined = joined

  to-same : (b : ℕ) (o : Option ℕ) → IsJoinedTo g b o → IsJoinedTo less b o
  to-same b None joined = tt
  to-same b (Some c) joined = joined

  pub linked-comp_less : HasJoinedSides less
  linked-comp_less = record {
    at = linked.at;
    from = all-by (λ e. IsJoinedFrom g e.source e.buffer) (λ e. IsJoinedFrom less e.source e.buffer) (λ e joined. from-same e.source e.buffer joined) g.edges linked.from;
    to = all-by (λ e. IsJoinedTo g e.buffer e.sink) (λ e. IsJoinedTo less e.buffer e.sink) (λ e joined. to-same e.buffer e.sink joined) g.edges linked.to;
    open_ends = linked.open_ends;
  }

  pub wired-comp_less : IsWired less
  wired-comp_less = record {
    ids = distinct-filter (λ (c : Comp). c.id) (λ c. not (c.id == id)) g.comps wired.ids;
    buffers = wired.buffers;
    names = wired.names;
    apart = all-by (λ e. has_comp g e.buffer ≡ false) (λ e. has_comp less e.buffer ≡ false) (λ e none. none-kept (λ (c : Comp). not (c.id == id)) (λ c. c.id == e.buffer) g.comps none) g.edges wired.apart;
    alone = all-by (λ p. is_node g p.id ≡ false) (λ p. is_node less p.id ≡ false) (λ p none. let parts = or_parts (has_comp g p.id) (has_edge g p.id) none in or_from (has_comp less p.id) (has_edge g p.id) (none-kept (λ (c : Comp). not (c.id == id)) (λ c. c.id == p.id) g.comps parts.0) parts.1) g.pipes wired.alone;
    ends = all-by (λ j. (touches id j ≡ false) × IsBetween g j) (IsBetween less) (λ j both. let parts = or_parts (j.source == id) (j.sink == id) both.0 in (node-other j.source parts.0 both.1.0, node-other j.sink parts.1 both.1.1)) g.joins (all-both (λ j. touches id j ≡ false) (IsBetween g) g.joins (none-each (touches id) g.joins free) wired.ends);
    sides = all-by (λ e. ((is_end e.source id ≡ false) × (is_end e.sink id ≡ false)) × (IsSide g e.source × IsSide g e.sink)) (λ e. IsSide less e.source × IsSide less e.sink) (λ e all. (side-other e.source all.0.0 all.1.0, side-other e.sink all.0.1 all.1.1)) g.edges (all-both (λ e. (is_end e.source id ≡ false) × (is_end e.sink id ≡ false)) (λ e. IsSide g e.source × IsSide g e.sink) g.edges (all-both (λ e. is_end e.source id ≡ false) (λ e. is_end e.sink id ≡ false) g.edges sources-none sinks-none) wired.sides);
    periods = wired.periods;
  }

  -- ---- streams

  abbrev keep : StreamView → Bool
  keep s = not (s.host == id)

  pub bare-comp : (ss : List StreamView) → AllByRecursion (λ s. has_kind is_host (kind_at g s.host) ≡ true) ss → AllByRecursion (IsStreamSet g) ss → AllByRecursion (λ s. keep s ≡ false → is_some s.params ≡ false) ss
  bare-comp [] owned sets = tt
  bare-comp (s ∷ ss) owned sets = (λ gone. none (eqb-true s.host id (not-false (s.host == id) gone)) (is_idle s.phase) s.params sets.0, bare-comp ss owned.1 sets.1)
    where
      none : s.host ≡ id → (idle : Bool) (o : Option Params) → IsSetBy g s.host idle o → is_some o ≡ false
      none same idle None is_set = refl
      none same idle (Some p) is_set = absurd (never-ready (ap (has_comp g) (sym same) ∙ some-found is_host g.comps s.host owned.0) (ap (is_way_ready g) (sym same) ∙ is_set.3))

  pub ways-comp : (ss : List StreamView) → AllByRecursion (λ s. keep s ≡ true → is_some s.params ≡ true → (x : ℕ) → on_way less s.host x ≡ on_way g s.host x) ss
  ways-comp [] = tt
  ways-comp (s ∷ ss) = (λ kept has x. way-other s.host x (not-true (s.host == id) kept), ways-comp ss)

  pub owned-comp : (ss : List StreamView) → AllByRecursion (λ s. has_kind is_host (kind_at g s.host) ≡ true) ss → AllByRecursion (λ s. keep s ≡ true → has_kind is_host (kind_at less s.host) ≡ true) ss
  owned-comp [] owned = tt
  owned-comp (s ∷ ss) owned = (λ kept. ap (λ (o : Option Comp). has_kind is_host (option_map (λ c. c.kind) o)) (comp-other s.host (not-true (s.host == id) kept)) ∙ owned.0, owned-comp ss owned.1)

  ready-other : (n : ℕ) → (n == id) ≡ false → is_way_ready g n ≡ true → is_way_ready less n ≡ true
  unfolding is_way_ready
  ready-other n other ready =
      let parts = and_parts (list_all (λ x. not (on_way g n x.id) || is_ready_comp g x) g.comps) (list_all (λ e. not (on_way g n e.buffer) || is_ready_edge g e) g.edges) ready in
      and_from _ _
      (test-all (λ (x : Comp). not (on_way less n x.id) || is_ready_comp less x) (filter (λ c. not (c.id == id)) g.comps) (all-kept (λ (c : Comp). not (c.id == id)) (λ x. (not (on_way g n x.id) || is_ready_comp g x) ≡ true) (λ x. (not (on_way less n x.id) || is_ready_comp less x) ≡ true) (λ x e was. ap (λ h. not h || is_ready_comp g x) (way-other n x.id other) ∙ was) g.comps (all-test (λ (x : Comp). not (on_way g n x.id) || is_ready_comp g x) g.comps parts.0)))
      (test-all (λ (e : Edge). not (on_way less n e.buffer) || is_ready_edge less e) g.edges (all-by (λ e. (not (on_way g n e.buffer) || is_ready_edge g e) ≡ true) (λ e. (not (on_way less n e.buffer) || is_ready_edge less e) ≡ true) (λ e was. ap (λ h. not h || is_ready_edge g e) (way-other n e.buffer other) ∙ was) g.edges (all-test (λ (e : Edge). not (on_way g n e.buffer) || is_ready_edge g e) g.edges parts.1)))

  pub ready-comp : (ss : List StreamView) → AllByRecursion (IsStreamSet g) ss → AllByRecursion (λ s. keep s ≡ true → is_some s.params ≡ true → is_way_ready less s.host ≡ true) ss
  ready-comp [] sets = tt
  ready-comp (s ∷ ss) sets = (λ kept has. ready-other s.host (not-true (s.host == id) kept) (was (is_idle s.phase) s.params has sets.0), ready-comp ss sets.1)
    where
      was : (idle : Bool) (o : Option Params) → is_some o ≡ true → IsSetBy g s.host idle o → is_way_ready g s.host ≡ true
      was idle None has is_set = absurd (false≢true has)
      was idle (Some p) has is_set = is_set.3

  pub nodes-comp : (x : ℕ) → is_among (components less ++ buffers less) x ≡ true → is_among (components g ++ buffers g) x ≡ true
  nodes-comp x there = among-both (components less) (buffers less) (components g) (buffers g) x (among-kept (λ (c : Comp). c.id) (λ c. not (c.id == id)) g.comps x) (λ e. e) there
