-- What one buffer more, and other pipelines, keep of views.
use Rattle.std.proofs.Common.{◌≡◌, refl, sym, ap, ◌∙◌, ℕ, suc, List, [], ◌∷◌, ◌++◌, map, filter, length, Option, Some, None, Bool, true, false, cond, not, ◌==◌, ◌&&◌, ◌||◌}
use Rattle.std.proofs.lemmas.Bool.{true≢false, or_from, or_parts, or_left, or_right, and_parts, and_from, eqb-true, eq-eqb}
use Rattle.std.specs.Prelude.{nat_lt, is_some, option_and_then}
use Rattle.std.specs.Option.{option_map_or}
use Rattle.std.specs.List.{list_any, list_all, AllByRecursion}
use Rattle.sof_base.specs.declared.format.Params.{Params}
use Rattle.stream_law.specs.declared.graph.Comp.{Comp}
use Rattle.stream_law.specs.declared.graph.Edge.{Edge}
use Rattle.stream_law.specs.declared.graph.Pipe.{Pipe}
use Rattle.stream_law.specs.declared.graph.Graph.{Graph}
use Rattle.stream_law.specs.declared.stream.StreamView.{StreamView}
use Rattle.stream_law.specs.Placed.{placed, HasDistinct}
use Rattle.stream_law.specs.State.{View}
use Rattle.stream_law.specs.Ways.{edge_of, components, buffers, source_of, sink_of, ins, outs, is_end, reaches, is_echo, way_joins, ways_to, on_way, is_live_phase, live, live_end, rate_of, channels_of, touch, same_shape, agree}
use Rattle.stream_law.specs.Joins.{fits_kind}
use Rattle.stream_law.specs.Order.{is_among}
use Rattle.stream_law.specs.Seen.{flows}
use Rattle.stream_law.proofs.Placing.{list_any-placed, find-placed_apart, find-placed_there, HasDistinct-placed}
use Rattle.ipc3_model.specs.Allowed.{is_period_allowed}
use Rattle.mbox_link.specs.Step.{has_comp, has_edge, has_pipe, is_complete, is_ready_comp, is_ready_edge, is_way_ready, completed}
use Rattle.row_laws.specs.Wired.{IsWired, IsSide, IsBetween, is_node}
use Rattle.row_laws.specs.Played.{AreStreamsPlayable, IsStreamSet, IsSetBy, is_idle}
use Rattle.row_laws.proofs.Ids.{any-ids}
use Rattle.row_laws.proofs.Found.{ends-agree}
use Rattle.row_laws.proofs.Unreached.{eqb-turned, IsApart, apart, edge-lost, off-way}
use Rattle.row_laws.proofs.Echoes.{ends-apart, echo-same, way-same}
use Rattle.row_laws.proofs.Touching.{touch-by, test-kept}
use Rattle.row_laws.proofs.Growing.{all-placed, list_all-placed, all-by, any-same, find-same, all-same, hosts-apart}

-- ---- a buffer more, which is joined to nothing

filter-placed : {X : Type 0} (p : X → Bool) (key : X → ℕ) (x : X) (xs : List X) → p x ≡ false → length (filter p (placed key x xs)) ≡ length (filter p xs)
filter-placed p key x [] e = ap (λ h. length (cond h (x ∷ []) [])) e
filter-placed {X} p key x (y ∷ ys) e = by (nat_lt (key x) (key y)) (filter-placed p key x ys e)
  where
    more : (h : Bool) → length (filter p (placed key x ys)) ≡ length (filter p ys) → length (cond h (y ∷ filter p (placed key x ys)) (filter p (placed key x ys))) ≡ length (cond h (y ∷ filter p ys) (filter p ys))
    more true rest = ap suc rest
    more false rest = rest

    by : (h : Bool) → length (filter p (placed key x ys)) ≡ length (filter p ys) → length (filter p (cond h (x ∷ y ∷ ys) (y ∷ placed key x ys))) ≡ length (filter p (y ∷ ys))
    by true rest = ap (λ h. length (cond h (x ∷ filter p (y ∷ ys)) (filter p (y ∷ ys)))) e
    by false rest = more (p y) rest

module _ (g : Graph) (id pipe size : ℕ) (gone : is_node g id ≡ false) (wired : IsWired g) (ss : List StreamView) (played : AreStreamsPlayable (record { graph = g; streams = ss })) where
  abbrev fresh : Edge
  fresh = record { buffer = id; pipe = pipe; size = size; source = None; sink = None }

  abbrev longer : Graph
  longer = record { comps = g.comps; edges = placed (λ e. e.buffer) fresh g.edges; pipes = g.pipes; joins = g.joins }

  abbrev old : View
  old = record { graph = g; streams = ss }

  abbrev new : View
  new = record { graph = longer; streams = ss }

  no-edge : has_edge g id ≡ false
  no-edge = (or_parts (has_comp g id) (has_edge g id) gone).1

  far : AllByRecursion (λ s. (s.host == id) ≡ false) ss
  far = hosts-apart g id (or_parts (has_comp g id) (has_edge g id) gone).0 ss played.owned

  clear : IsApart id g.joins
  clear = apart g id gone g.joins wired.ends

  no-comp : has_comp g id ≡ false
  no-comp = (or_parts (has_comp g id) (has_edge g id) gone).0

  edge-other : (b : ℕ) → (b == id) ≡ false → edge_of longer b ≡ edge_of g b
  edge-other b other = find-placed_apart (λ e. e.buffer == b) (λ e. e.buffer) fresh g.edges (eqb-turned b id other)

  edge-new : edge_of longer id ≡ Some fresh
  edge-new = find-placed_there (λ e. e.buffer == id) (λ e. e.buffer) fresh g.edges (eq-eqb id id refl) no-edge

  -- a side of a buffer is what it was: the new one has none
  side-was : (pick : Edge → Option ℕ) → pick fresh ≡ None → (b : ℕ) → option_and_then pick (edge_of g b) ≡ option_and_then pick (edge_of longer b)
  side-was pick none b = by (b == id) refl
    where
      by : (h : Bool) → (b == id) ≡ h → option_and_then pick (edge_of g b) ≡ option_and_then pick (edge_of longer b)
      by true same =
          let is : b ≡ id = eqb-true b id same in
          ap (λ n. option_and_then pick (edge_of g n)) is ∙ ap (λ (o : Option Edge). option_and_then pick o) (edge-lost g id no-edge) ∙ sym (ap (λ n. option_and_then pick (edge_of longer n)) is ∙ ap (λ (o : Option Edge). option_and_then pick o) edge-new ∙ none)
      by false other = ap (λ (o : Option Edge). option_and_then pick o) (sym (edge-other b other))

  source-was : (b : ℕ) → source_of g b ≡ source_of longer b
  source-was = side-was (λ e. e.source) refl

  sink-was : (b : ℕ) → sink_of g b ≡ sink_of longer b
  sink-was = side-was (λ e. e.sink) refl

  ends : (b : ℕ) → (is_end (source_of g b) id ≡ false) × (is_end (sink_of g b) id ≡ false)
  ends = ends-apart g id no-comp wired.sides

  echo-longer : (b : ℕ) → is_echo longer b ≡ true → (is_echo g b ≡ true) × (source_of longer b ≡ source_of g b) × (sink_of longer b ≡ sink_of g b)
  echo-longer b is = (echo-same g longer id refl clear source-was sink-was ends (λ sort c other. refl) b ∙ is, sym (source-was b), sym (sink-was b))

  way-longer : (n x : ℕ) → (n == id) ≡ false → on_way longer n x ≡ on_way g n x
  way-longer n x other = sym (way-same g longer id refl clear source-was sink-was ends (λ sort c other. refl) n x other)

  tests : (x : ℕ) → AllByRecursion (λ s. (is_live_phase s.phase && on_way longer s.host x) ≡ (is_live_phase s.phase && on_way g s.host x)) ss
  tests x = all-by (λ s. (s.host == id) ≡ false) (λ s. (is_live_phase s.phase && on_way longer s.host x) ≡ (is_live_phase s.phase && on_way g s.host x)) (λ s e. ap (λ h. is_live_phase s.phase && h) (way-longer s.host x e)) ss far

  pub live-longer : (x : ℕ) → live new x ≡ live old x
  unfolding live
  live-longer x = any-same (λ s. is_live_phase s.phase && on_way longer s.host x) (λ s. is_live_phase s.phase && on_way g s.host x) ss (tests x)

  pub channels-longer : (x : ℕ) → channels_of new x ≡ channels_of old x
  unfolding channels_of
  channels-longer x =
      ap (λ (o : Option StreamView). option_map_or (λ (p : Params). p.channels) (option_and_then (λ s. s.params) o) 0)
      (find-same (λ s. is_live_phase s.phase && on_way longer s.host x) (λ s. is_live_phase s.phase && on_way g s.host x) ss (tests x))

  pub rate-longer : (x : ℕ) → rate_of new x ≡ rate_of old x
  unfolding rate_of
  rate-longer x =
      ap (λ (o : Option StreamView). option_map_or (λ (p : Params). p.rate) (option_and_then (λ s. s.params) o) 0)
      (find-same (λ s. is_live_phase s.phase && on_way longer s.host x) (λ s. is_live_phase s.phase && on_way g s.host x) ss (tests x))

  end-longer : (o : Option ℕ) → live_end new o ≡ live_end old o
  end-longer None = refl
  end-longer (Some n) = live-longer n

  pub flows-longer : (b : ℕ) → (b == id) ≡ false → flows new b ≡ flows old b
  unfolding flows
  flows-longer b other =
      ap (λ (o : Option Edge). (live new b && live_end new (option_and_then (λ e. e.source) o)) && live_end new (option_and_then (λ e. e.sink) o)) (edge-other b other)
      ∙ ap (λ (p : Bool × Bool × Bool). (p.0 && p.1) && p.2) (λ i. (live-longer b i, end-longer (source_of g b) i, end-longer (sink_of g b) i))

  pub flows-fresh : flows new id ≡ false
  unfolding flows
  flows-fresh =
      ap (λ (o : Option Edge). (live new id && live_end new (option_and_then (λ e. e.source) o)) && live_end new (option_and_then (λ e. e.sink) o)) edge-new
      ∙ by (live new id)
    where
      by : (h : Bool) → ((h && false) && false) ≡ false
      by true = refl
      by false = refl

  distinct : HasDistinct (λ e. e.buffer) (placed (λ e. e.buffer) fresh g.edges)
  distinct = HasDistinct-placed (λ e. e.buffer) fresh g.edges no-edge wired.buffers

  ins-longer : (c : ℕ) → length (ins longer c) ≡ length (ins g c)
  ins-longer c =
      ends-agree (λ (e : Edge). e.sink) c (placed (λ e. e.buffer) fresh g.edges) distinct
      ∙ filter-placed (λ (e : Edge). is_end e.sink c) (λ e. e.buffer) fresh g.edges refl
      ∙ sym (ends-agree (λ (e : Edge). e.sink) c g.edges wired.buffers)

  outs-longer : (c : ℕ) → length (outs longer c) ≡ length (outs g c)
  outs-longer c =
      ends-agree (λ (e : Edge). e.source) c (placed (λ e. e.buffer) fresh g.edges) distinct
      ∙ filter-placed (λ (e : Edge). is_end e.source c) (λ e. e.buffer) fresh g.edges refl
      ∙ sym (ends-agree (λ (e : Edge). e.source) c g.edges wired.buffers)

  ready-longer : (n : ℕ) → (n == id) ≡ false → is_way_ready g n ≡ true → is_way_ready longer n ≡ true
  unfolding is_way_ready
  ready-longer n other ready =
      let parts = and_parts (list_all (λ x. not (on_way g n x.id) || is_ready_comp g x) g.comps) (list_all (λ e. not (on_way g n e.buffer) || is_ready_edge g e) g.edges) ready in
      and_from _ _
      (all-same (λ x. not (on_way longer n x.id) || is_ready_comp longer x) (λ x. not (on_way g n x.id) || is_ready_comp g x) g.comps (each-comp g.comps) ∙ parts.0)
      (list_all-placed (λ e. not (on_way longer n e.buffer) || is_ready_edge g e) (λ e. e.buffer) fresh g.edges
      ∙ and_from _ _ (ap (λ h. not h || is_ready_edge g fresh) (way-longer n id other ∙ off-way g n id other no-edge clear)) (all-same (λ e. not (on_way longer n e.buffer) || is_ready_edge g e) (λ e. not (on_way g n e.buffer) || is_ready_edge g e) g.edges (each-edge g.edges) ∙ parts.1))
    where
      each-comp : (xs : List Comp) → AllByRecursion (λ x. (not (on_way longer n x.id) || is_ready_comp longer x) ≡ (not (on_way g n x.id) || is_ready_comp g x)) xs
      each-comp [] = tt
      each-comp (x ∷ xs) = (ap (λ (p : Bool × ℕ × ℕ). not p.0 || (is_complete g x.pipe && fits_kind x.kind p.1 p.2)) (λ i. (way-longer n x.id other i, ins-longer x.id i, outs-longer x.id i)), each-comp xs)

      each-edge : (es : List Edge) → AllByRecursion (λ e. (not (on_way longer n e.buffer) || is_ready_edge g e) ≡ (not (on_way g n e.buffer) || is_ready_edge g e)) es
      each-edge [] = tt
      each-edge (e ∷ es) = (ap (λ h. not h || is_ready_edge g e) (way-longer n e.buffer other), each-edge es)

  set-longer : (n : ℕ) (idle : Bool) (o : Option Params) → (n == id) ≡ false → IsSetBy g n idle o → IsSetBy longer n idle o
  set-longer n idle None other is_set = is_set
  set-longer n idle (Some p) other is_set = (is_set.0, is_set.1, is_set.2, ready-longer n other is_set.3)

  sets-longer : (xs : List StreamView) → AllByRecursion (λ s. (s.host == id) ≡ false) xs → AllByRecursion (IsStreamSet g) xs → AllByRecursion (IsStreamSet longer) xs
  sets-longer [] apart sets = tt
  sets-longer (s ∷ xs) apart sets = (set-longer s.host (is_idle s.phase) s.params apart.0 sets.0, sets-longer xs apart.1 sets.1)

  -- all but the new buffer was there
  node-was : (a x : ℕ) → (a == id) ≡ false → is_among (components longer ++ buffers longer) x ≡ true → on_way g a x ≡ true → is_among (components g ++ buffers g) x ≡ true
  node-was a x other there on = any-ids (λ n. n == x) g.comps g.edges ∙ by (id == x) refl (sym (ap (λ h. has_comp g x || h) (list_any-placed (λ e. e.buffer == x) (λ e. e.buffer) fresh g.edges)) ∙ sym (any-ids (λ n. n == x) g.comps (placed (λ e. e.buffer) fresh g.edges)) ∙ there)
    where
      by : (h : Bool) → (id == x) ≡ h → (has_comp g x || (h || has_edge g x)) ≡ true → is_node g x ≡ true
      by true same is = absurd (true≢false (sym on ∙ ap (on_way g a) (sym (eqb-true id x same)) ∙ off-way g a id other no-edge clear))
      by false apart is = is

  touch-longer : (s t : StreamView) → (s.host == id) ≡ false → (t.host == id) ≡ false → touch longer s.host t.host ≡ true → touch g s.host t.host ≡ true
  touch-longer s t s-far t-far = touch-by g longer echo-longer s.host t.host (λ x. node-was s.host x s-far) (λ x. way-longer s.host x s-far) (λ x. way-longer t.host x t-far)

  cells : (s : StreamView) → (s.host == id) ≡ false → (ts : List StreamView) → AllByRecursion (λ t. (t.host == id) ≡ false) ts → list_all (λ t. not (touch g s.host t.host) || same_shape s.params t.params) ts ≡ true → list_all (λ t. not (touch longer s.host t.host) || same_shape s.params t.params) ts ≡ true
  cells s s-far [] apart is = refl
  cells s s-far (t ∷ ts) apart is =
      let parts = and_parts (not (touch g s.host t.host) || same_shape s.params t.params) (list_all (λ t. not (touch g s.host t.host) || same_shape s.params t.params) ts) is in
      and_from _ _ (test-kept (touch longer s.host t.host) (touch g s.host t.host) (same_shape s.params t.params) (touch-longer s t s-far apart.0) parts.0) (cells s s-far ts apart.1 parts.1)

  rows : (xs : List StreamView) → AllByRecursion (λ s. (s.host == id) ≡ false) xs → list_all (λ s. list_all (λ t. not (touch g s.host t.host) || same_shape s.params t.params) ss) xs ≡ true → list_all (λ s. list_all (λ t. not (touch longer s.host t.host) || same_shape s.params t.params) ss) xs ≡ true
  rows [] apart is = refl
  rows (s ∷ xs) apart is =
      let parts = and_parts (list_all (λ t. not (touch g s.host t.host) || same_shape s.params t.params) ss) (list_all (λ s. list_all (λ t. not (touch g s.host t.host) || same_shape s.params t.params) ss) xs) is in
      and_from _ _ (cells s apart.0 ss far parts.0) (rows xs apart.1 parts.1)

  agree-longer : agree new ≡ true
  unfolding agree
  agree-longer = rows ss far played.agreed

  pub played-longer : AreStreamsPlayable new
  played-longer = record {
    hosts = played.hosts;
    owned = played.owned;
    each = sets-longer ss far played.each;
    agreed = agree-longer;
  }

  node-longer : (n : ℕ) → is_node g n ≡ true → is_node longer n ≡ true
  node-longer n there = by (has_comp g n) there
    where
      by : (h : Bool) → (h || has_edge g n) ≡ true → (h || has_edge longer n) ≡ true
      by true any = refl
      by false any = list_any-placed (λ e. e.buffer == n) (λ e. e.buffer) fresh g.edges ∙ or_right (id == n) (has_edge g n) any

  side-same : (o : Option ℕ) → IsSide g o → IsSide longer o
  side-same None is = tt
  side-same (Some n) is = is

  -- pipelines have other ids
  pipes-apart : (ps : List Pipe) → list_any (λ p. p.id == id) ps ≡ false → AllByRecursion (λ p. is_node g p.id ≡ false) ps → AllByRecursion (λ p. is_node longer p.id ≡ false) ps
  pipes-apart [] none alone = tt
  pipes-apart (p ∷ ps) none alone =
      let parts = or_parts (p.id == id) (list_any (λ p. p.id == id) ps) none in
      let was = or_parts (has_comp g p.id) (has_edge g p.id) alone.0 in
      (or_from (has_comp g p.id) (has_edge longer p.id) was.0 (list_any-placed (λ e. e.buffer == p.id) (λ e. e.buffer) fresh g.edges ∙ or_from (id == p.id) (has_edge g p.id) (eqb-turned p.id id parts.0) was.1), pipes-apart ps parts.1 alone.1)

  pub wired-longer : has_pipe g id ≡ false → IsWired longer
  wired-longer no_pipe = record {
    ids = wired.ids;
    buffers = distinct;
    names = wired.names;
    alone = pipes-apart g.pipes no_pipe wired.alone;
    apart = all-placed (λ e. has_comp g e.buffer ≡ false) (λ e. e.buffer) fresh g.edges (or_parts (has_comp g id) (has_edge g id) gone).0 wired.apart;
    ends = all-by (IsBetween g) (IsBetween longer) (λ j e. (node-longer j.source e.0, node-longer j.sink e.1)) g.joins wired.ends;
    sides = all-placed (λ e. IsSide longer e.source × IsSide longer e.sink) (λ e. e.buffer) fresh g.edges (tt, tt) (all-by (λ e. IsSide g e.source × IsSide g e.sink) (λ e. IsSide longer e.source × IsSide longer e.sink) (λ e is. (side-same e.source is.0, side-same e.sink is.1)) g.edges wired.sides);
    periods = wired.periods;
  }

-- ---- other pipelines, of which as many are complete

module _ (g : Graph) (pipes : List Pipe) (ss : List StreamView) (played : AreStreamsPlayable (record { graph = g; streams = ss })) where
  abbrev other : Graph
  other = record { comps = g.comps; edges = g.edges; pipes = pipes; joins = g.joins }

  module _ (complete : (index : ℕ) → is_complete g index ≡ true → is_complete other index ≡ true) where
    comp-ready : (x : Comp) → is_ready_comp g x ≡ true → is_ready_comp other x ≡ true
    comp-ready x ready =
        let parts = and_parts (is_complete g x.pipe) (fits_kind x.kind (length (ins g x.id)) (length (outs g x.id))) ready in
        and_from (is_complete other x.pipe) (fits_kind x.kind (length (ins g x.id)) (length (outs g x.id))) (complete x.pipe parts.0) parts.1

    edge-ready : (e : Edge) → is_ready_edge g e ≡ true → is_ready_edge other e ≡ true
    edge-ready e ready =
        let parts = and_parts (is_complete g e.pipe && is_some e.source) (is_some e.sink) ready in
        let first = and_parts (is_complete g e.pipe) (is_some e.source) parts.0 in
        and_from _ _ (and_from _ _ (complete e.pipe first.0) first.1) parts.1

    all-more : {X : Type 0} (w p q : X → Bool) → ((x : X) → p x ≡ true → q x ≡ true) → (xs : List X) → list_all (λ x. not (w x) || p x) xs ≡ true → list_all (λ x. not (w x) || q x) xs ≡ true
    all-more w p q f [] is = refl
    all-more {X} w p q f (x ∷ xs) is =
        let parts = and_parts (not (w x) || p x) (list_all (λ x. not (w x) || p x) xs) is in
        and_from _ _ (by (w x) parts.0) (all-more w p q f xs parts.1)
      where
        by : (h : Bool) → (not h || p x) ≡ true → (not h || q x) ≡ true
        by true e = f x e
        by false e = refl

    ready-other : (n : ℕ) → is_way_ready g n ≡ true → is_way_ready other n ≡ true
    unfolding is_way_ready on_way ways_to way_joins is_echo reaches
    ready-other n ready =
        let parts = and_parts (list_all (λ x. not (on_way g n x.id) || is_ready_comp g x) g.comps) (list_all (λ e. not (on_way g n e.buffer) || is_ready_edge g e) g.edges) ready in
        and_from _ _
        (all-more (λ x. on_way g n x.id) (is_ready_comp g) (is_ready_comp other) comp-ready g.comps parts.0)
        (all-more (λ e. on_way g n e.buffer) (is_ready_edge g) (is_ready_edge other) edge-ready g.edges parts.1)

    set-other : (n : ℕ) (idle : Bool) (o : Option Params) → IsSetBy g n idle o → IsSetBy other n idle o
    set-other n idle None is_set = is_set
    set-other n idle (Some p) is_set = (is_set.0, is_set.1, is_set.2, ready-other n is_set.3)

    pub played-other : AreStreamsPlayable (record { graph = other; streams = ss })
    unfolding agree on_way ways_to way_joins is_echo reaches
    played-other = record {
      hosts = played.hosts;
      owned = played.owned;
      each = all-by (IsStreamSet g) (IsStreamSet other) (λ s is_set. set-other s.host (is_idle s.phase) s.params is_set) ss played.each;
      agreed = played.agreed;
    }

  pub live-other : (x : ℕ) → live (record { graph = other; streams = ss }) x ≡ live (record { graph = g; streams = ss }) x
  unfolding live on_way ways_to way_joins is_echo reaches
  live-other x = refl

  pub channels-other : (x : ℕ) → channels_of (record { graph = other; streams = ss }) x ≡ channels_of (record { graph = g; streams = ss }) x
  unfolding channels_of on_way ways_to way_joins is_echo reaches
  channels-other x = refl

  pub rate-other : (x : ℕ) → rate_of (record { graph = other; streams = ss }) x ≡ rate_of (record { graph = g; streams = ss }) x
  unfolding rate_of on_way ways_to way_joins is_echo reaches
  rate-other x = refl

  pub flows-other : (b : ℕ) → flows (record { graph = other; streams = ss }) b ≡ flows (record { graph = g; streams = ss }) b
  unfolding flows live on_way ways_to way_joins is_echo reaches
  flows-other b = refl

  side-other : (o : Option ℕ) → IsSide g o → IsSide other o
  side-other None is = tt
  side-other (Some n) is = is

  pub wired-other : IsWired g → HasDistinct (λ p. p.id) pipes → AllByRecursion (λ p. is_node g p.id ≡ false) pipes → AllByRecursion (λ p. is_period_allowed p.period ≡ true) pipes → IsWired other
  wired-other wired names alone periods = record {
    ids = wired.ids;
    buffers = wired.buffers;
    names = names;
    alone = alone;
    apart = wired.apart;
    ends = wired.ends;
    sides = all-by (λ e. IsSide g e.source × IsSide g e.sink) (λ e. IsSide other e.source × IsSide other e.sink) (λ e is. (side-other e.source is.0, side-other e.sink is.1)) g.edges wired.sides;
    periods = periods;
  }

-- a new pipeline leaves complete what is
pub complete-placed : (p : Pipe) (pipes : List Pipe) (index : ℕ) → list_any (λ q. q.index == index && q.complete) pipes ≡ true → list_any (λ q. q.index == index && q.complete) (placed (λ q. q.id) p pipes) ≡ true
complete-placed p pipes index is = list_any-placed (λ q. q.index == index && q.complete) (λ q. q.id) p pipes ∙ or_right (p.index == index && p.complete) _ is

-- and so does one that is complete now
pub complete-completed : (id : ℕ) (pipes : List Pipe) (index : ℕ) → list_any (λ q. q.index == index && q.complete) pipes ≡ true → list_any (λ q. q.index == index && q.complete) (map (completed id) pipes) ≡ true
complete-completed id [] index is = is
complete-completed id (p ∷ pipes) index is = by (p.index == index && p.complete) refl is (complete-completed id pipes index)
  where
    there : (h : Bool) → (p.index == index && p.complete) ≡ true → ((cond h (record p { complete = true }) p).index == index && (cond h (record p { complete = true }) p).complete) ≡ true
    there true e = and_from (p.index == index) true (and_parts (p.index == index) p.complete e).0 refl
    there false e = e

    by : (h : Bool) → (p.index == index && p.complete) ≡ h → (h || list_any (λ q. q.index == index && q.complete) pipes) ≡ true → (list_any (λ q. q.index == index && q.complete) pipes ≡ true → list_any (λ q. q.index == index && q.complete) (map (completed id) pipes) ≡ true) → list_any (λ q. q.index == index && q.complete) (map (completed id) (p ∷ pipes)) ≡ true
    by true e any rest = or_left _ _ (there (p.id == id) e)
    by false e any rest = or_right ((completed id p).index == index && (completed id p).complete) _ (rest any)

pub periods-completed : (id : ℕ) (pipes : List Pipe) → AllByRecursion (λ p. is_period_allowed p.period ≡ true) pipes → AllByRecursion (λ p. is_period_allowed p.period ≡ true) (map (completed id) pipes)
periods-completed id [] all = tt
periods-completed id (p ∷ pipes) all = (by (p.id == id), periods-completed id pipes all.1)
  where
    by : (h : Bool) → is_period_allowed (cond h (record p { complete = true }) p).period ≡ true
    by true = all.0
    by false = all.0
