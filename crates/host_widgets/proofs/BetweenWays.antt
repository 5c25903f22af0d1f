-- In a graph between what is up and the whole the way of a stream that has what it needs is that of the whole.
use Rattle.std.proofs.Common.{◌≡◌, refl, sym, ap, subst, ◌∙◌, ℕ, zero, suc, List, length, Bool, true, false, cond, not, inl, inr, ◌||◌, ◌&&◌, Some, None}
use Rattle.std.specs.Prelude.{Option}
use Rattle.std.specs.Option.{option_map_or, option_and_then}
use Rattle.std.proofs.lemmas.Bool.{false≢true, true≢false, or_left, or_right, and_parts, and_from, not-true}
use Rattle.stream_law.specs.declared.graph.Comp.{Comp}
use Rattle.stream_law.specs.declared.graph.Edge.{Edge}
use Rattle.stream_law.specs.declared.graph.Join.{Join}
use Rattle.stream_law.specs.declared.graph.Graph.{Graph}
use Rattle.stream_law.specs.Ways.{comp_of, edge_of, source_of, sink_of, is_of, is_play, is_capture, is_dai_play, splits, reached_by_some, reaches_some, leaves_split, enters_capture, is_echo, way_joins, ways_to, echoes_to, on_way}
use Rattle.stream_law.specs.Order.{is_among}
use Rattle.stream_law.proofs.Members.{IsIn, in-kept, kept-in}
use Rattle.stream_law.proofs.Walking.{Path, Walks, path-of, walks-lead}
use Rattle.tplg_plan.specs.declared.plans.Plan.{Plan}
use Rattle.tplg_plan.specs.Sound.{IsSound}
use Rattle.host_widgets.proofs.NamedIds.{component-found}
use Rattle.host_widgets.specs.Need.{HasAt, IsEnough}
use Rattle.host_widgets.proofs.Needs.{host-on, has-at}
use Rattle.host_widgets.proofs.Between.{IsBetween, same-bools, kind-at, echo_by, echo-by, comp-named, edge-named, named-up, up-named, at-up, Side, side-of, source-named, sink-named, join-outof, source-walk, behind-up, join-there, whole-kind, kind-stays, echo-stays, none-echo, never-echo}
use Rattle.host_widgets.specs.Indices.{index_at, is_up}

-- ---- ways by walks

pub ways-walk : (k : Graph) (a b : ℕ) → ways_to k a b ≡ true → Walks (way_joins k) a b
unfolding ways_to
ways-walk k a b is = path-of (way_joins k) (length (way_joins k)) a b is

pub walk-ways : (k : Graph) (a b : ℕ) → Walks (way_joins k) a b → ways_to k a b ≡ true
unfolding ways_to
walk-ways k a b w = walks-lead (way_joins k) a b w

abbrev is_plain_join : Graph → Join → Bool
is_plain_join k j = not (is_echo k j.source) && not (is_echo k j.sink)

pub in-way : (k : Graph) (j : Join) → IsIn j k.joins → is_echo k j.source ≡ false → is_echo k j.sink ≡ false → IsIn j (way_joins k)
unfolding way_joins
in-way k j there source sink = in-kept (is_plain_join k) k.joins j there (λ i. not (source i) && not (sink i))

pub way-in : (k : Graph) (j : Join) → IsIn j (way_joins k) → IsIn j k.joins × (is_echo k j.source ≡ false) × (is_echo k j.sink ≡ false)
unfolding way_joins
way-in k j there =
    let r = kept-in (is_plain_join k) k.joins j there in
    let p = and_parts (not (is_echo k j.source)) (not (is_echo k j.sink)) r.1 in
    (r.0, not-true (is_echo k j.source) p.0, not-true (is_echo k j.sink) p.1)

pub on-by : (k : Graph) (host x : ℕ) → on_way k host x ≡ cond (is_of k is_capture host) (ways_to k x host || echoes_to k host x) (ways_to k host x)
unfolding on_way
on-by k host x = refl

-- an echo edge is an edge, and leaves a component that splits
pub echo-edge : (k : Graph) (x : ℕ) → is_echo k x ≡ true → (e : Edge) × (edge_of k x ≡ Some e)
echo-edge k x is = by (edge_of k x) refl
  where
    by : (o : Option Edge) → edge_of k x ≡ o → (e : Edge) × (edge_of k x ≡ Some e)
    by None at = absurd (false≢true (sym (echo-by k x ∙ ap (echo_by k) at) ∙ is))
    by (Some e) at = (e, at)

pub echo-splits : (k : Graph) (x s : ℕ) → is_echo k x ≡ true → source_of k x ≡ Some s → is_of k splits s ≡ true
echo-splits k x s is from =
    let both : (option_map_or (leaves_split k) (source_of k x) false && option_map_or (enters_capture k) (sink_of k x) false) ≡ true = sym (echo-by k x) ∙ is in
    let leaves : leaves_split k s ≡ true = ap (λ (o : Option ℕ). option_map_or (leaves_split k) o false) (sym from) ∙ (and_parts (option_map_or (leaves_split k) (source_of k x) false) (option_map_or (enters_capture k) (sink_of k x) false) both).0 in
    (and_parts (is_of k splits s) (reached_by_some k is_play s) (and_parts (is_of k splits s && reached_by_some k is_play s) (reaches_some k is_dai_play s) leaves).0).0

module _ (plan : Plan) (sound : IsSound plan) (up : List ℕ) (k : Graph) (between : IsBetween plan.graph up k) (host : ℕ) (enough : IsEnough plan.graph host (is_among up)) where
  abbrev g : Graph
  g = plan.graph

  abbrev has : ℕ → Bool
  has i = is_among up i

  -- of a buffer that is up
  up-echo : (x : ℕ) (e : Edge) → edge_of g x ≡ Some e → is_up g up x ≡ true → is_echo k x ≡ is_echo g x
  up-echo x e at there = echo-stays plan sound up k between enough.closed x e at (up-named plan sound up x e.pipe (edge-named plan sound up x e at) there)

  -- an echo edge out of what is up is up
  pub echo-up : (x : ℕ) (e : Edge) (s : ℕ) → edge_of g x ≡ Some e → e.source ≡ Some s → is_of g splits s ≡ true → is_up g up s ≡ true → is_up g up x ≡ true
  echo-up x e s at from split there =
      let r = kind-at g splits s split in
      behind-up plan sound up enough.closed s r.0 r.1 (up-named plan sound up s r.0.pipe (comp-named plan sound up s r.0 r.1) there) r.2 x (source-walk plan sound up x s e at from)

  -- ---- joins on the way out of a playback's host

  -- a join that leaves what is up, and has no echo edge in between, has none in the whole
  out-plain : (j : Join) → IsIn j (way_joins k) → is_up g up j.source ≡ true → IsIn j (way_joins g)
  out-plain j there from_up = by (side-of plan sound up j whole)
    where
      parts : IsIn j k.joins × (is_echo k j.source ≡ false) × (is_echo k j.sink ≡ false)
      parts = way-in k j there

      whole : IsIn j g.joins
      whole = between.join_whole j parts.0

      by : Side plan sound up j → IsIn j (way_joins g)
      by (inl (c, e, from, to, is)) = in-way g j whole (never-echo g j.source (component-found plan sound j.source c from).no_edge) (sink (is_echo g j.sink) refl)
        where
          sink : (b : Bool) → is_echo g j.sink ≡ b → is_echo g j.sink ≡ false
          sink false at = at
          sink true at =
              let split = echo-splits g j.sink j.source at (ap (option_and_then (λ (x : Edge). x.source)) to ∙ is) in
              let there_up = echo-up j.sink e j.source to is split from_up in
              absurd (true≢false (sym (up-echo j.sink e to there_up ∙ at) ∙ parts.2))
      by (inr (e, c, from, to, is)) =
          in-way g j whole (sym (up-echo j.source e from from_up) ∙ parts.1) (never-echo g j.sink (component-found plan sound j.sink c to).no_edge)

  -- ---- joins on the way into a capture's host

  -- the way has what walks in the whole come to its host, and the echo edges into it
  module _ (capture : is_of g is_capture host ≡ true) where
    on-capture : (y : ℕ) → (ways_to g y host || echoes_to g host y) ≡ true → on_way g host y ≡ true
    on-capture y is = on-by g host y ∙ ap (λ (b : Bool). cond b (ways_to g y host || echoes_to g host y) (ways_to g host y)) capture ∙ is

    pub back-on : (y : ℕ) → Walks (way_joins g) y host → HasAt has (index_at g y)
    back-on y w = enough.way y (on-capture y (or_left (ways_to g y host) (echoes_to g host y) (walk-ways g y host w)))

    pub echo-on : (y d : ℕ) → is_echo g y ≡ true → sink_of g y ≡ Some d → ways_to g d host ≡ true → HasAt has (index_at g y)
    echo-on y d is to way =
        enough.way y (on-capture y (or_right (ways_to g y host) (echoes_to g host y)
        (and_from (is_echo g y) (option_map_or (λ c. ways_to g c host) (sink_of g y) false) is (ap (λ (o : Option ℕ). option_map_or (λ c. ways_to g c host) o false) to ∙ way))))

    in-plain : (j : Join) → IsIn j (way_joins k) → Walks (way_joins g) j.sink host → IsIn j (way_joins g)
    in-plain j there rest = by (side-of plan sound up j whole)
      where
        parts : IsIn j k.joins × (is_echo k j.source ≡ false) × (is_echo k j.sink ≡ false)
        parts = way-in k j there

        whole : IsIn j g.joins
        whole = between.join_whole j parts.0

        by : Side plan sound up j → IsIn j (way_joins g)
        by (inl (c, e, from, to, is)) =
            let sink_up = at-up plan sound up j.sink (e.pipe, edge-named plan sound up j.sink e to) (back-on j.sink rest) in
            in-way g j whole (never-echo g j.source (component-found plan sound j.source c from).no_edge) (sym (up-echo j.sink e to sink_up) ∙ parts.2)
        by (inr (e, c, from, to, is)) = in-way g j whole (source (is_echo g j.source) refl) (never-echo g j.sink (component-found plan sound j.sink c to).no_edge)
          where
            source : (b : Bool) → is_echo g j.source ≡ b → is_echo g j.source ≡ false
            source false at = at
            source true at =
                let on = echo-on j.source j.sink at (ap (option_and_then (λ (x : Edge). x.sink)) from ∙ is) (walk-ways g j.sink host rest) in
                let there_up = at-up plan sound up j.source (e.pipe, edge-named plan sound up j.source e from) on in
                absurd (true≢false (sym (up-echo j.source e from there_up ∙ at) ∙ parts.1))

    -- walks in between are walks of the whole
    back-walk : (n x : ℕ) → Path (way_joins k) n x host → Walks (way_joins g) x host
    back-walk zero x p = (0, p)
    back-walk (suc n) x (j, there, from, p) = let rest = back-walk n j.sink p in (suc rest.0, (j, in-plain j there rest, from, rest.1))

  -- ---- walks of the whole on which all that is named is up

  abbrev WalksFree : ℕ → ℕ → Type 0
  WalksFree a b = Walks (way_joins g) a b

  up-plain : (j : Join) → IsIn j (way_joins g) → is_up g up j.source ≡ true → is_up g up j.sink ≡ true → IsIn j (way_joins k)
  up-plain j there source sink = by (side-of plan sound up j parts.0)
    where
      parts : IsIn j g.joins × (is_echo g j.source ≡ false) × (is_echo g j.sink ≡ false)
      parts = way-in g j there

      held : IsIn j k.joins
      held = join-there plan sound up k between j parts.0 source sink

      by : Side plan sound up j → IsIn j (way_joins k)
      by (inl (c, e, from, to, is)) = in-way k j held (none-echo plan sound up k between j.source (component-found plan sound j.source c from).no_edge) (up-echo j.sink e to sink ∙ parts.2)
      by (inr (e, c, from, to, is)) = in-way k j held (up-echo j.source e from source ∙ parts.1) (none-echo plan sound up k between j.sink (component-found plan sound j.sink c to).no_edge)

  path-ways : (n a b : ℕ) → Path (way_joins g) n a b → ((x : ℕ) → WalksFree a x → WalksFree x b → HasAt has (index_at g x)) → Path (way_joins k) n a b
  path-ways zero a b p all = p
  path-ways (suc n) a b (j, there, from, p) all =
      let side = side-of plan sound up j (way-in g j there).0 in
      let source = at-up plan sound up j.source (source-named plan sound up j side) (subst (λ y. HasAt has (index_at g y)) (sym from) (all a (0, refl) (suc n, (j, there, from, p)))) in
      let sink = at-up plan sound up j.sink (sink-named plan sound up j side) (all j.sink (1, (j, there, from, refl)) (n, p)) in
      (j, up-plain j there source sink, from, path-ways n j.sink b p (λ x w v. all x (suc w.0, (j, there, from, w.1)) v))

  -- ---- from a playback's host

  module _ (play : is_of g is_capture host ≡ false) where
    pub out-on : (y : ℕ) → WalksFree host y → HasAt has (index_at g y)
    out-on y w = enough.way y (on-by g host y ∙ ap (λ (b : Bool). cond b (ways_to g y host || echoes_to g host y) (ways_to g host y)) play ∙ walk-ways g host y w)

    -- walks in between are walks of the whole, from what a walk of the whole led to
    out-walk : (n a b : ℕ) → Path (way_joins k) n a b → ((x : ℕ) → WalksFree a x → HasAt has (index_at g x)) → WalksFree a b
    out-walk zero a b p all = (0, p)
    out-walk (suc n) a b (j, there, from, p) all =
        let side = side-of plan sound up j (between.join_whole j (way-in k j there).0) in
        let source = at-up plan sound up j.source (source-named plan sound up j side) (subst (λ y. HasAt has (index_at g y)) (sym from) (all a (0, refl))) in
        let free = out-plain j there source in
        let rest = out-walk n j.sink b p (λ x w. all x (suc w.0, (j, free, from, w.1))) in
        (suc rest.0, (j, free, from, rest.1))

    ways-out : (x : ℕ) → ways_to k host x ≡ ways_to g host x
    ways-out x = same-bools (ways_to k host x) (ways_to g host x) one other
      where
        one : ways_to k host x ≡ true → ways_to g host x ≡ true
        one is = let w = ways-walk k host x is in walk-ways g host x (out-walk w.0 host x w.1 out-on)

        other : ways_to g host x ≡ true → ways_to k host x ≡ true
        other is = let w = ways-walk g host x is in walk-ways k host x (w.0, path-ways w.0 host x w.1 (λ y u v. out-on y u))

  -- ---- to a capture's host

  module _ (capture : is_of g is_capture host ≡ true) where
    ways-back : (x : ℕ) → ways_to k x host ≡ ways_to g x host
    ways-back x = same-bools (ways_to k x host) (ways_to g x host) one other
      where
        one : ways_to k x host ≡ true → ways_to g x host ≡ true
        one is = let w = ways-walk k x host is in walk-ways g x host (back-walk capture w.0 x w.1)

        other : ways_to g x host ≡ true → ways_to k x host ≡ true
        other is = let w = ways-walk g x host is in walk-ways k x host (w.0, path-ways w.0 x host w.1 (λ y u v. back-on capture y v))

    abbrev to_host : Graph → Option ℕ → Bool
    to_host m o = option_map_or (λ c. ways_to m c host) o false

    some-end : (m : Graph) (o : Option ℕ) → to_host m o ≡ true → (c : ℕ) × (o ≡ Some c) × (ways_to m c host ≡ true)
    some-end m None is = absurd (false≢true is)
    some-end m (Some c) is = (c, refl, is)

    echoes-back : (x : ℕ) → echoes_to k host x ≡ echoes_to g host x
    echoes-back x = same-bools (echoes_to k host x) (echoes_to g host x) one other
      where
        one : echoes_to k host x ≡ true → echoes_to g host x ≡ true
        one is = by (is_echo g x) refl
          where
            parts : (is_echo k x ≡ true) × (to_host k (sink_of k x) ≡ true)
            parts = and_parts (is_echo k x) (to_host k (sink_of k x)) is

            edge : (e : Edge) × (edge_of k x ≡ Some e)
            edge = echo-edge k x parts.0

            end : (c : ℕ) × (sink_of k x ≡ Some c) × (ways_to k c host ≡ true)
            end = some-end k (sink_of k x) parts.1

            whole : (f : Edge) × (edge_of g x ≡ Some f) × (f.sink ≡ Some end.0)
            whole =
                let w = between.edge_whole x edge.0 edge.1 in
                let sink : edge.0.sink ≡ Some end.0 = ap (option_and_then (λ (e : Edge). e.sink)) (sym edge.1) ∙ end.1 in
                (w.0, w.1, w.3 end.0 sink)

            to : sink_of g x ≡ Some end.0
            to = ap (option_and_then (λ (e : Edge). e.sink)) whole.1 ∙ whole.2

            way : ways_to g end.0 host ≡ true
            way = sym (ways-back end.0) ∙ end.2

            by : (b : Bool) → is_echo g x ≡ b → echoes_to g host x ≡ true
            by true at = and_from (is_echo g x) (to_host g (sink_of g x)) at (ap (to_host g) to ∙ way)
            by false at =
                let j = join-outof plan sound up x whole.0 end.0 whole.1 whole.2 in
                let sink_plain : is_echo g j.0.sink ≡ false = sink-none j.0 j.2 j.1 in
                let free : IsIn j.0 (way_joins g) = in-way g j.0 j.1 (ap (is_echo g) j.2 ∙ at) sink_plain in
                let rest : Walks (way_joins g) j.0.sink host = subst (λ y. Walks (way_joins g) y host) (sym j.3) (ways-walk g end.0 host way) in
                let on = back-on capture x (suc rest.0, (j.0, free, j.2, rest.1)) in
                let there = at-up plan sound up x (whole.0.pipe, edge-named plan sound up x whole.0 whole.1) on in
                absurd (true≢false (sym parts.0 ∙ up-echo x whole.0 whole.1 there ∙ at))
              where
                sink-none : (j : Join) → j.source ≡ x → IsIn j g.joins → is_echo g j.sink ≡ false
                sink-none j from there = side (side-of plan sound up j there)
                  where
                    side : Side plan sound up j → is_echo g j.sink ≡ false
                    side (inl (c, e, at_source, at_sink, is)) = absurd (cc (sym (component-found plan sound j.source c at_source).no_edge ∙ ap (edge_of g) from ∙ whole.1))
                    side (inr (e, c, at_source, at_sink, is)) = never-echo g j.sink (component-found plan sound j.sink c at_sink).no_edge

        other : echoes_to g host x ≡ true → echoes_to k host x ≡ true
        other is =
            let parts = and_parts (is_echo g x) (to_host g (sink_of g x)) is in
            let e = echo-edge g x parts.0 in
            let end = some-end g (sink_of g x) parts.1 in
            let on = echo-on capture x end.0 parts.0 end.1 end.2 in
            let there = at-up plan sound up x (e.0.pipe, edge-named plan sound up x e.0 e.1) on in
            let same : edge_of k x ≡ edge_of g x = between.edge_up x e.0 e.1 (up-named plan sound up x e.0.pipe (edge-named plan sound up x e.0 e.1) there) ∙ sym e.1 in
            let to : sink_of k x ≡ Some end.0 = ap (option_and_then (λ (f : Edge). f.sink)) same ∙ end.1 in
            and_from (is_echo k x) (to_host k (sink_of k x)) (up-echo x e.0 e.1 there ∙ parts.0) (ap (to_host k) to ∙ ways-back end.0 ∙ end.2)

  -- ---- both

  -- the host is of one kind in both
  host-kind : is_of k is_capture host ≡ is_of g is_capture host
  host-kind = by (comp_of g host) refl
    where
      by : (o : Option Comp) → comp_of g host ≡ o → is_of k is_capture host ≡ is_of g is_capture host
      by None at = same-bools (is_of k is_capture host) (is_of g is_capture host) (whole-kind plan sound up k between is_capture host) (λ is. absurd (cc (sym at ∙ (kind-at g is_capture host is).1)))
      by (Some c) at =
          let keeps : has c.pipe ≡ true = has-at has (index_at g host) c.pipe (comp-named plan sound up host c at) (enough.way host (host-on g host)) in
          kind-stays plan sound up k between is_capture host (named-up plan sound up host c.pipe (comp-named plan sound up host c at) keeps)

  pub way-stays : (x : ℕ) → on_way k host x ≡ on_way g host x
  way-stays x = by (is_of g is_capture host) refl
    where
      at : (m : Graph) (b : Bool) → is_of m is_capture host ≡ b → on_way m host x ≡ cond b (ways_to m x host || echoes_to m host x) (ways_to m host x)
      at m b is = on-by m host x ∙ ap (λ (b : Bool). cond b (ways_to m x host || echoes_to m host x) (ways_to m host x)) is

      by : (b : Bool) → is_of g is_capture host ≡ b → on_way k host x ≡ on_way g host x
      by true is = at k true (host-kind ∙ is) ∙ (λ i. ways-back is x i || echoes-back is x i) ∙ sym (at g true is)
      by false is = at k false (host-kind ∙ is) ∙ ways-out is x ∙ sym (at g false is)
