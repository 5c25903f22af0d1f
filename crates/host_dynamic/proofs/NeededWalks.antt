-- What walks along any joins lead to from the host of a playback, or to that of a capture, is needed: past an echo edge lies a component
-- that splits, and with its pipeline all is needed that it reaches or is reached from.
use Rattle.std.proofs.Common.{◌≡◌, refl, sym, ap, subst, ◌∙◌, ℕ, zero, suc, [], Bool, true, false, cond, inl, inr, ◌⊎◌, ◌==◌, ◌||◌, ◌&&◌, Some, None}
use Rattle.std.specs.Prelude.{Option}
use Rattle.std.specs.Option.{option_map_or, option_and_then}
use Rattle.std.proofs.lemmas.Bool.{false≢true, or_left, or_right, or_cases, and_parts, and_from, eqb-true}
use Rattle.stream_law.specs.declared.graph.Comp.{Comp}
use Rattle.stream_law.specs.declared.graph.Edge.{Edge}
use Rattle.stream_law.specs.declared.graph.Join.{Join}
use Rattle.stream_law.specs.declared.graph.Graph.{Graph}
use Rattle.stream_law.specs.Ways.{comp_of, edge_of, source_of, sink_of, reaches, is_of, is_capture, splits, leaves_split, enters_capture, is_echo, way_joins, ways_to, echoes_to, on_way}
use Rattle.stream_law.proofs.Members.{IsIn, in-all, find-in}
use Rattle.stream_law.proofs.Walking.{Path, Walks, walk-on, walk-in}
use Rattle.tplg_plan.specs.declared.plans.Plan.{Plan}
use Rattle.tplg_plan.specs.Sound.{IsSound, FillsBuffer, DrainsBuffer}
use Rattle.host_widgets.proofs.NamedIds.{component-found}
use Rattle.host_widgets.specs.Need.{end_index, HasAt, is_joined_to, IsEnough}
use Rattle.host_dynamic.specs.Noting.{led_to}
use Rattle.host_widgets.proofs.Needs.{has-at}
use Rattle.host_widgets.proofs.Between.{echo-by, kind-at, comp-named, edge-named, side-of, source-walk, join-outof, reach-walk, walk-reach, never-echo}
use Rattle.host_widgets.proofs.BetweenWays.{ways-walk, walk-ways, in-way, way-in, on-by, echo-edge, echo-splits}
use Rattle.host_widgets.specs.Indices.{index_at}

-- an echo edge has a source
echo-source : (k : Graph) (x : ℕ) → is_echo k x ≡ true → (s : ℕ) × (source_of k x ≡ Some s)
echo-source k x is = by (source_of k x) refl
  where
    both : (option_map_or (leaves_split k) (source_of k x) false && option_map_or (enters_capture k) (sink_of k x) false) ≡ true
    both = sym (echo-by k x) ∙ is

    by : (o : Option ℕ) → source_of k x ≡ o → (s : ℕ) × (source_of k x ≡ Some s)
    by None at = absurd (cc (sym (ap (λ (o : Option ℕ). option_map_or (leaves_split k) o false) at) ∙ (and_parts (option_map_or (leaves_split k) (source_of k x) false) (option_map_or (enters_capture k) (sink_of k x) false) both).0))
    by (Some s) at = (s, at)

module _ (plan : Plan) (sound : IsSound plan) (host : ℕ) (p : ℕ → Bool) (enough : IsEnough plan.graph host p) where
  abbrev g : Graph
  g = plan.graph

  -- a component of an id splits, and its pipeline is needed
  record IsSplit (s : ℕ) : Type 0 where
    comp : Comp
    at : comp_of g s ≡ Some comp
    there : IsIn comp g.comps
    split : splits comp.kind ≡ true
    needed : p comp.pipe ≡ true

  split-by : (s : ℕ) → is_of g splits s ≡ true → HasAt p (index_at g s) → IsSplit s
  split-by s is has =
      let k = kind-at g splits s is in
      record {
        comp = k.0;
        at = k.1;
        there = (find-in (λ (c : Comp). c.id == s) g.comps k.0 k.1).0;
        split = k.2;
        needed = has-at p (index_at g s) k.0.pipe (comp-named plan sound [] s k.0 k.1) has;
      }

  id-is : (s : ℕ) (c : Comp) → comp_of g s ≡ Some c → c.id ≡ s
  id-is s c at = eqb-true c.id s (find-in (λ (k : Comp). k.id == s) g.comps c at).1

  -- all that it reaches or is reached from is needed
  joined-has : (s x : ℕ) → IsSplit s → is_joined_to g s x ≡ true → HasAt p (index_at g x)
  joined-has s x is joined =
      in-all (λ (c : Comp). splits c.kind ≡ true → p c.pipe ≡ true → (x : ℕ) → is_joined_to g c.id x ≡ true → HasAt p (index_at g x)) g.comps is.comp enough.closed.split is.there is.split is.needed x
      (ap (λ (y : ℕ). is_joined_to g y x) (id-is s is.comp is.at) ∙ joined)

  out-has : (s x : ℕ) → IsSplit s → Walks g.joins s x → HasAt p (index_at g x)
  out-has s x is w = joined-has s x is (or_left (reaches g s x) (reaches g x s) (walk-reach g s x w))

  back-has : (s x : ℕ) → IsSplit s → Walks g.joins x s → HasAt p (index_at g x)
  back-has s x is w = joined-has s x is (or_right (reaches g s x) (reaches g x s) (walk-reach g x s w))

  -- the source of an echo edge that is needed
  echo-split : (x : ℕ) (e : Edge) (s : ℕ) → edge_of g x ≡ Some e → e.source ≡ Some s → is_echo g x ≡ true → HasAt p (index_at g x) → IsSplit s
  echo-split x e s at from is has =
      let source : source_of g x ≡ Some s = ap (option_and_then (λ (f : Edge). f.source)) at ∙ from in
      let mine = has-at p (index_at g x) e.pipe (edge-named plan sound [] x e at) has in
      let ends = in-all (λ (f : Edge). p f.pipe ≡ true → HasAt p (end_index g f.source) × HasAt p (end_index g f.sink)) g.edges e enough.closed.ends (find-in (λ (f : Edge). f.buffer == x) g.edges e at).0 mine in
      split-by s (echo-splits g x s is source) (subst (λ (o : Option ℕ). HasAt p (end_index g o)) from ends.0)

  -- ---- from a playback's host

  module _ (play : is_of g is_capture host ≡ false) where
    out-way : (y : ℕ) → ways_to g host y ≡ true → on_way g host y ≡ true
    out-way y is = on-by g host y ∙ ap (λ (b : Bool). cond b (ways_to g y host || echoes_to g host y) (ways_to g host y)) play ∙ is

    -- on the way, or after a component that splits
    abbrev IsOut : ℕ → Type 0
    IsOut y = (ways_to g host y ≡ true) ⊎ ((s : ℕ) × IsSplit s × Walks g.joins s y)

    out-is : (y : ℕ) → IsOut y → HasAt p (index_at g y)
    out-is y (inl way) = enough.way y (out-way y way)
    out-is y (inr (s, is, w)) = out-has s y is w

    one-join : (j : Join) → IsIn j g.joins → Walks g.joins j.source j.sink
    one-join j there = (1, (j, there, refl, refl))

    out-step : (j : Join) → IsIn j g.joins → IsOut j.source → IsOut j.sink
    out-step j there (inr (s, is, w)) = inr (s, is, walk-on g.joins w.0 s j.source j.sink w.1 (one-join j there))
    out-step j there (inl way) = by (side-of plan sound [] j there)
      where
        longer : IsIn j (way_joins g) → IsOut j.sink
        longer plain = let w = ways-walk g host j.source way in inl (walk-ways g host j.sink (walk-on (way_joins g) w.0 host j.source j.sink w.1 (1, (j, plain, refl, refl))))

        by : FillsBuffer g j ⊎ DrainsBuffer g j → IsOut j.sink
        by (inl (c, e, from, to, is)) = at (is_echo g j.sink) refl
          where
            at : (b : Bool) → is_echo g j.sink ≡ b → IsOut j.sink
            at false plain = longer (in-way g j there (never-echo g j.source (component-found plan sound j.source c from).no_edge) plain)
            at true echo =
                let source : source_of g j.sink ≡ Some j.source = ap (option_and_then (λ (f : Edge). f.source)) to ∙ is in
                inr (j.source, split-by j.source (echo-splits g j.sink j.source echo source) (enough.way j.source (out-way j.source way)), one-join j there)
        by (inr (e, c, from, to, is)) = at (is_echo g j.source) refl
          where
            at : (b : Bool) → is_echo g j.source ≡ b → IsOut j.sink
            at false plain = longer (in-way g j there plain (never-echo g j.sink (component-found plan sound j.sink c to).no_edge))
            at true echo =
                let s = echo-source g j.source echo in
                let from_s : e.source ≡ Some s.0 = ap (option_and_then (λ (f : Edge). f.source)) (sym from) ∙ s.1 in
                let w = source-walk plan sound [] j.source s.0 e from from_s in
                inr (s.0, echo-split j.source e s.0 from from_s echo (enough.way j.source (out-way j.source way)), walk-on g.joins w.0 s.0 j.source j.sink w.1 (one-join j there))

    out-path : (n a b : ℕ) → Path g.joins n a b → IsOut a → IsOut b
    out-path zero a b same is = subst IsOut same is
    out-path (suc n) a b (j, there, from, rest) is = out-path n j.sink b rest (out-step j there (subst IsOut (sym from) is))

    out-needed : (x : ℕ) → reaches g host x ≡ true → HasAt p (index_at g x)
    out-needed x led = let w = reach-walk g host x led in out-is x (out-path w.0 host x w.1 (inl (walk-ways g host host (0, refl))))

  -- ---- to a capture's host

  module _ (capture : is_of g is_capture host ≡ true) where
    on-back : (y : ℕ) → (ways_to g y host || echoes_to g host y) ≡ true → on_way g host y ≡ true
    on-back y is = on-by g host y ∙ ap (λ (b : Bool). cond b (ways_to g y host || echoes_to g host y) (ways_to g host y)) capture ∙ is

    -- on the way; or before a component that splits; or an edge out of one
    abbrev IsBack : ℕ → Type 0
    IsBack y = (ways_to g y host ≡ true) ⊎ (((s : ℕ) × IsSplit s × Walks g.joins y s) ⊎ ((e : Edge) × (s : ℕ) × (edge_of g y ≡ Some e) × (e.source ≡ Some s) × IsSplit s))

    back-is : (y : ℕ) → IsBack y → HasAt p (index_at g y)
    back-is y (inl way) = enough.way y (on-back y (or_left (ways_to g y host) (echoes_to g host y) way))
    back-is y (inr (inl (s, is, w))) = back-has s y is w
    back-is y (inr (inr (e, s, at, from, is))) = out-has s y is (source-walk plan sound [] y s e at from)

    back-step : (j : Join) → IsIn j g.joins → IsBack j.sink → IsBack j.source
    back-step j there (inr (inl (s, is, w))) = inr (inl (s, is, (suc w.0, (j, there, refl, w.1))))
    back-step j there (inr (inr (e, s, at, from, is))) = by (side-of plan sound [] j there)
      where
        by : FillsBuffer g j ⊎ DrainsBuffer g j → IsBack j.source
        by (inl (c, f, source, to, out)) =
            let same : Some s ≡ Some j.source = sym from ∙ ap (option_and_then (λ (x : Edge). x.source)) (sym at ∙ to) ∙ out in
            let here : s ≡ j.source = cc same in
            inr (inl (s, is, (0, sym here)))
        by (inr (f, c, source, to, into)) = absurd (cc (sym (component-found plan sound j.sink c to).no_edge ∙ at))
    back-step j there (inl way) = by (side-of plan sound [] j there)
      where
        has : HasAt p (index_at g j.sink)
        has = enough.way j.sink (on-back j.sink (or_left (ways_to g j.sink host) (echoes_to g host j.sink) way))

        longer : IsIn j (way_joins g) → IsBack j.source
        longer plain = let w = ways-walk g j.sink host way in inl (walk-ways g j.source host (suc w.0, (j, plain, refl, w.1)))

        by : FillsBuffer g j ⊎ DrainsBuffer g j → IsBack j.source
        by (inl (c, e, from, to, is)) = at (is_echo g j.sink) refl
          where
            at : (b : Bool) → is_echo g j.sink ≡ b → IsBack j.source
            at false plain = longer (in-way g j there (never-echo g j.source (component-found plan sound j.source c from).no_edge) plain)
            at true echo = inr (inl (j.source, echo-split j.sink e j.source to is echo has, (0, refl)))
        by (inr (e, c, from, to, is)) = at (is_echo g j.source) refl
          where
            at : (b : Bool) → is_echo g j.source ≡ b → IsBack j.source
            at false plain = longer (in-way g j there plain (never-echo g j.sink (component-found plan sound j.sink c to).no_edge))
            at true echo =
                let s = echo-source g j.source echo in
                let from_s : e.source ≡ Some s.0 = ap (option_and_then (λ (f : Edge). f.source)) (sym from) ∙ s.1 in
                let sink : sink_of g j.source ≡ Some j.sink = ap (option_and_then (λ (f : Edge). f.sink)) from ∙ is in
                let echoes : echoes_to g host j.source ≡ true = and_from (is_echo g j.source) (option_map_or (λ d. ways_to g d host) (sink_of g j.source) false) echo (ap (λ (o : Option ℕ). option_map_or (λ d. ways_to g d host) o false) sink ∙ way) in
                let on = enough.way j.source (on-back j.source (or_right (ways_to g j.source host) (echoes_to g host j.source) echoes)) in
                inr (inr (e, s.0, from, from_s, echo-split j.source e s.0 from from_s echo on))

    back-path : (n y : ℕ) → Path g.joins n y host → IsBack y
    back-path zero y same = inl (walk-ways g y host (0, same))
    back-path (suc n) y (j, there, from, rest) = subst IsBack from (back-step j there (back-path n j.sink rest))

    back-needed : (x : ℕ) → reaches g x host ≡ true → HasAt p (index_at g x)
    back-needed x led = let w = reach-walk g x host led in back-is x (back-path w.0 x w.1)

  -- ---- by the host's direction

  pub led-needed : (x : ℕ) → led_to g (is_of g is_capture host) host x ≡ true → HasAt p (index_at g x)
  led-needed x led = by (is_of g is_capture host) refl led
    where
      by : (b : Bool) → is_of g is_capture host ≡ b → led_to g b host x ≡ true → HasAt p (index_at g x)
      by true is led = back-needed is x led
      by false is led = out-needed is x led

-- ---- and all on the way is led to

plain-in : (g : Graph) (j : Join) → IsIn j (way_joins g) → IsIn j g.joins
plain-in g j there = (way-in g j there).0

ways-led : (g : Graph) (a b : ℕ) → ways_to g a b ≡ true → reaches g a b ≡ true
ways-led g a b is = let w = ways-walk g a b is in walk-reach g a b (w.0, walk-in (way_joins g) g.joins (plain-in g) w.0 a b w.1)

-- what an end of an edge leads to the host from
some-way : (g : Graph) (host : ℕ) (o : Option ℕ) → option_map_or (λ c. ways_to g c host) o false ≡ true → (c : ℕ) × (o ≡ Some c) × (ways_to g c host ≡ true)
some-way g host None is = absurd (false≢true is)
some-way g host (Some c) is = (c, refl, is)

module _ (plan : Plan) (sound : IsSound plan) (host : ℕ) where
  echo-led : (x : ℕ) → echoes_to plan.graph host x ≡ true → reaches plan.graph x host ≡ true
  echo-led x is =
      let g = plan.graph in
      let parts = and_parts (is_echo g x) (option_map_or (λ c. ways_to g c host) (sink_of g x) false) is in
      let e = echo-edge g x parts.0 in
      let end = some-way g host (sink_of g x) parts.1 in
      let to : e.0.sink ≡ Some end.0 = ap (option_and_then (λ (f : Edge). f.sink)) (sym e.1) ∙ end.1 in
      let j = join-outof plan sound [] x e.0 end.0 e.1 to in
      let w = reach-walk g end.0 host (ways-led g end.0 host end.2) in
      walk-reach g x host (suc w.0, (j.0, j.1, j.2, subst (λ (y : ℕ). Path g.joins w.0 y host) (sym j.3) w.1))

  pub way-led : (x : ℕ) → on_way plan.graph host x ≡ true → led_to plan.graph (is_of plan.graph is_capture host) host x ≡ true
  way-led x on = by (is_of plan.graph is_capture host) refl
    where
      at : (b : Bool) → is_of plan.graph is_capture host ≡ b → cond b (ways_to plan.graph x host || echoes_to plan.graph host x) (ways_to plan.graph host x) ≡ true
      at b is = ap (λ (b : Bool). cond b (ways_to plan.graph x host || echoes_to plan.graph host x) (ways_to plan.graph host x)) (sym is) ∙ sym (on-by plan.graph host x) ∙ on

      back : (ways_to plan.graph x host ≡ true) ⊎ (echoes_to plan.graph host x ≡ true) → reaches plan.graph x host ≡ true
      back (inl way) = ways-led plan.graph x host way
      back (inr echo) = echo-led x echo

      by : (b : Bool) → is_of plan.graph is_capture host ≡ b → led_to plan.graph b host x ≡ true
      by true is = back (or_cases (ways_to plan.graph x host) (echoes_to plan.graph host x) (at true is))
      by false is = ways-led plan.graph host x (at false is)
