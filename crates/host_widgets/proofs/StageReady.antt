-- With all that it needs up, the way of a stream is ready: its pipelines are complete, and each component has a right number of edges.
use Rattle.std.proofs.Common.{◌≡◌, refl, sym, ap, subst, ◌∙◌, ℕ, zero, suc, ◌≤◌, List, length, filter, Bool, true, false, cond, not, inl, inr, ◌⊎◌, ◌==◌, ◌&&◌, ◌||◌, Some, None, is_some, arith}
use Rattle.std.specs.Prelude.{nat_le, Option}
use Rattle.std.specs.Option.{option_map_or, option_and_then}
use Rattle.std.specs.List.{list_any, list_all}
use Rattle.std.proofs.lemmas.Bool.{true≢false, false≢true, eqb-true, eq-eqb, and_parts, and_from, or_cases, le-leb, leb-true, false_from_ne_true}
use Rattle.stream_law.specs.declared.graph.Kind.{Kind}
use Rattle.stream_law.specs.declared.graph.Comp.{Comp}
use Rattle.stream_law.specs.declared.graph.Edge.{Edge}
use Rattle.stream_law.specs.declared.graph.Pipe.{Pipe}
use Rattle.stream_law.specs.declared.graph.Join.{Join}
use Rattle.stream_law.specs.declared.graph.Graph.{Graph}
use Rattle.stream_law.specs.Joins.{kind_ins, kind_outs, is_right_number, fits_kind, crosses}
use Rattle.stream_law.specs.Order.{is_among}
use Rattle.stream_law.specs.Ways.{comp_of, edge_of, components, buffers, sink_of, is_end, ins, outs, is_of, is_play, is_capture, is_echo, way_joins, ways_to, echoes_to, on_way, is_complete}
use Rattle.stream_law.proofs.Members.{IsIn, in-all, in-each, any-in, in-any, find-in, in-filter, filter-any, in-kept, kept-in, in-length}
use Rattle.stream_law.proofs.Walking.{Path, Walks, walk-on, walk-in}
use Rattle.mbox_link.specs.Step.{is_ready_comp, is_ready_edge, is_way_ready}
use Rattle.tplg_plan.specs.declared.plans.Plan.{Plan}
use Rattle.tplg_plan.specs.Sound.{IsSound, IsBufferOf}
use Rattle.host_widgets.specs.Acts.{widget_words}
use Rattle.host_widgets.specs.declared.kept.Record.{Record}
use Rattle.host_widgets.proofs.Joined.{edge_with}
use Rattle.host_widgets.proofs.LookedUp.{filter-within}
use Rattle.host_widgets.proofs.NamedIds.{component-found, buffer-found, each-comp, each-edge}
use Rattle.host_widgets.proofs.PutsTaken.{comp_while}
use Rattle.host_widgets.specs.Need.{HasAt, HasBrought, IsEnough}
use Rattle.host_widgets.proofs.Needs.{in-map, has-at}
use Rattle.host_widgets.proofs.Between.{IsBetween, same-bools, found-member, kind-of, comp-named, edge-named, named-up, up-named, Side, side-of, fills-index, drains-index, join-into, join-outof, whole-kind, kind-in, echo-stays, never-echo}
use Rattle.host_widgets.proofs.BetweenWays.{ways-walk, walk-ways, in-way, way-in, on-by, echo-splits, echo-up, back-on, echo-on, out-on, way-stays}
use Rattle.host_widgets.proofs.HostStreams.{IsHostKind}
use Rattle.host_widgets.proofs.StageBetween.{edge-index, edge-at, up-between}
use Rattle.host_widgets.proofs.StageJoins.{stage-buffers, source-whole, sink-whole}
use Rattle.host_widgets.proofs.StageStays.{all-pass, pass-each, from-map}
use Rattle.host_widgets.proofs.Sublists.{filter-same, filter-both}
use Rattle.host_widgets.proofs.UpContext.{own-index}
use Rattle.host_widgets.proofs.UpStages.{Stage, index_of_id, stage_graph, comps_left, edges_left, pipes_left, pipe_as, HasUp}
use Rattle.host_widgets.specs.Indices.{index_at, is_up, join_index}
use Rattle.stream_law.proofs.OneSolution.{is_end-some}

-- ---- right numbers

-- a number that is right stays so where it is less, but not 0
right-fewer : (most n m : ℕ) → is_right_number most n ≡ true → m ≤ n → (m ≡ n) ⊎ (1 ≤ m) → is_right_number most m ≡ true
right-fewer zero n m right few some =
    let none : n ≡ 0 = eqb-true n 0 right in eq-eqb m 0 (omega (arith, none, few))
right-fewer (suc zero) n m right few (inl same) = ap (λ (k : ℕ). k == 1) same ∙ right
right-fewer (suc zero) n m right few (inr some) = let one : n ≡ 1 = eqb-true n 1 right in eq-eqb m 1 (omega (arith, one, few, some))
right-fewer (suc (suc most)) n m right few (inl same) = ap (λ (k : ℕ). nat_le 1 k && nat_le k (suc (suc most))) same ∙ right
right-fewer (suc (suc most)) n m right few (inr some) =
    let high : n ≤ suc (suc most) = leb-true n (suc (suc most)) (and_parts (nat_le 1 n) (nat_le n (suc (suc most))) right).1 in
    and_from (nat_le 1 m) (nat_le m (suc (suc most))) (le-leb 1 m some) (le-leb m (suc (suc most)) (omega (arith, few, high)))

-- a kind has a right number of edges with fewer of them, but not none
pub fits-fewer : (kind : Kind) (i o j p : ℕ) → fits_kind kind i o ≡ true → j ≤ i → (j ≡ i) ⊎ (1 ≤ j) → p ≤ o → (p ≡ o) ⊎ (1 ≤ p) → fits_kind kind j p ≡ true
fits-fewer kind i o j p fits few_in some_in few_out some_out =
    let both = and_parts (is_right_number (kind_ins kind) i) (is_right_number (kind_outs kind) o) fits in
    and_from (is_right_number (kind_ins kind) j) (is_right_number (kind_outs kind) p) (right-fewer (kind_ins kind) i j both.0 few_in some_in) (right-fewer (kind_outs kind) o p both.1 few_out some_out)

-- where there may be none, fewer are as many
none-fewer : (most n m : ℕ) → most ≡ 0 → is_right_number most n ≡ true → m ≤ n → m ≡ n
none-fewer most n m zero_most right few =
    let none : n ≡ 0 = eqb-true n 0 (ap (λ (k : ℕ). is_right_number k n) (sym zero_most) ∙ right) in omega (arith, none, few)

-- the last join of a walk
pub path-last : (joins : List Join) (n a b : ℕ) → Path joins (suc n) a b → (j : Join) × IsIn j joins × (j.sink ≡ b) × Path joins n a j.source
path-last joins zero a b (j, there, from, p) = (j, there, p, sym from)
path-last joins (suc n) a b (j, there, from, p) =
    let r = path-last joins n j.sink b p in (r.0, r.1, r.2, (j, there, from, r.3))

-- ---- ends of edges

is-end : (c : ℕ) (o : Option ℕ) → o ≡ Some c → is_end o c ≡ true
is-end c o is = ap (λ (p : Option ℕ). is_end p c) is ∙ eq-eqb c c refl

abbrev to_source : Edge → Option ℕ
to_source e = e.source

abbrev to_sink : Edge → Option ℕ
to_sink e = e.sink

abbrev end_of : (Edge → Option ℕ) → Graph → ℕ → Option ℕ
end_of pick m b = option_and_then pick (edge_of m b)

module _ (plan : Plan) (sound : IsSound plan) (kept : Record) (up : List ℕ) (st : Stage) (over : HasUp plan up st) where
  abbrev g : Graph
  g = plan.graph

  abbrev k : Graph
  k = stage_graph plan kept st

  between : IsBetween plan.graph up (stage_graph plan kept st)
  between = up-between plan sound kept up st over

  -- ---- as many edges at a component as in the whole, where all of them are up, and else fewer

  module _ (pick : Edge → Option ℕ) (whole : (b c : ℕ) → end_of pick k b ≡ Some c → end_of pick g b ≡ Some c) where
    abbrev ends : Graph → ℕ → List ℕ
    ends m c = filter (λ b. is_end (end_of pick m b) c) (buffers m)

    abbrev whole_at : ℕ → ℕ → Bool
    whole_at c b = is_end (end_of pick g b) c

    abbrev stage_at : ℕ → ℕ → Bool
    stage_at c b = st.has b && is_end (end_of pick k b) c

    stage-whole : (c b : ℕ) → stage_at c b ≡ true → whole_at c b ≡ true
    stage-whole c b is = is-end c (end_of pick g b) (whole b c (is_end-some (end_of pick k b) c (and_parts (st.has b) (is_end (end_of pick k b) c) is).1))

    ends-are : (c : ℕ) → ends k c ≡ filter (stage_at c) (buffers g)
    ends-are c = ap (filter (λ (b : ℕ). is_end (end_of pick k b) c)) (stage-buffers plan sound kept st over.whole) ∙ filter-both (λ (b : ℕ). is_end (end_of pick k b) c) st.has (buffers g)

    ends-fewer : (c : ℕ) → length (ends k c) ≤ length (ends g c)
    ends-fewer c = subst (λ (bs : List ℕ). length bs ≤ length (ends g c)) (sym (ends-are c)) (filter-within (stage_at c) (whole_at c) (stage-whole c) (buffers g))

    -- an edge that is up is there with its ends
    end-there : (b c : ℕ) (e : Edge) → edge_of g b ≡ Some e → pick e ≡ Some c → is_among up e.pipe ≡ true → stage_at c b ≡ true
    end-there b c e at to here =
        and_from (st.has b) (is_end (end_of pick k b) c) (over.there b (ap (is_among up) (edge-index plan sound b e at) ∙ here))
        (is-end c (end_of pick k b) (ap (option_and_then pick) (between.edge_up b e at here) ∙ to))

    ends-all : (c : ℕ) → ((b : ℕ) (e : Edge) → edge_of g b ≡ Some e → pick e ≡ Some c → is_among up e.pipe ≡ true) → length (ends k c) ≡ length (ends g c)
    ends-all c all =
        ap length (ends-are c
        ∙ filter-same (stage_at c) (whole_at c) (buffers g) (in-each (λ (b : ℕ). stage_at c b ≡ whole_at c b) (buffers g) (λ b there. same-bools (stage_at c b) (whole_at c b) (stage-whole c b) (back b))))
      where
        back : (b : ℕ) → whole_at c b ≡ true → stage_at c b ≡ true
        back b is = by (edge_of g b) refl (is_end-some (end_of pick g b) c is)
          where
            by : (o : Option Edge) → edge_of g b ≡ o → option_and_then pick o ≡ Some c → stage_at c b ≡ true
            by None at none = absurd (cc none)
            by (Some e) at to = end-there b c e at to (all b e at to)

    ends-some : (b c : ℕ) (e : Edge) → edge_of g b ≡ Some e → pick e ≡ Some c → is_among up e.pipe ≡ true → 1 ≤ length (ends k c)
    ends-some b c e at to here =
        subst (λ (bs : List ℕ). 1 ≤ length bs) (sym (ends-are c))
        (in-length (filter (stage_at c) (buffers g)) b (in-kept (stage_at c) (buffers g) b (found-member (λ (x : Edge). x.buffer) g.edges b e at) (end-there b c e at to here)))

  sources-whole : (b c : ℕ) → end_of to_source k b ≡ Some c → end_of to_source g b ≡ Some c
  sources-whole b c is = source-whole plan sound kept st over.whole b c is

  sinks-whole : (b c : ℕ) → end_of to_sink k b ≡ Some c → end_of to_sink g b ≡ Some c
  sinks-whole b c is = sink-whole plan sound kept st over.whole b c is

  -- a pipeline that is up is complete
  pipe-done : (i : ℕ) → is_complete g i ≡ true → is_among up i ≡ true → is_complete k i ≡ true
  pipe-done i is here =
      let r = any-in (λ (p : Pipe). p.index == i && p.complete) g.pipes is in
      let parts = and_parts (r.0.index == i) r.0.complete r.2 in
      let in_up : is_among up (index_of_id plan r.0.id) ≡ true = ap (is_among up) (own-index plan sound r.0 r.1 ∙ eqb-true r.0.index i parts.0) ∙ here in
      in-any (λ (p : Pipe). p.index == i && p.complete) k.pipes (pipe_as st.done r.0)
      (in-map (pipe_as st.done) (pipes_left plan st) r.0 (in-kept (λ (p : Pipe). st.has p.id) g.pipes r.0 r.1 (over.there r.0.id in_up)))
      (and_from (r.0.index == i) (st.done r.0.id) parts.0 (over.done r.0.id in_up))

  -- ---- the way of a stream that has what it needs

  module _ (host : ℕ) (enough : IsEnough plan.graph host (is_among up)) (own : Comp) (at_host : comp_of plan.graph host ≡ Some own) (kind : IsHostKind own.kind) where
    on-whole : (x : ℕ) → on_way k host x ≡ true → on_way g host x ≡ true
    on-whole x is = sym (way-stays plan sound up k between host enough x) ∙ is

    edge-up : (b : ℕ) (e : Edge) → edge_of g b ≡ Some e → HasAt (is_among up) (index_at g b) → is_among up e.pipe ≡ true
    edge-up b e at is = has-at (is_among up) (index_at g b) e.pipe (edge-named plan sound up b e at) is

    comp-up : (c : ℕ) (d : Comp) → comp_of g c ≡ Some d → on_way g host c ≡ true → is_among up d.pipe ≡ true
    comp-up c d found on = has-at (is_among up) (index_at g c) d.pipe (comp-named plan sound up c d found) (enough.way c on)

    module _ (c : ℕ) (d : Comp) (found : comp_of plan.graph c ≡ Some d) (on : on_way plan.graph host c ≡ true) where
      no-edge : edge_of g c ≡ None
      no-edge = (component-found plan sound c d found).no_edge

      -- ---- a playback's: every edge out of a component is up, and one into it, but for the host

      module _ (play : is_of plan.graph is_capture host ≡ false) where
        walk-from : Walks (way_joins g) host c
        walk-from = ways-walk g host c (sym (on-by g host c ∙ ap (λ (b : Bool). cond b (ways_to g c host || echoes_to g host c) (ways_to g host c)) play) ∙ on)

        outs-up : (b : ℕ) (e : Edge) → edge_of g b ≡ Some e → to_source e ≡ Some c → is_among up e.pipe ≡ true
        outs-up b e at from = by (is_echo g b) refl
          where
            by : (h : Bool) → is_echo g b ≡ h → is_among up e.pipe ≡ true
            by true echo =
                let split = echo-splits g b c echo (ap (option_and_then (λ (x : Edge). x.source)) at ∙ from) in
                let there : is_up g up c ≡ true = named-up plan sound up c d.pipe (comp-named plan sound up c d found) (comp-up c d found on) in
                up-named plan sound up b e.pipe (edge-named plan sound up b e at) (echo-up plan sound up k between host enough b e c at from split there)
            by false plain =
                let j = join-into plan sound up b e c at from in
                let free : IsIn j.0 (way_joins g) = in-way g j.0 j.1 (never-echo g j.0.source (ap (edge_of g) j.2 ∙ no-edge)) (ap (is_echo g) j.3 ∙ plain) in
                let step : Walks (way_joins g) c b = (1, (j.0, free, j.2, j.3)) in
                edge-up b e at (out-on plan sound up k between host enough play b (walk-on (way_joins g) walk-from.0 host c b walk-from.1 step))

        some-in : (c ≡ host) ⊎ (1 ≤ length (ends to_sink sinks-whole k c))
        some-in = by walk-from.0 walk-from.1
          where
            by : (m : ℕ) → Path (way_joins g) m host c → (c ≡ host) ⊎ (1 ≤ length (ends to_sink sinks-whole k c))
            by zero same = inl (sym same)
            by (suc m) p = side (side-of plan sound up r.0 (way-in g r.0 r.1).0)
              where
                r : (j : Join) × IsIn j (way_joins g) × (j.sink ≡ c) × Path (way_joins g) m host j.source
                r = path-last (way_joins g) m host c p

                side : Side plan sound up r.0 → (c ≡ host) ⊎ (1 ≤ length (ends to_sink sinks-whole k c))
                side (inl (x, e, from, to, is)) = absurd (cc (sym no-edge ∙ ap (edge_of g) (sym r.2) ∙ to))
                side (inr (e, x, from, to, is)) =
                    inr (ends-some to_sink sinks-whole r.0.source c e from (is ∙ ap Some r.2) (edge-up r.0.source e from (out-on plan sound up k between host enough play r.0.source (m, r.3))))

      -- ---- a capture's: every edge into a component is up, and one out of it, but for the host

      module _ (capture : is_of plan.graph is_capture host ≡ true) where
        no-echo : echoes_to g host c ≡ false
        no-echo = ap (λ (b : Bool). b && option_map_or (λ x. ways_to g x host) (sink_of g c) false) (never-echo g c no-edge)

        way-back : ways_to g c host ≡ true
        way-back = by (or_cases (ways_to g c host) (echoes_to g host c) (sym (on-by g host c ∙ ap (λ (b : Bool). cond b (ways_to g c host || echoes_to g host c) (ways_to g host c)) capture) ∙ on))
          where
            by : (ways_to g c host ≡ true) ⊎ (echoes_to g host c ≡ true) → ways_to g c host ≡ true
            by (inl is) = is
            by (inr is) = absurd (true≢false (sym is ∙ no-echo))

        walk-back : Walks (way_joins g) c host
        walk-back = ways-walk g c host way-back

        ins-up : (b : ℕ) (e : Edge) → edge_of g b ≡ Some e → to_sink e ≡ Some c → is_among up e.pipe ≡ true
        ins-up b e at to = by (is_echo g b) refl
          where
            by : (h : Bool) → is_echo g b ≡ h → is_among up e.pipe ≡ true
            by true echo = edge-up b e at (echo-on plan sound up k between host enough capture b c echo (ap (option_and_then (λ (x : Edge). x.sink)) at ∙ to) way-back)
            by false plain =
                let j = join-outof plan sound up b e c at to in
                let free : IsIn j.0 (way_joins g) = in-way g j.0 j.1 (ap (is_echo g) j.2 ∙ plain) (never-echo g j.0.sink (ap (edge_of g) j.3 ∙ no-edge)) in
                let rest : Walks (way_joins g) j.0.sink host = subst (λ (y : ℕ). Walks (way_joins g) y host) (sym j.3) walk-back in
                edge-up b e at (back-on plan sound up k between host enough capture b (suc rest.0, (j.0, free, j.2, rest.1)))

        some-out : (c ≡ host) ⊎ (1 ≤ length (ends to_source sources-whole k c))
        some-out = by walk-back.0 walk-back.1
          where
            by : (m : ℕ) → Path (way_joins g) m c host → (c ≡ host) ⊎ (1 ≤ length (ends to_source sources-whole k c))
            by zero same = inl same
            by (suc m) (j, there, from, p) = side (side-of plan sound up j (way-in g j there).0)
              where
                side : Side plan sound up j → (c ≡ host) ⊎ (1 ≤ length (ends to_source sources-whole k c))
                side (inl (x, e, at, to, is)) = inr (ends-some to_source sources-whole j.sink c e to (is ∙ ap Some from) (edge-up j.sink e to (back-on plan sound up k between host enough capture j.sink (m, p))))
                side (inr (e, x, at, to, is)) = absurd (cc (sym no-edge ∙ ap (edge_of g) (sym from) ∙ at))

      -- ---- so each component has a right number of edges

      whole-fits : fits_kind d.kind (length (ins g c)) (length (outs g c)) ≡ true
      whole-fits =
          let f = find-in (λ (x : Comp). x.id == c) g.comps d found in
          ap (λ (x : ℕ). fits_kind d.kind (length (ins g x)) (length (outs g x))) (sym (eqb-true d.id c f.1))
          ∙ pass-each (λ (x : Comp). fits_kind x.kind (length (ins g x.id)) (length (outs g x.id))) g.comps d sound.fits f.0

      right-parts : (is_right_number (kind_ins d.kind) (length (ins g c)) ≡ true) × (is_right_number (kind_outs d.kind) (length (outs g c)) ≡ true)
      right-parts = and_parts (is_right_number (kind_ins d.kind) (length (ins g c))) (is_right_number (kind_outs d.kind) (length (outs g c))) whole-fits

      -- the host is of its kind
      same-comp : c ≡ host → d.kind ≡ own.kind
      same-comp same = let one : d ≡ own = cc (sym found ∙ ap (comp_of g) same ∙ at_host) in ap (λ (x : Comp). x.kind) one

      none-into : is_of g is_capture host ≡ false → kind_ins own.kind ≡ 0
      none-into is = by kind
        where
          by : IsHostKind own.kind → kind_ins own.kind ≡ 0
          by (inl e) = ap kind_ins e
          by (inr e) = absurd (true≢false (ap is_capture (sym e) ∙ sym (kind-of g is_capture host own at_host) ∙ is))

      none-outof : is_of g is_capture host ≡ true → kind_outs own.kind ≡ 0
      none-outof is = by kind
        where
          by : IsHostKind own.kind → kind_outs own.kind ≡ 0
          by (inl e) = absurd (false≢true (ap is_capture (sym e) ∙ sym (kind-of g is_capture host own at_host) ∙ is))
          by (inr e) = ap kind_outs e

      few-in : length (ins k c) ≤ length (ins g c)
      few-in = ends-fewer to_sink sinks-whole c

      few-out : length (outs k c) ≤ length (outs g c)
      few-out = ends-fewer to_source sources-whole c

      fits-way : fits_kind d.kind (length (ins k c)) (length (outs k c)) ≡ true
      fits-way = by (is_of g is_capture host) refl
        where
          right-in : (is_of g is_capture host ≡ false) → (c ≡ host) ⊎ (1 ≤ length (ins k c)) → (length (ins k c) ≡ length (ins g c)) ⊎ (1 ≤ length (ins k c))
          right-in play (inl same) = inl (none-fewer (kind_ins d.kind) (length (ins g c)) (length (ins k c)) (ap kind_ins (same-comp same) ∙ none-into play) right-parts.0 few-in)
          right-in play (inr some) = inr some

          right-out : (is_of g is_capture host ≡ true) → (c ≡ host) ⊎ (1 ≤ length (outs k c)) → (length (outs k c) ≡ length (outs g c)) ⊎ (1 ≤ length (outs k c))
          right-out capture (inl same) = inl (none-fewer (kind_outs d.kind) (length (outs g c)) (length (outs k c)) (ap kind_outs (same-comp same) ∙ none-outof capture) right-parts.1 few-out)
          right-out capture (inr some) = inr some

          by : (h : Bool) → is_of g is_capture host ≡ h → fits_kind d.kind (length (ins k c)) (length (outs k c)) ≡ true
          by true capture =
              fits-fewer d.kind (length (ins g c)) (length (outs g c)) (length (ins k c)) (length (outs k c)) whole-fits few-in (inl (ends-all to_sink sinks-whole c (ins-up capture))) few-out (right-out capture (some-out capture))
          by false play =
              fits-fewer d.kind (length (ins g c)) (length (outs g c)) (length (ins k c)) (length (outs k c)) whole-fits few-in (right-in play (some-in play)) few-out (inl (ends-all to_source sources-whole c (outs-up play)))

    -- ---- all of the way

    one-comp : (d : Comp) → comp_of g d.id ≡ Some d → (not (on_way k host d.id) || is_ready_comp k (comp_while plan kept st.todo d)) ≡ true
    one-comp d found = by (on_way k host d.id) refl
      where
        by : (h : Bool) → on_way k host d.id ≡ h → (not h || is_ready_comp k (comp_while plan kept st.todo d)) ≡ true
        by false off = refl
        by true on =
            and_from (is_complete k d.pipe) (fits_kind d.kind (length (ins k d.id)) (length (outs k d.id)))
            (pipe-done d.pipe (in-all (λ (x : Comp). is_complete g x.pipe ≡ true) g.comps d sound.comps_piped (find-in (λ (x : Comp). x.id == d.id) g.comps d found).0) (comp-up d.id d found (on-whole d.id on)))
            (fits-way d.id d found (on-whole d.id on))

    comp-ready : (c : Comp) → IsIn c k.comps → (not (on_way k host c.id) || is_ready_comp k c) ≡ true
    comp-ready c there =
        let r = from-map (comp_while plan kept st.todo) (comps_left plan st) c there in
        let mine = kept-in (λ (x : Comp). st.has x.id) g.comps r.0 r.1 in
        subst (λ (x : Comp). (not (on_way k host x.id) || is_ready_comp k x) ≡ true) (sym r.2)
        (one-comp r.0 (in-all (λ (x : Comp). comp_of g x.id ≡ Some x) g.comps r.0 (each-comp plan sound) mine.0))

    one-edge : (e : Edge) → edge_of g e.buffer ≡ Some e → st.has e.buffer ≡ true → (not (on_way k host e.buffer) || is_ready_edge k (edge_with st.joins e)) ≡ true
    one-edge e found has = by (on_way k host e.buffer) refl
      where
        is : IsBufferOf g (widget_words plan e.buffer) e
        is = (buffer-found plan sound e.buffer e found).is

        by : (h : Bool) → on_way k host e.buffer ≡ h → (not h || is_ready_edge k (edge_with st.joins e)) ≡ true
        by false off = refl
        by true on =
            let here = edge-up e.buffer e found (enough.way e.buffer (on-whole e.buffer on)) in
            let full : edge_with st.joins e ≡ e = cc (sym (edge-at plan sound kept st e.buffer e found has) ∙ between.edge_up e.buffer e found here) in
            let done = pipe-done e.pipe (in-all (λ (x : Edge). is_complete g x.pipe ≡ true) g.edges e sound.edges_piped (find-in (λ (x : Edge). x.buffer == e.buffer) g.edges e found).0) here in
            let ready : is_ready_edge k e ≡ true = λ i. done i && is_some (is.from.0 i) && is_some (is.to.0 i) in
            ap (is_ready_edge k) full ∙ ready

    edge-ready : (e : Edge) → IsIn e k.edges → (not (on_way k host e.buffer) || is_ready_edge k e) ≡ true
    edge-ready e there =
        let r = from-map (edge_with st.joins) (edges_left plan st) e there in
        let mine = kept-in (λ (x : Edge). st.has x.buffer) g.edges r.0 r.1 in
        subst (λ (x : Edge). (not (on_way k host x.buffer) || is_ready_edge k x) ≡ true) (sym r.2)
        (one-edge r.0 (in-all (λ (x : Edge). edge_of g x.buffer ≡ Some x) g.edges r.0 (each-edge plan sound) mine.0) mine.1)

    -- at every stage at which all is up that the stream needs
    pub way-ready : is_way_ready (stage_graph plan kept st) host ≡ true
    unfolding is_way_ready
    way-ready =
        and_from (list_all (λ (c : Comp). not (on_way k host c.id) || is_ready_comp k c) k.comps) (list_all (λ (e : Edge). not (on_way k host e.buffer) || is_ready_edge k e) k.edges)
        (all-pass (λ (c : Comp). not (on_way k host c.id) || is_ready_comp k c) k.comps comp-ready) (all-pass (λ (e : Edge). not (on_way k host e.buffer) || is_ready_edge k e) k.edges edge-ready)

  -- ---- where all joins are of what is up, no walk without an echo edge leads from a host that plays to one that captures

  module _ (brought : HasBrought plan.graph (is_among up)) (placed : (j : Join) → IsIn j st.joins → (i : ℕ) × (join_index plan.graph j ≡ Some i) × (is_among up i ≡ true)) where
    way-whole : (j : Join) → IsIn j (way_joins k) → IsIn j (way_joins g)
    way-whole j there = by (side-of plan sound up j whole)
      where
        parts : IsIn j st.joins × (is_echo k j.source ≡ false) × (is_echo k j.sink ≡ false)
        parts = way-in k j there

        whole : IsIn j g.joins
        whole = over.whole j parts.0

        same-echo : (b : ℕ) (e : Edge) → edge_of g b ≡ Some e → join_index g j ≡ Some e.pipe → is_echo g b ≡ is_echo k b
        same-echo b e at index =
            let p = placed j parts.0 in
            let same : p.0 ≡ e.pipe = cc (sym p.1 ∙ index) in
            sym (echo-stays plan sound up k between brought b e at (ap (is_among up) (sym same) ∙ p.2))

        by : Side plan sound up j → IsIn j (way_joins g)
        by (inl (c, e, from, to, is)) = in-way g j whole (never-echo g j.source (component-found plan sound j.source c from).no_edge) (same-echo j.sink e to (fills-index plan sound up j c e from to) ∙ parts.2)
        by (inr (e, c, from, to, is)) = in-way g j whole (same-echo j.source e from (drains-index plan sound up j e from) ∙ parts.1) (never-echo g j.sink (component-found plan sound j.sink c to).no_edge)

    crosses-whole : crosses k ≡ true → crosses g ≡ true
    unfolding crosses
    crosses-whole is =
        let a = in-filter (λ (x : ℕ). list_any (λ (y : ℕ). ways_to k x y) (filter (is_of k is_capture) (components k))) (is_of k is_play) (components k) is in
        let b = in-filter (λ (y : ℕ). ways_to k a.0 y) (is_of k is_capture) (components k) a.3 in
        let play = whole-kind plan sound up k between is_play a.0 a.2 in
        let capture = whole-kind plan sound up k between is_capture b.0 b.2 in
        let w = ways-walk k a.0 b.0 b.3 in
        let way = walk-ways g a.0 b.0 (w.0, walk-in (way_joins k) (way_joins g) way-whole w.0 a.0 b.0 w.1) in
        filter-any (λ (x : ℕ). list_any (λ (y : ℕ). ways_to g x y) (filter (is_of g is_capture) (components g))) (is_of g is_play) (components g) a.0 (kind-in plan sound up k between g is_play a.0 play) play
        (filter-any (λ (y : ℕ). ways_to g a.0 y) (is_of g is_capture) (components g) b.0 (kind-in plan sound up k between g is_capture b.0 capture) capture way)

    pub stage-apart : crosses (stage_graph plan kept st) ≡ false
    stage-apart = false_from_ne_true (crosses k) (λ is. true≢false (sym (crosses-whole is) ∙ sound.apart))
