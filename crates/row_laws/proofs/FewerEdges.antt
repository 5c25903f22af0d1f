-- A graph of which a buffer is taken away with its joins.
use Rattle.std.proofs.Common.{◌≡◌, refl, sym, ap, ◌∙◌, subst, ℕ, ◌+◌, ◌≤◌, List, [], ◌∷◌, map, filter, length, Option, Some, None, Bool, true, false, cond, not, inl, inr, ◌⊎◌, ◌==◌, ◌&&◌, ◌||◌, arith}
use Rattle.std.proofs.lemmas.Bool.{true≢false, false≢true, false_from_ne_true, or_parts, or_from, or_left, or_right, or_cases, and_parts, and_from, eqb-true, eq-eqb}
use Rattle.std.proofs.lemmas.List.Filters.{length-filter_both}
use Rattle.std.specs.Prelude.{find, is_some, option_map, option_and_then}
use Rattle.std.specs.Option.{option_map_or}
use Rattle.std.specs.List.{list_any, list_all, AllByRecursion}
use Rattle.sof_base.specs.declared.format.Params.{Params}
use Rattle.stream_law.specs.declared.graph.Kind.{Kind}
use Rattle.stream_law.specs.declared.graph.Kind.TheVariants.{Demux}
use Rattle.stream_law.specs.declared.graph.Comp.{Comp}
use Rattle.stream_law.specs.declared.graph.Edge.{Edge}
use Rattle.stream_law.specs.declared.graph.Join.{Join}
use Rattle.stream_law.specs.declared.graph.Graph.{Graph}
use Rattle.stream_law.specs.declared.stream.StreamView.{StreamView}
use Rattle.stream_law.specs.Placed.{HasDistinct}
use Rattle.stream_law.specs.Ways.{comp_of, edge_of, source_of, sink_of, components, buffers, ins, outs, is_end, leads, reaches, is_of, is_play, is_capture, is_dai_play, splits, reached_by_some, reaches_some, leaves_split, enters_capture, is_echo, way_joins, ways_to, on_way, agree}
use Rattle.stream_law.specs.Joins.{kind_ins, kind_outs, fits_kind, has_stayed, stays}
use Rattle.mbox_link.specs.Step.{has_comp, has_edge, has_kind, is_host, kind_at, is_complete, is_ready_comp, is_ready_edge, is_way_ready, is_held, touches, is_used}
use Rattle.row_laws.specs.Wired.{IsWired, HasJoinedSides, IsSide, IsBetween, IsJoinedFrom, IsJoinedTo, IsOpen, is_at, is_node, side_count, sides_joined}
use Rattle.row_laws.specs.Played.{IsStreamSet, IsSetBy, is_idle}
use Rattle.row_laws.proofs.Found.{found-each, ends-agree}
use Rattle.row_laws.proofs.Fewer.{all-kept, all-filter, all-both, all-any, all-test, test-all, any-kept, any-with, any-to, any-of_kept, none-kept, none-each, some-pass, two-pass, filter-kept, one-key, distinct-filter, apart-by, not-true, not-false, other-any, other-find}
use Rattle.row_laws.proofs.Growing.{all-by, some-found}
use Rattle.stream_law.proofs.EdgeNumbers.{fewer-right, right-ins, right-outs}
use Rattle.stream_law.proofs.Members.{IsIn, in-each, any-in, in-any, in-filter, filter-any, in-kept}
use Rattle.row_laws.proofs.Near.{complete-comp, fits-comp, play-in, capture-out, at-buffer, plain-comp, source-goes, sink-goes, goes-sink, edge-into, edge-outof}
use Rattle.row_laws.proofs.Trips.{goes_from, IsTrip, Trip, trip-none, trip-first, trip-last, trip-end, trip-start, trip-of, trip-leads, trip-reached, reached-trip, trip-ways, ways-trip, way-goes, goes-way}
use Rattle.row_laws.proofs.Touching.{echo-sides}
use Rattle.row_laws.proofs.Staying.{way-stayed}

-- fewer edges in, but one at least, are as many as the kind has
fits-fewer : (k : Kind) (m n l : ℕ) → 1 ≤ l → l ≤ m → fits_kind k m n ≡ true → fits_kind k l n ≡ true
fits-fewer k m n l some most fits = and_from _ _ (fewer-right (kind_ins k) m l some most (right-ins k m n fits)) (right-outs k m n fits)

fits-fewer_out : (k : Kind) (m n l : ℕ) → 1 ≤ l → l ≤ n → fits_kind k m n ≡ true → fits_kind k m l ≡ true
fits-fewer_out k m n l some most fits = and_from _ _ (right-ins k m n fits) (fewer-right (kind_outs k) n l some most (right-outs k m n fits))

-- what splits is no DAI
never-splits : (o : Option Comp) → option_map_or (λ x. splits x.kind) o false ≡ true → option_map_or (λ x. is_dai_play x.kind) o false ≡ true → ⊥
never-splits None is dai = false≢true is
never-splits (Some c) is dai = by c.kind is dai
  where
    by : (k : Kind) → splits k ≡ true → is_dai_play k ≡ true → ⊥
    by Demux is dai = false≢true dai
    by kind is dai = false≢true is

-- an id of a component is one
in-comp : (g : Graph) (c : ℕ) → IsIn c (components g) → has_comp g c ≡ true
in-comp g c there = at g.comps there
  where
    at : (xs : List Comp) → IsIn c (map (λ (x : Comp). x.id) xs) → list_any (λ x. x.id == c) xs ≡ true
    at [] here = absurd here
    at (x ∷ xs) (inl same) = or_left (x.id == c) _ (eq-eqb x.id c (sym same))
    at (x ∷ xs) (inr more) = or_right (x.id == c) _ (at xs more)

-- of fewer edges no more pass
pass-fewer : (keep test : Edge → Bool) (es : List Edge) → length (filter test (filter keep es)) ≤ length (filter test es)
pass-fewer keep test [] = omega arith
pass-fewer keep test (e ∷ es) = by (keep e) (test e) refl (pass-fewer keep test es)
  where
    by : (h t : Bool) → test e ≡ t → length (filter test (filter keep es)) ≤ length (filter test es) → length (filter test (cond h (e ∷ filter keep es) (filter keep es))) ≤ length (cond t (e ∷ filter test es) (filter test es))
    by true t is rest = subst (λ k. length (cond k (e ∷ filter test (filter keep es)) (filter test (filter keep es))) ≤ length (cond t (e ∷ filter test es) (filter test es))) (sym is) (both t rest)
      where
        both : (t : Bool) → length (filter test (filter keep es)) ≤ length (filter test es) → length (cond t (e ∷ filter test (filter keep es)) (filter test (filter keep es))) ≤ length (cond t (e ∷ filter test es) (filter test es))
        both true rest = omega (arith, rest)
        both false rest = rest
    by false true is rest = omega (arith, rest)
    by false false is rest = rest

module _ (g : Graph) (id : ℕ) (wired : IsWired g) (linked : HasJoinedSides g) (there : has_edge g id ≡ true) where
  abbrev less : Graph
  less = record { comps = g.comps; edges = filter (λ e. not (e.buffer == id)) g.edges; pipes = g.pipes; joins = filter (λ j. not (touches id j)) g.joins }

  abbrev keep : Edge → Bool
  keep e = not (e.buffer == id)

  no-comp : has_comp g id ≡ false
  no-comp = let found = any-with (λ (e : Edge). has_comp g e.buffer ≡ false) (λ e. e.buffer == id) g.edges wired.apart there in ap (has_comp g) (sym (eqb-true found.0.buffer id found.2)) ∙ found.1

  comp-apart : (c : ℕ) → has_comp g c ≡ true → (c == id) ≡ false
  comp-apart c is = false_from_ne_true (c == id) (λ e. true≢false (sym is ∙ ap (has_comp g) (eqb-true c id e) ∙ no-comp))

  -- ---- trips

  -- joins between other ids are left
  goes-other : (a c : ℕ) → (a == id) ≡ false → (c == id) ≡ false → goes_from less.joins a c ≡ goes_from g.joins a c
  goes-other a c a-other c-other = any-kept (λ (j : Join). not (touches id j)) (λ j. j.source == a && j.sink == c) (λ j. j.source == a && j.sink == c) g.joins (all-any (λ (j : Join). (not (touches id j) ≡ true → (j.source == a && j.sink == c) ≡ (j.source == a && j.sink == c)) × (not (touches id j) ≡ false → (j.source == a && j.sink == c) ≡ false)) (λ j. (λ e. refl, λ gone. none j (not-false (touches id j) gone))) g.joins)
    where
      none : (j : Join) → touches id j ≡ true → (j.source == a && j.sink == c) ≡ false
      none j at = by (or_cases (j.source == id) (j.sink == id) at)
        where
          right : (h k : Bool) → k ≡ false → (h && k) ≡ false
          right true k e = e
          right false k e = refl

          by : ((j.source == id) ≡ true) ⊎ ((j.sink == id) ≡ true) → (j.source == a && j.sink == c) ≡ false
          by (inl e) = ap (λ h. h && j.sink == c) (apart-by j.source a id e a-other)
          by (inr e) = right (j.source == a) (j.sink == c) (apart-by j.sink c id e c-other)

  trip-more : (a b : ℕ) → Trip less.joins a b → Trip g.joins a b
  trip-more a b t = by t.ids a t.goes
    where
      by : (ids : List ℕ) (x : ℕ) → IsTrip less.joins x ids b → Trip g.joins x b
      by [] x e = trip-none g.joins x b e
      by (y ∷ ids) x goes = trip-first g.joins x y b (any-of_kept (λ (j : Join). not (touches id j)) (λ j. j.source == x && j.sink == y) g.joins goes.0) (by ids y goes.1)

  other : (a b : ℕ) → (a ≡ b → ⊥) → (a == b) ≡ false
  other a b f = false_from_ne_true (a == b) (λ e. f (eqb-true a b e))

  -- ---- the edges of what is on a way

  abbrev into : ℕ → Edge → Bool
  into c e = is_end e.sink c

  abbrev outof : ℕ → Edge → Bool
  outof c e = is_end e.source c

  into-goes : (c : ℕ) → list_any (λ e. into c e && e.buffer == id) g.edges ≡ true → goes_from g.joins id c ≡ true
  into-goes c any =
      let found = any-in (λ e. into c e && e.buffer == id) g.edges any in
      let parts = and_parts (into c found.0) (found.0.buffer == id) found.2 in
      ap (λ n. goes_from g.joins n c) (sym (eqb-true found.0.buffer id parts.1)) ∙ sink-goes g wired linked found.0 found.1 c parts.0

  outof-goes : (c : ℕ) → list_any (λ e. outof c e && e.buffer == id) g.edges ≡ true → goes_from g.joins c id ≡ true
  outof-goes c any =
      let found = any-in (λ e. outof c e && e.buffer == id) g.edges any in
      let parts = and_parts (outof c found.0) (found.0.buffer == id) found.2 in
      ap (λ n. goes_from g.joins c n) (sym (eqb-true found.0.buffer id parts.1)) ∙ source-goes g wired linked found.0 found.1 c parts.0

  buffer-sink : (s : ℕ) → goes_from g.joins id s ≡ true → is_end (sink_of g id) s ≡ true
  buffer-sink s goes =
      let found = any-with (λ (e : Edge). IsIn e g.edges) (λ e. e.buffer == id) g.edges (in-each (λ (e : Edge). IsIn e g.edges) g.edges (λ e here. here)) there in
      let e : Edge = found.0 in
      let same : e.buffer ≡ id = eqb-true e.buffer id found.2 in
      ap (λ n. is_end (sink_of g n) s) (sym same) ∙ ap (λ (o : Option Edge). is_end (option_and_then (λ e. e.sink) o) s) (at-buffer g wired linked e found.1) ∙ goes-sink g wired linked e found.1 s (ap (λ n. goes_from g.joins n s) same ∙ goes)

  -- so the buffer has that side
  into-side : (c : ℕ) → list_any (λ e. into c e && e.buffer == id) g.edges ≡ true → is_end (sink_of g id) c ≡ true
  into-side c any =
      let found = any-in (λ e. into c e && e.buffer == id) g.edges any in
      let parts = and_parts (into c found.0) (found.0.buffer == id) found.2 in
      ap (λ n. is_end (sink_of g n) c) (sym (eqb-true found.0.buffer id parts.1)) ∙ ap (λ (o : Option Edge). is_end (option_and_then (λ e. e.sink) o) c) (at-buffer g wired linked found.0 found.1) ∙ parts.0

  outof-side : (c : ℕ) → list_any (λ e. outof c e && e.buffer == id) g.edges ≡ true → is_end (source_of g id) c ≡ true
  outof-side c any =
      let found = any-in (λ e. outof c e && e.buffer == id) g.edges any in
      let parts = and_parts (outof c found.0) (found.0.buffer == id) found.2 in
      ap (λ n. is_end (source_of g n) c) (sym (eqb-true found.0.buffer id parts.1)) ∙ ap (λ (o : Option Edge). is_end (option_and_then (λ e. e.source) o) c) (at-buffer g wired linked found.0 found.1) ∙ parts.0

  -- what is so of a side is so of a component there
  at-side : (f : ℕ → Bool) (o : Option ℕ) (c : ℕ) → is_end o c ≡ true → option_map_or f o false ≡ f c
  at-side f None c is = absurd (false≢true is)
  at-side f (Some n) c is = ap f (eqb-true n c is)

  ins-are : (c : ℕ) → length (ins g c) ≡ length (filter (into c) g.edges)
  ins-are c = ends-agree (λ (e : Edge). e.sink) c g.edges wired.buffers

  outs-are : (c : ℕ) → length (outs g c) ≡ length (filter (outof c) g.edges)
  outs-are c = ends-agree (λ (e : Edge). e.source) c g.edges wired.buffers

  any-first : (p q : Edge → Bool) (es : List Edge) → list_any (λ e. p e && q e) es ≡ true → list_any p es ≡ true
  any-first p q es e = any-to (λ (e : Edge). Unit {0}) (λ e. p e && q e) p (λ e u both. (and_parts (p e) (q e) both).0) es (all-any (λ (e : Edge). Unit {0}) (λ e. tt) es) e

  module _ (h : ℕ) (host : has_kind is_host (kind_at g h) ≡ true) (off : on_way g h id ≡ false) (c : Comp) (comp : has_comp g c.id ≡ true) (found : find (λ x. x.id == c.id) g.comps ≡ Some c) (on : on_way g h c.id ≡ true) (ready : is_ready_comp g c ≡ true) where
    fits : fits_kind c.kind (length (ins g c.id)) (length (outs g c.id)) ≡ true
    fits = fits-comp g c ready

    -- the host's own kind
    own-host : h ≡ c.id → is_host c.kind ≡ true
    own-host same = sym (ap (λ n. has_kind is_host (kind_at g n)) same ∙ ap (λ (o : Option Comp). has_kind is_host (option_map (λ c. c.kind) o)) found) ∙ host

    own-capture : (t : Bool) → option_map_or (λ c. is_capture c.kind) (comp_of g h) false ≡ t → h ≡ c.id → is_capture c.kind ≡ t
    own-capture t is same = sym (ap (λ n. option_map_or (λ (c : Comp). is_capture c.kind) (comp_of g n) false) same ∙ ap (λ (o : Option Comp). option_map_or (λ c. is_capture c.kind) o false) found) ∙ is

    split : (t : Bool) → is_of g is_capture h ≡ t → (x : ℕ) → on_way g h x ≡ cond t (ways_to g x h || (is_echo g x && option_map_or (λ c. ways_to g c h) (sink_of g x) false)) (ways_to g h x)
    unfolding on_way
    split t is x = ap (λ k. cond k (ways_to g x h || (is_echo g x && option_map_or (λ c. ways_to g c h) (sink_of g x) false)) (ways_to g h x)) is

    -- the component is on the way by a walk without an echo edge
    comp-to : is_of g is_capture h ≡ true → ways_to g c.id h ≡ true
    comp-to is = by (or_cases (ways_to g c.id h) (is_echo g c.id && option_map_or (λ c. ways_to g c h) (sink_of g c.id) false) (sym (split true is c.id) ∙ on))
      where
        by : (ways_to g c.id h ≡ true) ⊎ ((is_echo g c.id && option_map_or (λ c. ways_to g c h) (sink_of g c.id) false) ≡ true) → ways_to g c.id h ≡ true
        by (inl e) = e
        by (inr e) = absurd (true≢false (sym (and_parts (is_echo g c.id) _ e).0 ∙ plain-comp g wired linked c.id comp))

    comp-from : is_of g is_capture h ≡ false → ways_to g h c.id ≡ true
    comp-from is = sym (split false is c.id) ∙ on

    -- and the buffer is not, by none
    never-to : is_of g is_capture h ≡ true → Trip (way_joins g) id h → ⊥
    never-to is t = true≢false (sym (or_left (ways_to g id h) _ (ways-trip g id h t)) ∙ (sym (split true is id) ∙ off))

    never-from : is_of g is_capture h ≡ false → Trip (way_joins g) h id → ⊥
    never-from is t = true≢false (sym (ways-trip g h id t) ∙ (sym (split false is id) ∙ off))

    -- the buffer, which is not on the way, leads into nothing on the way of a capture
    none-into : is_of g is_capture h ≡ true → list_any (λ e. into c.id e && e.buffer == id) g.edges ≡ true → ⊥
    none-into is any = by (is_echo g id) refl
      where
        by : (k : Bool) → is_echo g id ≡ k → ⊥
        by true echo = true≢false (sym (or_right (ways_to g id h) _ (and_from (is_echo g id) _ echo (at-side (λ c. ways_to g c h) (sink_of g id) c.id (into-side c.id any) ∙ comp-to is))) ∙ (sym (split true is id) ∙ off))
        by false plain = never-to is (trip-first (way_joins g) id c.id h (goes-way g id c.id plain (plain-comp g wired linked c.id comp) (into-goes c.id any)) (trip-ways g c.id h (comp-to is)))

    -- where it is an echo edge out of the component, another edge leads on to a DAI
    other-out : is_echo g id ≡ true → is_end (source_of g id) c.id ≡ true → (b : ℕ) × ((b == id) ≡ false) × (goes_from g.joins c.id b ≡ true)
    other-out echo from = by (trip-start g.joins c.id dai.0 (trip-reached g c.id dai.0 dai.3))
      where
        sides : (option_map_or (leaves_split g) (source_of g id) false ≡ true) × (option_map_or (enters_capture g) (sink_of g id) false ≡ true)
        sides = echo-sides g id echo

        leaves : (is_of g splits c.id ≡ true) × (reaches_some g is_dai_play c.id ≡ true)
        leaves =
            let last = and_parts (is_of g splits c.id && reached_by_some g is_play c.id) (reaches_some g is_dai_play c.id) (sym (at-side (leaves_split g) (source_of g id) c.id from) ∙ sides.0) in
            ((and_parts (is_of g splits c.id) (reached_by_some g is_play c.id) last.0).0, last.1)

        dai : (d : ℕ) × IsIn d (components g) × (is_of g is_dai_play d ≡ true) × (reaches g c.id d ≡ true)
        dai = in-filter (λ d. reaches g c.id d) (is_of g is_dai_play) (components g) leaves.1

        -- no walk leads to it from where the buffer goes
        never-on : (s : ℕ) → is_end (sink_of g id) s ≡ true → Trip g.joins s dai.0 → ⊥
        never-on s to t =
            let enters = and_parts (reaches_some g is_capture s) (not (reaches_some g is_dai_play s)) (sym (at-side (enters_capture g) (sink_of g id) s to) ∙ sides.1) in
            true≢false (sym (filter-any (λ d. reaches g s d) (is_of g is_dai_play) (components g) dai.0 dai.1 dai.2 (reached-trip g s dai.0 t)) ∙ not-true (reaches_some g is_dai_play s) enters.1)

        never-by : Trip g.joins id dai.0 → ⊥
        never-by t = at (trip-start g.joins id dai.0 t)
          where
            at : (id ≡ dai.0) ⊎ ((s : ℕ) × (goes_from g.joins id s ≡ true) × Trip g.joins s dai.0) → ⊥
            at (inl same) = true≢false (sym (in-comp g dai.0 dai.1) ∙ ap (has_comp g) (sym same) ∙ no-comp)
            at (inr r) = never-on r.0 (buffer-sink r.0 r.1) r.2

        by : (c.id ≡ dai.0) ⊎ ((b : ℕ) × (goes_from g.joins c.id b ≡ true) × Trip g.joins b dai.0) → (b : ℕ) × ((b == id) ≡ false) × (goes_from g.joins c.id b ≡ true)
        by (inl same) = absurd (never-splits (comp_of g c.id) leaves.0 (ap (is_of g is_dai_play) same ∙ dai.2))
        by (inr r) = (r.0, other r.0 id (λ e. never-by (subst (λ n. Trip g.joins n dai.0) e r.2)), r.1)

    -- so as many edges as before pass a test that the buffer's does not
    spared : (test : Edge → Bool) → (list_any (λ e. test e && e.buffer == id) g.edges ≡ true → ⊥) → filter test less.edges ≡ filter test g.edges
    spared test none = filter-kept keep test g.edges (all-by (λ e. (test e && e.buffer == id) ≡ false) (λ e. keep e ≡ false → test e ≡ false) (λ e fails gone. left (test e) (e.buffer == id) (not-false (e.buffer == id) gone) fails) g.edges (none-each (λ e. test e && e.buffer == id) g.edges (false_from_ne_true (list_any (λ e. test e && e.buffer == id) g.edges) none)))
      where
        left : (a b : Bool) → b ≡ true → (a && b) ≡ false → a ≡ false
        left true b is fails = absurd (true≢false (sym is ∙ fails))
        left false b is fails = refl

    distinct-left : HasDistinct (λ e. e.buffer) less.edges
    distinct-left = distinct-filter (λ (e : Edge). e.buffer) keep g.edges wired.buffers

    outs-less : length (outs less c.id) ≡ length (filter (outof c.id) less.edges)
    outs-less = ends-agree (λ (e : Edge). e.source) c.id less.edges distinct-left

    outs-most : length (outs less c.id) ≤ length (outs g c.id)
    outs-most = omega (arith, outs-less, pass-fewer keep (outof c.id) g.edges, outs-are c.id)

    -- an edge out that is left
    left-out : (b : ℕ) → (b == id) ≡ false → goes_from g.joins c.id b ≡ true → 1 ≤ length (outs less c.id)
    left-out b far goes =
        let e = edge-outof g wired linked c.id b comp goes in
        let left : IsIn e.0 less.edges = in-kept keep g.edges e.0 e.1 (ap (λ n. not (n == id)) e.2 ∙ ap not far) in
        omega (arith, outs-less, some-pass (outof c.id) less.edges (in-any (outof c.id) less.edges e.0 left e.3))

    -- as many edges out are left, or one at least: by it a capture's way goes on, or what splits leads to a DAI
    outs-left : (length (outs less c.id) ≡ length (outs g c.id)) ⊎ (1 ≤ length (outs less c.id))
    outs-left = at (list_any (λ e. outof c.id e && e.buffer == id) g.edges) refl
      where
        capture : (c.id ≡ h) ⊎ ((b : ℕ) × (goes_from (way_joins g) c.id b ≡ true) × Trip (way_joins g) b h) → is_of g is_capture h ≡ true → list_any (λ e. outof c.id e && e.buffer == id) g.edges ≡ true → 1 ≤ length (outs less c.id)
        capture (inl same) is any =
            let none : length (outs g c.id) ≡ 0 = capture-out c.kind (length (ins g c.id)) (length (outs g c.id)) (own-capture true is (sym same)) fits in
            let some : 1 ≤ length (filter (outof c.id) g.edges) = some-pass (outof c.id) g.edges (any-first (outof c.id) (λ e. e.buffer == id) g.edges any) in
            absurd (omega (arith, none, some, outs-are c.id))
        capture (inr r) is any = left-out r.0 (other r.0 id (λ e. never-to is (subst (λ n. Trip (way_joins g) n h) e r.2))) (way-goes g c.id r.0 r.1)

        play : (k : Bool) → is_echo g id ≡ k → is_of g is_capture h ≡ false → list_any (λ e. outof c.id e && e.buffer == id) g.edges ≡ true → 1 ≤ length (outs less c.id)
        play true echo is any = let b = other-out echo (outof-side c.id any) in left-out b.0 b.1 b.2
        play false plain is any = absurd (never-from is (trip-last (way_joins g) h c.id id (trip-ways g h c.id (comp-from is)) (goes-way g c.id id (plain-comp g wired linked c.id comp) plain (outof-goes c.id any))))

        by : (t : Bool) → is_of g is_capture h ≡ t → list_any (λ e. outof c.id e && e.buffer == id) g.edges ≡ true → 1 ≤ length (outs less c.id)
        by true is any = capture (trip-start (way_joins g) c.id h (trip-ways g c.id h (comp-to is))) is any
        by false is any = play (is_echo g id) refl is any

        at : (t : Bool) → list_any (λ e. outof c.id e && e.buffer == id) g.edges ≡ t → (length (outs less c.id) ≡ length (outs g c.id)) ⊎ (1 ≤ length (outs less c.id))
        at true any = inr (by (is_of g is_capture h) refl any)
        at false none = inl (outs-less ∙ ap (λ (es : List Edge). length es) (spared (outof c.id) (λ any. true≢false (sym any ∙ none))) ∙ sym (outs-are c.id))

    ins-less : length (ins less c.id) ≡ length (filter (into c.id) less.edges)
    ins-less = ends-agree (λ (e : Edge). e.sink) c.id less.edges distinct-left

    ins-most : length (ins less c.id) ≤ length (ins g c.id)
    ins-most = omega (arith, ins-less, pass-fewer keep (into c.id) g.edges, ins-are c.id)

    -- as many edges in are left, or one at least, by which the way comes
    ins-left : (length (ins less c.id) ≡ length (ins g c.id)) ⊎ (1 ≤ length (ins less c.id))
    ins-left = by (is_of g is_capture h) refl
      where
        at : is_of g is_capture h ≡ false → (h ≡ c.id) ⊎ ((b : ℕ) × Trip (way_joins g) h b × (goes_from (way_joins g) b c.id ≡ true)) → (length (ins less c.id) ≡ length (ins g c.id)) ⊎ (1 ≤ length (ins less c.id))
        at is (inl same) =
            let none : length (ins g c.id) ≡ 0 = play-in c.kind (length (ins g c.id)) (length (outs g c.id)) (own-host same) (own-capture false is same) fits in
            inl (omega (arith, none, ins-most))
        at is (inr r) =
            let far : (r.0 == id) ≡ false = other r.0 id (λ e. never-from is (subst (Trip (way_joins g) h) e r.1)) in
            let e = edge-into g wired linked r.0 c.id comp (way-goes g r.0 c.id r.2) in
            let left : IsIn e.0 less.edges = in-kept keep g.edges e.0 e.1 (ap (λ n. not (n == id)) e.2 ∙ ap not far) in
            inr (omega (arith, ins-less, some-pass (into c.id) less.edges (in-any (into c.id) less.edges e.0 left e.3)))

        by : (t : Bool) → is_of g is_capture h ≡ t → (length (ins less c.id) ≡ length (ins g c.id)) ⊎ (1 ≤ length (ins less c.id))
        by true is = inl (ins-less ∙ ap (λ (es : List Edge). length es) (spared (into c.id) (none-into is)) ∙ sym (ins-are c.id))
        by false is = at is (trip-end (way_joins g) h c.id (trip-ways g h c.id (comp-from is)))

    comp-ready : is_ready_comp less c ≡ true
    comp-ready = and_from (is_complete g c.pipe) _ (complete-comp g c ready) (with-outs outs-left)
      where
        with-ins : (length (ins less c.id) ≡ length (ins g c.id)) ⊎ (1 ≤ length (ins less c.id)) → fits_kind c.kind (length (ins less c.id)) (length (outs g c.id)) ≡ true
        with-ins (inl same) = ap (λ m. fits_kind c.kind m (length (outs g c.id))) same ∙ fits
        with-ins (inr some) = fits-fewer c.kind (length (ins g c.id)) (length (outs g c.id)) (length (ins less c.id)) some ins-most fits

        with-outs : (length (outs less c.id) ≡ length (outs g c.id)) ⊎ (1 ≤ length (outs less c.id)) → fits_kind c.kind (length (ins less c.id)) (length (outs less c.id)) ≡ true
        with-outs (inl same) = ap (λ n. fits_kind c.kind (length (ins less c.id)) n) same ∙ with-ins ins-left
        with-outs (inr some) = fits-fewer_out c.kind (length (ins less c.id)) (length (outs g c.id)) (length (outs less c.id)) some outs-most (with-ins ins-left)

  ready-left : (h : ℕ) → has_kind is_host (kind_at g h) ≡ true → on_way g h id ≡ false → ((x : ℕ) → on_way less h x ≡ on_way g h x) → is_way_ready g h ≡ true → is_way_ready less h ≡ true
  unfolding is_way_ready
  ready-left h host off same ready =
      let parts = and_parts (list_all (λ x. not (on_way g h x.id) || is_ready_comp g x) g.comps) (list_all (λ e. not (on_way g h e.buffer) || is_ready_edge g e) g.edges) ready in
      and_from _ _
      (test-all (λ (x : Comp). not (on_way less h x.id) || is_ready_comp less x) g.comps (all-by (λ x. (find (λ y. y.id == x.id) g.comps ≡ Some x) × ((not (on_way g h x.id) || is_ready_comp g x) ≡ true)) (λ x. (not (on_way less h x.id) || is_ready_comp less x) ≡ true) comp-left g.comps (all-both (λ x. find (λ y. y.id == x.id) g.comps ≡ Some x) (λ x. (not (on_way g h x.id) || is_ready_comp g x) ≡ true) g.comps (found-each (λ (x : Comp). x.id) g.comps wired.ids) (all-test (λ (x : Comp). not (on_way g h x.id) || is_ready_comp g x) g.comps parts.0))))
      (test-all (λ (e : Edge). not (on_way less h e.buffer) || is_ready_edge less e) less.edges (all-kept keep (λ e. (not (on_way g h e.buffer) || is_ready_edge g e) ≡ true) (λ e. (not (on_way less h e.buffer) || is_ready_edge less e) ≡ true) (λ e kept was. ap (λ t. not t || is_ready_edge g e) (same e.buffer) ∙ was) g.edges (all-test (λ (e : Edge). not (on_way g h e.buffer) || is_ready_edge g e) g.edges parts.1)))
    where
      some-comp : (xs : List Comp) (n : ℕ) (c : Comp) → find (λ y. y.id == n) xs ≡ Some c → list_any (λ y. y.id == n) xs ≡ true
      some-comp [] n c e = absurd (cc e)
      some-comp (x ∷ xs) n c e = by (x.id == n) e (some-comp xs n c)
        where
          by : (t : Bool) → cond t (Some x) (find (λ y. y.id == n) xs) ≡ Some c → (find (λ y. y.id == n) xs ≡ Some c → list_any (λ y. y.id == n) xs ≡ true) → (t || list_any (λ y. y.id == n) xs) ≡ true
          by true e rest = refl
          by false e rest = rest e

      comp-left : (x : Comp) → (find (λ y. y.id == x.id) g.comps ≡ Some x) × ((not (on_way g h x.id) || is_ready_comp g x) ≡ true) → (not (on_way less h x.id) || is_ready_comp less x) ≡ true
      comp-left x both = ap (λ t. not t || is_ready_comp less x) (same x.id) ∙ by (on_way g h x.id) refl both.1
        where
          by : (t : Bool) → on_way g h x.id ≡ t → (not t || is_ready_comp g x) ≡ true → (not t || is_ready_comp less x) ≡ true
          by true on now = comp-ready h host off x (some-comp g.comps x.id x both.0) both.0 on now
          by false on now = refl

  -- ---- what is left of the graph

  pub edge-other : (b : ℕ) → (b == id) ≡ false → edge_of less b ≡ edge_of g b
  edge-other b far = other-find (λ (e : Edge). e.buffer) id b far g.edges

  pub source-left : (b : ℕ) → (b == id) ≡ false → source_of less b ≡ source_of g b
  source-left b far = ap (λ (o : Option Edge). option_and_then (λ e. e.source) o) (edge-other b far)

  pub sink-left : (b : ℕ) → (b == id) ≡ false → sink_of less b ≡ sink_of g b
  sink-left b far = ap (λ (o : Option Edge). option_and_then (λ e. e.sink) o) (edge-other b far)

  edge-there : (n : ℕ) → (n == id) ≡ false → has_edge less n ≡ has_edge g n
  edge-there n far = other-any (λ (e : Edge). e.buffer) id n far g.edges

  pub used-left : (n : ℕ) → (n == id) ≡ false → is_used g n ≡ true → is_used less n ≡ true
  used-left n far used = ap (λ h. (has_comp g n || h) || list_any (λ p. p.id == n) g.pipes) (edge-there n far) ∙ used

  node-left : (n : ℕ) → (n == id) ≡ false → is_node g n ≡ true → is_node less n ≡ true
  node-left n far there = ap (λ h. has_comp g n || h) (edge-there n far) ∙ there

  side-left : (o : Option ℕ) → IsSide g o → IsSide less o
  side-left None is = tt
  side-left (Some c) is = is

  pub wired-edge_less : IsWired less
  wired-edge_less = record {
    ids = wired.ids;
    buffers = distinct-filter (λ (e : Edge). e.buffer) keep g.edges wired.buffers;
    names = wired.names;
    apart = all-filter keep (λ e. has_comp g e.buffer ≡ false) g.edges wired.apart;
    alone = all-by (λ p. is_node g p.id ≡ false) (λ p. is_node less p.id ≡ false) (λ p none. let parts = or_parts (has_comp g p.id) (has_edge g p.id) none in or_from (has_comp g p.id) (has_edge less p.id) parts.0 (none-kept keep (λ e. e.buffer == p.id) g.edges parts.1)) g.pipes wired.alone;
    ends = all-kept (λ (j : Join). not (touches id j)) (IsBetween g) (IsBetween less) (λ j e is. let parts = or_parts (j.source == id) (j.sink == id) (not-true (touches id j) e) in (node-left j.source parts.0 is.0, node-left j.sink parts.1 is.1)) g.joins wired.ends;
    sides = all-kept keep (λ e. IsSide g e.source × IsSide g e.sink) (λ e. IsSide less e.source × IsSide less e.sink) (λ e kept is. (side-left e.source is.0, side-left e.sink is.1)) g.edges wired.sides;
    periods = wired.periods;
  }

  from-left : (o : Option ℕ) (b : ℕ) → (b == id) ≡ false → IsSide g o → IsJoinedFrom g o b → IsJoinedFrom less o b
  from-left None b far is joined = tt
  from-left (Some c) b far is joined = goes-other c b (comp-apart c is) far ∙ joined

  to-left : (b : ℕ) (o : Option ℕ) → (b == id) ≡ false → IsSide g o → IsJoinedTo g b o → IsJoinedTo less b o
  to-left b None far is joined = tt
  to-left b (Some c) far is joined = goes-other b c far (comp-apart c is) ∙ joined

  at-left : (j : Join) → touches id j ≡ false → list_any (is_at j) g.edges ≡ true → list_any (is_at j) less.edges ≡ true
  at-left j far is = any-kept keep (is_at j) (is_at j) g.edges (all-any (λ (e : Edge). (keep e ≡ true → is_at j e ≡ is_at j e) × (keep e ≡ false → is_at j e ≡ false)) (λ e. (λ kept. refl, λ gone. none e (not-false (e.buffer == id) gone))) g.edges) ∙ is
    where
      parts : ((j.source == id) ≡ false) × ((j.sink == id) ≡ false)
      parts = or_parts (j.source == id) (j.sink == id) far

      none : (e : Edge) → (e.buffer == id) ≡ true → is_at j e ≡ false
      none e same = ap (λ (p : Bool × Bool). (p.0 && is_end e.source j.source) || (p.1 && is_end e.sink j.sink)) (λ i. (apart-by e.buffer j.sink id same parts.1 i, apart-by e.buffer j.source id same parts.0 i))

  open-left : (j : Join) → IsOpen g j → IsOpen less j
  open-left j shut = false_from_ne_true (leads less.joins (length less.joins) j.sink j.source) (λ e. true≢false (sym (trip-leads g.joins j.sink j.source (trip-more j.sink j.source (trip-of less.joins (length less.joins) j.sink j.source e))) ∙ shut))

  pub linked-edge_less : HasJoinedSides less
  linked-edge_less = record {
    at = all-kept (λ (j : Join). not (touches id j)) (λ j. list_any (is_at j) g.edges ≡ true) (λ j. list_any (is_at j) less.edges ≡ true) (λ j e is. at-left j (not-true (touches id j) e) is) g.joins linked.at;
    from = all-kept keep (λ e. (IsSide g e.source × IsSide g e.sink) × IsJoinedFrom g e.source e.buffer) (λ e. IsJoinedFrom less e.source e.buffer) (λ e kept is. from-left e.source e.buffer (not-true (e.buffer == id) kept) is.0.0 is.1) g.edges (all-both (λ e. IsSide g e.source × IsSide g e.sink) (λ e. IsJoinedFrom g e.source e.buffer) g.edges wired.sides linked.from);
    to = all-kept keep (λ e. (IsSide g e.source × IsSide g e.sink) × IsJoinedTo g e.buffer e.sink) (λ e. IsJoinedTo less e.buffer e.sink) (λ e kept is. to-left e.buffer e.sink (not-true (e.buffer == id) kept) is.0.1 is.1) g.edges (all-both (λ e. IsSide g e.source × IsSide g e.sink) (λ e. IsJoinedTo g e.buffer e.sink) g.edges wired.sides linked.to);
    open_ends = all-kept (λ (j : Join). not (touches id j)) (IsOpen g) (IsOpen less) (λ j e shut. open-left j shut) g.joins linked.open_ends;
  }

  -- ---- sides

  sides-split : (es : List Edge) → sides_joined es ≡ sides_joined (filter keep es) + sides_joined (filter (λ e. e.buffer == id) es)
  sides-split [] = refl
  sides-split (e ∷ es) = by (e.buffer == id) (sides-split es)
    where
      by : (h : Bool) → sides_joined es ≡ sides_joined (filter keep es) + sides_joined (filter (λ e. e.buffer == id) es) → side_count e.source + side_count e.sink + sides_joined es ≡ sides_joined (cond (not h) (e ∷ filter keep es) (filter keep es)) + sides_joined (cond h (e ∷ filter (λ e. e.buffer == id) es) (filter (λ e. e.buffer == id) es))
      by true rest = omega (arith, rest)
      by false rest = omega (arith, rest)

  -- each side that goes was a join of its own
  touched : (o q : Option ℕ) → IsJoinedFrom g o id → IsJoinedTo g id q → side_count o + side_count q ≤ length (filter (touches id) g.joins)
  touched None None from to = omega arith
  touched (Some c) None from to = omega (arith, some-pass (touches id) g.joins (any-to (λ (j : Join). Unit {0}) (λ j. j.source == c && j.sink == id) (touches id) (λ j u e. or_right (j.source == id) (j.sink == id) (and_parts (j.source == c) (j.sink == id) e).1) g.joins (all-any (λ (j : Join). Unit {0}) (λ j. tt) g.joins) from))
  touched None (Some d) from to = omega (arith, some-pass (touches id) g.joins (any-to (λ (j : Join). Unit {0}) (λ j. j.source == id && j.sink == d) (touches id) (λ j u e. or_left (j.source == id) (j.sink == id) (and_parts (j.source == id) (j.sink == d) e).0) g.joins (all-any (λ (j : Join). Unit {0}) (λ j. tt) g.joins) to))
  touched (Some c) (Some d) from to =
      two-pass (touches id) (λ j. j.sink == id) (λ j. j.source == id) g.joins
      (all-by (IsOpen g) (λ j. (j.sink == id) ≡ true → (j.source == id) ≡ true → ⊥) (λ j shut at_sink at_source. true≢false (sym (trip-leads g.joins j.sink j.source (trip-none g.joins j.sink j.source (eqb-true j.sink id at_sink ∙ sym (eqb-true j.source id at_source)))) ∙ shut)) g.joins linked.open_ends)
      (any-to (λ (j : Join). Unit {0}) (λ j. j.source == c && j.sink == id) (λ j. touches id j && j.sink == id) (λ j u e. let at = (and_parts (j.source == c) (j.sink == id) e).1 in and_from (touches id j) (j.sink == id) (or_right (j.source == id) (j.sink == id) at) at) g.joins (all-any (λ (j : Join). Unit {0}) (λ j. tt) g.joins) from)
      (any-to (λ (j : Join). Unit {0}) (λ j. j.source == id && j.sink == d) (λ j. touches id j && j.source == id) (λ j u e. let at = (and_parts (j.source == id) (j.sink == d) e).0 in and_from (touches id j) (j.source == id) (or_left (j.source == id) (j.sink == id) at) at) g.joins (all-any (λ (j : Join). Unit {0}) (λ j. tt) g.joins) to)

  gone-sides : sides_joined (filter (λ e. e.buffer == id) g.edges) ≤ length (filter (touches id) g.joins)
  gone-sides = by (one-key (λ (e : Edge). e.buffer) id (λ e. IsJoinedFrom g e.source e.buffer × IsJoinedTo g e.buffer e.sink) g.edges wired.buffers (all-both (λ e. IsJoinedFrom g e.source e.buffer) (λ e. IsJoinedTo g e.buffer e.sink) g.edges linked.from linked.to))
    where
      by : (filter (λ e. e.buffer == id) g.edges ≡ []) ⊎ ((e : Edge) × (IsJoinedFrom g e.source e.buffer × IsJoinedTo g e.buffer e.sink) × ((e.buffer == id) ≡ true) × (filter (λ e. e.buffer == id) g.edges ≡ e ∷ [])) → sides_joined (filter (λ e. e.buffer == id) g.edges) ≤ length (filter (touches id) g.joins)
      by (inl none) = let is : sides_joined (filter (λ e. e.buffer == id) g.edges) ≡ 0 = ap sides_joined none in omega (arith, is)
      by (inr one) =
          let e : Edge = one.0 in
          let same : e.buffer ≡ id = eqb-true e.buffer id one.2 in
          let is : sides_joined (filter (λ e. e.buffer == id) g.edges) ≡ side_count e.source + side_count e.sink + 0 = ap sides_joined one.3 in
          omega (arith, is, touched e.source e.sink (subst (λ b. IsJoinedFrom g e.source b) same one.1.0) (subst (λ b. IsJoinedTo g b e.sink) same one.1.1))

  pub joins-left : length g.joins ≤ sides_joined g.edges → length less.joins ≤ sides_joined less.edges
  joins-left few = omega (arith, few, sides-split g.edges, gone-sides, length-filter_both (touches id) (λ j. not (touches id j)) (λ j. refl) g.joins)

  -- ---- streams

  pub bare-edge : (ss : List StreamView) → AllByRecursion (λ s. true ≡ false → is_some s.params ≡ false) ss
  bare-edge ss = all-any (λ (s : StreamView). true ≡ false → is_some s.params ≡ false) (λ s e. absurd (true≢false e)) ss

  -- a stream that is not held has parameters only where the buffer is not on its way
  abbrev IsClear : StreamView → Type 0
  IsClear s = (is_some s.params && on_way g s.host id) ≡ false

  clear-off : (s : StreamView) → IsClear s → is_some s.params ≡ true → on_way g s.host id ≡ false
  clear-off s clear has = sym (ap (λ h. h && on_way g s.host id) has) ∙ clear

  pub clears : (ss : List StreamView) → is_held g ss id ≡ false → AllByRecursion IsClear ss
  clears ss free = none-each (λ (s : StreamView). is_some s.params && on_way g s.host id) ss free

  abbrev Stays : StreamView → Type 0
  Stays s = is_some s.params ≡ true → (x : ℕ) → on_way less s.host x ≡ on_way g s.host x

  pub stayed-edge : (ss : List StreamView) → stays (record { graph = g; streams = ss }) less ≡ true → (list_all (λ s. not (is_some s.params) || has_stayed g less s.host) ss ≡ true) × (agree (record { graph = less; streams = ss }) ≡ true)
  unfolding stays
  stayed-edge ss stay = and_parts (list_all (λ s. not (is_some s.params) || has_stayed g less s.host) ss) (agree (record { graph = less; streams = ss })) stay

  stayed-ways : (ss : List StreamView) → stays (record { graph = g; streams = ss }) less ≡ true → AllByRecursion (λ s. has_kind is_host (kind_at g s.host) ≡ true) ss → AllByRecursion Stays ss
  stayed-ways ss stay owned =
      all-by (λ s. ((not (is_some s.params) || has_stayed g less s.host) ≡ true) × (has_kind is_host (kind_at g s.host) ≡ true)) Stays
      (λ s both has x. let comp = some-found is_host g.comps s.host both.1 in way-stayed g less s.host wired wired-edge_less comp comp (sym (ap (λ h. not h || has_stayed g less s.host) has) ∙ both.0) x) ss
      (all-both (λ s. (not (is_some s.params) || has_stayed g less s.host) ≡ true) (λ s. has_kind is_host (kind_at g s.host) ≡ true) ss (all-test (λ (s : StreamView). not (is_some s.params) || has_stayed g less s.host) ss (stayed-edge ss stay).0) owned)

  pub ways-edge : (ss : List StreamView) → stays (record { graph = g; streams = ss }) less ≡ true → AllByRecursion (λ s. has_kind is_host (kind_at g s.host) ≡ true) ss → AllByRecursion (λ s. true ≡ true → is_some s.params ≡ true → (x : ℕ) → on_way less s.host x ≡ on_way g s.host x) ss
  ways-edge ss stay owned = all-by Stays (λ s. true ≡ true → is_some s.params ≡ true → (x : ℕ) → on_way less s.host x ≡ on_way g s.host x) (λ s same kept has. same has) ss (stayed-ways ss stay owned)

  pub ready-edge : (ss : List StreamView) → is_held g ss id ≡ false → stays (record { graph = g; streams = ss }) less ≡ true → AllByRecursion (λ s. has_kind is_host (kind_at g s.host) ≡ true) ss → AllByRecursion (IsStreamSet g) ss → AllByRecursion (λ s. true ≡ true → is_some s.params ≡ true → is_way_ready less s.host ≡ true) ss
  ready-edge ss free stay owned sets =
      all-by (λ s. ((IsClear s × Stays s) × (has_kind is_host (kind_at g s.host) ≡ true)) × IsStreamSet g s) (λ s. true ≡ true → is_some s.params ≡ true → is_way_ready less s.host ≡ true) (λ s all kept has. ready-left s.host all.0.1 (clear-off s all.0.0.0 has) (all.0.0.1 has) (was s.host (is_idle s.phase) s.params has all.1)) ss
      (all-both (λ s. (IsClear s × Stays s) × (has_kind is_host (kind_at g s.host) ≡ true)) (IsStreamSet g) ss (all-both (λ s. IsClear s × Stays s) (λ s. has_kind is_host (kind_at g s.host) ≡ true) ss (all-both IsClear Stays ss (clears ss free) (stayed-ways ss stay owned)) owned) sets)
    where
      was : (h : ℕ) (idle : Bool) (o : Option Params) → is_some o ≡ true → IsSetBy g h idle o → is_way_ready g h ≡ true
      was h idle None has is_set = absurd (false≢true has)
      was h idle (Some p) has is_set = is_set.3
