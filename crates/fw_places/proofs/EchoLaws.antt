-- The echo edges of a graph, where what is marked is known.
use Rattle.std.proofs.Common.{◌≡◌, refl, sym, ap, ◌∙◌, ℕ, List, [], ◌∷◌, map, Bool, true, false, cond, ◌==◌, ◌&&◌, ◌||◌, ◌<◌, Option, Some, None, inl, inr, length, get_or, set, arith}
use Rattle.std.specs.Prelude.{find, option_and_then}
use Rattle.std.specs.List.{AllByRecursion, list_any, IsDistinct}
use Rattle.std.specs.Option.{option_map_or}
use Rattle.std.proofs.lemmas.Bool.{eqb-true, eq-eqb, true≢false, false≢true, and_parts, and_from}
use Rattle.std.proofs.lemmas.List.{get_or-set_same, get_or-set_other}
use Rattle.stream_law.specs.declared.graph.Edge.{Edge}
use Rattle.stream_law.specs.declared.graph.Graph.{Graph}
use Rattle.stream_law.specs.Ways.{components, is_of, is_capture, edge_of, source_of, sink_of, reaches, reaches_some, leaves_split, enters_capture, is_echo}
use Rattle.stream_law.specs.Order.{is_among}
use Rattle.stream_law.specs.Placed.{HasDistinct}
use Rattle.stream_law.proofs.Members.{IsIn, in-filter, filter-any, find-in}
use Rattle.fw_places.specs.Walks.{IsListed, leads_by, place_in, is_marked}
use Rattle.fw_places.specs.WayCharts.{echo_edges}
use Rattle.fw_places.proofs.Charts.{begins-listed, member-listed, place-past}
use Rattle.fw_places.proofs.Reaching.{at-place, both-true}
use Rattle.fw_places.proofs.WayWalks.{echo-ends}

-- ---- an edge is found by its id

other : (k : ℕ) (es : List Edge) (e : Edge) → AllByRecursion (λ n. (k == n) ≡ false) (map (λ (e : Edge). e.buffer) es) → IsIn e es → (k == e.buffer) ≡ false
other k [] e all there = absurd there
other k (f ∷ es) e all (inl same) = ap (λ (g : Edge). k == g.buffer) same ∙ all.0
other k (f ∷ es) e all (inr more) = other k es e all.1 more

pub find-own : (es : List Edge) (e : Edge) → HasDistinct (λ e. e.buffer) es → IsIn e es → find (λ f. f.buffer == e.buffer) es ≡ Some e
unfolding IsDistinct
find-own [] e distinct there = absurd there
find-own (f ∷ es) e distinct (inl same) =
    ap (λ h. cond h (Some f) (find (λ f. f.buffer == e.buffer) es)) (eq-eqb f.buffer e.buffer (ap (λ (g : Edge). g.buffer) (sym same)))
    ∙ ap (λ (g : Edge). Some g) (sym same)
find-own (f ∷ es) e distinct (inr more) =
    ap (λ h. cond h (Some f) (find (λ f. f.buffer == e.buffer) es)) (other f.buffer es e distinct.0 more) ∙ find-own es e distinct.1 more

-- ---- where an echo edge leads

led : (g : Graph) (c d : ℕ) → reaches g c d ≡ true → leads_by false g.joins c d ≡ true
unfolding reaches
led g c d is = is

module _ (g : Graph) (ids : List ℕ) (all : (x : ℕ) → is_among (components g) x ≡ true → is_among ids x ≡ true) (listed : AllByRecursion (IsListed ids) g.joins) (distinct : HasDistinct (λ e. e.buffer) g.edges) where
  -- into what is listed
  pub echo-listed : (x c : ℕ) → is_echo g x ≡ true → sink_of g x ≡ Some c → is_among ids c ≡ true
  echo-listed x c echo sink =
      let enters : enters_capture g c ≡ true = sym (ap (λ (o : Option ℕ). option_map_or (enters_capture g) o false) sink) ∙ (and_parts (option_map_or (leaves_split g) (source_of g x) false) (option_map_or (enters_capture g) (sink_of g x) false) (echo-ends g x echo)).1 in
      let some = in-filter (λ d. reaches g c d) (is_of g is_capture) (components g) (and_parts (reaches_some g is_capture c) _ enters).0 in
      begins-listed false ids g.joins listed c some.0 (led g c some.0 some.3) (all some.0 (member-listed (components g) some.0 some.1))

  -- the marked echo edge of an id, by what stands at its sink
  pub echo-marks : (end : Option ℕ → Bool) (there : ℕ → Bool) → ((c : ℕ) → is_among ids c ≡ true → end (Some c) ≡ there c) → end None ≡ false → (x : ℕ)
      → list_any (λ e. e.buffer == x && end e.sink) (echo_edges g) ≡ (is_echo g x && option_map_or there (sink_of g x) false)
  echo-marks end there same none x = both-true _ _ forth back
    where
      at-sink : (e : Edge) → IsIn e g.edges → e.buffer ≡ x → sink_of g x ≡ e.sink
      at-sink e here id = ap (λ (o : Option Edge). option_and_then (λ f. f.sink) o) (ap (λ n. find (λ (f : Edge). f.buffer == n) g.edges) (sym id) ∙ find-own g.edges e distinct here)

      forth : list_any (λ e. e.buffer == x && end e.sink) (echo_edges g) ≡ true → (is_echo g x && option_map_or there (sink_of g x) false) ≡ true
      forth any =
          let found = in-filter (λ (e : Edge). e.buffer == x && end e.sink) (λ e. is_echo g e.buffer) g.edges any in
          let e = found.0 in let here = found.1 in
          let parts = and_parts (e.buffer == x) (end e.sink) found.3 in
          let id = eqb-true e.buffer x parts.0 in
          let echo : is_echo g x ≡ true = ap (is_echo g) (sym id) ∙ found.2 in
          and_from (is_echo g x) _ echo (by e.sink (at-sink e here id) parts.1 echo)
        where
          by : (o : Option ℕ) → sink_of g x ≡ o → end o ≡ true → is_echo g x ≡ true → option_map_or there (sink_of g x) false ≡ true
          by None sink marked echo = absurd (false≢true (sym none ∙ marked))
          by (Some c) sink marked echo = ap (λ (o : Option ℕ). option_map_or there o false) sink ∙ sym (same c (echo-listed x c echo sink)) ∙ marked

      back : (is_echo g x && option_map_or there (sink_of g x) false) ≡ true → list_any (λ e. e.buffer == x && end e.sink) (echo_edges g) ≡ true
      back any = let parts = and_parts (is_echo g x) (option_map_or there (sink_of g x) false) any in by (edge_of g x) refl parts.0 parts.1
        where
          by : (o : Option Edge) → edge_of g x ≡ o → is_echo g x ≡ true → option_map_or there (option_and_then (λ e. e.sink) (edge_of g x)) false ≡ true → list_any (λ e. e.buffer == x && end e.sink) (echo_edges g) ≡ true
          by None is echo at = absurd (false≢true (sym (ap (λ (o : Option Edge). option_map_or there (option_and_then (λ e. e.sink) o) false) is) ∙ at))
          by (Some e) is echo at =
              let it = find-in (λ (f : Edge). f.buffer == x) g.edges e is in
              let id = eqb-true e.buffer x it.1 in
              filter-any (λ (e : Edge). e.buffer == x && end e.sink) (λ e. is_echo g e.buffer) g.edges e it.0 (ap (is_echo g) id ∙ echo)
              (and_from (e.buffer == x) (end e.sink) it.1 (sinks e.sink (ap (λ (o : Option Edge). option_and_then (λ e. e.sink) o) is) (sym (ap (λ (o : Option Edge). option_map_or there (option_and_then (λ e. e.sink) o) false) is) ∙ at) echo))
            where
              sinks : (o : Option ℕ) → sink_of g x ≡ o → option_map_or there o false ≡ true → is_echo g x ≡ true → end o ≡ true
              sinks None sink at echo = absurd (false≢true at)
              sinks (Some c) sink at echo = same c (echo-listed x c echo sink) ∙ at

-- ---- marks

-- an id is marked where its place is
pub mark-here : (ids : List ℕ) (marks : List Bool) (b x : ℕ) → length ids < length marks → is_among ids x ≡ true → is_marked ids (set marks (place_in ids b) true) x ≡ (is_marked ids marks x || b == x)
mark-here ids marks b x few there = by (b == x) refl
  where
    at : (place_in ids x < length ids) × (get_or ids (place_in ids x) 0 ≡ x)
    at = at-place ids x there

    or-true : (h : Bool) → true ≡ (h || true)
    or-true true = refl
    or-true false = refl

    or-false : (h : Bool) → h ≡ (h || false)
    or-false true = refl
    or-false false = refl

    by : (h : Bool) → (b == x) ≡ h → is_marked ids (set marks (place_in ids b) true) x ≡ (is_marked ids marks x || h)
    by true is =
        ap (λ n. get_or (set marks (place_in ids n) true) (place_in ids x) false) (eqb-true b x is)
        ∙ get_or-set_same marks (place_in ids x) true false (omega (arith, at.0, few))
        ∙ or-true (is_marked ids marks x)
    by false is = get_or-set_other marks (place_in ids b) (place_in ids x) true false (λ same. other (sym same)) ∙ or-false (is_marked ids marks x)
      where
        other : (place_in ids b ≡ place_in ids x) → ⊥
        other same = apart (is_among ids b) refl
          where
            apart : (h : Bool) → is_among ids b ≡ h → ⊥
            apart true here = true≢false (sym (eq-eqb b x (sym (at-place ids b here).1 ∙ ap (λ n. get_or ids n 0) same ∙ at.1)) ∙ is)
            apart false none = let p = place-past ids b none in let low = at.0 in absurd (omega (arith, p, same, low))
