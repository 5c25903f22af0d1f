-- What is marked along a chart of ways is on the ways of a graph.
use Rattle.std.proofs.Common.{◌≡◌, refl, sym, ap, ◌∙◌, subst, ℕ, List, [], ◌∷◌, map, filter, Bool, true, false, cond, ◌==◌, ◌&&◌, ◌||◌, Option, Some, None, ◌⊎◌, inl, inr}
use Rattle.std.specs.Prelude.{option_and_then}
use Rattle.std.specs.List.{AllByRecursion, list_any}
use Rattle.std.specs.Option.{option_map_or}
use Rattle.std.proofs.lemmas.Bool.{false≢true, eq-eqb, and_parts, or_left, or_right}
use Rattle.std.proofs.lemmas.List.Folds.{list_any-append}
use Rattle.stream_law.specs.declared.graph.Kind.{Kind}
use Rattle.stream_law.specs.declared.graph.Comp.{Comp}
use Rattle.stream_law.specs.declared.graph.Join.{Join}
use Rattle.stream_law.specs.declared.graph.Edge.{Edge}
use Rattle.stream_law.specs.declared.graph.Graph.{Graph}
use Rattle.stream_law.specs.Ways.{components, buffers, comp_of, edge_of, source_of, sink_of, is_of, is_play, is_dai_play, splits, reached_by_some, reaches_some, leaves_split, enters_capture, is_echo, way_joins, ways_to, echoes_to, on_way, share, is_end_on_way, echoes}
use Rattle.stream_law.specs.Order.{is_among}
use Rattle.stream_law.proofs.Members.{IsIn, in-each, kept-in, find-in}
use Rattle.fw_places.specs.Walks.{leads_by, is_marked, is_end_marked, is_reached}
use Rattle.fw_places.specs.Charts.{AreHostsOf, is_capture_at}
use Rattle.fw_places.specs.WayCharts.{WayChart, AreWaysOf, echo_edges}
use Rattle.fw_places.proofs.Charts.{member-listed}
use Rattle.fw_places.proofs.WayWalks.{any-each, way-walks, ways-walk, echo-ends}
use Rattle.fw_places.proofs.EchoLaws.{find-own, echo-listed, echo-marks}

to-host : (g : Graph) (c host : ℕ) → leads_by true (way_joins g) host c ≡ ways_to g c host
unfolding ways_to
to-host g c host = refl

and-none : (h : Bool) → (h && false) ≡ false
and-none true = refl
and-none false = refl

or-none : (h : Bool) → h ≡ (h || false)
or-none true = refl
or-none false = refl

any-none : (p : ℕ → Bool) (xs : List ℕ) → list_any (λ x. p x && false) xs ≡ false
any-none p [] = refl
any-none p (x ∷ xs) = (λ i. and-none (p x) i || any-none p xs i)

any-same : (p q : ℕ → Bool) (xs : List ℕ) → ((x : ℕ) → p x ≡ q x) → list_any p xs ≡ list_any q xs
any-same p q [] same = refl
any-same p q (x ∷ xs) same = (λ i. same x i || any-same p q xs same i)

-- an echo edge into what leads to one of these, and that into what leads to the one
echo-parts : (g : Graph) (ids : List ℕ) (m : ℕ → Bool) (echo : Bool) (sink : Option ℕ)
    → (echo && option_map_or (λ c. list_any (λ h. m h && leads_by true (way_joins g) h c) ids) sink false) ≡ list_any (λ h. m h && (echo && option_map_or (λ c. ways_to g c h) sink false)) ids
echo-parts g ids m false sink = sym (any-none m ids)
echo-parts g ids m true None = sym (any-none m ids)
echo-parts g ids m true (Some c) = any-same (λ h. m h && leads_by true (way_joins g) h c) (λ h. m h && ways_to g c h) ids (λ h. ap (λ b. m h && b) (to-host g c h))

module _ (g : Graph) (chart : WayChart) (ways : AreWaysOf g chart) where
  all : (x : ℕ) → is_among (components g) x ≡ true → is_among chart.ids x ≡ true
  all x there = ap (λ (ids : List ℕ). is_among ids x) ways.ids ∙ list_any-append (λ y. y == x) (components g) (buffers g) ∙ or_left (is_among (components g) x) (is_among (buffers g) x) there

  -- the echo edges into what is marked
  pub echoes-marked : (marks : List Bool) (there : ℕ → Bool) → ((c : ℕ) → is_among chart.ids c ≡ true → is_marked chart.ids marks c ≡ there c) → (x : ℕ)
      → list_any (λ e. e.buffer == x && is_end_marked chart.ids marks e.sink) chart.echoes ≡ (is_echo g x && option_map_or there (sink_of g x) false)
  echoes-marked marks there same x =
      ap (list_any (λ (e : Edge). e.buffer == x && is_end_marked chart.ids marks e.sink)) ways.echoes
      ∙ echo-marks g chart.ids all ways.listed ways.distinct (is_end_marked chart.ids marks) there same refl x

  -- what walks reach from a host, or against joins, with the echo edges into it
  pub way-marked : (capture : Bool) (host : ℕ) (marks : List Bool) → capture ≡ is_capture_at g host → ((y : ℕ) → is_among chart.ids y ≡ true → is_marked chart.ids marks y ≡ leads_by capture chart.joins host y) → (x : ℕ) → is_among chart.ids x ≡ true
      → (is_marked chart.ids marks x || (capture && list_any (λ e. e.buffer == x && is_end_marked chart.ids marks e.sink) chart.echoes)) ≡ on_way g host x
  way-marked capture host marks is walked x there =
      (λ i. at x there i || by capture at i)
      ∙ sym (way-walks g capture host x is)
    where
      at : (y : ℕ) → is_among chart.ids y ≡ true → is_marked chart.ids marks y ≡ leads_by capture (way_joins g) host y
      at y listed = walked y listed ∙ ap (λ (js : List Join). leads_by capture js host y) ways.joins

      by : (h : Bool) → ((y : ℕ) → is_among chart.ids y ≡ true → is_marked chart.ids marks y ≡ leads_by h (way_joins g) host y)
          → (h && list_any (λ e. e.buffer == x && is_end_marked chart.ids marks e.sink) chart.echoes) ≡ (h && echoes_to g host x)
      by true at = echoes-marked marks (λ c. ways_to g c host) (λ c listed. at c listed ∙ to-host g c host) x
      by false at = refl

  -- the same from the hosts that are marked
  pub ways-marked : (capture : Bool) (hosts marks : List Bool) → AreHostsOf g capture chart.ids hosts → ((y : ℕ) → is_among chart.ids y ≡ true → is_marked chart.ids marks y ≡ is_reached capture chart.ids chart.joins hosts y) → (x : ℕ) → is_among chart.ids x ≡ true
      → (is_marked chart.ids marks x || (capture && list_any (λ e. e.buffer == x && is_end_marked chart.ids marks e.sink) chart.echoes)) ≡ list_any (λ h. is_marked chart.ids hosts h && on_way g h x) chart.ids
  ways-marked capture hosts marks are walked x there =
      (λ i. at x there i || by capture at i)
      ∙ ways-walk g capture chart.ids hosts are x
    where
      at : (y : ℕ) → is_among chart.ids y ≡ true → is_marked chart.ids marks y ≡ is_reached capture chart.ids (way_joins g) hosts y
      at y listed = walked y listed ∙ ap (λ (js : List Join). is_reached capture chart.ids js hosts y) ways.joins

      by : (h : Bool) → ((y : ℕ) → is_among chart.ids y ≡ true → is_marked chart.ids marks y ≡ is_reached h chart.ids (way_joins g) hosts y)
          → (h && list_any (λ e. e.buffer == x && is_end_marked chart.ids marks e.sink) chart.echoes) ≡ (h && list_any (λ k. is_marked chart.ids hosts k && echoes_to g k x) chart.ids)
      by true at = echoes-marked marks (λ c. is_reached true chart.ids (way_joins g) hosts c) at x ∙ echo-parts g chart.ids (is_marked chart.ids hosts) (is_echo g x) (sink_of g x)
      by false at = refl

-- echo edges are listed
pub echoes-listed : (g : Graph) (chart : WayChart) → AreWaysOf g chart → AllByRecursion (λ e. is_among chart.ids e.buffer ≡ true) chart.echoes
echoes-listed g chart ways =
    subst (AllByRecursion (λ (e : Edge). is_among chart.ids e.buffer ≡ true)) (sym ways.echoes)
    (in-each (λ (e : Edge). is_among chart.ids e.buffer ≡ true) (echo_edges g) (λ e here.
    ap (λ (ids : List ℕ). is_among ids e.buffer) ways.ids
    ∙ list_any-append (λ y. y == e.buffer) (components g) (buffers g)
    ∙ or_right (is_among (components g) e.buffer) _ (own g.edges e (kept-in (λ (e : Edge). is_echo g e.buffer) g.edges e here).0)))
  where
    own : (es : List Edge) (e : Edge) → IsIn e es → is_among (map (λ (e : Edge). e.buffer) es) e.buffer ≡ true
    own [] e there = absurd there
    own (f ∷ es) e (inl same) = or_left (f.buffer == e.buffer) _ (eq-eqb f.buffer e.buffer (ap (λ (e : Edge). e.buffer) (sym same)))
    own (f ∷ es) e (inr more) = or_right (f.buffer == e.buffer) _ (own es e more)

-- where no echo edge is looked at, what walks reach is all
pub walks-alone : (capture : Bool) (es : List Edge) (p : Edge → Bool) (m : Bool) → (capture ≡ false) ⊎ (es ≡ []) → m ≡ (m || (capture && list_any p es))
walks-alone capture es p m (inl back) = or-none m ∙ ap (λ h. m || (h && list_any p es)) (sym back)
walks-alone capture es p m (inr none) = or-none m ∙ (λ i. m || sym (ap (λ (xs : List Edge). capture && list_any p xs) none ∙ and-none capture) i)

-- ---- streams that touch

any-filter : {X : Type 0} (p q : X → Bool) (xs : List X) → list_any p (filter q xs) ≡ list_any (λ x. q x && p x) xs
any-filter p q [] = refl
any-filter {X} p q (x ∷ xs) = by (q x) (any-filter p q xs)
  where
    by : (h : Bool) → list_any p (filter q xs) ≡ list_any (λ x. q x && p x) xs → list_any p (cond h (x ∷ filter q xs) (filter q xs)) ≡ ((h && p x) || list_any (λ x. q x && p x) xs)
    by true rest = ap (λ k. p x || k) rest
    by false rest = rest

any-mapped : (p : ℕ → Bool) (es : List Edge) → list_any p (map (λ (e : Edge). e.buffer) es) ≡ list_any (λ e. p e.buffer) es
any-mapped p [] = refl
any-mapped p (e ∷ es) = ap (λ h. p e.buffer || h) (any-mapped p es)

-- what is of a kind is a component
of-listed : (g : Graph) (p : Kind → Bool) (a : ℕ) → is_of g p a ≡ true → is_among (components g) a ≡ true
of-listed g p a is = by (comp_of g a) refl is
  where
    own : (cs : List Comp) (c : Comp) → IsIn c cs → (c.id == a) ≡ true → is_among (map (λ (c : Comp). c.id) cs) a ≡ true
    own [] c there same = absurd there
    own (d ∷ cs) c (inl eq) same = or_left (d.id == a) _ (ap (λ (c : Comp). c.id == a) (sym eq) ∙ same)
    own (d ∷ cs) c (inr more) same = or_right (d.id == a) _ (own cs c more same)

    by : (o : Option Comp) → comp_of g a ≡ o → option_map_or (λ x. p x.kind) o false ≡ true → is_among (components g) a ≡ true
    by None none is = absurd (false≢true is)
    by (Some c) found is = let it = find-in (λ (x : Comp). x.id == a) g.comps c found in own g.comps c it.0 it.1

-- an echo edge leads from what is listed
source-listed : (g : Graph) (chart : WayChart) → AreWaysOf g chart → (x a : ℕ) → is_echo g x ≡ true → source_of g x ≡ Some a → is_among chart.ids a ≡ true
source-listed g chart ways x a echo from =
    let leaves : leaves_split g a ≡ true = sym (ap (λ (o : Option ℕ). option_map_or (leaves_split g) o false) from) ∙ (and_parts (option_map_or (leaves_split g) (source_of g x) false) (option_map_or (enters_capture g) (sink_of g x) false) (echo-ends g x echo)).0 in
    let split = (and_parts (is_of g splits a) (reached_by_some g is_play a) (and_parts (is_of g splits a && reached_by_some g is_play a) (reaches_some g is_dai_play a) leaves).0).0 in
    all g chart ways a (of-listed g splits a split)

module _ (g : Graph) (chart : WayChart) (ways : AreWaysOf g chart) (first second : List Bool) (a b : ℕ)
    (ahead : (x : ℕ) → is_among chart.ids x ≡ true → is_marked chart.ids first x ≡ on_way g a x) (behind : (x : ℕ) → is_among chart.ids x ≡ true → is_marked chart.ids second x ≡ on_way g b x) where
  -- the ways share what is marked in both
  pub shared-marked : list_any (λ x. is_marked chart.ids first x && is_marked chart.ids second x) chart.ids ≡ share g a b
  shared-marked =
      any-each (λ x. is_marked chart.ids first x && is_marked chart.ids second x) (λ x. on_way g a x && on_way g b x) chart.ids
      (λ x here. (λ i. ahead x (member-listed chart.ids x here) i && behind x (member-listed chart.ids x here) i))
      ∙ ap (λ (xs : List ℕ). list_any (λ x. on_way g a x && on_way g b x) xs) ways.ids

  ends-marked : (marks : List Bool) (host : ℕ) → ((x : ℕ) → is_among chart.ids x ≡ true → is_marked chart.ids marks x ≡ on_way g host x) → (o : Option ℕ) → ((c : ℕ) → o ≡ Some c → is_among chart.ids c ≡ true) → is_end_marked chart.ids marks o ≡ is_end_on_way g host o
  ends-marked marks host on None there = refl
  ends-marked marks host on (Some c) there = on c (there c refl)

  -- an echo edge leads from what is marked first to what is marked second
  pub echoes-lead : list_any (λ e. is_end_marked chart.ids first e.source && is_end_marked chart.ids second e.sink) chart.echoes ≡ echoes g a b
  echoes-lead =
      ap (list_any (λ (e : Edge). is_end_marked chart.ids first e.source && is_end_marked chart.ids second e.sink)) ways.echoes
      ∙ any-filter (λ (e : Edge). is_end_marked chart.ids first e.source && is_end_marked chart.ids second e.sink) (λ e. is_echo g e.buffer) g.edges
      ∙ any-each (λ e. is_echo g e.buffer && (is_end_marked chart.ids first e.source && is_end_marked chart.ids second e.sink))
      (λ e. is_echo g e.buffer && is_end_on_way g a (source_of g e.buffer) && is_end_on_way g b (sink_of g e.buffer)) g.edges (λ e here. one e here (is_echo g e.buffer) refl)
      ∙ sym (any-mapped (λ x. is_echo g x && is_end_on_way g a (source_of g x) && is_end_on_way g b (sink_of g x)) g.edges)
    where
      one : (e : Edge) → IsIn e g.edges → (h : Bool) → is_echo g e.buffer ≡ h
          → (is_echo g e.buffer && (is_end_marked chart.ids first e.source && is_end_marked chart.ids second e.sink)) ≡ (is_echo g e.buffer && is_end_on_way g a (source_of g e.buffer) && is_end_on_way g b (sink_of g e.buffer))
      one e here false is =
          ap (λ k. k && (is_end_marked chart.ids first e.source && is_end_marked chart.ids second e.sink)) is
          ∙ sym (ap (λ k. k && is_end_on_way g a (source_of g e.buffer) && is_end_on_way g b (sink_of g e.buffer)) is)
      one e here true is =
          ap (λ k. k && (is_end_marked chart.ids first e.source && is_end_marked chart.ids second e.sink)) is
          ∙ (λ i. near i && far i)
          ∙ sym (ap (λ k. k && is_end_on_way g a (source_of g e.buffer) && is_end_on_way g b (sink_of g e.buffer)) is)
        where
          found : edge_of g e.buffer ≡ Some e
          found = find-own g.edges e ways.distinct here

          from : source_of g e.buffer ≡ e.source
          from = ap (option_and_then (λ (f : Edge). f.source)) found

          into : sink_of g e.buffer ≡ e.sink
          into = ap (option_and_then (λ (f : Edge). f.sink)) found

          near : is_end_marked chart.ids first e.source ≡ is_end_on_way g a (source_of g e.buffer)
          near =
              ends-marked first a ahead e.source (λ c same. source-listed g chart ways e.buffer c is (from ∙ same))
              ∙ ap (is_end_on_way g a) (sym from)

          far : is_end_marked chart.ids second e.sink ≡ is_end_on_way g b (sink_of g e.buffer)
          far =
              ends-marked second b behind e.sink (λ c same. echo-listed g chart.ids (all g chart ways) ways.listed ways.distinct e.buffer c is (into ∙ same))
              ∙ ap (is_end_on_way g b) (sym into)
