-- Two graphs with the same joins and sides that differ at an id alone at which no join ends have the same echo edges and ways.
use Rattle.std.proofs.Common.{◌≡◌, refl, sym, ap, ◌∙◌, ℕ, List, [], ◌∷◌, map, filter, length, Option, Some, None, Bool, true, false, cond, not, inl, inr, ◌==◌, ◌&&◌, ◌||◌}
use Rattle.std.proofs.lemmas.Bool.{true≢false, false≢true, false_from_ne_true, eqb-true}
use Rattle.std.specs.Prelude.{find, option_and_then}
use Rattle.std.specs.Option.{option_map_or}
use Rattle.std.specs.List.{AllByRecursion}
use Rattle.stream_law.specs.declared.graph.Kind.{Kind}
use Rattle.stream_law.specs.declared.graph.Comp.{Comp}
use Rattle.stream_law.specs.declared.graph.Edge.{Edge}
use Rattle.stream_law.specs.declared.graph.Join.{Join}
use Rattle.stream_law.specs.declared.graph.Graph.{Graph}
use Rattle.stream_law.specs.Ways.{components, source_of, sink_of, is_end, leads, reaches, is_play, is_capture, is_dai_play, splits, is_of, reached_by_some, reaches_some, leaves_split, enters_capture, is_echo, way_joins, ways_to, on_way}
use Rattle.stream_law.proofs.Members.{IsIn, in-filter, filter-any}
use Rattle.mbox_link.specs.Step.{has_comp}
use Rattle.row_laws.specs.Wired.{IsSide}
use Rattle.row_laws.proofs.Unreached.{IsApart, eqb-turned, leads-none, leads-never}

-- two tests of which each follows from the other
pub one-test : (a b : Bool) → (a ≡ true → b ≡ true) → (b ≡ true → a ≡ true) → a ≡ b
one-test true b f h = sym (f refl)
one-test false true f h = h refl
one-test false false f h = refl

-- what is of a kind is a component
pub of-in : (g : Graph) (sort : Kind → Bool) (c : ℕ) → is_of g sort c ≡ true → IsIn c (components g)
of-in g sort c is = at g.comps is
  where
    at : (xs : List Comp) → option_map_or (λ x. sort x.kind) (find (λ x. x.id == c) xs) false ≡ true → IsIn c (map (λ (x : Comp). x.id) xs)
    at [] is = absurd (false≢true is)
    at (x ∷ xs) is = by (x.id == c) refl is (at xs)
      where
        by : (h : Bool) → (x.id == c) ≡ h → option_map_or (λ x. sort x.kind) (cond h (Some x) (find (λ x. x.id == c) xs)) false ≡ true → (option_map_or (λ x. sort x.kind) (find (λ x. x.id == c) xs) false ≡ true → IsIn c (map (λ (x : Comp). x.id) xs)) → IsIn c (x.id ∷ map (λ (x : Comp). x.id) xs)
        by true same is rest = inl (sym (eqb-true x.id c same))
        by false same is rest = inr (rest is)

-- where no edge has a side at an id, no buffer's is there
pub ends-of : (g : Graph) (id : ℕ) → AllByRecursion (λ e. (is_end e.source id ≡ false) × (is_end e.sink id ≡ false)) g.edges → (b : ℕ) → (is_end (source_of g b) id ≡ false) × (is_end (sink_of g b) id ≡ false)
ends-of g id all b = at g.edges all
  where
    at : (es : List Edge) → AllByRecursion (λ e. (is_end e.source id ≡ false) × (is_end e.sink id ≡ false)) es → (is_end (option_and_then (λ e. e.source) (find (λ e. e.buffer == b) es)) id ≡ false) × (is_end (option_and_then (λ e. e.sink) (find (λ e. e.buffer == b) es)) id ≡ false)
    at [] all = (refl, refl)
    at (e ∷ es) all = by (e.buffer == b) (at es all.1)
      where
        by : (h : Bool) → (is_end (option_and_then (λ e. e.source) (find (λ e. e.buffer == b) es)) id ≡ false) × (is_end (option_and_then (λ e. e.sink) (find (λ e. e.buffer == b) es)) id ≡ false) → (is_end (option_and_then (λ e. e.source) (cond h (Some e) (find (λ e. e.buffer == b) es))) id ≡ false) × (is_end (option_and_then (λ e. e.sink) (cond h (Some e) (find (λ e. e.buffer == b) es))) id ≡ false)
        by true rest = all.0
        by false rest = rest

-- sides are components, so none is at an id that is no component's
pub ends-apart : (g : Graph) (id : ℕ) → has_comp g id ≡ false → AllByRecursion (λ e. IsSide g e.source × IsSide g e.sink) g.edges → (b : ℕ) → (is_end (source_of g b) id ≡ false) × (is_end (sink_of g b) id ≡ false)
ends-apart g id gone sides = ends-of g id (each g.edges sides)
  where
    side : (o : Option ℕ) → IsSide g o → is_end o id ≡ false
    side None is = refl
    side (Some n) is = false_from_ne_true (n == id) (λ e. true≢false (sym is ∙ ap (has_comp g) (eqb-true n id e) ∙ gone))

    each : (es : List Edge) → AllByRecursion (λ e. IsSide g e.source × IsSide g e.sink) es → AllByRecursion (λ e. (is_end e.source id ≡ false) × (is_end e.sink id ≡ false)) es
    each [] all = tt
    each (e ∷ es) all = ((side e.source all.0.0, side e.sink all.0.1), each es all.1)

module _ (g h : Graph) (id : ℕ) (joins : g.joins ≡ h.joins) (far : IsApart id g.joins) (sources : (b : ℕ) → source_of g b ≡ source_of h b) (sinks : (b : ℕ) → sink_of g b ≡ sink_of h b) (ends : (b : ℕ) → (is_end (source_of g b) id ≡ false) × (is_end (sink_of g b) id ≡ false)) (kinds : (sort : Kind → Bool) (c : ℕ) → (c == id) ≡ false → is_of g sort c ≡ is_of h sort c) where
  -- ---- what is reached

  reach-same : (a b : ℕ) → reaches g a b ≡ reaches h a b
  unfolding reaches
  reach-same a b = ap (λ (js : List Join). leads js (length js) a b) joins

  reach-none : (x : ℕ) → (x == id) ≡ false → reaches g id x ≡ false
  unfolding reaches
  reach-none x other = leads-none g.joins (length g.joins) id x (eqb-turned x id other) far.sources

  reach-never : (x : ℕ) → (x == id) ≡ false → reaches g x id ≡ false
  unfolding reaches
  reach-never x other = leads-never g.joins (length g.joins) x id other far.sinks

  -- what reaches another id, or is reached from one, is another
  other-from : (c x : ℕ) → (x == id) ≡ false → reaches g c x ≡ true → (c == id) ≡ false
  other-from c x other on = false_from_ne_true (c == id) (λ e. true≢false (sym on ∙ ap (λ n. reaches g n x) (eqb-true c id e) ∙ reach-none x other))

  other-to : (c x : ℕ) → (x == id) ≡ false → reaches g x c ≡ true → (c == id) ≡ false
  other-to c x other on = false_from_ne_true (c == id) (λ e. true≢false (sym on ∙ ap (λ n. reaches g x n) (eqb-true c id e) ∙ reach-never x other))

  by-some-same : (sort : Kind → Bool) (x : ℕ) → (x == id) ≡ false → reached_by_some g sort x ≡ reached_by_some h sort x
  by-some-same sort x other = one-test (reached_by_some g sort x) (reached_by_some h sort x) there back
    where
      there : reached_by_some g sort x ≡ true → reached_by_some h sort x ≡ true
      there e =
          let r = in-filter (λ c. reaches g c x) (is_of g sort) (components g) e in
          let so : is_of h sort r.0 ≡ true = sym (kinds sort r.0 (other-from r.0 x other r.3)) ∙ r.2 in
          filter-any (λ c. reaches h c x) (is_of h sort) (components h) r.0 (of-in h sort r.0 so) so (sym (reach-same r.0 x) ∙ r.3)

      back : reached_by_some h sort x ≡ true → reached_by_some g sort x ≡ true
      back e =
          let r = in-filter (λ c. reaches h c x) (is_of h sort) (components h) e in
          let on : reaches g r.0 x ≡ true = reach-same r.0 x ∙ r.3 in
          let so : is_of g sort r.0 ≡ true = kinds sort r.0 (other-from r.0 x other on) ∙ r.2 in
          filter-any (λ c. reaches g c x) (is_of g sort) (components g) r.0 (of-in g sort r.0 so) so on

  some-same : (sort : Kind → Bool) (x : ℕ) → (x == id) ≡ false → reaches_some g sort x ≡ reaches_some h sort x
  some-same sort x other = one-test (reaches_some g sort x) (reaches_some h sort x) there back
    where
      there : reaches_some g sort x ≡ true → reaches_some h sort x ≡ true
      there e =
          let r = in-filter (λ c. reaches g x c) (is_of g sort) (components g) e in
          let so : is_of h sort r.0 ≡ true = sym (kinds sort r.0 (other-to r.0 x other r.3)) ∙ r.2 in
          filter-any (λ c. reaches h x c) (is_of h sort) (components h) r.0 (of-in h sort r.0 so) so (sym (reach-same x r.0) ∙ r.3)

      back : reaches_some h sort x ≡ true → reaches_some g sort x ≡ true
      back e =
          let r = in-filter (λ c. reaches h x c) (is_of h sort) (components h) e in
          let on : reaches g x r.0 ≡ true = reach-same x r.0 ∙ r.3 in
          let so : is_of g sort r.0 ≡ true = kinds sort r.0 (other-to r.0 x other on) ∙ r.2 in
          filter-any (λ c. reaches g x c) (is_of g sort) (components g) r.0 (of-in g sort r.0 so) so on

  -- ---- echo edges

  leaves-same : (o : Option ℕ) → is_end o id ≡ false → option_map_or (leaves_split g) o false ≡ option_map_or (leaves_split h) o false
  leaves-same None other = refl
  leaves-same (Some a) other = λ i. kinds splits a other i && by-some-same is_play a other i && some-same is_dai_play a other i

  enters-same : (o : Option ℕ) → is_end o id ≡ false → option_map_or (enters_capture g) o false ≡ option_map_or (enters_capture h) o false
  enters-same None other = refl
  enters-same (Some c) other = λ i. some-same is_capture c other i && not (some-same is_dai_play c other i)

  pub echo-same : (b : ℕ) → is_echo g b ≡ is_echo h b
  unfolding is_echo
  echo-same b =
      ap (λ (p : Bool × Bool). p.0 && p.1) (λ i. (leaves-same (source_of g b) (ends b).0 i, enters-same (sink_of g b) (ends b).1 i))
      ∙ ap (λ (p : Option ℕ × Option ℕ). option_map_or (leaves_split h) p.0 false && option_map_or (enters_capture h) p.1 false) (λ i. (sources b i, sinks b i))

  -- ---- ways

  joins-same : way_joins g ≡ way_joins h
  unfolding way_joins
  joins-same = λ i. filter (λ j. not (echo-same j.source i) && not (echo-same j.sink i)) (joins i)

  ways-same : (a b : ℕ) → ways_to g a b ≡ ways_to h a b
  unfolding ways_to
  ways-same a b = ap (λ (js : List Join). leads js (length js) a b) joins-same

  pub way-same : (host x : ℕ) → (host == id) ≡ false → on_way g host x ≡ on_way h host x
  unfolding on_way
  way-same host x other = λ i. cond (kinds is_capture host other i) (ways-same x host i || (echo-same x i && option_map_or (λ c. ways-same c host i) (sinks x i) false)) (ways-same host x i)
