-- An id at which no join ends lies on no way.
use Rattle.std.proofs.Common.{◌≡◌, refl, sym, ap, ◌∙◌, ℕ, zero, suc, List, [], ◌∷◌, filter, length, Option, Some, None, Bool, true, false, cond, not, ◌==◌, ◌&&◌, ◌||◌}
use Rattle.std.proofs.lemmas.Bool.{true≢false, false_from_ne_true, or_from, or_parts, eqb-true, eq-eqb}
use Rattle.std.specs.Prelude.{find, option_and_then}
use Rattle.std.specs.Option.{option_map_or}
use Rattle.std.specs.List.{list_any, AllByRecursion}
use Rattle.stream_law.specs.declared.graph.Edge.{Edge}
use Rattle.stream_law.specs.declared.graph.Join.{Join}
use Rattle.stream_law.specs.declared.graph.Graph.{Graph}
use Rattle.stream_law.specs.Ways.{edge_of, sink_of, leads, is_of, is_capture, leaves_split, enters_capture, is_echo, way_joins, ways_to, on_way}
use Rattle.mbox_link.specs.Step.{has_edge}
use Rattle.row_laws.specs.Wired.{IsBetween, is_node}

pub eqb-turned : (m n : ℕ) → (m == n) ≡ false → (n == m) ≡ false
eqb-turned m n e = false_from_ne_true (n == m) (λ h. true≢false (sym (eq-eqb m n (sym (eqb-true n m h))) ∙ e))

-- no join ends there
pub record IsApart (id : ℕ) (joins : List Join) : Type 0 where
  pub sources : AllByRecursion (λ j. (j.source == id) ≡ false) joins
  pub sinks : AllByRecursion (λ j. (j.sink == id) ≡ false) joins

apart-node : (g : Graph) (id n : ℕ) → is_node g id ≡ false → is_node g n ≡ true → (n == id) ≡ false
apart-node g id n gone there = false_from_ne_true (n == id) (λ e. true≢false (sym there ∙ ap (is_node g) (eqb-true n id e) ∙ gone))

pub apart : (g : Graph) (id : ℕ) → is_node g id ≡ false → (joins : List Join) → AllByRecursion (IsBetween g) joins → IsApart id joins
apart g id gone [] ends = record { sources = tt; sinks = tt }
apart g id gone (j ∷ joins) ends =
    let rest = apart g id gone joins ends.1 in
    record { sources = (apart-node g id j.source gone ends.0.0, rest.sources); sinks = (apart-node g id j.sink gone ends.0.1, rest.sinks) }

filter-none : (id : ℕ) (joins : List Join) → AllByRecursion (λ j. (j.source == id) ≡ false) joins → filter (λ j. j.source == id) joins ≡ []
filter-none id [] all = refl
filter-none id (j ∷ joins) all = ap (λ h. cond h (j ∷ filter (λ j. j.source == id) joins) (filter (λ j. j.source == id) joins)) all.0 ∙ filter-none id joins all.1

pub leads-none : (joins : List Join) (n a b : ℕ) → (a == b) ≡ false → AllByRecursion (λ j. (j.source == a) ≡ false) joins → leads joins n a b ≡ false
leads-none joins zero a b e all = e
leads-none joins (suc n) a b e all = or_from (a == b) _ e (ap (λ (js : List Join). list_any (λ j. leads joins n j.sink b) js) (filter-none a joins all))

any-none : (p q : Join → Bool) (js : List Join) → AllByRecursion (λ j. p j ≡ false) js → list_any p (filter q js) ≡ false
any-none p q [] all = refl
any-none p q (j ∷ js) all = by (q j) (any-none p q js all.1)
  where
    by : (h : Bool) → list_any p (filter q js) ≡ false → list_any p (cond h (j ∷ filter q js) (filter q js)) ≡ false
    by true rest = or_from (p j) (list_any p (filter q js)) all.0 rest
    by false rest = rest

pub leads-never : (joins : List Join) (n a b : ℕ) → (a == b) ≡ false → AllByRecursion (λ j. (j.sink == b) ≡ false) joins → leads joins n a b ≡ false
leads-never joins zero a b e all = e
leads-never joins (suc n) a b e all = or_from (a == b) _ e (any-none (λ j. leads joins n j.sink b) (λ j. j.source == a) joins (each (λ j far. leads-never joins n j.sink b far all) joins all))
  where
    each : ((j : Join) → (j.sink == b) ≡ false → leads joins n j.sink b ≡ false) → (js : List Join) → AllByRecursion (λ j. (j.sink == b) ≡ false) js → AllByRecursion (λ j. leads joins n j.sink b ≡ false) js
    each f [] all = tt
    each f (j ∷ js) far = (f j far.0, each f js far.1)

-- ---- ways

-- no fewer joins end there
pub apart-kept : (id : ℕ) (keep : Join → Bool) (joins : List Join) → IsApart id joins → IsApart id (filter keep joins)
apart-kept id keep [] far = far
apart-kept id keep (j ∷ joins) far = by (keep j) (apart-kept id keep joins (record { sources = far.sources.1; sinks = far.sinks.1 }))
  where
    by : (h : Bool) → IsApart id (filter keep joins) → IsApart id (cond h (j ∷ filter keep joins) (filter keep joins))
    by true rest = record { sources = (far.sources.0, rest.sources); sinks = (far.sinks.0, rest.sinks) }
    by false rest = rest

ways-apart : (g : Graph) (id : ℕ) → IsApart id g.joins → IsApart id (way_joins g)
unfolding way_joins
ways-apart g id far = apart-kept id (λ j. not (is_echo g j.source) && not (is_echo g j.sink)) g.joins far

ways-none : (g : Graph) (id x : ℕ) → (x == id) ≡ false → IsApart id g.joins → ways_to g id x ≡ false
unfolding ways_to
ways-none g id x other far = leads-none (way_joins g) (length (way_joins g)) id x (eqb-turned x id other) (ways-apart g id far).sources

ways-never : (g : Graph) (id x : ℕ) → (x == id) ≡ false → IsApart id g.joins → ways_to g x id ≡ false
unfolding ways_to
ways-never g id x other far = leads-never (way_joins g) (length (way_joins g)) x id other (ways-apart g id far).sinks

-- what is no buffer is found nowhere, and is no echo edge
pub edge-lost : (g : Graph) (b : ℕ) → has_edge g b ≡ false → edge_of g b ≡ None
edge-lost g b none = lost g.edges none
  where
    lost : (es : List Edge) → list_any (λ e. e.buffer == b) es ≡ false → find (λ e. e.buffer == b) es ≡ None
    lost [] none = refl
    lost (e ∷ es) none =
        let parts = or_parts (e.buffer == b) (list_any (λ e. e.buffer == b) es) none in
        ap (λ h. cond h (Some e) (find (λ e. e.buffer == b) es)) parts.0 ∙ lost es parts.1

pub no-echo : (g : Graph) (b : ℕ) → has_edge g b ≡ false → is_echo g b ≡ false
unfolding is_echo
no-echo g b none = ap (λ (o : Option Edge). option_map_or (leaves_split g) (option_and_then (λ e. e.source) o) false && option_map_or (enters_capture g) (option_and_then (λ e. e.sink) o) false) (edge-lost g b none)

-- so an id that is no buffer's is on no way of another
pub off-way : (g : Graph) (host id : ℕ) → (host == id) ≡ false → has_edge g id ≡ false → IsApart id g.joins → on_way g host id ≡ false
unfolding on_way
off-way g host id other none far = by (is_of g is_capture host)
  where
    by : (h : Bool) → cond h (ways_to g id host || (is_echo g id && option_map_or (λ c. ways_to g c host) (sink_of g id) false)) (ways_to g host id) ≡ false
    by true = or_from (ways_to g id host) _ (ways-none g id host other far) (ap (λ h. h && option_map_or (λ c. ways_to g c host) (sink_of g id) false) (no-echo g id none))
    by false = ways-never g id host other far
