-- A component has as many edges as real routes, and so the edges of its kind.
use Rattle.std.proofs.Common.{◌≡◌, refl, sym, ap, subst, ◌∙◌, ℕ, zero, suc, ◌+◌, ◌<◌, ◌≤◌, List, [], ◌∷◌, length, map, count_by, sum_by, find, Bool, true, false, cond, not, ◌&&◌, ◌||◌, ◌==◌, Option, Some, None, ◌⊎◌, inl, inr, option_and_then, arith}
use Rattle.std.specs.Option.{option_map}
use Rattle.std.specs.List.{list_all, filter_map, cons_option, range_with_len, AllByRecursion}
use Rattle.std.proofs.lemmas.Bool.{false≢true, true≢false, and_parts, and_from, or_cases, eq-eqb, ne_eqb, eqb-true, cases_order}
use Rattle.std.proofs.lemmas.Option.{same_Some, slice_get_within}
use Rattle.std.proofs.lemmas.List.Sums.{sum_by-cons, length-filter}
use Rattle.stream_law.specs.declared.graph.Kind.{Kind}
use Rattle.stream_law.specs.declared.graph.Comp.{Comp}
use Rattle.stream_law.specs.declared.graph.Edge.{Edge}
use Rattle.stream_law.specs.declared.graph.Join.{Join}
use Rattle.stream_law.specs.Ways.{source_of, sink_of, is_end, ins, outs}
use Rattle.stream_law.specs.Joins.{fits_kind}
use Rattle.stream_law.proofs.Waits.{count-any}
use Rattle.tplg_widgets.specs.declared.entry.Role.{Role}
use Rattle.tplg_widgets.specs.declared.entry.Role.TheVariants.{Dai, Buffer, Scheduler}
use Rattle.tplg_widgets.specs.declared.entry.Entry.{Entry}
use Rattle.tplg_widgets.specs.declared.tokens.FormatToken.{FormatToken}
use Rattle.tplg_widgets.specs.Entries.{is_component, interpreted}
use Rattle.tplg_widgets.specs.GraphLists.{component_kind, is_sink, component_at, components_on, edge_at, edges_on}
use Rattle.tplg_walks.specs.Rules.{HoldsAll}
use Rattle.tplg_rules.specs.RuleTable.{ins_of, outs_of, are_routes, are_routes_of, buffers_rule, components_rule}
use Rattle.tplg_graph.proofs.KeyedLists.{IsKeyed, all-made, all-at, at-all}
use Rattle.tplg_graph.proofs.ByIds.{OfComponent, made_edge, of-component, of-edge, keyed-edges, at-id, implied}
use Rattle.tplg_graph.proofs.NamedIds.{graph_of, edge-by-id, edge-there, passed, sides}
use Rattle.tplg_graph.proofs.OrderableEnds.{IsComp, IsBuf, Good, apart}
use Rattle.tplg_graph.proofs.WalkedJoins.{component-sort}

-- ---- sums

sum-same : {X : Type 0} (f g : X → ℕ) (xs : List X) → AllByRecursion (λ x. f x ≡ g x) xs → sum_by f xs ≡ sum_by g xs
sum-same f g [] all = refl
sum-same f g (x ∷ xs) all =
    let first : f x ≡ g x = all.0 in
    let rest : sum_by f xs ≡ sum_by g xs = sum-same f g xs all.1 in
    omega (arith, first, rest, sum_by-cons f x xs, sum_by-cons g x xs)

sum-zero : {X : Type 0} (f : X → ℕ) → ((x : X) → f x ≡ 0) → (xs : List X) → sum_by f xs ≡ 0
sum-zero f none [] = refl
sum-zero f none (x ∷ xs) =
    let first : f x ≡ 0 = none x in
    let rest : sum_by f xs ≡ 0 = sum-zero f none xs in
    omega (arith, first, rest, sum_by-cons f x xs)

sum-split : {X : Type 0} (f g h : X → ℕ) → ((x : X) → f x ≡ g x + h x) → (xs : List X) → sum_by f xs ≡ sum_by g xs + sum_by h xs
sum-split f g h split [] = refl
sum-split f g h split (x ∷ xs) =
    let first : f x ≡ g x + h x = split x in
    let rest : sum_by f xs ≡ sum_by g xs + sum_by h xs = sum-split f g h split xs in
    omega (arith, first, rest, sum_by-cons f x xs, sum_by-cons g x xs, sum_by-cons h x xs)

count-map : {X Y : Type 0} (p : Y → Bool) (f : X → Y) (xs : List X) → count_by p (map f xs) ≡ count_by (λ x. p (f x)) xs
count-map p f [] = refl
count-map p f (x ∷ xs) = sum_by-cons (λ y. cond (p y) 1 0) (f x) (map f xs) ∙ ap (λ n. cond (p (f x)) 1 0 + n) (count-map p f xs) ∙ sym (sum_by-cons (λ y. cond (p (f y)) 1 0) x xs)

-- where none passes, none passes a further test
count-less : {X : Type 0} (p q : X → Bool) (xs : List X) → count_by p xs ≡ 0 → count_by (λ x. p x && q x) xs ≡ 0
count-less p q [] none = refl
count-less p q (x ∷ xs) none =
    let s : count_by p (x ∷ xs) ≡ cond (p x) 1 0 + count_by p xs = sum_by-cons (λ y. cond (p y) 1 0) x xs in
    let t : count_by (λ y. p y && q y) (x ∷ xs) ≡ cond (p x && q x) 1 0 + count_by (λ y. p y && q y) xs = sum_by-cons (λ y. cond (p y && q y) 1 0) x xs in
    let low : cond (p x && q x) 1 0 ≤ cond (p x) 1 0 = less (p x) (q x) in
    let rest : count_by (λ y. p y && q y) xs ≡ 0 = count-less p q xs (omega (arith, none, s)) in
    omega (arith, none, s, t, low, rest)
  where
    less : (a b : Bool) → cond (a && b) 1 0 ≤ cond a 1 0
    less true true = omega arith
    less true false = omega arith
    less false b = omega arith

-- where one passes, a further test counts that one
count-one : {X : Type 0} (p q : X → Bool) (xs : List X) (x : X) → count_by p xs ≡ 1 → find p xs ≡ Some x → count_by (λ y. p y && q y) xs ≡ cond (q x) 1 0
count-one p q [] x one first = cc
count-one {X} p q (y ∷ ys) x one first = by_test (p y) refl (sym (sum_by-cons (λ z. cond (p z) 1 0) y ys) ∙ one) first (sum_by-cons (λ z. cond (p z && q z) 1 0) y ys) (count-one p q ys x)
  where
    by_test : (b : Bool) → p y ≡ b → cond (p y) 1 0 + count_by p ys ≡ 1 → cond (p y) (Some y) (find p ys) ≡ Some x → count_by (λ z. p z && q z) (y ∷ ys) ≡ cond (p y && q y) 1 0 + count_by (λ z. p z && q z) ys → (count_by p ys ≡ 1 → find p ys ≡ Some x → count_by (λ z. p z && q z) ys ≡ cond (q x) 1 0) → count_by (λ z. p z && q z) (y ∷ ys) ≡ cond (q x) 1 0
    by_test true f c g s rest =
        let here : ◌≡◌ {A = ℕ} (cond (p y) 1 0) 1 = ap (λ b. cond b 1 0) f in
        let none : count_by (λ z. p z && q z) ys ≡ 0 = count-less p q ys (omega (arith, c, here)) in
        let same : y ≡ x = same_Some y x (ap (λ b. cond b (Some y) (find p ys)) (sym f) ∙ g) in
        let head : ◌≡◌ {A = ℕ} (cond (p y && q y) 1 0) (cond (q x) 1 0) = ap (λ b. cond (b && q y) 1 0) f ∙ ap (λ z. cond (q z) 1 0) same in
        omega (arith, s, none, head)
    by_test false f c g s rest =
        let here : ◌≡◌ {A = ℕ} (cond (p y) 1 0) 0 = ap (λ b. cond b 1 0) f in
        let more : count_by (λ z. p z && q z) ys ≡ cond (q x) 1 0 = rest (omega (arith, c, here)) (ap (λ b. cond b (Some y) (find p ys)) (sym f) ∙ g) in
        let head : ◌≡◌ {A = ℕ} (cond (p y && q y) 1 0) 0 = ap (λ b. cond (b && q y) 1 0) f in
        omega (arith, s, more, head)

-- ---- the record of a key comes once

count-before : {Y : Type 0} (key : Y → ℕ) (f : ℕ → Option Y) → IsKeyed key f → (id i n : ℕ) → id < i → count_by (λ y. id == key y) (filter_map f (range_with_len i n)) ≡ 0
count-before key f keyed id i zero h = refl
count-before {Y} key f keyed id i (suc n) h = by_head (f i) refl (count-before key f keyed id (i + 1) n (omega arith))
  where
    by_head : (o : Option Y) → f i ≡ o → count_by (λ y. id == key y) (filter_map f (range_with_len (i + 1) n)) ≡ 0 → count_by (λ y. id == key y) (cons_option o (filter_map f (range_with_len (i + 1) n))) ≡ 0
    by_head None e rest = rest
    by_head (Some y) e rest =
        let other : ◌≡◌ {A = ℕ} (cond (id == key y) 1 0) 0 = ap (λ b. cond b 1 0) (ne_eqb id (key y) (λ same. let k = keyed i y e in absurd (omega (arith, k, same)))) in
        omega (arith, other, rest, sum_by-cons (λ z. cond (id == key z) 1 0) y (filter_map f (range_with_len (i + 1) n)))

count-key : {Y : Type 0} (key : Y → ℕ) (f : ℕ → Option Y) → IsKeyed key f → (id i n : ℕ) (x : Y) → i ≤ id → id < i + n → f id ≡ Some x → count_by (λ y. id == key y) (filter_map f (range_with_len i n)) ≡ 1
count-key key f keyed id i zero x low high there = absurd (omega arith)
count-key {Y} key f keyed id i (suc n) x low high there = by_order (cases_order i id) (count-key key f keyed id (i + 1) n x)
  where
    rest : List Y
    rest = filter_map f (range_with_len (i + 1) n)

    at_head : (o : Option Y) → f i ≡ o → o ≡ Some x → i ≡ id → count_by (λ y. id == key y) (cons_option o rest) ≡ 1
    at_head None e g s = cc
    at_head (Some y) e g s =
        let here : ◌≡◌ {A = ℕ} (cond (id == key y) 1 0) 1 = ap (λ b. cond b 1 0) (eq-eqb id (key y) (sym (keyed i y e ∙ s))) in
        let none : count_by (λ y. id == key y) rest ≡ 0 = count-before key f keyed id (i + 1) n (omega arith) in
        omega (arith, here, none, sum_by-cons (λ z. cond (id == key z) 1 0) y rest)

    behind : (o : Option Y) → f i ≡ o → i < id → count_by (λ y. id == key y) rest ≡ 1 → count_by (λ y. id == key y) (cons_option o rest) ≡ 1
    behind None e s found = found
    behind (Some y) e s found =
        let other : ◌≡◌ {A = ℕ} (cond (id == key y) 1 0) 0 = ap (λ b. cond b 1 0) (ne_eqb id (key y) (λ same. let k = keyed i y e in absurd (omega (arith, k, same)))) in
        omega (arith, other, found, sum_by-cons (λ z. cond (id == key z) 1 0) y rest)

    by_order : (i ≡ id) ⊎ ((i < id) ⊎ (id < i)) → (i + 1 ≤ id → id < (i + 1) + n → f id ≡ Some x → count_by (λ y. id == key y) rest ≡ 1) → count_by (λ y. id == key y) (cons_option (f i) rest) ≡ 1
    by_order (inl s) found = at_head (f i) refl (ap f s ∙ there) s
    by_order (inr (inl s)) found = behind (f i) refl s (found (omega arith) (omega arith) there)
    by_order (inr (inr s)) found = absurd (omega arith)

-- ---- each real route is at one edge

module _ (near far : Join → ℕ) (c : ℕ) (edges : List Edge) where
  at-one : (j : Join) → (far j ≡ c → count_by (λ e. near j == e.buffer) edges ≡ 1) → sum_by (λ e. cond (near j == e.buffer && far j == c) 1 0) edges ≡ cond (far j == c) 1 0
  at-one j one = by_far (far j == c) refl
    where
      right : (a : Bool) → (a && true) ≡ a
      right true = refl
      right false = refl

      none : (a : Bool) → ◌≡◌ {A = ℕ} (cond (a && false) 1 0) 0
      none true = refl
      none false = refl

      by_far : (b : Bool) → (far j == c) ≡ b → sum_by (λ e. cond (near j == e.buffer && b) 1 0) edges ≡ cond b 1 0
      by_far true f = ap (λ (p : Edge → Bool). count_by p edges) (λ i e. right (near j == e.buffer) i) ∙ one (eqb-true (far j) c f)
      by_far false f = sum-zero (λ e. cond (near j == e.buffer && false) 1 0) (λ e. none (near j == e.buffer)) edges

  at-edges : (js : List Join) → AllByRecursion (λ j. far j ≡ c → count_by (λ e. near j == e.buffer) edges ≡ 1) js → sum_by (λ e. count_by (λ j. near j == e.buffer && far j == c) js) edges ≡ count_by (λ j. far j == c) js
  at-edges [] all = sum-zero (λ e. 0) (λ e. refl) edges
  at-edges (j ∷ js) all =
      let split : sum_by (λ e. count_by (λ i. near i == e.buffer && far i == c) (j ∷ js)) edges ≡ sum_by (λ e. cond (near j == e.buffer && far j == c) 1 0) edges + sum_by (λ e. count_by (λ i. near i == e.buffer && far i == c) js) edges = sum-split (λ e. count_by (λ i. near i == e.buffer && far i == c) (j ∷ js)) (λ e. cond (near j == e.buffer && far j == c) 1 0) (λ e. count_by (λ i. near i == e.buffer && far i == c) js) (λ e. sum_by-cons (λ i. cond (near i == e.buffer && far i == c) 1 0) j js) edges in
      let first : sum_by (λ e. cond (near j == e.buffer && far j == c) 1 0) edges ≡ cond (far j == c) 1 0 = at-one j all.0 in
      let rest : sum_by (λ e. count_by (λ i. near i == e.buffer && far i == c) js) edges ≡ count_by (λ i. far i == c) js = at-edges js all.1 in
      omega (arith, split, first, rest, sum_by-cons (λ i. cond (far i == c) 1 0) j js)

-- ---- over real routes

module _ (es : List Entry) (js : List Join) (good : AllByRecursion (Good (interpreted es)) js) (rule : HoldsAll (buffers_rule es js)) where
  edge-once : (b : ℕ) → IsBuf (interpreted es) b → count_by (λ e. b == e.buffer) (edges_on (interpreted es) js) ≡ 1
  edge-once b is = count-key (λ e. e.buffer) (edge_at (interpreted es) js) (keyed-edges (interpreted es) js) b 0 (length (interpreted es)) (made_edge js b is.entry) (omega arith) (let w = slice_get_within (interpreted es) b is.entry is.there in omega (arith, w)) (edge-there (interpreted es) js b is)

  ins-are : (c : ℕ) → IsComp (interpreted es) c → length (ins (graph_of es js) c) ≡ ins_of js c
  ins-are c is =
      length-filter (λ b. is_end (sink_of (graph_of es js) b) c) (map (λ e. e.buffer) (edges_on (interpreted es) js))
      ∙ count-map (λ b. is_end (sink_of (graph_of es js) b) c) (λ e. e.buffer) (edges_on (interpreted es) js)
      ∙ sum-same (λ e. cond (is_end (sink_of (graph_of es js) e.buffer) c) 1 0) (λ e. count_by (λ j. j.source == e.buffer && j.sink == c) js) (edges_on (interpreted es) js) (all-made (λ e. ◌≡◌ {A = ℕ} (cond (is_end (sink_of (graph_of es js) e.buffer) c) 1 0) (count_by (λ j. j.source == e.buffer && j.sink == c) js)) (edge_at (interpreted es) js) 0 (length (interpreted es)) (λ k e high h. each k e h))
      ∙ at-edges (λ j. j.source) (λ j. j.sink) c (edges_on (interpreted es) js) js (all-at (λ j. j.sink ≡ c → count_by (λ e. j.source == e.buffer) (edges_on (interpreted es) js) ≡ 1) js (λ k j e. once j (at-all (Good (interpreted es)) js good k j e)))
    where
      each : (k : ℕ) (e : Edge) → edge_at (interpreted es) js k ≡ Some e → ◌≡◌ {A = ℕ} (cond (is_end (sink_of (graph_of es js) e.buffer) c) 1 0) (count_by (λ j. j.source == e.buffer && j.sink == c) js)
      each k e h =
          let o = of-edge (interpreted es) js k e h in
          let b : IsBuf (interpreted es) k = record { entry = o.entry; there = o.there; sort = o.sort } in
          let p = passed es js rule k b in
          let s = sides es js good k b p.0 p.1 in
          let sink : sink_of (graph_of es js) k ≡ Some s.behind.sink = ap (option_and_then (λ x. x.sink)) (edge-by-id es js k ∙ h) ∙ o.sink ∙ ap (option_map (λ j. j.sink)) s.out in
          ap (λ b. cond (is_end (sink_of (graph_of es js) b) c) 1 0) o.buffer
          ∙ ap (λ x. cond (is_end x c) 1 0) sink
          ∙ sym (count-one (λ j. j.source == k) (λ j. j.sink == c) js s.behind p.1 s.out)
          ∙ ap (λ b. count_by (λ j. j.source == b && j.sink == c) js) (sym o.buffer)

      once : (j : Join) → Good (interpreted es) j → j.sink ≡ c → count_by (λ e. j.source == e.buffer) (edges_on (interpreted es) js) ≡ 1
      once j (inl g) s = absurd (apart (interpreted es) j.sink c (sym s) g.1 is)
      once j (inr g) s = edge-once j.source g.0

  outs-are : (c : ℕ) → IsComp (interpreted es) c → length (outs (graph_of es js) c) ≡ outs_of js c
  outs-are c is =
      length-filter (λ b. is_end (source_of (graph_of es js) b) c) (map (λ e. e.buffer) (edges_on (interpreted es) js))
      ∙ count-map (λ b. is_end (source_of (graph_of es js) b) c) (λ e. e.buffer) (edges_on (interpreted es) js)
      ∙ sum-same (λ e. cond (is_end (source_of (graph_of es js) e.buffer) c) 1 0) (λ e. count_by (λ j. j.sink == e.buffer && j.source == c) js) (edges_on (interpreted es) js) (all-made (λ e. ◌≡◌ {A = ℕ} (cond (is_end (source_of (graph_of es js) e.buffer) c) 1 0) (count_by (λ j. j.sink == e.buffer && j.source == c) js)) (edge_at (interpreted es) js) 0 (length (interpreted es)) (λ k e high h. each k e h))
      ∙ at-edges (λ j. j.sink) (λ j. j.source) c (edges_on (interpreted es) js) js (all-at (λ j. j.source ≡ c → count_by (λ e. j.sink == e.buffer) (edges_on (interpreted es) js) ≡ 1) js (λ k j e. once j (at-all (Good (interpreted es)) js good k j e)))
    where
      each : (k : ℕ) (e : Edge) → edge_at (interpreted es) js k ≡ Some e → ◌≡◌ {A = ℕ} (cond (is_end (source_of (graph_of es js) e.buffer) c) 1 0) (count_by (λ j. j.sink == e.buffer && j.source == c) js)
      each k e h =
          let o = of-edge (interpreted es) js k e h in
          let b : IsBuf (interpreted es) k = record { entry = o.entry; there = o.there; sort = o.sort } in
          let p = passed es js rule k b in
          let s = sides es js good k b p.0 p.1 in
          let source : source_of (graph_of es js) k ≡ Some s.before.source = ap (option_and_then (λ x. x.source)) (edge-by-id es js k ∙ h) ∙ o.source ∙ ap (option_map (λ j. j.source)) s.into in
          ap (λ b. cond (is_end (source_of (graph_of es js) b) c) 1 0) o.buffer
          ∙ ap (λ x. cond (is_end x c) 1 0) source
          ∙ sym (count-one (λ j. j.sink == k) (λ j. j.source == c) js s.before p.0 s.into)
          ∙ ap (λ b. count_by (λ j. j.sink == b && j.source == c) js) (sym o.buffer)

      once : (j : Join) → Good (interpreted es) j → j.source ≡ c → count_by (λ e. j.sink == e.buffer) (edges_on (interpreted es) js) ≡ 1
      once j (inl g) s = edge-once j.sink g.1
      once j (inr g) s = absurd (apart (interpreted es) j.source c (sym s) g.0 is)

-- ---- kinds

dai-fits : (f : FormatToken) (ends : Bool) (m n : ℕ) (k : Kind) → component_kind (Some Dai) f ends ≡ Some k → ends ≡ not (m == 0) → ((m == 0 && n == 1) ≡ true) ⊎ ((m == 1 && n == 0) ≡ true) → fits_kind k m n ≡ true
dai-fits f true m n k h e (inl r) = absurd (true≢false (e ∙ ap not (and_parts (m == 0) (n == 1) r).0))
dai-fits f true m n k h e (inr r) = subst (λ x. fits_kind x m n ≡ true) (same_Some _ k h) r
dai-fits f false m n k h e (inl r) = subst (λ x. fits_kind x m n ≡ true) (same_Some _ k h) r
dai-fits f false m n k h e (inr r) = absurd (false≢true (e ∙ ap (λ x. not (x == 0)) (eqb-true m 1 (and_parts (m == 1) (n == 0) r).0)))

role-fits : (r : Option Role) (f : FormatToken) (ends : Bool) (m n : ℕ) (k : Kind) → component_kind r f ends ≡ Some k → ends ≡ not (m == 0) → are_routes r m n ≡ true → fits_kind k m n ≡ true
role-fits None f ends m n k h e r = cc
role-fits (Some Buffer) f ends m n k h e r = cc
role-fits (Some Scheduler) f ends m n k h e r = cc
role-fits (Some Dai) f ends m n k h e r = dai-fits f ends m n k h e (or_cases (m == 0 && n == 1) (m == 1 && n == 0) r)
role-fits (Some role) f ends m n k h e r = subst (λ x. fits_kind x m n ≡ true) (same_Some _ k h) r

all-pass : {X : Type 0} (p : X → Bool) (xs : List X) → AllByRecursion (λ x. p x ≡ true) xs → list_all p xs ≡ true
all-pass p [] all = refl
all-pass p (x ∷ xs) all = and_from (p x) (list_all p xs) all.0 (all-pass p xs all.1)

pub kinds-fit : (es : List Entry) (js : List Join) → AllByRecursion (Good (interpreted es)) js → HoldsAll (buffers_rule es js) → HoldsAll (components_rule es js) → list_all (λ c. fits_kind c.kind (length (ins (graph_of es js) c.id)) (length (outs (graph_of es js) c.id))) (components_on (interpreted es) js) ≡ true
kinds-fit es js good rule routes = all-pass (λ c. fits_kind c.kind (length (ins (graph_of es js) c.id)) (length (outs (graph_of es js) c.id))) (components_on (interpreted es) js) (all-made (λ c. fits_kind c.kind (length (ins (graph_of es js) c.id)) (length (outs (graph_of es js) c.id)) ≡ true) (component_at (interpreted es) js) 0 (length (interpreted es)) (λ k c high h. each k c (of-component (interpreted es) js k c h)))
  where
    each : (k : ℕ) (c : Comp) → OfComponent (interpreted es) js k c → fits_kind c.kind (length (ins (graph_of es js) c.id)) (length (outs (graph_of es js) c.id)) ≡ true
    each k c o =
        let sort = component-sort o.entry.role o.entry.tokens.format (is_sink js k) c.kind o.kind in
        let is : IsComp (interpreted es) k = record { entry = o.entry; there = o.there; sort = sort } in
        let routed = implied (is_component o.entry) (are_routes_of o.entry.role js k) sort (at-id es (λ i e. not (is_component e) || are_routes_of e.role js i) routes k o.entry o.there) in
        let fit = role-fits o.entry.role o.entry.tokens.format (is_sink js k) (ins_of js k) (outs_of js k) c.kind o.kind (count-any (λ j. j.sink == k) js) routed in
        ap (λ id. fits_kind c.kind (length (ins (graph_of es js) id)) (length (outs (graph_of es js) id))) o.id
        ∙ ap (λ m. fits_kind c.kind m (length (outs (graph_of es js) k))) (ins-are es js good rule k is)
        ∙ ap (fits_kind c.kind (ins_of js k)) (outs-are es js good rule k is)
        ∙ fit
