-- A component waits for nothing exactly where it is ready, and the best turn is that of the least ready component.
use Rattle.std.proofs.Common.{◌≡◌, refl, sym, ap, ◌∙◌, ℕ, ◌+◌, ◌-◌, ◌<◌, ◌≤◌, min, List, [], ◌∷◌, map, filter, find, count_by, Option, Some, None, IfSome, Bool, true, false, cond, not, ◌==◌, nat_le, ◌&&◌, ◌||◌, ◌⊎◌, inl, inr, arith}
use Rattle.std.proofs.lemmas.Bool.{false≢true, true≢false, and_parts, and_from, not-true, not_from_false, not-false, or_cases, or_left, or_right, eqb-true, eq-eqb, leb-true, leb-false, false_from_ne_true}
use Rattle.std.proofs.lemmas.Bool.Decides.{same_from_decides, Decides-eqb, Decides-like}
use Rattle.std.proofs.lemmas.List.Sums.{sum_by-cons}
use Rattle.std.specs.Option.{option_map_or, option_map, option_and_then}
use Rattle.std.specs.List.{list_any, list_all, AllByRecursion}
use Rattle.stream_law.specs.declared.graph.Edge.{Edge}
use Rattle.stream_law.specs.declared.graph.Graph.{Graph}
use Rattle.stream_law.specs.declared.turns.Turn.{Turn}
use Rattle.stream_law.specs.Ways.{buffers, edge_of, source_of, sink_of, is_end, ins}
use Rattle.stream_law.specs.Moves.{least}
use Rattle.stream_law.specs.Order.{is_among, is_ready, least_of}
use Rattle.stream_law.specs.Waiting.{same_end, is_found, is_open, waits, leads_from, freed, better, best_of, IsTurn}
use Rattle.stream_law.proofs.Among.{is_among-filter}
use Rattle.stream_law.proofs.OneSolution.{is_end-some}
use Rattle.stream_law.proofs.Feeding.{some-end}
use Rattle.stream_law.proofs.Ordered.{list_all-among}

pub eqb_turned : (x y : ℕ) → (x == y) ≡ (y == x)
eqb_turned x y = same_from_decides (x == y) (y == x) (Decides-eqb x y) (Decides-like (y == x) sym sym (Decides-eqb y x))

-- ---- counts

-- none passes where the count is 0, and the other way round
pub count-any : {X : Type 0} (p : X → Bool) (xs : List X) → list_any p xs ≡ not (count_by p xs == 0)
count-any p [] = refl
count-any {X} p (x ∷ xs) = by_first (p x) (count-any p xs) ∙ ap (λ n. not (n == 0)) (sym (sum_by-cons (λ x. cond (p x) 1 0) x xs))
  where
    by_first : (h : Bool) → list_any p xs ≡ not (count_by p xs == 0) → (h || list_any p xs) ≡ not (cond h 1 0 + count_by p xs == 0)
    by_first true rest = ap not (sym (false_from_ne_true (1 + count_by p xs == 0) (λ e. let same : 1 + count_by p xs ≡ 0 = eqb-true (1 + count_by p xs) 0 e in omega (arith, same))))
    by_first false rest = rest ∙ ap (λ n. not (n == 0)) (let e : count_by p xs ≡ 0 + count_by p xs = omega arith in e)

-- a count is the sum of two, where each element is
count-split : {X : Type 0} (p q r : X → Bool) → ((x : X) → cond (p x) 1 0 ≡ cond (q x) 1 0 + cond (r x) 1 0) → (xs : List X) → count_by p xs ≡ count_by q xs + count_by r xs
count-split p q r split [] = refl
count-split p q r split (x ∷ xs) =
    let first : cond (p x) 1 0 ≡ cond (q x) 1 0 + cond (r x) 1 0 = split x in
    let rest : count_by p xs ≡ count_by q xs + count_by r xs = count-split p q r split xs in
    omega (arith, first, rest, sum_by-cons (λ x. cond (p x) 1 0) x xs, sum_by-cons (λ x. cond (q x) 1 0) x xs, sum_by-cons (λ x. cond (r x) 1 0) x xs)

-- ---- edges that are found

same_end-true : (a b : Option ℕ) → same_end a b ≡ true → a ≡ b
same_end-true None None h = refl
same_end-true (Some a) (Some b) h = ap Some (eqb-true a b h)
same_end-true None (Some b) h = absurd (false≢true h)
same_end-true (Some a) None h = absurd (false≢true h)

same_end-refl : (a : Option ℕ) → same_end a a ≡ true
same_end-refl None = refl
same_end-refl (Some a) = eq-eqb a a refl

-- the edge of a buffer has the ends of each edge that is found by it
found-ends : (g : Graph) (e : Edge) → is_found g.edges e ≡ true → (source_of g e.buffer ≡ e.source) × (sink_of g e.buffer ≡ e.sink)
found-ends g e h = by_edge (edge_of g e.buffer) refl h
  where
    by_edge : (o : Option Edge) → edge_of g e.buffer ≡ o → option_map_or (λ (f : Edge). same_end f.source e.source && same_end f.sink e.sink) o false ≡ true → (source_of g e.buffer ≡ e.source) × (sink_of g e.buffer ≡ e.sink)
    by_edge None k h = absurd (false≢true h)
    by_edge (Some f) k h =
        let parts = and_parts (same_end f.source e.source) (same_end f.sink e.sink) h in
        (ap (option_and_then (λ e. e.source)) k ∙ same_end-true f.source e.source parts.0, ap (option_and_then (λ e. e.sink)) k ∙ same_end-true f.sink e.sink parts.1)

-- some edge passes, and stands among those with a buffer
any-edge : (p : Edge → Bool) (es : List Edge) → list_any p es ≡ true → (e : Edge) × (p e ≡ true) × (is_among (map (λ e. e.buffer) es) e.buffer ≡ true)
any-edge p [] h = absurd (false≢true h)
any-edge p (e ∷ es) h = by_first (or_cases (p e) (list_any p es) h) (any-edge p es)
  where
    by_first : (p e ≡ true) ⊎ (list_any p es ≡ true) → (list_any p es ≡ true → (f : Edge) × (p f ≡ true) × (is_among (map (λ e. e.buffer) es) f.buffer ≡ true)) → (f : Edge) × (p f ≡ true) × (is_among (map (λ e. e.buffer) (e ∷ es)) f.buffer ≡ true)
    by_first (inl k) rest = (e, k, or_left (e.buffer == e.buffer) (is_among (map (λ e. e.buffer) es) e.buffer) (eq-eqb e.buffer e.buffer refl))
    by_first (inr k) rest = let r = rest k in (r.0, r.1, or_right (e.buffer == r.0.buffer) (is_among (map (λ e. e.buffer) es) r.0.buffer) r.2)

-- what is found passes its test, and is one of the edges
found-parts : (p q : Edge → Bool) (es : List Edge) (f : Edge) → find p es ≡ Some f → (p f ≡ true) × (q f ≡ true → list_any q es ≡ true)
found-parts p q [] f h = absurd (none_some h)
  where
    none_some : {t : Edge} → None ≡ Some t → ⊥
    none_some h = cc
found-parts p q (e ∷ es) f h = by_test (p e) refl h (found-parts p q es f)
  where
    by_test : (k : Bool) → p e ≡ k → cond k (Some e) (find p es) ≡ Some f → (find p es ≡ Some f → (p f ≡ true) × (q f ≡ true → list_any q es ≡ true)) → (p f ≡ true) × (q f ≡ true → (q e || list_any q es) ≡ true)
    by_test true k h rest = let same : e ≡ f = cc in (ap p (sym same) ∙ k, λ passes. or_left (q e) (list_any q es) (ap q same ∙ passes))
    by_test false k h rest = let r = rest h in (r.0, λ passes. or_right (q e) (list_any q es) (r.1 passes))

-- a test that not all pass fails at one
pub fails_at : (p : ℕ → Bool) (xs : List ℕ) → list_all p xs ≡ false → (x : ℕ) × (is_among xs x ≡ true) × (p x ≡ false)
fails_at p [] e = absurd (true≢false e)
fails_at p (y ∷ ys) e = by_first (p y) refl e (fails_at p ys)
  where
    by_first : (b : Bool) → p y ≡ b → (b && list_all p ys) ≡ false → (list_all p ys ≡ false → (x : ℕ) × (is_among ys x ≡ true) × (p x ≡ false)) → (x : ℕ) × (is_among (y ∷ ys) x ≡ true) × (p x ≡ false)
    by_first true h e rest = let r = rest e in (r.0, or_right (y == r.0) (is_among ys r.0) r.1, r.2)
    by_first false h e rest = (y, or_left (y == y) (is_among ys y) (eq-eqb y y refl), h)

-- ---- ready is to wait for nothing

module _ (g : Graph) (placed : List ℕ) (c : ℕ) where
  -- an edge for which c waits
  abbrev waiting : Edge → Bool
  waiting e = is_end e.sink c && (is_found g.edges e && is_open placed e.source)

  open-some : (end : Option ℕ) → is_open placed end ≡ true → (a : ℕ) × (end ≡ Some a) × (is_among placed a ≡ false)
  open-some None h = absurd (false≢true h)
  open-some (Some a) h = (a, refl, not-true (is_among placed a) h)

  -- a component that is not ready has an edge into it from one that is not placed
  pub unready-source : is_ready g placed c ≡ false → (b : ℕ) × (a : ℕ) × (source_of g b ≡ Some a) × (sink_of g b ≡ Some c) × (is_among placed a ≡ false)
  unready-source h = at (fails_at (λ b. option_map_or (is_among placed) (source_of g b) true) (ins g c) h)
    where
      at : (b : ℕ) × (is_among (ins g c) b ≡ true) × (option_map_or (is_among placed) (source_of g b) true ≡ false) → (b : ℕ) × (a : ℕ) × (source_of g b ≡ Some a) × (sink_of g b ≡ Some c) × (is_among placed a ≡ false)
      at (b, there, fails) =
          let parts = and_parts (is_end (sink_of g b) c) (is_among (buffers g) b) (sym (is_among-filter (λ b. is_end (sink_of g b) c) (buffers g) b) ∙ there) in
          by_source (source_of g b) refl fails (is_end-some (sink_of g b) c parts.0)
        where
          by_source : (o : Option ℕ) → source_of g b ≡ o → option_map_or (is_among placed) o true ≡ false → sink_of g b ≡ Some c → (b : ℕ) × (a : ℕ) × (source_of g b ≡ Some a) × (sink_of g b ≡ Some c) × (is_among placed a ≡ false)
          by_source None e fails sink = absurd (true≢false fails)
          by_source (Some a) e fails sink = (b, a, e, sink, fails)

  waits-unready : list_any waiting g.edges ≡ true → is_ready g placed c ≡ false
  waits-unready h = at (any-edge waiting g.edges h)
    where
      at : (e : Edge) × (waiting e ≡ true) × (is_among (buffers g) e.buffer ≡ true) → is_ready g placed c ≡ false
      at (e, passes, there) =
          let outer = and_parts (is_end e.sink c) (is_found g.edges e && is_open placed e.source) passes in
          let inner = and_parts (is_found g.edges e) (is_open placed e.source) outer.1 in
          let ends = found-ends g e inner.0 in
          let source = open-some e.source inner.1 in
          false_from_ne_true (is_ready g placed c) (λ ready. true≢false (
          sym (list_all-among (λ b. option_map_or (is_among placed) (source_of g b) true) (ins g c) e.buffer ready
          (is_among-filter (λ b. is_end (sink_of g b) c) (buffers g) e.buffer ∙ and_from (is_end (sink_of g e.buffer) c) (is_among (buffers g) e.buffer) (ap (λ o. is_end o c) ends.1 ∙ outer.0) there))
          ∙ ap (λ o. option_map_or (is_among placed) o true) (ends.0 ∙ source.1) ∙ source.2
          ))

  unready-waits : is_ready g placed c ≡ false → list_any waiting g.edges ≡ true
  unready-waits h = at (unready-source h)
    where
      at : (b : ℕ) × (a : ℕ) × (source_of g b ≡ Some a) × (sink_of g b ≡ Some c) × (is_among placed a ≡ false) → list_any waiting g.edges ≡ true
      at (b, a, source, sink, gone) = by_edge (edge_of g b) refl
        where
          nothing : {X : Type 0} {x : X} → None ≡ Some x → ⊥
          nothing h = cc

          by_edge : (o : Option Edge) → edge_of g b ≡ o → list_any waiting g.edges ≡ true
          by_edge None e = absurd (nothing (sym (ap (option_and_then (λ e. e.source)) e) ∙ source))
          by_edge (Some f) e =
              let parts = found-parts (λ e. e.buffer == b) waiting g.edges f e in
              let named : f.buffer ≡ b = eqb-true f.buffer b parts.0 in
              let from : f.source ≡ Some a = sym (ap (option_and_then (λ e. e.source)) e) ∙ source in
              let to : f.sink ≡ Some c = sym (ap (option_and_then (λ e. e.sink)) e) ∙ sink in
              parts.1 (and_from (is_end f.sink c) (is_found g.edges f && is_open placed f.source) (some-end f.sink c to)
              (and_from (is_found g.edges f) (is_open placed f.source)
              (ap (λ b. option_map_or (λ (e : Edge). same_end e.source f.source && same_end e.sink f.sink) (edge_of g b) false) named
              ∙ ap (λ o. option_map_or (λ (e : Edge). same_end e.source f.source && same_end e.sink f.sink) o false) e
              ∙ and_from (same_end f.source f.source) (same_end f.sink f.sink) (same_end-refl f.source) (same_end-refl f.sink))
              (ap (is_open placed) from ∙ not_from_false (is_among placed a) gone)))

  pub waits-ready : (waits g.edges placed c == 0) ≡ is_ready g placed c
  waits-ready = by_ready (is_ready g placed c) refl
    where
      by_ready : (h : Bool) → is_ready g placed c ≡ h → (waits g.edges placed c == 0) ≡ h
      by_ready true h = not-false (waits g.edges placed c == 0) (sym (count-any waiting g.edges) ∙ false_from_ne_true (list_any waiting g.edges) (λ any. true≢false (sym h ∙ waits-unready any)))
      by_ready false h = not-true (waits g.edges placed c == 0) (sym (count-any waiting g.edges) ∙ unready-waits h)

-- ---- one component more is placed

-- what a component waits for once c is placed: less the edges from c
pub waits-placed : (edges : List Edge) (placed : List ℕ) (c x : ℕ) → is_among placed c ≡ false → waits edges placed x - count_by (λ e. leads_from edges c e && is_end e.sink x) edges ≡ waits edges (c ∷ placed) x
waits-placed edges placed c x gone =
    let split = count-split (λ e. is_end e.sink x && (is_found edges e && is_open placed e.source)) (λ e. leads_from edges c e && is_end e.sink x) (λ e. is_end e.sink x && (is_found edges e && is_open (c ∷ placed) e.source)) each edges in
    omega (arith, split)
  where
    table : (s f h m : Bool) → (h ≡ true → m ≡ false) → cond (s && (f && not m)) 1 0 ≡ cond ((h && f) && s) 1 0 + cond (s && (f && not (h || m))) 1 0
    table true true true true k = absurd (true≢false (k refl))
    table true true true false k = refl
    table true true false true k = refl
    table true true false false k = refl
    table true false true m k = refl
    table true false false m k = refl
    table false true true m k = refl
    table false true false m k = refl
    table false false true m k = refl
    table false false false m k = refl

    none : (s f : Bool) → cond (s && (f && false)) 1 0 ≡ cond ((false && f) && s) 1 0 + cond (s && (f && false)) 1 0
    none true true = refl
    none true false = refl
    none false f = refl

    by_source : (e : Edge) (o : Option ℕ) → cond (is_end e.sink x && (is_found edges e && is_open placed o)) 1 0 ≡ cond ((is_end o c && is_found edges e) && is_end e.sink x) 1 0 + cond (is_end e.sink x && (is_found edges e && is_open (c ∷ placed) o)) 1 0
    by_source e None = none (is_end e.sink x) (is_found edges e)
    by_source e (Some a) =
        table (is_end e.sink x) (is_found edges e) (a == c) (is_among placed a) (λ same. ap (is_among placed) (eqb-true a c same) ∙ gone)
        ∙ ap (λ h. cond (((a == c) && is_found edges e) && is_end e.sink x) 1 0 + cond (is_end e.sink x && (is_found edges e && not (h || is_among placed a))) 1 0) (eqb_turned a c)

    each : (e : Edge) → cond (is_end e.sink x && (is_found edges e && is_open placed e.source)) 1 0 ≡ cond (leads_from edges c e && is_end e.sink x) 1 0 + cond (is_end e.sink x && (is_found edges e && is_open (c ∷ placed) e.source)) 1 0
    each e = by_source e e.source

-- a turn stays that of its component
pub IsTurn-freed : (ids : List ℕ) (edges : List Edge) (placed : List ℕ) (c : ℕ) (t : Turn) → is_among placed c ≡ false → IsTurn ids edges placed t → IsTurn ids edges (c ∷ placed) (freed edges c edges t)
IsTurn-freed ids edges placed c t gone turn = record { within = turn.within; there = turn.there; waiting = ap (λ w. w - count_by (λ e. leads_from edges c e && is_end e.sink t.id) edges) turn.waiting ∙ waits-placed edges placed c t.id gone }

-- ---- the best turn

least-min : (m n : ℕ) (ns : List ℕ) → least (min m n) ns ≡ min n (least m ns)
least-min m n [] = omega arith
least-min m n (k ∷ ks) = let rest : least (min m n) ks ≡ min n (least m ks) = least-min m n ks in omega (arith, rest)

-- the id of a turn that may be there, before other ids
abbrev pub id_before : Option Turn → List ℕ → List ℕ
id_before None ids = ids
id_before (Some b) ids = b.id ∷ ids

-- the id of the best turn is the least of those that wait for nothing
best-id : (best : Option Turn) (ts : List Turn) → option_map (λ t. t.id) (best_of best ts) ≡ least_of (id_before best (map (λ t. t.id) (filter (λ t. t.waits == 0) ts)))
best-id None [] = refl
best-id (Some b) [] = refl
best-id best (t ∷ ts) = by_wait best (t.waits == 0) (λ best. best-id best ts)
  where
    ids : List ℕ
    ids = map (λ t. t.id) (filter (λ t. t.waits == 0) ts)

    lesser : (b : Turn) (h : Bool) → nat_le b.id t.id ≡ h → least_of (id_before (Some (cond h b t)) (map (λ t. t.id) (filter (λ t. t.waits == 0) ts))) ≡ Some (min t.id (least b.id (map (λ t. t.id) (filter (λ t. t.waits == 0) ts))))
    lesser b true h = let low : b.id ≤ t.id = leb-true b.id t.id h in let e : b.id ≡ min b.id t.id = omega (arith, low) in ap Some (ap (λ n. least n (map (λ t. t.id) (filter (λ t. t.waits == 0) ts))) e ∙ least-min b.id t.id (map (λ t. t.id) (filter (λ t. t.waits == 0) ts)))
    lesser b false h = let low : t.id < b.id = leb-false b.id t.id h in let e : t.id ≡ min b.id t.id = omega (arith, low) in ap Some (ap (λ n. least n (map (λ t. t.id) (filter (λ t. t.waits == 0) ts))) e ∙ least-min b.id t.id (map (λ t. t.id) (filter (λ t. t.waits == 0) ts)))

    by_wait : (best : Option Turn) (h : Bool) → ((best : Option Turn) → option_map (λ t. t.id) (best_of best ts) ≡ least_of (id_before best (map (λ t. t.id) (filter (λ t. t.waits == 0) ts)))) → option_map (λ t. t.id) (best_of (cond h (Some (option_map_or (λ (b : Turn). cond (nat_le b.id t.id) b t) best t)) best) ts) ≡ least_of (id_before best (map (λ t. t.id) (cond h (t ∷ filter (λ t. t.waits == 0) ts) (filter (λ t. t.waits == 0) ts))))
    by_wait None true rest = rest (Some t)
    by_wait (Some b) true rest = rest (Some (cond (nat_le b.id t.id) b t)) ∙ lesser b (nat_le b.id t.id) refl
    by_wait None false rest = rest None
    by_wait (Some b) false rest = rest (Some b)

pub best_of-id : (ts : List Turn) → option_map (λ t. t.id) (best_of None ts) ≡ least_of (map (λ t. t.id) (filter (λ t. t.waits == 0) ts))
best_of-id ts = best-id None ts

-- and it is one of the turns
pub best_of-one : (P : Turn → Type 0) (best : Option Turn) (ts : List Turn) → IfSome best P → AllByRecursion P ts → IfSome (best_of best ts) P
best_of-one P best [] have all = have
best_of-one P best (t ∷ ts) have all = best_of-one P (better best t) ts (by_wait best (t.waits == 0) have) all.1
  where
    either : (b : Turn) (h : Bool) → P b → P (cond h b t)
    either b true k = k
    either b false k = all.0

    by_wait : (best : Option Turn) (h : Bool) → IfSome best P → IfSome (cond h (Some (option_map_or (λ (b : Turn). cond (nat_le b.id t.id) b t) best t)) best) P
    by_wait None true have = all.0
    by_wait (Some b) true have = either b (nat_le b.id t.id) have
    by_wait None false have = have
    by_wait (Some b) false have = have

-- the ready components of those that are left
pub ready-ids : (g : Graph) (ids placed : List ℕ) (ts : List Turn) → AllByRecursion (IsTurn ids g.edges placed) ts → filter (is_ready g placed) (map (λ t. t.id) ts) ≡ map (λ t. t.id) (filter (λ t. t.waits == 0) ts)
ready-ids g ids placed [] all = refl
ready-ids g ids placed (t ∷ ts) all =
    ap (λ h. cond h (t.id ∷ filter (is_ready g placed) (map (λ t. t.id) ts)) (filter (is_ready g placed) (map (λ t. t.id) ts))) (sym (ap (λ w. w == 0) all.0.waiting ∙ waits-ready g placed t.id))
    ∙ by_wait (t.waits == 0) (ready-ids g ids placed ts all.1)
  where
    by_wait : (h : Bool) → filter (is_ready g placed) (map (λ t. t.id) ts) ≡ map (λ t. t.id) (filter (λ t. t.waits == 0) ts) → cond h (t.id ∷ filter (is_ready g placed) (map (λ t. t.id) ts)) (filter (is_ready g placed) (map (λ t. t.id) ts)) ≡ map (λ t. t.id) (cond h (t ∷ filter (λ t. t.waits == 0) ts) (filter (λ t. t.waits == 0) ts))
    by_wait true rest = ap (λ l. t.id ∷ l) rest
    by_wait false rest = rest
