-- What is placed so far is a front of the order, and the turns are those of what is left.
use Rattle.std.proofs.Common.{◌≡◌, refl, sym, ap, subst, ◌∙◌, ℕ, zero, suc, ◌<◌, ◌≤◌, ◌-◌, ◌+◌, List, [], ◌∷◌, ◌++◌, map, filter, reverse, length, length-append, slice_index, All, Bool, true, false, cond, not, ◌||◌, ◌==◌, Some, None, IfSome, arith, append_assoc, append-nil}
use Rattle.std.proofs.lemmas.Bool.{false≢true, true≢false, and_parts, and_from, not-true, not_from_false, or_left, eq-eqb, false_from_ne_true}
use Rattle.std.proofs.lemmas.List.{length-map, map-append, reverse-append}
use Rattle.std.proofs.lemmas.List.Elements.{All-push, All-nil}
use Rattle.std.proofs.lemmas.List.Folds.{list_any-append}
use Rattle.std.specs.Option.{option_map, option_map_or}
use Rattle.std.specs.List.{AllByRecursion}
use Rattle.stream_law.specs.declared.graph.Comp.{Comp}
use Rattle.stream_law.specs.declared.graph.Edge.{Edge}
use Rattle.stream_law.specs.declared.graph.Graph.{Graph}
use Rattle.stream_law.specs.declared.turns.Turn.{Turn}
use Rattle.stream_law.specs.Ways.{components}
use Rattle.stream_law.specs.Moves.{least}
use Rattle.stream_law.specs.Order.{is_among, is_ready, least_of, without, placed_from, order}
use Rattle.stream_law.specs.Walks.{HasAll, HasCycle, HasEnds}
use Rattle.stream_law.specs.Waiting.{turns_from, freed, best_of, IsTurn}
use Rattle.stream_law.proofs.Among.{is_among-filter}
use Rattle.stream_law.proofs.Ordered.{least-among}
use Rattle.stream_law.proofs.Waits.{eqb_turned, best_of-id, best_of-one, ready-ids, IsTurn-freed}
use Rattle.stream_law.proofs.Cycles.{has-cycle, IsStuck}

-- the ids of turns
abbrev pub ids_of : List Turn → List ℕ
ids_of ts = map (λ t. t.id) ts

-- the ids at places, and the same with the last in front
abbrev pub ids_at : Graph → List ℕ → List ℕ
ids_at g places = map (slice_index (components g)) places

abbrev pub placed_at : Graph → List ℕ → List ℕ
placed_at g places = reverse (ids_at g places)

pub record Taken (g : Graph) (places : List ℕ) (left : List Turn) : Type 0 where
  pub rest : ids_at g places ++ placed_from g (length (components g) - length places) (placed_at g places) (ids_of left) ≡ order g
  pub ids : ids_of left ≡ filter (λ x. not (is_among (placed_at g places) x)) (components g)
  pub turns : AllByRecursion (IsTurn (components g) g.edges (placed_at g places)) left
  pub within : All (λ k. k < length (components g)) places
  pub few : length places + length left ≤ length (components g)

-- ---- the beginning

pub all-pass : (xs : List ℕ) → xs ≡ filter (λ x. true) xs
all-pass [] = refl
all-pass (x ∷ xs) = ap (λ l. x ∷ l) (all-pass xs)

ids-turns_from : (edges : List Edge) (k : ℕ) (xs : List Comp) → ids_of (turns_from edges k xs) ≡ map (λ x. x.id) xs
ids-turns_from edges k [] = refl
ids-turns_from edges k (x ∷ xs) = ap (λ l. x.id ∷ l) (ids-turns_from edges (k + 1) xs)

slice_index-behind : (front : List ℕ) (x : ℕ) (back : List ℕ) → slice_index (front ++ x ∷ back) (length front) ≡ x
slice_index-behind [] x back = refl
slice_index-behind (y ∷ ys) x back = slice_index-behind ys x back

-- each turn is that of its component
turns_from-each : (edges : List Edge) (front : List ℕ) (xs : List Comp) → AllByRecursion (IsTurn (front ++ map (λ x. x.id) xs) edges []) (turns_from edges (length front) xs)
turns_from-each edges front [] = tt
turns_from-each edges front (x ∷ xs) = (
  record {
    within = omega (arith, length-append front (x.id ∷ map (λ x. x.id) xs));
    there = slice_index-behind front x.id (map (λ x. x.id) xs);
    waiting = refl;
  },
  subst (λ (p : List ℕ × ℕ). AllByRecursion (IsTurn p.0 edges []) (turns_from edges p.1 xs)) (λ i. (append_assoc front (x.id ∷ []) (map (λ x. x.id) xs) i, one i)) (turns_from-each edges (front ++ x.id ∷ []) xs),
)
  where
    one : length (front ++ x.id ∷ []) ≡ length front + 1
    one = omega (arith, length-append front (x.id ∷ []))

pub Taken-none : (g : Graph) → Taken g [] (turns_from g.edges 0 g.comps)
unfolding order
Taken-none g = record {
  rest = ap (λ (p : ℕ × List ℕ). placed_from g p.0 [] p.1) (λ i. ((let z : length (components g) - 0 ≡ length (components g) = omega arith in z) i, ids-turns_from g.edges 0 g.comps i));
  ids = ids-turns_from g.edges 0 g.comps ∙ all-pass (components g);
  turns = turns_from-each g.edges [] g.comps;
  within = All-nil (λ k. k < length (components g));
  few = let same : length (ids_of (turns_from g.edges 0 g.comps)) ≡ length (components g) = ap length (ids-turns_from g.edges 0 g.comps) in omega (arith, same, length-map (turns_from g.edges 0 g.comps) (λ (t : Turn). t.id));
}

-- what is among the reverse of a list is among it
is_among-reverse : (xs : List ℕ) (x : ℕ) → is_among (reverse xs) x ≡ is_among xs x
is_among-reverse [] x = refl
is_among-reverse (y ∷ ys) x =
    ap (λ l. is_among l x) (reverse-append (y ∷ []) ys)
    ∙ list_any-append (λ (id : ℕ). id == x) (reverse ys) (y ∷ [])
    ∙ ap (λ h. h || ((y == x) || false)) (is_among-reverse ys x)
    ∙ swapped (is_among ys x) (y == x)
  where
    swapped : (a b : Bool) → (a || (b || false)) ≡ (b || a)
    swapped true true = refl
    swapped true false = refl
    swapped false true = refl
    swapped false false = refl

-- ---- one component more

ids-placed : (edges : List Edge) (c : ℕ) (ts : List Turn) → ids_of (map (freed edges c edges) (filter (λ t. not (t.id == c)) ts)) ≡ without c (ids_of ts)
ids-placed edges c [] = refl
ids-placed edges c (t ∷ ts) = by_test (not (t.id == c)) (ids-placed edges c ts)
  where
    by_test : (h : Bool) → ids_of (map (freed edges c edges) (filter (λ t. not (t.id == c)) ts)) ≡ without c (ids_of ts) → ids_of (map (freed edges c edges) (cond h (t ∷ filter (λ t. not (t.id == c)) ts) (filter (λ t. not (t.id == c)) ts))) ≡ cond h (t.id ∷ without c (ids_of ts)) (without c (ids_of ts))
    by_test true rest = ap (λ l. t.id ∷ l) rest
    by_test false rest = rest

pub without-placed : (c : ℕ) (placed ids : List ℕ) → without c (filter (λ x. not (is_among placed x)) ids) ≡ filter (λ x. not (is_among (c ∷ placed) x)) ids
without-placed c placed [] = refl
without-placed c placed (x ∷ xs) =
    by_test (is_among placed x) (x == c) refl (without-placed c placed xs)
    ∙ ap (λ k. cond (not (k || is_among placed x)) (x ∷ filter (λ x. not (is_among (c ∷ placed) x)) xs) (filter (λ x. not (is_among (c ∷ placed) x)) xs)) (eqb_turned x c)
  where
    by_test : (m h : Bool) → (x == c) ≡ h → without c (filter (λ x. not (is_among placed x)) xs) ≡ filter (λ x. not (is_among (c ∷ placed) x)) xs → without c (cond (not m) (x ∷ filter (λ x. not (is_among placed x)) xs) (filter (λ x. not (is_among placed x)) xs)) ≡ cond (not (h || m)) (x ∷ filter (λ x. not (is_among (c ∷ placed) x)) xs) (filter (λ x. not (is_among (c ∷ placed) x)) xs)
    by_test true true e rest = rest
    by_test true false e rest = rest
    by_test false true e rest = ap (λ k. cond (not k) (x ∷ without c (filter (λ x. not (is_among placed x)) xs)) (without c (filter (λ x. not (is_among placed x)) xs))) e ∙ rest
    by_test false false e rest = ap (λ k. cond (not k) (x ∷ without c (filter (λ x. not (is_among placed x)) xs)) (without c (filter (λ x. not (is_among placed x)) xs))) e ∙ ap (λ l. x ∷ l) rest

turns-placed : (ids : List ℕ) (edges : List Edge) (placed : List ℕ) (c : ℕ) (ts : List Turn) → is_among placed c ≡ false → AllByRecursion (IsTurn ids edges placed) ts → AllByRecursion (IsTurn ids edges (c ∷ placed)) (map (freed edges c edges) (filter (λ t. not (t.id == c)) ts))
turns-placed ids edges placed c [] gone all = tt
turns-placed ids edges placed c (t ∷ ts) gone all = by_test (not (t.id == c)) (turns-placed ids edges placed c ts gone all.1)
  where
    by_test : (h : Bool) → AllByRecursion (IsTurn ids edges (c ∷ placed)) (map (freed edges c edges) (filter (λ t. not (t.id == c)) ts)) → AllByRecursion (IsTurn ids edges (c ∷ placed)) (map (freed edges c edges) (cond h (t ∷ filter (λ t. not (t.id == c)) ts) (filter (λ t. not (t.id == c)) ts)))
    by_test true rest = (IsTurn-freed ids edges placed c t gone all.0, rest)
    by_test false rest = rest

length-without : (c : ℕ) (ts : List Turn) → length (filter (λ t. not (t.id == c)) ts) ≤ length ts
length-without c [] = omega arith
length-without c (t ∷ ts) = by_test (not (t.id == c)) (length-without c ts)
  where
    by_test : (h : Bool) → length (filter (λ t. not (t.id == c)) ts) ≤ length ts → length (cond h (t ∷ filter (λ t. not (t.id == c)) ts) (filter (λ t. not (t.id == c)) ts)) ≤ suc (length ts)
    by_test true low = omega (arith, low)
    by_test false low = omega (arith, low)

-- a turn that is let go leaves fewer
fewer : (c : ℕ) (ts : List Turn) → is_among (ids_of ts) c ≡ true → length (filter (λ t. not (t.id == c)) ts) < length ts
fewer c [] there = absurd (false≢true there)
fewer c (t ∷ ts) there = by_test (t.id == c) there (fewer c ts)
  where
    by_test : (h : Bool) → (h || is_among (ids_of ts) c) ≡ true → (is_among (ids_of ts) c ≡ true → length (filter (λ t. not (t.id == c)) ts) < length ts) → length (cond (not h) (t ∷ filter (λ t. not (t.id == c)) ts) (filter (λ t. not (t.id == c)) ts)) < suc (length ts)
    by_test true k rest = let low = length-without c ts in omega (arith, low)
    by_test false k rest = let low = rest k in omega (arith, low)

least_of-among : (xs : List ℕ) (m : ℕ) → least_of xs ≡ Some m → is_among xs m ≡ true
least_of-among [] m e = cc
least_of-among (x ∷ xs) m e = let same : least x xs ≡ m = cc in ap (is_among (x ∷ xs)) (sym same) ∙ least-among x xs

least_of-none : (xs : List ℕ) → least_of xs ≡ None → xs ≡ []
least_of-none [] e = refl
least_of-none (x ∷ xs) e = cc

module _ (g : Graph) (places : List ℕ) (left : List Turn) (taken : Taken g places left) where
  abbrev placed : List ℕ
  placed = placed_at g places

  -- what is left is not placed, and is a component
  left-parts : (x : ℕ) → is_among (ids_of left) x ≡ true → (is_among placed x ≡ false) × (is_among (components g) x ≡ true)
  left-parts x h =
      let parts = and_parts (not (is_among placed x)) (is_among (components g) x) (sym (is_among-filter (λ x. not (is_among placed x)) (components g) x) ∙ ap (λ l. is_among l x) (sym taken.ids) ∙ h) in
      (not-true (is_among placed x) parts.0, parts.1)

  module _ (turn : Turn) (e : best_of None left ≡ Some turn) where
    is_turn : IsTurn (components g) g.edges placed turn
    is_turn = subst (λ o. IfSome o (IsTurn (components g) g.edges placed)) e (best_of-one (IsTurn (components g) g.edges placed) None left tt taken.turns)

    next-id : least_of (filter (is_ready g placed) (ids_of left)) ≡ Some turn.id
    next-id = ap least_of (ready-ids g (components g) placed left taken.turns) ∙ sym (best_of-id left) ∙ ap (option_map (λ t. t.id)) e

    in_left : is_among (ids_of left) turn.id ≡ true
    in_left = (and_parts (is_ready g placed turn.id) (is_among (ids_of left) turn.id) (sym (is_among-filter (is_ready g placed) (ids_of left) turn.id) ∙ least_of-among (filter (is_ready g placed) (ids_of left)) turn.id next-id)).1

    apart : is_among placed turn.id ≡ false
    apart = (left-parts turn.id in_left).0

    ids-more : ids_at g (places ++ turn.place ∷ []) ≡ ids_at g places ++ turn.id ∷ []
    ids-more = map-append (slice_index (components g)) places (turn.place ∷ []) ∙ ap (λ id. ids_at g places ++ id ∷ []) is_turn.there

    placed-more : placed_at g (places ++ turn.place ∷ []) ≡ turn.id ∷ placed
    placed-more = ap reverse ids-more ∙ reverse-append (ids_at g places) (turn.id ∷ [])

    abbrev left_after : List Turn
    left_after = map (freed g.edges turn.id g.edges) (filter (λ t. not (t.id == turn.id)) left)

    pub fewer-left : length left_after < length left
    fewer-left = let low = fewer turn.id left in_left in omega (arith, low, length-map (filter (λ t. not (t.id == turn.id)) left) (freed g.edges turn.id g.edges))

    pub room : length places < length (components g)
    room = omega (arith, taken.few, fewer-left)

    pub Taken-more : Taken g (places ++ turn.place ∷ []) left_after
    Taken-more = record {
      rest =
          ap (λ (p : List ℕ × (List ℕ × List ℕ)). p.0 ++ placed_from g fuel p.1.0 p.1.1) (λ i. (ids-more i, (placed-more i, ids-placed g.edges turn.id left i)))
          ∙ append_assoc (ids_at g places) (turn.id ∷ []) (placed_from g fuel (turn.id ∷ placed) (without turn.id (ids_of left)))
          ∙ ap (λ l. ids_at g places ++ l) (sym (ap (λ o. option_map_or (λ c. c ∷ placed_from g fuel (c ∷ placed) (without c (ids_of left))) o []) next-id))
          ∙ ap (λ n. ids_at g places ++ placed_from g n placed (ids_of left)) one_less
          ∙ taken.rest;
      ids = ids-placed g.edges turn.id left ∙ ap (without turn.id) taken.ids ∙ without-placed turn.id placed (components g) ∙ ap (λ p. filter (λ x. not (is_among p x)) (components g)) (sym placed-more);
      turns = subst (λ p. AllByRecursion (IsTurn (components g) g.edges p) left_after) (sym placed-more) (turns-placed (components g) g.edges placed turn.id left apart taken.turns);
      within = All-push (λ k. k < length (components g)) places turn.place taken.within is_turn.within;
      few = omega (arith, taken.few, fewer-left, length-append places (turn.place ∷ []));
    }
      where
        fuel : ℕ
        fuel = length (components g) - length (places ++ turn.place ∷ [])

        one_less : suc fuel ≡ length (components g) - length places
        one_less = omega (arith, room, length-append places (turn.place ∷ []))

  -- ---- the end

  module _ (e : best_of None left ≡ None) where
    none-ready : filter (is_ready g placed) (ids_of left) ≡ []
    none-ready = least_of-none (filter (is_ready g placed) (ids_of left)) (ap least_of (ready-ids g (components g) placed left taken.turns) ∙ sym (best_of-id left) ∙ ap (option_map (λ t. t.id)) e)

    -- what is placed is the order
    pub Taken-all : ids_at g places ≡ order g
    Taken-all = sym (append-nil (ids_at g places)) ∙ ap (λ l. ids_at g places ++ l) (sym (nothing (length (components g) - length places))) ∙ taken.rest
      where
        nothing : (n : ℕ) → placed_from g n placed (ids_of left) ≡ []
        nothing zero = refl
        nothing (suc n) = ap (λ l. option_map_or (λ c. c ∷ placed_from g n (c ∷ placed) (without c (ids_of left))) (least_of l) []) none-ready

    stuck : IsStuck g placed
    stuck c there gone = false_from_ne_true (is_ready g placed c) (λ ready.
        true≢false (sym (
        is_among-filter (is_ready g placed) (ids_of left) c
        ∙ and_from (is_ready g placed c) (is_among (ids_of left) c) ready (ap (λ l. is_among l c) taken.ids ∙ is_among-filter (λ x. not (is_among placed x)) (components g) c ∙ and_from (not (is_among placed c)) (is_among (components g) c) (not_from_false (is_among placed c) gone) there)
        ) ∙ ap (λ l. is_among l c) none-ready))

    -- where something is left there is a cycle
    pub Taken-cycle : HasEnds g → (x : ℕ) → is_among (ids_of left) x ≡ true → HasCycle g
    Taken-cycle ends x there = let parts = left-parts x there in has-cycle g placed x ends stuck parts.1 parts.0

    -- and where nothing is left each component has its place
    pub Taken-whole : left ≡ [] → HasAll g (order g)
    Taken-whole none c there = ap (λ l. is_among l c) (sym Taken-all) ∙ sym (is_among-reverse (ids_at g places) c) ∙ by_placed (is_among placed c) refl
      where
        by_placed : (h : Bool) → is_among placed c ≡ h → h ≡ true
        by_placed true h = refl
        by_placed false h = absurd (false≢true (
            ap (λ l. is_among (ids_of l) c) (sym none) ∙ ap (λ l. is_among l c) taken.ids ∙ is_among-filter (λ x. not (is_among placed x)) (components g) c
            ∙ and_from (not (is_among placed c)) (is_among (components g) c) (not_from_false (is_among placed c) h) there))

-- turns of which there is none, or one
pub some-left : (ts : List Turn) → (length ts ≡ 0 → ⊥) → (x : ℕ) × (is_among (ids_of ts) x ≡ true)
some-left [] none = absurd (none refl)
some-left (t ∷ ts) none = (t.id, or_left (t.id == t.id) (is_among (ids_of ts) t.id) (eq-eqb t.id t.id refl))

pub none-left : (ts : List Turn) → length ts ≡ 0 → ts ≡ []
none-left [] e = refl
none-left (t ∷ ts) e = absurd (omega (arith, e))
