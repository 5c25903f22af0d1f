-- The order of moves puts each component after its sources, and its places are ranks.
use Rattle.std.proofs.Common.{◌≡◌, refl, sym, ap, ◌∙◌, ℕ, zero, suc, ◌<◌, ◌≤◌, min, List, [], ◌∷◌, length, filter, Some, Bool, true, false, cond, not, inl, inr, ◌⊎◌, ◌==◌, ◌&&◌, ◌||◌, arith}
use Rattle.std.proofs.lemmas.Bool.{false≢true, true≢false, eqb-true, eq-eqb, and_parts, or_left, or_right, or_cases, not-true, false_from_ne_true, cases_order}
use Rattle.std.specs.Option.{option_map_or}
use Rattle.std.specs.List.{list_all}
use Rattle.stream_law.specs.declared.graph.Graph.{Graph}
use Rattle.stream_law.specs.Ways.{components, buffers, source_of, sink_of, is_end, ins}
use Rattle.stream_law.specs.Moves.{least}
use Rattle.stream_law.specs.StreamLaws.{IsRanked}
use Rattle.stream_law.specs.Order.{is_among, is_ready, least_of, without, placed_from, order}
use Rattle.stream_law.proofs.Among.{is_among-filter}
use Rattle.stream_law.proofs.Feeding.{AtTurn, Proceeds, some-end, sink_of-there}

-- the least of a list is in it
pub least-among : (x : ℕ) (xs : List ℕ) → is_among (x ∷ xs) (least x xs) ≡ true
least-among x [] = or_left (x == x) false (eq-eqb x x refl)
least-among x (y ∷ ys) = by_order (cases_order y (least x ys)) (least-among x ys)
  where
    front : min y (least x ys) ≡ y → is_among (x ∷ y ∷ ys) (min y (least x ys)) ≡ true
    front m = ap (is_among (x ∷ y ∷ ys)) m ∙ or_right (x == y) (is_among (y ∷ ys) y) (or_left (y == y) (is_among ys y) (eq-eqb y y refl))

    behind : (p q r : Bool) → (p || r) ≡ true → (p || (q || r)) ≡ true
    behind true q r h = refl
    behind false q r h = or_right q r h

    by_order : (y ≡ least x ys) ⊎ ((y < least x ys) ⊎ (least x ys < y)) → is_among (x ∷ ys) (least x ys) ≡ true → is_among (x ∷ y ∷ ys) (min y (least x ys)) ≡ true
    by_order (inl h) there = front (let m : min y (least x ys) ≡ y = omega arith in m)
    by_order (inr (inl h)) there = front (let m : min y (least x ys) ≡ y = omega arith in m)
    by_order (inr (inr h)) there = let m : min y (least x ys) ≡ least x ys = omega arith in ap (is_among (x ∷ y ∷ ys)) m ∙ behind (x == least x ys) (y == least x ys) (is_among ys (least x ys)) there

-- what stands in each place of a list passes a test that all pass
pub list_all-among : (p : ℕ → Bool) (xs : List ℕ) (x : ℕ) → list_all p xs ≡ true → is_among xs x ≡ true → p x ≡ true
list_all-among p [] x all there = absurd (false≢true there)
list_all-among p (y ∷ ys) x all there = let parts = and_parts (p y) (list_all p ys) all in by_place (or_cases (y == x) (is_among ys x) there) parts (list_all-among p ys x parts.1)
  where
    by_place : ((y == x) ≡ true) ⊎ (is_among ys x ≡ true) → (p y ≡ true) × (list_all p ys ≡ true) → (is_among ys x ≡ true → p x ≡ true) → p x ≡ true
    by_place (inl h) parts rest = ap p (sym (eqb-true y x h)) ∙ parts.0
    by_place (inr h) parts rest = rest h

-- what is placed has its sources placed
pub record Closed (g : Graph) (placed : List ℕ) : Type 0 where
  pub sources : (b a d : ℕ) → sink_of g b ≡ Some d → source_of g b ≡ Some a → is_among placed d ≡ true → is_among placed a ≡ true

-- a ready component that is not placed is at its turn
ready-turn : (g : Graph) (placed : List ℕ) (c : ℕ) → Closed g placed → is_ready g placed c ≡ true → is_among placed c ≡ false → is_among (components g) c ≡ true → AtTurn g placed c
ready-turn g placed c closed ready apart there = record { there = there; apart = apart; sources = from; sinks = λ b d source sink. by_place b d source sink }
  where
    from : (b a : ℕ) → sink_of g b ≡ Some c → source_of g b ≡ Some a → is_among placed a ≡ true
    from b a sink source =
        ap (λ o. option_map_or (is_among placed) o true) (sym source)
        ∙ list_all-among (λ b. option_map_or (is_among placed) (source_of g b) true) (ins g c) b ready
        (is_among-filter (λ b. is_end (sink_of g b) c) (buffers g) b ∙ ap (λ (p : Bool × Bool). p.0 && p.1) (λ i. (some-end (sink_of g b) c sink i, sink_of-there g b c sink i)))

    by_place : (b d : ℕ) → source_of g b ≡ Some c → sink_of g b ≡ Some d → is_among (c ∷ placed) d ≡ false
    by_place b d source sink = false_from_ne_true (is_among (c ∷ placed) d) (λ h. by_case (or_cases (c == d) (is_among placed d) h))
      where
        by_case : ((c == d) ≡ true) ⊎ (is_among placed d ≡ true) → ⊥
        by_case (inl h) = let same : c ≡ d = eqb-true c d h in true≢false (sym (from b c (sink ∙ ap Some (sym same)) source) ∙ apart)
        by_case (inr h) = true≢false (sym (closed.sources b c d sink source h) ∙ apart)

-- placing a component at its turn keeps what is placed closed
closed-step : (g : Graph) (placed : List ℕ) (c : ℕ) → Closed g placed → AtTurn g placed c → Closed g (c ∷ placed)
closed-step g placed c closed turn = record { sources = λ b a d sink source h. or_right (c == a) (is_among placed a) (by_case b a d sink source (or_cases (c == d) (is_among placed d) h)) }
  where
    by_case : (b a d : ℕ) → sink_of g b ≡ Some d → source_of g b ≡ Some a → ((c == d) ≡ true) ⊎ (is_among placed d ≡ true) → is_among placed a ≡ true
    by_case b a d sink source (inl h) = turn.sources b a (sink ∙ ap Some (sym (eqb-true c d h))) source
    by_case b a d sink source (inr h) = closed.sources b a d sink source h

-- what is left is a component, and not placed
pub record IsLeft (g : Graph) (placed left : List ℕ) : Type 0 where
  pub apart : (x : ℕ) → is_among left x ≡ true → is_among placed x ≡ false
  pub there : (x : ℕ) → is_among left x ≡ true → is_among (components g) x ≡ true

left-step : (g : Graph) (placed left : List ℕ) (c : ℕ) → IsLeft g placed left → IsLeft g (c ∷ placed) (without c left)
left-step g placed left c is_left = record { apart = λ x h. apart x h; there = λ x h. is_left.there x (parts x h).1 }
  where
    parts : (x : ℕ) → is_among (without c left) x ≡ true → (not (x == c) ≡ true) × (is_among left x ≡ true)
    parts x h = and_parts (not (x == c)) (is_among left x) (sym (is_among-filter (λ id. not (id == c)) left x) ∙ h)

    apart : (x : ℕ) → is_among (without c left) x ≡ true → is_among (c ∷ placed) x ≡ false
    apart x h = false_from_ne_true (is_among (c ∷ placed) x) (λ k. by_case (or_cases (c == x) (is_among placed x) k))
      where
        by_case : ((c == x) ≡ true) ⊎ (is_among placed x ≡ true) → ⊥
        by_case (inl k) = let same : c ≡ x = eqb-true c x k in false≢true (sym (not-true (x == c) (parts x h).0) ∙ eq-eqb x c (sym same))
        by_case (inr k) = true≢false (sym k ∙ is_left.apart x (parts x h).1)

shuffle : (p q r : Bool) → (p || (q || r)) ≡ true → ((q || p) || r) ≡ true
shuffle true true r h = refl
shuffle true false r h = refl
shuffle false true r h = refl
shuffle false false r h = h

placed_from-proceeds : (g : Graph) (n : ℕ) (placed left : List ℕ) → Closed g placed → IsLeft g placed left → ((c : ℕ) → is_among (components g) c ≡ true → (is_among placed c || is_among (placed_from g n placed left) c) ≡ true) → Proceeds g placed (placed_from g n placed left)
placed_from-proceeds g zero placed left closed is_left all = λ c there. by_case c (or_cases (is_among placed c) false (all c there))
  where
    by_case : (c : ℕ) → (is_among placed c ≡ true) ⊎ (false ≡ true) → is_among placed c ≡ true
    by_case c (inl h) = h
    by_case c (inr h) = absurd (false≢true h)
placed_from-proceeds g (suc n) placed left closed is_left all = by_ready (filter (is_ready g placed) left) refl all (λ c. placed_from-proceeds g n (c ∷ placed) (without c left))
  where
    by_ready : (ready : List ℕ) → filter (is_ready g placed) left ≡ ready → ((c : ℕ) → is_among (components g) c ≡ true → (is_among placed c || is_among (option_map_or (λ c. c ∷ placed_from g n (c ∷ placed) (without c left)) (least_of ready) []) c) ≡ true) → ((c : ℕ) → Closed g (c ∷ placed) → IsLeft g (c ∷ placed) (without c left) → ((d : ℕ) → is_among (components g) d ≡ true → (is_among (c ∷ placed) d || is_among (placed_from g n (c ∷ placed) (without c left)) d) ≡ true) → Proceeds g (c ∷ placed) (placed_from g n (c ∷ placed) (without c left))) → Proceeds g placed (option_map_or (λ c. c ∷ placed_from g n (c ∷ placed) (without c left)) (least_of ready) [])
    by_ready [] e all rest = λ c there. by_case c (or_cases (is_among placed c) false (all c there))
      where
        by_case : (c : ℕ) → (is_among placed c ≡ true) ⊎ (false ≡ true) → is_among placed c ≡ true
        by_case c (inl h) = h
        by_case c (inr h) = absurd (false≢true h)
    by_ready (x ∷ xs) e all rest = (turn, rest next (closed-step g placed next closed turn) (left-step g placed left next is_left) (λ d there. shuffle (is_among placed d) (next == d) (is_among (placed_from g n (next ∷ placed) (without next left)) d) (all d there)))
      where
        next : ℕ
        next = least x xs

        parts : (is_ready g placed next ≡ true) × (is_among left next ≡ true)
        parts = and_parts (is_ready g placed next) (is_among left next) (sym (is_among-filter (is_ready g placed) left next) ∙ ap (λ l. is_among l next) e ∙ least-among x xs)

        turn : AtTurn g placed next
        turn = ready-turn g placed next closed parts.0 (is_left.apart next parts.1) (is_left.there next parts.1)

-- where each component is in the order, they move in it each at its turn
pub order-proceeds : (g : Graph) → ((c : ℕ) → is_among (components g) c ≡ true → is_among (order g) c ≡ true) → Proceeds g [] (order g)
unfolding order
order-proceeds g all = placed_from-proceeds g (length (components g)) [] (components g) (record { sources = λ b a d sink source h. absurd (false≢true h) }) (record { apart = λ x h. refl; there = λ x h. h }) all

-- ---- places as ranks

abbrev pub place_of : List ℕ → ℕ → ℕ
place_of [] x = 0
place_of (c ∷ cs) x = cond (c == x) 0 (suc (place_of cs x))

pub place_of-le : (cs : List ℕ) (x : ℕ) → place_of cs x ≤ length cs
place_of-le [] x = omega arith
place_of-le (c ∷ cs) x = by_equal (c == x) (place_of-le cs x)
  where
    by_equal : (h : Bool) → place_of cs x ≤ length cs → cond h 0 (suc (place_of cs x)) ≤ suc (length cs)
    by_equal true low = omega arith
    by_equal false low = omega arith

proceeds-ranks : (g : Graph) (done cs : List ℕ) → Proceeds g done cs → (b a c : ℕ) → source_of g b ≡ Some a → sink_of g b ≡ Some c → is_among cs c ≡ true → (is_among done a ≡ true) ⊎ (place_of cs a < place_of cs c)
proceeds-ranks g done [] goes b a c source sink there = absurd (false≢true there)
proceeds-ranks g done (d ∷ cs) goes b a c source sink there = by_first (d == c) refl there (proceeds-ranks g (d ∷ done) cs goes.1 b a c source sink)
  where
    by_done : (h k : Bool) → k ≡ false → ((h || is_among done a) ≡ true) ⊎ (place_of cs a < place_of cs c) → (is_among done a ≡ true) ⊎ (cond h 0 (suc (place_of cs a)) < cond k 0 (suc (place_of cs c)))
    by_done h true e k = absurd (true≢false e)
    by_done true false e k = inr (omega arith)
    by_done false false e (inl k) = inl k
    by_done false false e (inr k) = inr (omega arith)

    by_first : (h : Bool) → (d == c) ≡ h → (h || is_among cs c) ≡ true → (is_among cs c ≡ true → (is_among (d ∷ done) a ≡ true) ⊎ (place_of cs a < place_of cs c)) → (is_among done a ≡ true) ⊎ (place_of (d ∷ cs) a < place_of (d ∷ cs) c)
    by_first true e k rest = inl (goes.0.sources b a (sink ∙ ap Some (sym (eqb-true d c e))) source)
    by_first false e k rest = by_done (d == a) (d == c) e (rest k)

pub order-ranked : (g : Graph) → Proceeds g [] (order g) → ((b c : ℕ) → sink_of g b ≡ Some c → is_among (order g) c ≡ true) → IsRanked g (place_of (order g))
order-ranked g goes sinks = record { rises = λ b a c source sink. by_case a (proceeds-ranks g [] (order g) goes b a c source sink (sinks b c sink)) }
  where
    by_case : {m n : ℕ} (a : ℕ) → (is_among [] a ≡ true) ⊎ (m < n) → m < n
    by_case a (inl h) = absurd (false≢true h)
    by_case a (inr h) = h
