-- Where edges have no cycle, each component has its place in the order.
use Rattle.std.proofs.Common.{◌≡◌, refl, sym, ap, ◌∙◌, ℕ, zero, suc, ◌<◌, ◌≤◌, List, [], ◌∷◌, filter, length, Bool, true, false, cond, not, ◌||◌, ◌==◌, arith}
use Rattle.std.proofs.lemmas.Bool.{false≢true, true≢false, and_parts, and_from, not_from_false, false_from_ne_true}
use Rattle.std.specs.Option.{option_map_or}
use Rattle.stream_law.specs.declared.graph.Graph.{Graph}
use Rattle.stream_law.specs.Ways.{components}
use Rattle.stream_law.specs.Moves.{least}
use Rattle.stream_law.specs.Order.{is_among, is_ready, least_of, without, placed_from, order}
use Rattle.stream_law.specs.Walks.{HasAll, HasCycle, HasEnds}
use Rattle.stream_law.proofs.Among.{is_among-filter}
use Rattle.stream_law.proofs.Ordered.{least-among}
use Rattle.stream_law.proofs.Cycles.{has-cycle, IsStuck}
use Rattle.stream_law.proofs.Taking.{all-pass, without-placed}

length-without : (c : ℕ) (xs : List ℕ) → length (without c xs) ≤ length xs
length-without c [] = omega arith
length-without c (x ∷ xs) = by_test (not (x == c)) (length-without c xs)
  where
    by_test : (h : Bool) → length (without c xs) ≤ length xs → length (cond h (x ∷ without c xs) (without c xs)) ≤ suc (length xs)
    by_test true low = omega (arith, low)
    by_test false low = omega (arith, low)

fewer : (c : ℕ) (xs : List ℕ) → is_among xs c ≡ true → length (without c xs) < length xs
fewer c [] there = absurd (false≢true there)
fewer c (x ∷ xs) there = by_test (x == c) there (fewer c xs)
  where
    by_test : (h : Bool) → (h || is_among xs c) ≡ true → (is_among xs c ≡ true → length (without c xs) < length xs) → length (cond (not h) (x ∷ without c xs) (without c xs)) < suc (length xs)
    by_test true k rest = let low = length-without c xs in omega (arith, low)
    by_test false k rest = let low = rest k in omega (arith, low)

nothing-among : (xs : List ℕ) (c : ℕ) → length xs ≤ 0 → is_among xs c ≡ true → ⊥
nothing-among [] c low there = false≢true there
nothing-among (x ∷ xs) c low there = omega (arith, low)

module _ (g : Graph) (ends : HasEnds g) (none : HasCycle g → ⊥) where
  -- a component that is not placed is left
  left-there : (placed left : List ℕ) → left ≡ filter (λ x. not (is_among placed x)) (components g) → (c : ℕ) → is_among (components g) c ≡ true → is_among placed c ≡ false → is_among left c ≡ true
  left-there placed left is c there gone =
      ap (λ l. is_among l c) is ∙ is_among-filter (λ x. not (is_among placed x)) (components g) c
      ∙ and_from (not (is_among placed c)) (is_among (components g) c) (not_from_false (is_among placed c) gone) there

  placed_from-whole : (n : ℕ) (placed left : List ℕ) → left ≡ filter (λ x. not (is_among placed x)) (components g) → length left ≤ n → (c : ℕ) → is_among (components g) c ≡ true → (is_among placed c || is_among (placed_from g n placed left) c) ≡ true
  placed_from-whole zero placed left is low c there = by_placed (is_among placed c) refl
    where
      by_placed : (h : Bool) → is_among placed c ≡ h → (h || false) ≡ true
      by_placed true h = refl
      by_placed false h = absurd (nothing-among left c low (left-there placed left is c there h))
  placed_from-whole (suc n) placed left is low c there = by_ready (filter (is_ready g placed) left) refl (λ next. placed_from-whole n (next ∷ placed) (without next left))
    where
      by_placed : filter (is_ready g placed) left ≡ [] → (h : Bool) → is_among placed c ≡ h → (h || false) ≡ true
      by_placed e true h = refl
      by_placed e false h = absurd (none (has-cycle g placed c ends stuck there h))
        where
          stuck : IsStuck g placed
          stuck d known gone = false_from_ne_true (is_ready g placed d) (λ ready. true≢false (
              sym (is_among-filter (is_ready g placed) left d ∙ and_from (is_ready g placed d) (is_among left d) ready (left-there placed left is d known gone)) ∙ ap (λ l. is_among l d) e
              ))

      moved : (p q r : Bool) → ((q || p) || r) ≡ true → (p || (q || r)) ≡ true
      moved true q r h = refl
      moved false true r h = refl
      moved false false r h = h

      by_ready : (ready : List ℕ) → filter (is_ready g placed) left ≡ ready → ((next : ℕ) → without next left ≡ filter (λ x. not (is_among (next ∷ placed) x)) (components g) → length (without next left) ≤ n → (c : ℕ) → is_among (components g) c ≡ true → (is_among (next ∷ placed) c || is_among (placed_from g n (next ∷ placed) (without next left)) c) ≡ true)
          → (is_among placed c || is_among (option_map_or (λ c. c ∷ placed_from g n (c ∷ placed) (without c left)) (least_of ready) []) c) ≡ true
      by_ready [] e rest = by_placed e (is_among placed c) refl
      by_ready (x ∷ xs) e rest =
          let there_left = (and_parts (is_ready g placed (least x xs)) (is_among left (least x xs)) (sym (is_among-filter (is_ready g placed) left (least x xs)) ∙ ap (λ l. is_among l (least x xs)) e ∙ least-among x xs)).1 in
          let less = fewer (least x xs) left there_left in
          moved (is_among placed c) (least x xs == c) (is_among (placed_from g n (least x xs ∷ placed) (without (least x xs) left)) c)
          (rest (least x xs) (ap (without (least x xs)) is ∙ without-placed (least x xs) placed (components g)) (omega (arith, less, low)) c there)

  pub order-whole : HasAll g (order g)
  unfolding order
  order-whole c there = placed_from-whole (length (components g)) [] (components g) (all-pass (components g)) (omega arith) c there
