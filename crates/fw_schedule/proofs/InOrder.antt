-- The order of moves has components alone, and none twice.
use Rattle.std.proofs.Common.{◌≡◌, refl, sym, ap, ◌∙◌, ℕ, zero, suc, ◌<◌, min, List, [], ◌∷◌, length, filter, Bool, true, false, not, inl, inr, ◌⊎◌, ◌==◌, ◌||◌, arith}
use Rattle.std.proofs.lemmas.Bool.{and_parts, eq-eqb, or_left, or_right, cases_order, not-true}
use Rattle.std.specs.List.{AllByRecursion, IsDistinct}
use Rattle.std.specs.Option.{option_map_or}
use Rattle.stream_law.specs.declared.graph.Graph.{Graph}
use Rattle.stream_law.specs.Ways.{components}
use Rattle.stream_law.specs.Moves.{least}
use Rattle.stream_law.specs.Order.{is_among, is_ready, least_of, without, placed_from, order}
use Rattle.stream_law.proofs.Among.{is_among-filter}
use Rattle.stream_law.proofs.Keyed.{all-from}
use Rattle.fw_schedule.proofs.ShownEnds.{eqb-turned}

-- the least of a list is in it
least-among : (x : ℕ) (xs : List ℕ) → is_among (x ∷ xs) (least x xs) ≡ true
least-among x [] = or_left (x == x) false (eq-eqb x x refl)
least-among x (y ∷ ys) = by_order (cases_order y (least x ys)) (least-among x ys)
  where
    front : min y (least x ys) ≡ y → is_among (x ∷ y ∷ ys) (min y (least x ys)) ≡ true
    front m = ap (is_among (x ∷ y ∷ ys)) m ∙ or_right (x == y) (is_among (y ∷ ys) y) (or_left (y == y) (is_among ys y) (eq-eqb y y refl))

    behind : (p q r : Bool) → (p || r) ≡ true → (p || (q || r)) ≡ true
    behind true q r h = refl
    behind false q r h = or_right q r h

    by_order : (y ≡ least x ys) ⊎ ((y < least x ys) ⊎ (least x ys < y)) → is_among (x ∷ ys) (least x ys) ≡ true → is_among (x ∷ y ∷ ys) (min y (least x ys)) ≡ true
    by_order (inl h) there = front (let m : min y (least x ys) ≡ y = omega arith in m)
    by_order (inr (inl h)) there = front (let m : min y (least x ys) ≡ y = omega arith in m)
    by_order (inr (inr h)) there = let m : min y (least x ys) ≡ least x ys = omega arith in ap (is_among (x ∷ y ∷ ys)) m ∙ behind (x == least x ys) (y == least x ys) (is_among ys (least x ys)) there

-- what is left without c was left, and is not c
without-parts : (c : ℕ) (left : List ℕ) (x : ℕ) → is_among (without c left) x ≡ true → ((c == x) ≡ false) × (is_among left x ≡ true)
without-parts c left x there =
    let parts = and_parts (not (x == c)) (is_among left x) (sym (is_among-filter (λ id. not (id == c)) left x) ∙ there) in
    (eqb-turned c x ∙ not-true (x == c) parts.0, parts.1)

-- what is placed was left
placed-among : (g : Graph) (n : ℕ) (placed left : List ℕ) → AllByRecursion (λ c. is_among left c ≡ true) (placed_from g n placed left)
placed-among g zero placed left = tt
placed-among g (suc n) placed left = by_ready (filter (is_ready g placed) left) refl (λ c. placed-among g n (c ∷ placed) (without c left))
  where
    by_ready : (ready : List ℕ) → filter (is_ready g placed) left ≡ ready → ((c : ℕ) → AllByRecursion (λ d. is_among (without c left) d ≡ true) (placed_from g n (c ∷ placed) (without c left))) → AllByRecursion (λ c. is_among left c ≡ true) (option_map_or (λ c. c ∷ placed_from g n (c ∷ placed) (without c left)) (least_of ready) [])
    by_ready [] e rest = tt
    by_ready (x ∷ xs) e rest = (
      (and_parts (is_ready g placed (least x xs)) (is_among left (least x xs)) (sym (is_among-filter (is_ready g placed) left (least x xs)) ∙ ap (λ l. is_among l (least x xs)) e ∙ least-among x xs)).1,
      all-from (placed_from g n (least x xs ∷ placed) (without (least x xs) left)) (λ d there. (without-parts (least x xs) left d there).1) (rest (least x xs)),
    )

-- and nothing is placed twice
placed-distinct : (g : Graph) (n : ℕ) (placed left : List ℕ) → IsDistinct (λ a b. a == b) (placed_from g n placed left)
unfolding IsDistinct
placed-distinct g zero placed left = tt
placed-distinct g (suc n) placed left = by_ready (filter (is_ready g placed) left) (λ c. placed-distinct g n (c ∷ placed) (without c left))
  where
    by_ready : (ready : List ℕ) → ((c : ℕ) → IsDistinct (λ a b. a == b) (placed_from g n (c ∷ placed) (without c left))) → IsDistinct (λ a b. a == b) (option_map_or (λ c. c ∷ placed_from g n (c ∷ placed) (without c left)) (least_of ready) [])
    by_ready [] rest = tt
    by_ready (x ∷ xs) rest = (
      all-from (placed_from g n (least x xs ∷ placed) (without (least x xs) left)) (λ d there. (without-parts (least x xs) left d there).0) (placed-among g n (least x xs ∷ placed) (without (least x xs) left)),
      rest (least x xs),
    )

pub order-among : (g : Graph) → AllByRecursion (λ c. is_among (components g) c ≡ true) (order g)
unfolding order
order-among g = placed-among g (length (components g)) [] (components g)

pub order-distinct : (g : Graph) → IsDistinct (λ a b. a == b) (order g)
unfolding order
order-distinct g = placed-distinct g (length (components g)) [] (components g)
