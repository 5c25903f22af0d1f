-- Lemmas on the turns of components, as loops go over them.
use Rattle.std.proofs.Common.{◌≡◌, refl, sym, ap, ◌∙◌, ℕ, zero, suc, ◌+◌, ◌-◌, ◌<◌, ◌≤◌, List, [], ◌∷◌, ◌++◌, map, take, drop, set, length, get_or, count_by, Option, Bool, true, false, cond, ◌&&◌, arith}
use Rattle.std.proofs.lemmas.List.{take_more, drop_more, take_all, drop_all, append-nil, length-take}
use Rattle.std.proofs.lemmas.List.Sums.{sum_by-append, sum_by-cons}
use Rattle.stream_law.specs.declared.graph.Comp.{Comp}
use Rattle.stream_law.specs.declared.graph.Edge.{Edge}
use Rattle.stream_law.specs.declared.turns.Turn.{Turn}
use Rattle.stream_law.specs.Ways.{is_end}
use Rattle.stream_law.specs.Waiting.{waits, leads_from, lowered, freed, turns_from, better, best_of}

-- ---- a loop that writes each element anew

map_more : {X : Type 0} (f : X → X) (i : ℕ) (xs : List X) (d : X) → i < length xs → set (map f (take i xs) ++ drop i xs) i (f (get_or (map f (take i xs) ++ drop i xs) i d)) ≡ map f (take (suc i) xs) ++ drop (suc i) xs
map_more f i [] d low = absurd (omega arith)
map_more f zero (x ∷ xs) d low = refl
map_more f (suc i) (x ∷ xs) d low = ap (λ l. f x ∷ l) (map_more f i xs d (omega arith))

pub map_step : {X : Type 0} (f : X → X) (i : ℕ) (xs now : List X) (d after : X) → i < length xs → now ≡ map f (take i xs) ++ drop i xs → after ≡ f (get_or now i d) → set now i after ≡ map f (take (i + 1) xs) ++ drop (i + 1) xs
map_step f i xs now d after low so_far made =
    let one : i + 1 ≡ suc i = omega arith in
    rw (one, made, so_far) (map_more f i xs d low)

pub map_end : {X : Type 0} (f : X → X) (i : ℕ) (xs now : List X) → length xs ≤ i → now ≡ map f (take i xs) ++ drop i xs → now ≡ map f xs
map_end f i xs now most so_far = so_far ∙ ap (λ rest. map f (take i xs) ++ rest) (drop_all i xs most) ∙ append-nil (map f (take i xs)) ∙ ap (map f) (take_all i xs most)

-- ---- turns

pub length-turns_from : (edges : List Edge) (k : ℕ) (xs : List Comp) → length (turns_from edges k xs) ≡ length xs
length-turns_from edges k [] = refl
length-turns_from edges k (x ∷ xs) = ap suc (length-turns_from edges (k + 1) xs)

turns_from-push : (edges : List Edge) (k : ℕ) (xs : List Comp) (x : Comp) → turns_from edges k (xs ++ x ∷ []) ≡ turns_from edges k xs ++ record { place = k + length xs; id = x.id; waits = waits edges [] x.id } ∷ []
turns_from-push edges k [] x = ap (λ p. record { place = p; id = x.id; waits = waits edges [] x.id } ∷ []) (let e : k ≡ k + 0 = omega arith in e)
turns_from-push edges k (y ∷ ys) x =
    ap (λ l. record { place = k; id = y.id; waits = waits edges [] y.id } ∷ l) (turns_from-push edges (k + 1) ys x
    ∙ ap (λ p. turns_from edges (k + 1) ys ++ record { place = p; id = x.id; waits = waits edges [] x.id } ∷ []) (let e : (k + 1) + length ys ≡ k + suc (length ys) = omega arith in e))

-- the turns of one component more
pub turns_from-more : (edges : List Edge) (comps : List Comp) (k : ℕ) (d : Comp) → k < length comps → turns_from edges 0 (take (k + 1) comps) ≡ turns_from edges 0 (take k comps) ++ record { place = k; id = (get_or comps k d).id; waits = waits edges [] (get_or comps k d).id } ∷ []
turns_from-more edges comps k d low =
    ap (turns_from edges 0) (take_more comps k d low)
    ∙ turns_from-push edges 0 (take k comps) (get_or comps k d)
    ∙ ap (λ p. turns_from edges 0 (take k comps) ++ record { place = p; id = (get_or comps k d).id; waits = waits edges [] (get_or comps k d).id } ∷ []) (let e : 0 + length (take k comps) ≡ k = omega (arith, length-take k comps) in e)

-- ---- one more edge of a component that is placed

pub count_by-push : {X : Type 0} (p : X → Bool) (xs : List X) (x : X) → count_by p (xs ++ x ∷ []) ≡ count_by p xs + cond (p x) 1 0
count_by-push p xs x = sum_by-append (λ x. cond (p x) 1 0) xs (x ∷ []) ∙ ap (λ n. count_by p xs + n) (sum_by-cons (λ x. cond (p x) 1 0) x [] ∙ (let e : cond (p x) 1 0 + 0 ≡ cond (p x) 1 0 = omega arith in e))

freed-lowered : (edges : List Edge) (a : ℕ) (those : List Edge) (e : Edge) (t : Turn) → leads_from edges a e ≡ true → lowered e.sink (freed edges a those t) ≡ freed edges a (those ++ e ∷ []) t
freed-lowered edges a those e t leads =
    by_end (is_end e.sink t.id) refl
    ∙ ap (λ n. record { place = t.place; id = t.id; waits = t.waits - n }) (sym (count_by-push (λ e. leads_from edges a e && is_end e.sink t.id) those e ∙ ap (λ h. count_by (λ e. leads_from edges a e && is_end e.sink t.id) those + cond (h && is_end e.sink t.id) 1 0) leads))
  where
    n : ℕ
    n = count_by (λ e. leads_from edges a e && is_end e.sink t.id) those

    by_end : (h : Bool) → is_end e.sink t.id ≡ h → cond h (record { place = t.place; id = t.id; waits = (t.waits - count_by (λ e. leads_from edges a e && is_end e.sink t.id) those) - 1 }) (freed edges a those t) ≡ record { place = t.place; id = t.id; waits = t.waits - (count_by (λ e. leads_from edges a e && is_end e.sink t.id) those + cond (is_end e.sink t.id) 1 0) }
    by_end true h = ap (λ w. record { place = t.place; id = t.id; waits = w }) (ap (λ k. k) (less _ _) ∙ ap (λ b. t.waits - (count_by (λ e. leads_from edges a e && is_end e.sink t.id) those + cond b 1 0)) (sym h))
      where
        less : (m k : ℕ) → (m - k) - 1 ≡ m - (k + 1)
        less m k = omega arith
    by_end false h = ap (λ w. record { place = t.place; id = t.id; waits = w }) (same _ _ ∙ ap (λ b. t.waits - (count_by (λ e. leads_from edges a e && is_end e.sink t.id) those + cond b 1 0)) (sym h))
      where
        same : (m k : ℕ) → m - k ≡ m - (k + 0)
        same m k = omega arith

freed-kept : (edges : List Edge) (a : ℕ) (those : List Edge) (e : Edge) (t : Turn) → leads_from edges a e ≡ false → freed edges a those t ≡ freed edges a (those ++ e ∷ []) t
freed-kept edges a those e t leads =
    ap (λ n. record { place = t.place; id = t.id; waits = t.waits - n }) (none ∙ sym (count_by-push (λ e. leads_from edges a e && is_end e.sink t.id) those e ∙ ap (λ h. count_by (λ e. leads_from edges a e && is_end e.sink t.id) those + cond (h && is_end e.sink t.id) 1 0) leads))
  where
    none : count_by (λ e. leads_from edges a e && is_end e.sink t.id) those ≡ count_by (λ e. leads_from edges a e && is_end e.sink t.id) those + 0
    none = omega arith

map_both : (f g h : Turn → Turn) → ((t : Turn) → f (g t) ≡ h t) → (ts : List Turn) → map f (map g ts) ≡ map h ts
map_both f g h same [] = refl
map_both f g h same (t ∷ ts) = ap (λ l. l ∷ map f (map g ts)) (same t) ∙ ap (λ l. h t ∷ l) (map_both f g h same ts)

map_alike : (f g : Turn → Turn) → ((t : Turn) → f t ≡ g t) → (ts : List Turn) → map f ts ≡ map g ts
map_alike f g same [] = refl
map_alike f g same (t ∷ ts) = ap (λ l. l ∷ map f ts) (same t) ∙ ap (λ l. g t ∷ l) (map_alike f g same ts)

pub freed-none : (edges : List Edge) (a : ℕ) (ts : List Turn) → map (freed edges a []) ts ≡ ts
freed-none edges a [] = refl
freed-none edges a (t ∷ ts) = ap (λ w. record { place = t.place; id = t.id; waits = w } ∷ map (freed edges a []) ts) (let e : t.waits - 0 ≡ t.waits = omega arith in e) ∙ ap (λ l. t ∷ l) (freed-none edges a ts)

-- what is left once one more edge is looked at
pub freed-more : (edges : List Edge) (a i : ℕ) (d : Edge) (ts now after : List Turn) → i < length edges → now ≡ map (freed edges a (take i edges)) ts → after ≡ cond (leads_from edges a (get_or edges i d)) (map (lowered (get_or edges i d).sink) now) now → after ≡ map (freed edges a (take (i + 1) edges)) ts
freed-more edges a i d ts now after low so_far made =
    made ∙ ap (λ l. cond (leads_from edges a e) (map (lowered e.sink) l) l) so_far
    ∙ by_test (leads_from edges a e) refl
    ∙ ap (λ those. map (freed edges a those) ts) (sym (take_more edges i d low))
  where
    e : Edge
    e = get_or edges i d

    by_test : (h : Bool) → leads_from edges a e ≡ h → cond h (map (lowered e.sink) (map (freed edges a (take i edges)) ts)) (map (freed edges a (take i edges)) ts) ≡ map (freed edges a (take i edges ++ e ∷ [])) ts
    by_test true h = map_both (lowered e.sink) (freed edges a (take i edges)) (freed edges a (take i edges ++ e ∷ [])) (λ t. freed-lowered edges a (take i edges) e t h) ts
    by_test false h = map_alike (freed edges a (take i edges)) (freed edges a (take i edges ++ e ∷ [])) (λ t. freed-kept edges a (take i edges) e t h) ts

-- ---- the best turn

pub best_of-more : (ts : List Turn) (i : ℕ) (d : Turn) (best : Option Turn) → i < length ts → best_of best (drop i ts) ≡ best_of (better best (get_or ts i d)) (drop (i + 1) ts)
best_of-more ts i d best low = ap (best_of best) (drop_more ts i d low)
