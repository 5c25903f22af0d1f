-- Look-ups in a list in which no key comes twice.
use Rattle.std.proofs.Common.{◌≡◌, refl, ap, ◌∙◌, ℕ, suc, List, [], ◌∷◌, length, map, filter, Some, Option, Bool, true, false, cond, ◌==◌}
use Rattle.std.proofs.lemmas.Bool.{eq-eqb}
use Rattle.std.specs.Prelude.{option_and_then, find}
use Rattle.std.specs.List.{AllByRecursion, IsDistinct}
use Rattle.stream_law.specs.declared.graph.Edge.{Edge}
use Rattle.stream_law.specs.Placed.{HasDistinct}
use Rattle.stream_law.specs.Ways.{is_end}

-- each record is what is found by its key
pub found-each : {X : Type 0} (key : X → ℕ) (xs : List X) → HasDistinct key xs → AllByRecursion (λ x. find (λ y. key y == key x) xs ≡ Some x) xs
unfolding IsDistinct
found-each key [] distinct = tt
found-each {X} key (x ∷ xs) distinct =
    (ap (λ h. cond h (Some x) (find (λ y. key y == key x) xs)) (eq-eqb (key x) (key x) refl), behind xs distinct.0 (found-each key xs distinct.1))
  where
    behind : (ys : List X) → AllByRecursion (λ n. (key x == n) ≡ false) (map key ys) → AllByRecursion (λ y. find (λ z. key z == key y) xs ≡ Some y) ys → AllByRecursion (λ y. cond (key x == key y) (Some x) (find (λ z. key z == key y) xs) ≡ Some y) ys
    behind [] apart rest = tt
    behind (y ∷ ys) apart rest = (ap (λ h. cond h (Some x) (find (λ z. key z == key y) xs)) apart.0 ∙ rest.0, behind ys apart.1 rest.1)

-- as many keys pass a test as records pass one that agrees with it
pub keys-pass : {X : Type 0} (key : X → ℕ) (test : ℕ → Bool) (passes : X → Bool) (xs : List X) → AllByRecursion (λ x. test (key x) ≡ passes x) xs → length (filter test (map key xs)) ≡ length (filter passes xs)
keys-pass key test passes [] agree = refl
keys-pass {X} key test passes (x ∷ xs) agree =
    ap (λ h. length (cond h (key x ∷ filter test (map key xs)) (filter test (map key xs)))) agree.0 ∙ by (passes x) (keys-pass key test passes xs agree.1)
  where
    by : (h : Bool) → length (filter test (map key xs)) ≡ length (filter passes xs) → length (cond h (key x ∷ filter test (map key xs)) (filter test (map key xs))) ≡ length (cond h (x ∷ filter passes xs) (filter passes xs))
    by true rest = ap suc rest
    by false rest = rest

-- as many buffers have this end, looked up by their ids, as edges have it
pub ends-agree : (pick : Edge → Option ℕ) (c : ℕ) (edges : List Edge) → HasDistinct (λ e. e.buffer) edges → length (filter (λ b. is_end (option_and_then pick (find (λ e. e.buffer == b) edges)) c) (map (λ e. e.buffer) edges)) ≡ length (filter (λ e. is_end (pick e) c) edges)
ends-agree pick c edges distinct = keys-pass (λ (e : Edge). e.buffer) (λ b. is_end (option_and_then pick (find (λ e. e.buffer == b) edges)) c) (λ e. is_end (pick e) c) edges (agree edges (found-each (λ (e : Edge). e.buffer) edges distinct))
  where
    agree : (es : List Edge) → AllByRecursion (λ e. find (λ x. x.buffer == e.buffer) edges ≡ Some e) es → AllByRecursion (λ e. is_end (option_and_then pick (find (λ x. x.buffer == e.buffer) edges)) c ≡ is_end (pick e) c) es
    agree [] found = tt
    agree (e ∷ es) found = (ap (λ (o : Option Edge). is_end (option_and_then pick o) c) found.0, agree es found.1)
