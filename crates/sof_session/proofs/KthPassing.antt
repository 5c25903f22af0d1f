-- The item of a number among those that pass a test, while they are counted.
use Rattle.std.proofs.Common.{◌≡◌, sym, ap, ◌∙◌, subst, ℕ, zero, suc, ◌+◌, ◌≤◌, ◌<◌, Bool, true, false, cond, List, [], ◌∷◌, length, take, filter, Some, Ok, Err, arith}
use Rattle.std.specs.List.{slice_get, range_with_len}
use Rattle.std.proofs.lemmas.Bool.{false≢true}
use Rattle.std.proofs.lemmas.List.{take_all}
use Rattle.std.proofs.lemmas.List.Filters.{length-filter_more}
use Rattle.std.proofs.lemmas.List.FromFn.{length-range_with_len, get_or-range_with_len}
use Rattle.std.proofs.lemmas.Option.{slice_get_past, slice_get_within, slice_get-get_or, get_or_from_slice_get}
use Rattle.sof_session.specs.ShownLines.{kth_in, item_or_count}

module _ {X : Type 0} (p : X → Bool) where
  -- one that passes stands after those that do before it
  at-counted : (xs : List X) (i : ℕ) (x : X) → slice_get xs i ≡ Some x → p x ≡ true → slice_get (filter p xs) (length (filter p (take i xs))) ≡ Some x
  at-counted [] i x is passes = absurd (cc is)
  at-counted (y ∷ ys) zero x is passes = by (p y) (let same : y ≡ x = cc is in ap p same ∙ passes)
    where
      by : (b : Bool) → b ≡ true → slice_get (cond b (y ∷ filter p ys) (filter p ys)) 0 ≡ Some x
      by true passed = is
      by false passed = absurd (false≢true passed)
  at-counted (y ∷ ys) (suc i) x is passes = by (p y) (at-counted ys i x is passes)
    where
      by : (b : Bool) → slice_get (filter p ys) (length (filter p (take i ys))) ≡ Some x → slice_get (cond b (y ∷ filter p ys) (filter p ys)) (length (cond b (y ∷ filter p (take i ys)) (filter p (take i ys)))) ≡ Some x
      by true rest = rest
      by false rest = rest

  pub kth-there : (xs : List X) (i k : ℕ) (x : X) → slice_get xs i ≡ Some x → p x ≡ true → k ≡ length (filter p (take i xs)) → kth_in (filter p xs) k ≡ Ok x
  kth-there xs i k x is passes counted = ap (item_or_count (length (filter p xs))) (ap (slice_get (filter p xs)) counted ∙ at-counted xs i x is passes)

  -- where there are fewer, all were counted
  pub kth-fewer : (xs : List X) (n k count : ℕ) → length xs ≤ n → count ≡ length (filter p (take n xs)) → count ≤ k → kth_in (filter p xs) k ≡ Err count
  kth-fewer xs n k count all counted low =
      let here : count ≡ length (filter p xs) = counted ∙ ap (λ (ys : List X). length (filter p ys)) (take_all n xs all) in
      subst (λ (c : ℕ). kth_in (filter p xs) k ≡ Err c) (sym here) (ap (item_or_count (length (filter p xs))) (slice_get_past (filter p xs) k (omega (arith, here, low))))

  -- ---- one more

  more : (xs : List X) (i : ℕ) (x : X) (b : Bool) → slice_get xs i ≡ Some x → p x ≡ b → length (filter p (take (i + 1) xs)) ≡ length (filter p (take i xs)) + cond b 1 0
  more xs i x b is passes =
      length-filter_more p xs i x (slice_get_within xs i x is)
      ∙ ap (λ (c : Bool). length (filter p (take i xs)) + cond c 1 0) (ap p (get_or_from_slice_get xs i x x is) ∙ passes)

  pub one-counted : (xs : List X) (i : ℕ) (x : X) (count : ℕ) → slice_get xs i ≡ Some x → p x ≡ true → count ≡ length (filter p (take i xs)) → count + 1 ≡ length (filter p (take (i + 1) xs))
  one-counted xs i x count is passes counted = omega (arith, counted, more xs i x true is passes)

  pub none-counted : (xs : List X) (i : ℕ) (x : X) (count : ℕ) → slice_get xs i ≡ Some x → p x ≡ false → count ≡ length (filter p (take i xs)) → count ≡ length (filter p (take (i + 1) xs))
  none-counted xs i x count is passes counted = omega (arith, counted, more xs i x false is passes)

-- a number of a range is the one of its place
pub range-at : (n k : ℕ) → k < n → slice_get (range_with_len 0 n) k ≡ Some k
range-at n k within =
    slice_get-get_or (range_with_len 0 n) k 0 (omega (arith, length-range_with_len 0 n, within)) ∙ ap (λ (i : ℕ). Some i) (get_or-range_with_len 0 n k 0 within ∙ omega arith)
