-- The least of a number and those of a list.
use Rattle.std.proofs.Common.{◌≡◌, refl, sym, ap, ◌∙◌, subst, ℕ, ◌+◌, ◌<◌, ◌≤◌, min, List, [], ◌∷◌, ◌++◌, map, take, length, get_or, arith}
use Rattle.std.proofs.lemmas.List.{take_more, map-append}
use Rattle.std.specs.List.{AllByRecursion}
use Rattle.stream_law.specs.Moves.{least}

-- one more, the last
pub least-end : (n m : ℕ) (ms : List ℕ) → least n (ms ++ m ∷ []) ≡ min (least n ms) m
least-end n m [] = omega arith
least-end n m (k ∷ ms) = ap (min k) (least-end n m ms) ∙ (let e : min k (min (least n ms) m) ≡ min (min k (least n ms)) m = omega arith in e)

-- what each has room for beside what it holds it has for less, and for what one more has room for too
pub fit-less : (held room : ℕ → ℕ) (n m : ℕ) → m ≤ n → (xs : List ℕ) → AllByRecursion (λ x. n + held x ≤ room x) xs → AllByRecursion (λ x. m + held x ≤ room x) xs
fit-less held room n m low [] fit = tt
fit-less held room n m low (x ∷ xs) fit = (omega (arith, low, fit.0), fit-less held room n m low xs fit.1)

pub fit-more : (held room : ℕ → ℕ) (n : ℕ) (xs : List ℕ) (i d : ℕ) → i < length xs → AllByRecursion (λ x. n + held x ≤ room x) (take i xs) → n + held (get_or xs i d) ≤ room (get_or xs i d) → AllByRecursion (λ x. n + held x ≤ room x) (take (i + 1) xs)
fit-more held room n xs i d low fit last = subst (AllByRecursion (λ x. n + held x ≤ room x)) (sym (take_more xs i d low)) (all-end (take i xs) fit)
  where
    all-end : (ys : List ℕ) → AllByRecursion (λ x. n + held x ≤ room x) ys → AllByRecursion (λ x. n + held x ≤ room x) (ys ++ get_or xs i d ∷ [])
    all-end [] all = (last, tt)
    all-end (y ∷ ys) all = (all.0, all-end ys all.1)

-- the last, before all others
pub least-last : (n m : ℕ) (ms : List ℕ) → least n (ms ++ m ∷ []) ≡ least (min m n) ms
least-last n m [] = refl
least-last n m (k ∷ ms) = ap (min k) (least-last n m ms)

-- those of a list before those after it
pub least-append : (n : ℕ) (xs ys : List ℕ) → least n (xs ++ ys) ≡ least (least n ys) xs
least-append n [] ys = refl
least-append n (x ∷ xs) ys = ap (min x) (least-append n xs ys)

pub least-more : (f : ℕ → ℕ) (n : ℕ) (xs : List ℕ) (i d : ℕ) → i < length xs → least n (map f (take (i + 1) xs)) ≡ min (least n (map f (take i xs))) (f (get_or xs i d))
least-more f n xs i d low = ap (λ ys. least n (map f ys)) (take_more xs i d low) ∙ ap (least n) (map-append f (take i xs) (get_or xs i d ∷ [])) ∙ least-end n (f (get_or xs i d)) (map f (take i xs))

pub least-most : (n : ℕ) (ms : List ℕ) → least n ms ≤ n
least-most n [] = omega arith
least-most n (m ∷ ms) = let rest = least-most n ms in omega (arith, rest)

-- it is no more than any
pub least-each : (f : ℕ → ℕ) (n : ℕ) (xs : List ℕ) → AllByRecursion (λ x. least n (map f xs) ≤ f x) xs
least-each f n [] = tt
least-each f n (x ∷ xs) = (omega arith, lower xs (least-each f n xs))
  where
    lower : (ys : List ℕ) → AllByRecursion (λ y. least n (map f xs) ≤ f y) ys → AllByRecursion (λ y. min (f x) (least n (map f xs)) ≤ f y) ys
    lower [] all = tt
    lower (y ∷ ys) all = let here = all.0 in (omega (arith, here), lower ys all.1)
