-- The records of a list whose keys are below a number, where the list ascends.
use Rattle.std.proofs.Common.{◌≡◌, refl, sym, ap, ◌∙◌, ℕ, ◌+◌, ◌<◌, ◌≤◌, List, [], ◌∷◌, ◌++◌, filter, length, Some, None, Bool, true, false, cond, ◌==◌, nat_lt, arith}
use Rattle.std.proofs.lemmas.Bool.{eqb-true, eqb-false, ltb-true, ltb-false, lt-ltb, le-ltb}
use Rattle.std.specs.List.{find, AllByRecursion}
use Rattle.stream_law.specs.Placed.{AreAbove, Ascends}

-- those whose keys are below n
abbrev pub below : {X : Type 0} → (X → ℕ) → ℕ → List X → List X
below key n xs = filter (λ x. nat_lt (key x) n) xs

-- ---- what is found

-- nothing is found in a list that is above a number at this number or below
find-above : {X : Type 0} (key : X → ℕ) (m n : ℕ) (xs : List X) → n ≤ m → AreAbove key m xs → find (λ y. key y == n) xs ≡ None
unfolding AreAbove
find-above key m n [] low above = refl
find-above {X} key m n (y ∷ ys) low above = by_test (find-above key m n ys low above.1) (key y == n) refl
  where
    by_test : find (λ z. key z == n) ys ≡ None → (b : Bool) → (key y == n) ≡ b → cond b (Some y) (find (λ z. key z == n) ys) ≡ None
    by_test rest true e = let same : key y ≡ n = eqb-true (key y) n e in absurd (let h = above.0 in omega arith)
    by_test rest false e = rest

-- ---- what is below

-- nothing is below 0
pub below-none : {X : Type 0} (key : X → ℕ) (xs : List X) → below key 0 xs ≡ []
below-none key [] = refl
below-none key (x ∷ xs) = ap (λ b. cond b (x ∷ below key 0 xs) (below key 0 xs)) (le-ltb (key x) 0 (omega arith)) ∙ below-none key xs

-- all is below what each key is below
pub below-all : {X : Type 0} (key : X → ℕ) (n : ℕ) (xs : List X) → AllByRecursion (λ x. key x < n) xs → below key n xs ≡ xs
below-all key n [] all = refl
below-all key n (x ∷ xs) all = ap (λ b. cond b (x ∷ below key n xs) (below key n xs)) (lt-ltb (key x) n all.0) ∙ ap (λ l. x ∷ l) (below-all key n xs all.1)

-- nothing more is below the next number where no key is this one
pub below-same : {X : Type 0} (key : X → ℕ) (n : ℕ) (xs : List X) → find (λ y. key y == n) xs ≡ None → below key (n + 1) xs ≡ below key n xs
below-same key n [] gone = refl
below-same {X} key n (x ∷ xs) gone = by_test (below-same key n xs) (key x == n) refl gone
  where
    one_test : ((key x == n) ≡ false) → nat_lt (key x) (n + 1) ≡ nat_lt (key x) n
    one_test e = by_order (nat_lt (key x) n) refl
      where
        by_order : (b : Bool) → nat_lt (key x) n ≡ b → nat_lt (key x) (n + 1) ≡ b
        by_order true l = let less = ltb-true (key x) n l in lt-ltb (key x) (n + 1) (omega arith)
        by_order false l = let more = ltb-false (key x) n l in let other = eqb-false (key x) n e in le-ltb (key x) (n + 1) (omega arith)

    by_test : (find (λ y. key y == n) xs ≡ None → below key (n + 1) xs ≡ below key n xs) → (b : Bool) → (key x == n) ≡ b → cond b (Some x) (find (λ y. key y == n) xs) ≡ None → below key (n + 1) (x ∷ xs) ≡ below key n (x ∷ xs)
    by_test rest true e h = absurd (cc h)
    by_test rest false e h = ap (λ b. cond b (x ∷ below key (n + 1) xs) (below key (n + 1) xs)) (one_test e) ∙ ap (λ l. cond (nat_lt (key x) n) (x ∷ l) l) (rest h)

-- nothing of a list above a number is below this or the next
pub below-above : {X : Type 0} (key : X → ℕ) (m n : ℕ) (xs : List X) → n ≤ m + 1 → AreAbove key m xs → below key n xs ≡ []
unfolding AreAbove
below-above key m n [] low above = refl
below-above key m n (x ∷ xs) low above =
    let up = above.0 in ap (λ b. cond b (x ∷ below key n xs) (below key n xs)) (le-ltb (key x) n (omega arith)) ∙ below-above key m n xs low above.1

-- one more is below the next number where a key is this one: it comes last
pub below-more : {X : Type 0} (key : X → ℕ) (n : ℕ) (xs : List X) (x : X) → Ascends key xs → find (λ y. key y == n) xs ≡ Some x → below key (n + 1) xs ≡ below key n xs ++ x ∷ []
unfolding Ascends
below-more key n [] x up is = absurd (cc is)
below-more {X} key n (y ∷ ys) x up is = by_test (below-more key n ys x up.1) (key y == n) refl is
  where
    here : key y ≡ n → y ≡ x → below key (n + 1) (y ∷ ys) ≡ below key n (y ∷ ys) ++ x ∷ []
    here e same =
        ap (λ b. cond b (y ∷ below key (n + 1) ys) (below key (n + 1) ys)) (lt-ltb (key y) (n + 1) (omega arith))
        ∙ ap (λ l. y ∷ l) (below-above key (key y) (n + 1) ys (omega arith) up.0)
        ∙ ap (λ z. z ∷ []) same
        ∙ sym (ap (λ b. cond b (y ∷ below key n ys) (below key n ys) ++ x ∷ []) (le-ltb (key y) n (omega arith)) ∙ ap (λ l. l ++ x ∷ []) (below-above key (key y) n ys (omega arith) up.0))

    there : below key (n + 1) ys ≡ below key n ys ++ x ∷ [] → find (λ z. key z == n) ys ≡ Some x → (b : Bool) → nat_lt (key y) n ≡ b → below key (n + 1) (y ∷ ys) ≡ below key n (y ∷ ys) ++ x ∷ []
    there rest h true l =
        let less = ltb-true (key y) n l in
        ap (λ b. cond b (y ∷ below key (n + 1) ys) (below key (n + 1) ys)) (lt-ltb (key y) (n + 1) (omega arith))
        ∙ ap (λ l. y ∷ l) rest
        ∙ sym (ap (λ b. cond b (y ∷ below key n ys) (below key n ys) ++ x ∷ []) l)
    there rest h false l =
        let gone = find-above key (key y) n ys (ltb-false (key y) n l) up.0 in absurd (cc (sym gone ∙ h))

    by_test : (find (λ z. key z == n) ys ≡ Some x → below key (n + 1) ys ≡ below key n ys ++ x ∷ []) → (b : Bool) → (key y == n) ≡ b → cond b (Some y) (find (λ z. key z == n) ys) ≡ Some x → below key (n + 1) (y ∷ ys) ≡ below key n (y ∷ ys) ++ x ∷ []
    by_test rest true e h = here (eqb-true (key y) n e) (cc h)
    by_test rest false e h = there (rest h) h (nat_lt (key y) n) refl

pub length-more : {X : Type 0} (key : X → ℕ) (n : ℕ) (xs : List X) (x : X) → Ascends key xs → find (λ y. key y == n) xs ≡ Some x → length (below key (n + 1) xs) ≡ length (below key n xs) + 1
length-more {X} key n xs x up is = ap length (below-more key n xs x up is) ∙ pushed (below key n xs)
  where
    pushed : (ys : List X) → length (ys ++ x ∷ []) ≡ length ys + 1
    pushed [] = refl
    pushed (y ∷ ys) = let rest = pushed ys in omega arith
