-- Lists of which some records are let go.
use Rattle.std.proofs.Common.{◌≡◌, refl, sym, ap, ◌∙◌, ℕ, ◌≤◌, suc, List, [], ◌∷◌, ◌++◌, map, filter, length, Option, Some, Bool, true, false, cond, not, inl, inr, ◌⊎◌, ◌==◌, ◌&&◌, ◌||◌, nat_eq, arith}
use Rattle.std.proofs.lemmas.Bool.{true≢false, false≢true, false_from_ne_true, or_parts, or_left, or_right, or_cases, and_parts, and_from, eqb-true, eq-eqb}
use Rattle.std.proofs.lemmas.List.Folds.{list_any-append}
use Rattle.std.proofs.lemmas.Map.Made.{length-le_from_is_member}
use Rattle.std.specs.Cmp.{nat_eq_equiv}
use Rattle.std.specs.Prelude.{find}
use Rattle.std.specs.List.{list_any, list_all, AllByRecursion, IsDistinct}
use Rattle.stream_law.specs.Placed.{HasDistinct}
use Rattle.stream_law.specs.Order.{is_among}
use Rattle.row_laws.proofs.Unreached.{eqb-turned}

-- ---- what is so of each record

pub all-kept : {X : Type 0} (keep : X → Bool) (P Q : X → Type 0) → ((x : X) → keep x ≡ true → P x → Q x) → (xs : List X) → AllByRecursion P xs → AllByRecursion Q (filter keep xs)
all-kept keep P Q f [] all = tt
all-kept {X} keep P Q f (x ∷ xs) all = by (keep x) refl (all-kept keep P Q f xs all.1)
  where
    by : (h : Bool) → keep x ≡ h → AllByRecursion Q (filter keep xs) → AllByRecursion Q (cond h (x ∷ filter keep xs) (filter keep xs))
    by true e rest = (f x e all.0, rest)
    by false e rest = rest

pub all-filter : {X : Type 0} (keep : X → Bool) (P : X → Type 0) (xs : List X) → AllByRecursion P xs → AllByRecursion P (filter keep xs)
all-filter {X} keep P xs all = all-kept keep P P (λ x e p. p) xs all

pub all-both : {X : Type 0} (P Q : X → Type 0) (xs : List X) → AllByRecursion P xs → AllByRecursion Q xs → AllByRecursion (λ x. P x × Q x) xs
all-both P Q [] p q = tt
all-both P Q (x ∷ xs) p q = ((p.0, q.0), all-both P Q xs p.1 q.1)

pub all-any : {X : Type 0} (P : X → Type 0) → ((x : X) → P x) → (xs : List X) → AllByRecursion P xs
all-any P f [] = tt
all-any P f (x ∷ xs) = (f x, all-any P f xs)

pub filter-every : {X : Type 0} (xs : List X) → filter (λ x. true) xs ≡ xs
filter-every [] = refl
filter-every (x ∷ xs) = ap (λ ys. x ∷ ys) (filter-every xs)

pub length-filter : {X : Type 0} (keep : X → Bool) (xs : List X) → length (filter keep xs) ≤ length xs
length-filter keep [] = omega arith
length-filter {X} keep (x ∷ xs) = by (keep x) (length-filter keep xs)
  where
    by : (h : Bool) → length (filter keep xs) ≤ length xs → length (cond h (x ∷ filter keep xs) (filter keep xs)) ≤ suc (length xs)
    by true rest = omega (arith, rest)
    by false rest = omega (arith, rest)

-- ---- how many pass

one-pass : {X : Type 0} (test p : X → Bool) (xs : List X) → list_any (λ x. test x && p x) xs ≡ true → 1 ≤ length (filter test xs)
one-pass test p [] e = absurd (false≢true e)
one-pass {X} test p (x ∷ xs) e = by (test x) e (one-pass test p xs)
  where
    by : (h : Bool) → ((h && p x) || list_any (λ x. test x && p x) xs) ≡ true → (list_any (λ x. test x && p x) xs ≡ true → 1 ≤ length (filter test xs)) → 1 ≤ length (cond h (x ∷ filter test xs) (filter test xs))
    by true e rest = omega arith
    by false e rest = rest e

pub some-pass : {X : Type 0} (test : X → Bool) (xs : List X) → list_any test xs ≡ true → 1 ≤ length (filter test xs)
some-pass test [] e = absurd (false≢true e)
some-pass {X} test (x ∷ xs) e = by (test x) e (some-pass test xs)
  where
    by : (h : Bool) → (h || list_any test xs) ≡ true → (list_any test xs ≡ true → 1 ≤ length (filter test xs)) → 1 ≤ length (cond h (x ∷ filter test xs) (filter test xs))
    by true e rest = omega arith
    by false e rest = rest e

-- two that pass, by tests that no record passes both of
pub two-pass : {X : Type 0} (test p q : X → Bool) (xs : List X) → AllByRecursion (λ x. p x ≡ true → q x ≡ true → ⊥) xs → list_any (λ x. test x && p x) xs ≡ true → list_any (λ x. test x && q x) xs ≡ true → 2 ≤ length (filter test xs)
two-pass test p q [] apart e f = absurd (false≢true e)
two-pass {X} test p q (x ∷ xs) apart e f = by (test x) (p x) refl (q x) refl e f (two-pass test p q xs apart.1)
  where
    by : (h a : Bool) → p x ≡ a → (b : Bool) → q x ≡ b → ((h && a) || list_any (λ x. test x && p x) xs) ≡ true → ((h && b) || list_any (λ x. test x && q x) xs) ≡ true → (list_any (λ x. test x && p x) xs ≡ true → list_any (λ x. test x && q x) xs ≡ true → 2 ≤ length (filter test xs)) → 2 ≤ length (cond h (x ∷ filter test xs) (filter test xs))
    by false a a-is b b-is e f rest = rest e f
    by true true a-is true b-is e f rest = absurd (apart.0 a-is b-is)
    by true true a-is false b-is e f rest = omega (arith, one-pass test q xs f)
    by true false a-is true b-is e f rest = omega (arith, one-pass test p xs e)
    by true false a-is false b-is e f rest = omega (arith, one-pass test p xs e)

-- where nothing that passes is let go, the same pass
pub filter-kept : {X : Type 0} (keep test : X → Bool) (xs : List X) → AllByRecursion (λ x. keep x ≡ false → test x ≡ false) xs → filter test (filter keep xs) ≡ filter test xs
filter-kept keep test [] all = refl
filter-kept {X} keep test (x ∷ xs) all = by (keep x) refl (filter-kept keep test xs all.1)
  where
    by : (h : Bool) → keep x ≡ h → filter test (filter keep xs) ≡ filter test xs → filter test (cond h (x ∷ filter keep xs) (filter keep xs)) ≡ cond (test x) (x ∷ filter test xs) (filter test xs)
    by true e rest = ap (λ ys. cond (test x) (x ∷ ys) ys) rest
    by false e rest = rest ∙ sym (ap (λ h. cond h (x ∷ filter test xs) (filter test xs)) (all.0 e))

-- ---- tests of a list

-- a test that fails at what is let go gives the same answer, and finds the same
pub any-kept : {X : Type 0} (keep new old : X → Bool) (xs : List X) → AllByRecursion (λ x. (keep x ≡ true → new x ≡ old x) × (keep x ≡ false → old x ≡ false)) xs → list_any new (filter keep xs) ≡ list_any old xs
any-kept keep new old [] all = refl
any-kept {X} keep new old (x ∷ xs) all = by (keep x) refl (any-kept keep new old xs all.1)
  where
    by : (h : Bool) → keep x ≡ h → list_any new (filter keep xs) ≡ list_any old xs → list_any new (cond h (x ∷ filter keep xs) (filter keep xs)) ≡ (old x || list_any old xs)
    by true e rest = ap (λ (p : Bool × Bool). p.0 || p.1) (λ i. (all.0.0 e i, rest i))
    by false e rest = rest ∙ sym (ap (λ h. h || list_any old xs) (all.0.1 e))

pub find-kept : {X : Type 0} (keep new old : X → Bool) (xs : List X) → AllByRecursion (λ x. (keep x ≡ true → new x ≡ old x) × (keep x ≡ false → old x ≡ false)) xs → find new (filter keep xs) ≡ find old xs
find-kept keep new old [] all = refl
find-kept {X} keep new old (x ∷ xs) all = by (keep x) refl (find-kept keep new old xs all.1)
  where
    by : (h : Bool) → keep x ≡ h → find new (filter keep xs) ≡ find old xs → find new (cond h (x ∷ filter keep xs) (filter keep xs)) ≡ cond (old x) (Some x) (find old xs)
    by true e rest = ap (λ (p : Bool × Option X). cond p.0 (Some x) p.1) (λ i. (all.0.0 e i, rest i))
    by false e rest = rest ∙ sym (ap (λ h. cond h (Some x) (find old xs)) (all.0.1 e))

-- what some kept record passes, some record passes
pub any-of_kept : {X : Type 0} (keep test : X → Bool) (xs : List X) → list_any test (filter keep xs) ≡ true → list_any test xs ≡ true
any-of_kept keep test [] e = e
any-of_kept {X} keep test (x ∷ xs) e = by (keep x) e (any-of_kept keep test xs)
  where
    here : (test x ≡ true) ⊎ (list_any test (filter keep xs) ≡ true) → (list_any test (filter keep xs) ≡ true → list_any test xs ≡ true) → (test x || list_any test xs) ≡ true
    here (inl e) rest = or_left (test x) _ e
    here (inr e) rest = or_right (test x) _ (rest e)

    by : (h : Bool) → list_any test (cond h (x ∷ filter keep xs) (filter keep xs)) ≡ true → (list_any test (filter keep xs) ≡ true → list_any test xs ≡ true) → (test x || list_any test xs) ≡ true
    by true e rest = here (or_cases (test x) (list_any test (filter keep xs)) e) rest
    by false e rest = or_right (test x) _ (rest e)

pub none-kept : {X : Type 0} (keep test : X → Bool) (xs : List X) → list_any test xs ≡ false → list_any test (filter keep xs) ≡ false
none-kept keep test xs none = false_from_ne_true (list_any test (filter keep xs)) (λ e. true≢false (sym (any-of_kept keep test xs e) ∙ none))

pub none-each : {X : Type 0} (test : X → Bool) (xs : List X) → list_any test xs ≡ false → AllByRecursion (λ x. test x ≡ false) xs
none-each test [] none = tt
none-each test (x ∷ xs) none = let parts = or_parts (test x) (list_any test xs) none in (parts.0, none-each test xs parts.1)

-- what passes a test, with what is so of each record
pub any-with : {X : Type 0} (P : X → Type 0) (test : X → Bool) (xs : List X) → AllByRecursion P xs → list_any test xs ≡ true → (x : X) × P x × (test x ≡ true)
any-with P test [] all e = absurd (false≢true e)
any-with {X} P test (x ∷ xs) all e = by (or_cases (test x) (list_any test xs) e) (any-with P test xs all.1)
  where
    by : (test x ≡ true) ⊎ (list_any test xs ≡ true) → (list_any test xs ≡ true → (y : X) × P y × (test y ≡ true)) → (y : X) × P y × (test y ≡ true)
    by (inl here) rest = (x, all.0, here)
    by (inr more) rest = rest more

-- one test for another
pub any-to : {X : Type 0} (P : X → Type 0) (old new : X → Bool) → ((x : X) → P x → old x ≡ true → new x ≡ true) → (xs : List X) → AllByRecursion P xs → list_any old xs ≡ true → list_any new xs ≡ true
any-to P old new f [] all e = e
any-to {X} P old new f (x ∷ xs) all e = by (or_cases (old x) (list_any old xs) e) (any-to P old new f xs all.1)
  where
    by : (old x ≡ true) ⊎ (list_any old xs ≡ true) → (list_any old xs ≡ true → list_any new xs ≡ true) → (new x || list_any new xs) ≡ true
    by (inl here) rest = or_left (new x) _ (f x all.0 here)
    by (inr more) rest = or_right (new x) _ (rest more)

pub all-test : {X : Type 0} (test : X → Bool) (xs : List X) → list_all test xs ≡ true → AllByRecursion (λ x. test x ≡ true) xs
all-test test [] e = tt
all-test test (x ∷ xs) e = let parts = and_parts (test x) (list_all test xs) e in (parts.0, all-test test xs parts.1)

pub test-all : {X : Type 0} (test : X → Bool) (xs : List X) → AllByRecursion (λ x. test x ≡ true) xs → list_all test xs ≡ true
test-all test [] all = refl
test-all test (x ∷ xs) all = and_from (test x) (list_all test xs) all.0 (test-all test xs all.1)

-- ---- keys

pub eq-refl : (n : ℕ) → (n == n) ≡ true
eq-refl n = eq-eqb n n refl

pub not-true : (h : Bool) → not h ≡ true → h ≡ false
not-true true e = sym e
not-true false e = refl

pub not-false : (h : Bool) → not h ≡ false → h ≡ true
not-false true e = refl
not-false false e = sym e

-- two names of other ids
pub apart-by : (m n id : ℕ) → (m == id) ≡ true → (n == id) ≡ false → (m == n) ≡ false
apart-by m n id same other = false_from_ne_true (m == n) (λ e. true≢false (sym (ap (λ k. k == id) (sym (eqb-true m n e)) ∙ same) ∙ other))

module _ {X : Type 0} (key : X → ℕ) (id : ℕ) where
  abbrev pub keeps : X → Bool
  keeps x = not (key x == id)

  -- a look-up of another key
  pub other-any : (n : ℕ) → (n == id) ≡ false → (xs : List X) → list_any (λ x. key x == n) (filter keeps xs) ≡ list_any (λ x. key x == n) xs
  other-any n other xs = any-kept keeps (λ x. key x == n) (λ x. key x == n) xs (all-any (λ x. (keeps x ≡ true → (key x == n) ≡ (key x == n)) × (keeps x ≡ false → (key x == n) ≡ false)) (λ x. (λ e. refl, λ e. apart-by (key x) n id (not-false (key x == id) e) other)) xs)

  pub other-find : (n : ℕ) → (n == id) ≡ false → (xs : List X) → find (λ x. key x == n) (filter keeps xs) ≡ find (λ x. key x == n) xs
  other-find n other xs = find-kept keeps (λ x. key x == n) (λ x. key x == n) xs (all-any (λ x. (keeps x ≡ true → (key x == n) ≡ (key x == n)) × (keeps x ≡ false → (key x == n) ≡ false)) (λ x. (λ e. refl, λ e. apart-by (key x) n id (not-false (key x == id) e) other)) xs)

  -- the keys that are left
  pub keys-left : (xs : List X) → map key (filter keeps xs) ≡ filter (λ n. not (n == id)) (map key xs)
  keys-left [] = refl
  keys-left (x ∷ xs) = by (not (key x == id)) (keys-left xs)
    where
      by : (h : Bool) → map key (filter keeps xs) ≡ filter (λ n. not (n == id)) (map key xs) → map key (cond h (x ∷ filter keeps xs) (filter keeps xs)) ≡ cond h (key x ∷ filter (λ n. not (n == id)) (map key xs)) (filter (λ n. not (n == id)) (map key xs))
      by true rest = ap (λ ns. key x ∷ ns) rest
      by false rest = rest

-- ids that are left are among those that were there
pub among-kept : {X : Type 0} (key : X → ℕ) (keep : X → Bool) (xs : List X) (n : ℕ) → is_among (map key (filter keep xs)) n ≡ true → is_among (map key xs) n ≡ true
among-kept key keep [] n e = e
among-kept {X} key keep (x ∷ xs) n e = by (keep x) e (among-kept key keep xs n)
  where
    here : ((key x == n) ≡ true) ⊎ (is_among (map key (filter keep xs)) n ≡ true) → (is_among (map key (filter keep xs)) n ≡ true → is_among (map key xs) n ≡ true) → ((key x == n) || is_among (map key xs) n) ≡ true
    here (inl same) rest = or_left (key x == n) _ same
    here (inr more) rest = or_right (key x == n) _ (rest more)

    by : (h : Bool) → is_among (map key (cond h (x ∷ filter keep xs) (filter keep xs))) n ≡ true → (is_among (map key (filter keep xs)) n ≡ true → is_among (map key xs) n ≡ true) → ((key x == n) || is_among (map key xs) n) ≡ true
    by true e rest = here (or_cases (key x == n) (is_among (map key (filter keep xs)) n) e) rest
    by false e rest = or_right (key x == n) _ (rest e)

pub among-append : (xs ys : List ℕ) (n : ℕ) → is_among (xs ++ ys) n ≡ (is_among xs n || is_among ys n)
among-append xs ys n = list_any-append (λ (m : ℕ). m == n) xs ys

pub among-both : (cs ds es fs : List ℕ) (n : ℕ) → (is_among cs n ≡ true → is_among es n ≡ true) → (is_among ds n ≡ true → is_among fs n ≡ true) → is_among (cs ++ ds) n ≡ true → is_among (es ++ fs) n ≡ true
among-both cs ds es fs n f h e = among-append es fs n ∙ by (or_cases (is_among cs n) (is_among ds n) (sym (among-append cs ds n) ∙ e))
  where
    by : (is_among cs n ≡ true) ⊎ (is_among ds n ≡ true) → (is_among es n || is_among fs n) ≡ true
    by (inl a) = or_left (is_among es n) _ (f a)
    by (inr b) = or_right (is_among es n) _ (h b)

pub filter-none : {X : Type 0} (test : X → Bool) (xs : List X) → AllByRecursion (λ x. test x ≡ false) xs → filter test xs ≡ []
filter-none test [] all = refl
filter-none test (x ∷ xs) all = ap (λ h. cond h (x ∷ filter test xs) (filter test xs)) all.0 ∙ filter-none test xs all.1

-- ---- no key twice

pub distinct-filter : {X : Type 0} (key : X → ℕ) (keep : X → Bool) (xs : List X) → HasDistinct key xs → HasDistinct key (filter keep xs)
unfolding IsDistinct
distinct-filter key keep [] distinct = tt
distinct-filter {X} key keep (x ∷ xs) distinct = by (keep x) (distinct-filter key keep xs distinct.1)
  where
    behind : (ys : List X) → AllByRecursion (λ n. (key x == n) ≡ false) (map key ys) → AllByRecursion (λ n. (key x == n) ≡ false) (map key (filter keep ys))
    behind [] all = tt
    behind (y ∷ ys) all = at_test (keep y) (behind ys all.1)
      where
        at_test : (h : Bool) → AllByRecursion (λ n. (key x == n) ≡ false) (map key (filter keep ys)) → AllByRecursion (λ n. (key x == n) ≡ false) (map key (cond h (y ∷ filter keep ys) (filter keep ys)))
        at_test true rest = (all.0, rest)
        at_test false rest = rest

    by : (h : Bool) → HasDistinct key (filter keep xs) → HasDistinct key (cond h (x ∷ filter keep xs) (filter keep xs))
    by true rest = (behind xs distinct.0, rest)
    by false rest = rest

-- at most one record has a key
pub one-key : {X : Type 0} (key : X → ℕ) (id : ℕ) (P : X → Type 0) (xs : List X) → HasDistinct key xs → AllByRecursion P xs → (filter (λ x. key x == id) xs ≡ []) ⊎ ((x : X) × P x × ((key x == id) ≡ true) × (filter (λ x. key x == id) xs ≡ x ∷ []))
unfolding IsDistinct
one-key key id P [] distinct all = inl refl
one-key {X} key id P (x ∷ xs) distinct all = by (key x == id) refl (one-key key id P xs distinct.1 all.1)
  where
    none : (key x == id) ≡ true → (ys : List X) → AllByRecursion (λ n. (key x == n) ≡ false) (map key ys) → filter (λ x. key x == id) ys ≡ []
    none same [] apart = refl
    none same (y ∷ ys) apart = ap (λ h. cond h (y ∷ filter (λ x. key x == id) ys) (filter (λ x. key x == id) ys)) (eqb-turned id (key y) (ap (λ n. n == key y) (sym (eqb-true (key x) id same)) ∙ apart.0)) ∙ none same ys apart.1

    by : (h : Bool) → (key x == id) ≡ h → (filter (λ x. key x == id) xs ≡ []) ⊎ ((y : X) × P y × ((key y == id) ≡ true) × (filter (λ x. key x == id) xs ≡ y ∷ [])) → (cond h (x ∷ filter (λ x. key x == id) xs) (filter (λ x. key x == id) xs) ≡ []) ⊎ ((y : X) × P y × ((key y == id) ≡ true) × (cond h (x ∷ filter (λ x. key x == id) xs) (filter (λ x. key x == id) xs) ≡ y ∷ []))
    by true e rest = inr (x, all.0, e, ap (λ ys. x ∷ ys) (none e xs distinct.0))
    by false e rest = rest

-- numbers of a list, none of them twice, are no more than it has
pub distinct-most : (ns ids : List ℕ) → IsDistinct (λ m n. m == n) ns → AllByRecursion (λ n. is_among ids n ≡ true) ns → length ns ≤ length ids
distinct-most ns ids distinct there = length-le_from_is_member nat_eq_equiv ns ids distinct (λ q h. turned ids q ∙ at ns there q (sym (turned ns q) ∙ h))
  where
    swapped : (m n : ℕ) → (m == n) ≡ (n == m)
    swapped m n = by (n == m) refl
      where
        by : (h : Bool) → (n == m) ≡ h → (m == n) ≡ h
        by true e = eq-eqb m n (sym (eqb-true n m e))
        by false e = eqb-turned n m e

    turned : (xs : List ℕ) (x : ℕ) → list_any (nat_eq x) xs ≡ is_among xs x
    turned [] x = refl
    turned (y ∷ ys) x = ap (λ (p : Bool × Bool). p.0 || p.1) (λ i. (swapped x y i, turned ys x i))

    at : (xs : List ℕ) → AllByRecursion (λ n. is_among ids n ≡ true) xs → (q : ℕ) → is_among xs q ≡ true → is_among ids q ≡ true
    at [] all q e = absurd (false≢true e)
    at (x ∷ xs) all q e = by (or_cases (x == q) (is_among xs q) e) (at xs all.1 q)
      where
        by : ((x == q) ≡ true) ⊎ (is_among xs q ≡ true) → (is_among xs q ≡ true → is_among ids q ≡ true) → is_among ids q ≡ true
        by (inl same) rest = ap (is_among ids) (sym (eqb-true x q same)) ∙ all.0
        by (inr more) rest = rest more
