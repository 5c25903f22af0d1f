-- Lists of records that have the numbers they are made from as their keys.
use Rattle.std.proofs.Common.{◌≡◌, refl, sym, ap, subst, ◌∙◌, ℕ, zero, suc, ◌+◌, ◌<◌, ◌≤◌, List, [], ◌∷◌, find, count_by, slice_get, Bool, true, false, cond, ◌==◌, Option, Some, None, ◌⊎◌, inl, inr, arith}
use Rattle.std.specs.List.{filter_map, cons_option, range_with_len, list_all, AllByRecursion}
use Rattle.std.proofs.lemmas.Bool.{true≢false, and_parts, eq-eqb, ne_eqb, cases_order}
use Rattle.std.proofs.lemmas.Option.{same_Some}
use Rattle.std.proofs.lemmas.List.Sums.{sum_by-cons}
use Rattle.stream_law.specs.Placed.{AreAbove, Ascends}

-- a record has the number that it is made from
abbrev pub IsKeyed : {Y : Type 0} → (Y → ℕ) → (ℕ → Option Y) → Type 0
IsKeyed {Y} key f = (i : ℕ) (y : Y) → f i ≡ Some y → key y ≡ i

-- ---- ascending

above : {Y : Type 0} (key : Y → ℕ) (f : ℕ → Option Y) → IsKeyed key f → (low i n : ℕ) → low < i → AreAbove key low (filter_map f (range_with_len i n))
unfolding AreAbove
above key f keyed low i zero h = tt
above {Y} key f keyed low i (suc n) h = by_head (f i) refl (above key f keyed low (i + 1) n (omega arith))
  where
    by_head : (o : Option Y) → f i ≡ o → AreAbove key low (filter_map f (range_with_len (i + 1) n)) → AreAbove key low (cons_option o (filter_map f (range_with_len (i + 1) n)))
    by_head None e rest = rest
    by_head (Some y) e rest = (let s = keyed i y e in omega (arith, s), rest)

pub ascends : {Y : Type 0} (key : Y → ℕ) (f : ℕ → Option Y) → IsKeyed key f → (i n : ℕ) → Ascends key (filter_map f (range_with_len i n))
unfolding Ascends
ascends key f keyed i zero = tt
ascends {Y} key f keyed i (suc n) = by_head (f i) refl (ascends key f keyed (i + 1) n)
  where
    by_head : (o : Option Y) → f i ≡ o → Ascends key (filter_map f (range_with_len (i + 1) n)) → Ascends key (cons_option o (filter_map f (range_with_len (i + 1) n)))
    by_head None e rest = rest
    by_head (Some y) e rest = (above key f keyed (key y) (i + 1) n (let s = keyed i y e in omega (arith, s)), rest)

-- ---- of each record

pub all-made : {Y : Type 0} (P : Y → Type 0) (f : ℕ → Option Y) (i n : ℕ) → ((k : ℕ) (y : Y) → k < i + n → f k ≡ Some y → P y) → AllByRecursion P (filter_map f (range_with_len i n))
all-made P f i zero made = tt
all-made {Y} P f i (suc n) made = by_head (f i) refl (all-made P f (i + 1) n (λ k y high e. made k y (omega arith) e))
  where
    by_head : (o : Option Y) → f i ≡ o → AllByRecursion P (filter_map f (range_with_len (i + 1) n)) → AllByRecursion P (cons_option o (filter_map f (range_with_len (i + 1) n)))
    by_head None e rest = rest
    by_head (Some y) e rest = (made i y (omega arith) e, rest)

pub all-below : {Y : Type 0} (key : Y → ℕ) (f : ℕ → Option Y) → IsKeyed key f → (n : ℕ) → AllByRecursion (λ y. key y < n) (filter_map f (range_with_len 0 n))
all-below key f keyed n = all-made (λ y. key y < n) f 0 n (λ k y high e. let s = keyed k y e in omega (arith, s))

-- ---- the record of a number

none-before : {Y : Type 0} (key : Y → ℕ) (f : ℕ → Option Y) → IsKeyed key f → (id i n : ℕ) → id < i → find (λ y. key y == id) (filter_map f (range_with_len i n)) ≡ None
none-before key f keyed id i zero h = refl
none-before {Y} key f keyed id i (suc n) h = by_head (f i) refl (none-before key f keyed id (i + 1) n (omega arith))
  where
    by_head : (o : Option Y) → f i ≡ o → find (λ y. key y == id) (filter_map f (range_with_len (i + 1) n)) ≡ None → find (λ y. key y == id) (cons_option o (filter_map f (range_with_len (i + 1) n))) ≡ None
    by_head None e rest = rest
    by_head (Some y) e rest = ap (λ b. cond b (Some y) (find (λ y. key y == id) (filter_map f (range_with_len (i + 1) n)))) (ne_eqb (key y) id (λ same. let s = keyed i y e in absurd (omega (arith, s, same)))) ∙ rest

none-past : {Y : Type 0} (key : Y → ℕ) (f : ℕ → Option Y) → IsKeyed key f → (id i n : ℕ) → i + n ≤ id → find (λ y. key y == id) (filter_map f (range_with_len i n)) ≡ None
none-past key f keyed id i zero h = refl
none-past {Y} key f keyed id i (suc n) h = by_head (f i) refl (none-past key f keyed id (i + 1) n (omega arith))
  where
    by_head : (o : Option Y) → f i ≡ o → find (λ y. key y == id) (filter_map f (range_with_len (i + 1) n)) ≡ None → find (λ y. key y == id) (cons_option o (filter_map f (range_with_len (i + 1) n))) ≡ None
    by_head None e rest = rest
    by_head (Some y) e rest = ap (λ b. cond b (Some y) (find (λ y. key y == id) (filter_map f (range_with_len (i + 1) n)))) (ne_eqb (key y) id (λ same. let s = keyed i y e in absurd (omega (arith, s, same)))) ∙ rest

here : {Y : Type 0} (key : Y → ℕ) (f : ℕ → Option Y) → IsKeyed key f → (id i n : ℕ) → i ≤ id → id < i + n → find (λ y. key y == id) (filter_map f (range_with_len i n)) ≡ f id
here key f keyed id i zero low high = absurd (omega arith)
here {Y} key f keyed id i (suc n) low high = by_order (cases_order i id) (here key f keyed id (i + 1) n)
  where
    rest : List Y
    rest = filter_map f (range_with_len (i + 1) n)

    at_head : (o : Option Y) → f i ≡ o → i ≡ id → find (λ y. key y == id) (cons_option o rest) ≡ o
    at_head None e s = none-before key f keyed id (i + 1) n (omega arith)
    at_head (Some y) e s = ap (λ b. cond b (Some y) (find (λ y. key y == id) rest)) (eq-eqb (key y) id (keyed i y e ∙ s))

    behind : (o : Option Y) → f i ≡ o → i < id → find (λ y. key y == id) rest ≡ f id → find (λ y. key y == id) (cons_option o rest) ≡ f id
    behind None e s found = found
    behind (Some y) e s found = ap (λ b. cond b (Some y) (find (λ y. key y == id) rest)) (ne_eqb (key y) id (λ same. let k = keyed i y e in absurd (omega (arith, k, same)))) ∙ found

    by_order : (i ≡ id) ⊎ ((i < id) ⊎ (id < i)) → (i + 1 ≤ id → id < (i + 1) + n → find (λ y. key y == id) rest ≡ f id) → find (λ y. key y == id) (cons_option (f i) rest) ≡ f id
    by_order (inl s) found = at_head (f i) refl s ∙ ap f s
    by_order (inr (inl s)) found = behind (f i) refl s (found (omega arith) (omega arith))
    by_order (inr (inr s)) found = absurd (omega arith)

-- what is made from a number is the first of its key, where nothing is made from n on
pub by-key : {Y : Type 0} (key : Y → ℕ) (f : ℕ → Option Y) → IsKeyed key f → (n id : ℕ) → (n ≤ id → f id ≡ None) → find (λ y. key y == id) (filter_map f (range_with_len 0 n)) ≡ f id
by-key {Y} key f keyed n id past = by_order (cases_order id n)
  where
    by_order : (id ≡ n) ⊎ ((id < n) ⊎ (n < id)) → find (λ y. key y == id) (filter_map f (range_with_len 0 n)) ≡ f id
    by_order (inl s) = none-past key f keyed id 0 n (omega arith) ∙ sym (past (omega arith))
    by_order (inr (inl s)) = here key f keyed id 0 n (omega arith) (omega arith)
    by_order (inr (inr s)) = none-past key f keyed id 0 n (omega arith) ∙ sym (past (omega arith))

-- ---- by places

pub all-at : {X : Type 0} (P : X → Type 0) (xs : List X) → ((k : ℕ) (x : X) → slice_get xs k ≡ Some x → P x) → AllByRecursion P xs
all-at P [] each = tt
all-at P (x ∷ xs) each = (each 0 x refl, all-at P xs (λ k y e. each (suc k) y e))

pub at-all : {X : Type 0} (P : X → Type 0) (xs : List X) → AllByRecursion P xs → (k : ℕ) (x : X) → slice_get xs k ≡ Some x → P x
at-all P [] all k x e = cc
at-all P (y ∷ ys) all zero x e = subst P (same_Some y x e) all.0
at-all P (y ∷ ys) all (suc k) x e = at-all P ys all.1 k x e

pub passes-at : {X : Type 0} (f : X → Bool) (xs : List X) → list_all f xs ≡ true → (k : ℕ) (x : X) → slice_get xs k ≡ Some x → f x ≡ true
passes-at f [] all k x e = cc
passes-at f (y ∷ ys) all zero x e = ap f (sym (same_Some y x e)) ∙ (and_parts (f y) (list_all f ys) all).0
passes-at f (y ∷ ys) all (suc k) x e = passes-at f ys (and_parts (f y) (list_all f ys) all).1 k x e

-- ---- counts

none-at : {X : Type 0} (p : X → Bool) (xs : List X) → count_by p xs ≡ 0 → (k : ℕ) (x : X) → slice_get xs k ≡ Some x → p x ≡ true → ⊥
none-at p [] none k x e h = cc
none-at p (y ∷ ys) none zero x e h = let s = sum_by-cons (λ z. cond (p z) 1 0) y ys in let here : ◌≡◌ {A = ℕ} (cond (p y) 1 0) 1 = ap (λ b. cond b 1 0) (ap p (same_Some y x e) ∙ h) in omega (arith, s, none, here)
none-at p (y ∷ ys) none (suc k) x e h = let s = sum_by-cons (λ z. cond (p z) 1 0) y ys in none-at p ys (omega (arith, s, none)) k x e h

-- where one passes, it is the first that does
pub only-one : {X : Type 0} (p : X → Bool) (xs : List X) → count_by p xs ≡ 1 → (k : ℕ) (x : X) → slice_get xs k ≡ Some x → p x ≡ true → find p xs ≡ Some x
only-one p [] one k x e h = cc
only-one {X} p (y ∷ ys) one k x e h = by_test (p y) refl k e (sym (sum_by-cons (λ z. cond (p z) 1 0) y ys) ∙ one) (λ c i g. only-one p ys c i x g h)
  where
    by_test : (b : Bool) → p y ≡ b → (k : ℕ) → slice_get (y ∷ ys) k ≡ Some x → cond (p y) 1 0 + count_by p ys ≡ 1 → (count_by p ys ≡ 1 → (i : ℕ) → slice_get ys i ≡ Some x → find p ys ≡ Some x) → cond (p y) (Some y) (find p ys) ≡ Some x
    by_test true f zero g c rest = ap (λ b. cond b (Some y) (find p ys)) f ∙ g
    by_test true f (suc i) g c rest = let head : ◌≡◌ {A = ℕ} (cond (p y) 1 0) 1 = ap (λ b. cond b 1 0) f in absurd (none-at p ys (omega (arith, c, head)) i x g h)
    by_test false f zero g c rest = absurd (true≢false (sym (ap p (same_Some y x g) ∙ h) ∙ f))
    by_test false f (suc i) g c rest = let head : ◌≡◌ {A = ℕ} (cond (p y) 1 0) 0 = ap (λ b. cond b 1 0) f in ap (λ b. cond b (Some y) (find p ys)) f ∙ rest (omega (arith, c, head)) i g

pub some-first : {X : Type 0} (p : X → Bool) (xs : List X) → 1 ≤ count_by p xs → (x : X) × (find p xs ≡ Some x)
some-first p [] some = absurd (omega arith)
some-first {X} p (y ∷ ys) some = by_test (p y) refl (let s = sum_by-cons (λ z. cond (p z) 1 0) y ys in let m : 1 ≤ cond (p y) 1 0 + count_by p ys = omega (arith, s, some) in m) (some-first p ys)
  where
    by_test : (b : Bool) → p y ≡ b → 1 ≤ cond (p y) 1 0 + count_by p ys → (1 ≤ count_by p ys → (x : X) × (find p ys ≡ Some x)) → (x : X) × (cond (p y) (Some y) (find p ys) ≡ Some x)
    by_test true f m rest = (y, ap (λ b. cond b (Some y) (find p ys)) f)
    by_test false f m rest = let head : ◌≡◌ {A = ℕ} (cond (p y) 1 0) 0 = ap (λ b. cond b 1 0) f in let r = rest (omega (arith, m, head)) in (r.0, ap (λ b. cond b (Some y) (find p ys)) f ∙ r.1)
