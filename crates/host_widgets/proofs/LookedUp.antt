-- Lemmas on look-ups, tests and counts of lists.
use Rattle.std.proofs.Common.{◌≡◌, ◌⊎◌, inl, inr, refl, sym, ap, ◌∙◌, ℕ, zero, suc, ◌+◌, ◌≤◌, ◌<◌, List, [], ◌∷◌, ◌++◌, map, length, filter, Bool, true, false, cond, not, ◌==◌, ◌||◌, ◌&&◌, Some, None, arith}
use Rattle.std.specs.Prelude.{nat_lt, count_by}
use Rattle.std.specs.Option.{option_map}
use Rattle.std.specs.List.{list_any, find, AllByRecursion}
use Rattle.std.proofs.lemmas.Bool.{false≢true, true≢false, false_from_ne_true, eqb-true, eq-eqb, lt-ltb, ltb-true, le-ltb, or_cases}
use Rattle.std.proofs.lemmas.List.Sums.{length-filter}
use Rattle.stream_law.specs.Placed.{AreAbove, Ascends}

-- ---- what is found

pub found-is : {X : Type 0} (key : X → ℕ) (xs : List X) (id : ℕ) (x : X) → find (λ y. key y == id) xs ≡ Some x → key x ≡ id
found-is key [] id x found = absurd (cc found)
found-is {X} key (y ∷ ys) id x found = by (key y == id) refl found (found-is key ys id x)
  where
    by : (h : Bool) → (key y == id) ≡ h → cond h (Some y) (find (λ z. key z == id) ys) ≡ Some x → (find (λ z. key z == id) ys ≡ Some x → key x ≡ id) → key x ≡ id
    by true e found rest = let same : y ≡ x = cc found in ap key (sym same) ∙ eqb-true (key y) id e
    by false e found rest = rest found

pub found-passes : {X : Type 0} (p : X → Bool) (xs : List X) (x : X) → find p xs ≡ Some x → p x ≡ true
found-passes p [] x found = absurd (cc found)
found-passes {X} p (y ∷ ys) x found = by (p y) refl found (found-passes p ys x)
  where
    by : (h : Bool) → p y ≡ h → cond h (Some y) (find p ys) ≡ Some x → (find p ys ≡ Some x → p x ≡ true) → p x ≡ true
    by true e found rest = let same : y ≡ x = cc found in ap p (sym same) ∙ e
    by false e found rest = rest found

pub all-found : {X : Type 0} (P : X → Type 0) (p : X → Bool) (xs : List X) (x : X) → AllByRecursion P xs → find p xs ≡ Some x → P x
all-found P p [] x all found = absurd (cc found)
all-found {X} P p (y ∷ ys) x all found = by (p y) found (all-found P p ys x all.1)
  where
    by : (h : Bool) → cond h (Some y) (find p ys) ≡ Some x → (find p ys ≡ Some x → P x) → P x
    by true found rest = let same : y ≡ x = cc found in rw same at all.0
    by false found rest = rest found

pub find-map : {X Y : Type 0} (key : X → ℕ) (name : Y → ℕ) (f : X → Y) → ((x : X) → name (f x) ≡ key x) → (xs : List X) (id : ℕ) → find (λ y. name y == id) (map f xs) ≡ option_map f (find (λ x. key x == id) xs)
find-map key name f same [] id = refl
find-map {X} {Y} key name f same (x ∷ xs) id =
    ap (λ (k : ℕ). cond (k == id) (Some (f x)) (find (λ y. name y == id) (map f xs))) (same x) ∙ by (key x == id) (find-map key name f same xs id)
  where
    by : (h : Bool) → find (λ y. name y == id) (map f xs) ≡ option_map f (find (λ x. key x == id) xs) → cond h (Some (f x)) (find (λ y. name y == id) (map f xs)) ≡ option_map f (cond h (Some x) (find (λ x. key x == id) xs))
    by true rest = refl
    by false rest = rest

pub found-map : {X Y : Type 0} (key : X → ℕ) (name : Y → ℕ) (f : X → Y) → ((x : X) → name (f x) ≡ key x) → (xs : List X) (id : ℕ) (x : X) → find (λ y. key y == id) xs ≡ Some x → find (λ y. name y == id) (map f xs) ≡ Some (f x)
found-map key name f same xs id x found = find-map key name f same xs id ∙ ap (option_map f) found

pub lost-map : {X Y : Type 0} (key : X → ℕ) (name : Y → ℕ) (f : X → Y) → ((x : X) → name (f x) ≡ key x) → (xs : List X) (id : ℕ) → find (λ y. key y == id) xs ≡ None → find (λ y. name y == id) (map f xs) ≡ None
lost-map key name f same xs id lost = find-map key name f same xs id ∙ ap (option_map f) lost

-- ---- tests

pub any-found : {X : Type 0} (p : X → Bool) (xs : List X) (x : X) → find p xs ≡ Some x → list_any p xs ≡ true
any-found p [] x found = absurd (cc found)
any-found {X} p (y ∷ ys) x found = by (p y) found (any-found p ys x)
  where
    by : (h : Bool) → cond h (Some y) (find p ys) ≡ Some x → (find p ys ≡ Some x → list_any p ys ≡ true) → (h || list_any p ys) ≡ true
    by true found rest = refl
    by false found rest = rest found

pub any-lost : {X : Type 0} (p : X → Bool) (xs : List X) → find p xs ≡ None → list_any p xs ≡ false
any-lost p [] lost = refl
any-lost {X} p (y ∷ ys) lost = by (p y) lost (any-lost p ys)
  where
    by : (h : Bool) → cond h (Some y) (find p ys) ≡ None → (find p ys ≡ None → list_any p ys ≡ false) → (h || list_any p ys) ≡ false
    by true lost rest = absurd (cc lost)
    by false lost rest = rest lost

pub lost-any : {X : Type 0} (p : X → Bool) (xs : List X) → list_any p xs ≡ false → find p xs ≡ None
lost-any p [] none = refl
lost-any {X} p (y ∷ ys) none = by (p y) none (lost-any p ys)
  where
    by : (h : Bool) → (h || list_any p ys) ≡ false → (list_any p ys ≡ false → find p ys ≡ None) → cond h (Some y) (find p ys) ≡ None
    by true none rest = absurd (true≢false none)
    by false none rest = rest none

-- fewer pass a test that implies another, which some record passes alone
pub filter-within : {X : Type 0} (p q : X → Bool) → ((x : X) → p x ≡ true → q x ≡ true) → (xs : List X) → length (filter p xs) ≤ length (filter q xs)
filter-within p q step [] = omega arith
filter-within {X} p q step (x ∷ xs) = by (p x) refl (q x) refl (filter-within p q step xs)
  where
    by : (h : Bool) → p x ≡ h → (k : Bool) → q x ≡ k → length (filter p xs) ≤ length (filter q xs) → length (cond h (x ∷ filter p xs) (filter p xs)) ≤ length (cond k (x ∷ filter q xs) (filter q xs))
    by true e true e' rest = omega (arith, rest)
    by true e false e' rest = absurd (true≢false (sym (step x e) ∙ e'))
    by false e true e' rest = omega (arith, rest)
    by false e false e' rest = rest

pub filter-fewer : {X : Type 0} (p q : X → Bool) → ((x : X) → p x ≡ true → q x ≡ true) → (xs : List X) → list_any (λ x. not (p x) && q x) xs ≡ true → length (filter p xs) + 1 ≤ length (filter q xs)
filter-fewer p q step [] some = absurd (false≢true some)
filter-fewer {X} p q step (x ∷ xs) some = by (p x) refl (q x) refl some (filter-within p q step xs) (filter-fewer p q step xs)
  where
    by : (h : Bool) → p x ≡ h → (k : Bool) → q x ≡ k → ((not h && k) || list_any (λ x. not (p x) && q x) xs) ≡ true → length (filter p xs) ≤ length (filter q xs) → (list_any (λ x. not (p x) && q x) xs ≡ true → length (filter p xs) + 1 ≤ length (filter q xs)) → length (cond h (x ∷ filter p xs) (filter p xs)) + 1 ≤ length (cond k (x ∷ filter q xs) (filter q xs))
    by true e true e' some within rest = omega (arith, rest some)
    by true e false e' some within rest = absurd (true≢false (sym (step x e) ∙ e'))
    by false e true e' some within rest = omega (arith, within)
    by false e false e' some within rest = rest some

-- ---- maps

pub map-all : {X Y : Type 0} (f g : X → Y) (xs : List X) → AllByRecursion (λ x. f x ≡ g x) xs → map f xs ≡ map g xs
map-all f g [] same = refl
map-all f g (x ∷ xs) same = ap (λ y. y ∷ map f xs) same.0 ∙ ap (λ ys. g x ∷ ys) (map-all f g xs same.1)

pub map-twice : {X Y Z : Type 0} (f : Y → Z) (h : X → Y) (k : X → Z) (xs : List X) → AllByRecursion (λ x. f (h x) ≡ k x) xs → map f (map h xs) ≡ map k xs
map-twice f h k [] same = refl
map-twice f h k (x ∷ xs) same = ap (λ y. y ∷ map f (map h xs)) same.0 ∙ ap (λ ys. k x ∷ ys) (map-twice f h k xs same.1)

-- of every record
pub all-of : {X : Type 0} (P : X → Type 0) → ((x : X) → P x) → (xs : List X) → AllByRecursion P xs
all-of P each [] = tt
all-of P each (x ∷ xs) = (each x, all-of P each xs)

-- ---- lists that ascend

above-lost : {X : Type 0} (key : X → ℕ) (n : ℕ) (xs : List X) → AreAbove key n xs → list_any (λ x. key x == n) xs ≡ false
unfolding AreAbove
above-lost key n [] above = refl
above-lost {X} key n (x ∷ xs) above = by (key x == n) refl (above-lost key n xs above.1)
  where
    by : (h : Bool) → (key x == n) ≡ h → list_any (λ x. key x == n) xs ≡ false → (h || list_any (λ x. key x == n) xs) ≡ false
    by true e rest = absurd (let same : key x ≡ n = eqb-true (key x) n e in omega (arith, same, above.0))
    by false e rest = rest

-- the first record's key is not among the rest
pub first-apart : {X : Type 0} (key : X → ℕ) (x : X) (xs : List X) → Ascends key (x ∷ xs) → list_any (λ y. key y == key x) xs ≡ false
unfolding Ascends
first-apart key x xs up = above-lost key (key x) xs up.0

pub rest-ascends : {X : Type 0} (key : X → ℕ) (x : X) (xs : List X) → Ascends key (x ∷ xs) → Ascends key xs
unfolding Ascends
rest-ascends key x xs up = up.1

above-differs : {X : Type 0} (key : X → ℕ) (n : ℕ) (xs : List X) → AreAbove key n xs → AllByRecursion (λ x. (n == key x) ≡ false) xs
unfolding AreAbove
above-differs key n [] above = tt
above-differs key n (x ∷ xs) above = (false_from_ne_true (n == key x) (λ e. let same : n ≡ key x = eqb-true n (key x) e in omega (arith, same, above.0)), above-differs key n xs above.1)

-- each record is what its key finds
pub each-found : {X : Type 0} (key : X → ℕ) (xs : List X) → Ascends key xs → AllByRecursion (λ x. find (λ y. key y == key x) xs ≡ Some x) xs
unfolding Ascends
each-found key [] up = tt
each-found {X} key (x ∷ xs) up =
    (ap (λ (h : Bool). cond h (Some x) (find (λ y. key y == key x) xs)) (eq-eqb (key x) (key x) refl), behind xs (above-differs key (key x) xs up.0) (each-found key xs up.1))
  where
    behind : (ys : List X) → AllByRecursion (λ y. (key x == key y) ≡ false) ys → AllByRecursion (λ y. find (λ z. key z == key y) xs ≡ Some y) ys → AllByRecursion (λ y. cond (key x == key y) (Some x) (find (λ z. key z == key y) xs) ≡ Some y) ys
    behind [] apart found = tt
    behind (y ∷ ys) apart found = (ap (λ (h : Bool). cond h (Some x) (find (λ z. key z == key y) xs)) apart.0 ∙ found.0, behind ys apart.1 found.1)

-- ---- one of its kind

kept-some : {X : Type 0} (p : X → Bool) (xs : List X) (x : X) (ys : List X) → p x ≡ true → 1 ≤ length (filter p (xs ++ x ∷ ys))
kept-some {X} p [] x ys here =
    let two : filter p (x ∷ ys) ≡ x ∷ filter p ys = ap (λ (h : Bool). cond h (x ∷ filter p ys) (filter p ys)) here in omega (arith, ap length two)
kept-some {X} p (z ∷ zs) x ys here = by (p z) (kept-some p zs x ys here)
  where
    by : (h : Bool) → 1 ≤ length (filter p (zs ++ x ∷ ys)) → 1 ≤ length (cond h (z ∷ filter p (zs ++ x ∷ ys)) (filter p (zs ++ x ∷ ys)))
    by true rest = omega arith
    by false rest = rest

kept-alone : {X : Type 0} (p : X → Bool) (xs : List X) (x : X) (ys : List X) → length (filter p (xs ++ x ∷ ys)) ≡ 1 → p x ≡ true → find p xs ≡ None
kept-alone p [] x ys one here = refl
kept-alone {X} p (z ∷ zs) x ys one here = by (p z) one (kept-alone p zs x ys)
  where
    by : (h : Bool) → length (cond h (z ∷ filter p (zs ++ x ∷ ys)) (filter p (zs ++ x ∷ ys))) ≡ 1 → (length (filter p (zs ++ x ∷ ys)) ≡ 1 → p x ≡ true → find p zs ≡ None) → cond h (Some z) (find p zs) ≡ None
    by true one rest = absurd (omega (arith, one, kept-some p zs x ys here))
    by false one rest = rest one here

-- where one passes, and no other does, none passes before it
pub alone : {X : Type 0} (p : X → Bool) (xs : List X) (x : X) (ys : List X) → count_by p (xs ++ x ∷ ys) ≡ 1 → p x ≡ true → find p xs ≡ None
alone p xs x ys one here = kept-alone p xs x ys (length-filter p (xs ++ x ∷ ys) ∙ one) here

-- where some pass, one is found
pub some-kept : {X : Type 0} (p : X → Bool) (xs : List X) → length (filter p xs) ≡ 1 → (x : X) × (find p xs ≡ Some x)
some-kept p [] one = absurd (cc one)
some-kept {X} p (z ∷ zs) one = by (p z) one (some-kept p zs)
  where
    by : (h : Bool) → length (cond h (z ∷ filter p zs) (filter p zs)) ≡ 1 → (length (filter p zs) ≡ 1 → (x : X) × (find p zs ≡ Some x)) → (x : X) × (cond h (Some z) (find p zs) ≡ Some x)
    by true one rest = (z, refl)
    by false one rest = rest one

pub some-counted : {X : Type 0} (p : X → Bool) (xs : List X) → count_by p xs ≡ 1 → (x : X) × (find p xs ≡ Some x)
some-counted p xs one = some-kept p xs (length-filter p xs ∙ one)

-- ---- numbers below n among others

below : ℕ → List ℕ → ℕ
below n [] = 0
below n (x ∷ xs) = cond (nat_lt x n) 1 0 + below n xs

below-most : (n : ℕ) (xs : List ℕ) → below n xs ≤ length xs
unfolding below
below-most n [] = omega arith
below-most n (x ∷ xs) = by (nat_lt x n) (below-most n xs)
  where
    by : (h : Bool) → below n xs ≤ length xs → cond h 1 0 + below n xs ≤ suc (length xs)
    by true rest = omega (arith, rest)
    by false rest = omega (arith, rest)

below-rises : (n : ℕ) (xs : List ℕ) → below n xs ≤ below (suc n) xs
unfolding below
below-rises n [] = omega arith
below-rises n (x ∷ xs) = by (nat_lt x n) refl (below-rises n xs)
  where
    by : (h : Bool) → nat_lt x n ≡ h → below n xs ≤ below (suc n) xs → cond h 1 0 + below n xs ≤ cond (nat_lt x (suc n)) 1 0 + below (suc n) xs
    by true e rest = rw (lt-ltb x (suc n) (let low : x < n = ltb-true x n e in omega (arith, low))) (omega (arith, rest))
    by false e rest = omega (arith, rest)

below-one : (n : ℕ) (xs : List ℕ) → list_any (λ x. x == n) xs ≡ true → below n xs + 1 ≤ below (suc n) xs
unfolding below
below-one n [] there = absurd (false≢true there)
below-one n (x ∷ xs) there = by (or_cases (x == n) (list_any (λ x. x == n) xs) there) (below-one n xs) (below-rises n xs)
  where
    here : x ≡ n → below n xs ≤ below (suc n) xs → cond (nat_lt x n) 1 0 + below n xs + 1 ≤ cond (nat_lt x (suc n)) 1 0 + below (suc n) xs
    here same rises = rw (le-ltb x n (omega (arith, same)), lt-ltb x (suc n) (omega (arith, same))) (omega (arith, rises))

    later : (h : Bool) → nat_lt x n ≡ h → below n xs + 1 ≤ below (suc n) xs → cond h 1 0 + below n xs + 1 ≤ cond (nat_lt x (suc n)) 1 0 + below (suc n) xs
    later true e rest = rw (lt-ltb x (suc n) (let low : x < n = ltb-true x n e in omega (arith, low))) (omega (arith, rest))
    later false e rest = omega (arith, rest)

    by : ((x == n) ≡ true) ⊎ (list_any (λ x. x == n) xs ≡ true) → (list_any (λ x. x == n) xs ≡ true → below n xs + 1 ≤ below (suc n) xs) → below n xs ≤ below (suc n) xs → cond (nat_lt x n) 1 0 + below n xs + 1 ≤ cond (nat_lt x (suc n)) 1 0 + below (suc n) xs
    by (inl e) rest rises = here (eqb-true x n e) rises
    by (inr e) rest rises = later (nat_lt x n) refl (rest e)

-- where all numbers below n are among some, these are as many
pub all-below : (n : ℕ) (xs : List ℕ) → ((k : ℕ) → k < n → list_any (λ x. x == k) xs ≡ true) → n ≤ length xs
all-below n xs there = omega (arith, below-most n xs, so_far n there)
  where
    so_far : (m : ℕ) → ((k : ℕ) → k < m → list_any (λ x. x == k) xs ≡ true) → m ≤ below m xs
    so_far zero there = omega arith
    so_far (suc m) there = omega (arith, so_far m (λ k low. there k (omega (arith, low))), below-one m xs (there m (omega arith)))
