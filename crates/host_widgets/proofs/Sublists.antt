-- Lists of which some records are left, and records that are put back into their places.
use Rattle.std.proofs.Common.{◌≡◌, refl, sym, ap, ◌∙◌, subst, ℕ, zero, suc, ◌+◌, ◌<◌, ◌≤◌, List, [], ◌∷◌, ◌++◌, map, filter, Bool, true, false, cond, inl, inr, ◌⊎◌, ◌==◌, ◌||◌, ◌&&◌, Some, length, arith}
use Rattle.std.specs.Prelude.{find, nat_lt}
use Rattle.std.specs.List.{flat_map, range_with_len, AllByRecursion, IsDistinct}
use Rattle.std.proofs.lemmas.Bool.{true≢false, eqb-true, eq-eqb, le-ltb, lt-ltb, false_from_ne_true}
use Rattle.stream_law.specs.Placed.{placed, AreAbove, Ascends, HasDistinct}
use Rattle.stream_law.proofs.Members.{IsIn, find-in, kept-in}
use Rattle.stream_law.proofs.Placing.{AreAbove-filter}
use Rattle.host_widgets.proofs.Needs.{in-left, in-right, in-either, flat-in}
use Rattle.std.proofs.lemmas.List.{length-append}

-- ---- what is left

-- the same is left by tests that agree on the list
pub filter-same : {X : Type 0} (p q : X → Bool) (xs : List X) → AllByRecursion (λ x. p x ≡ q x) xs → filter p xs ≡ filter q xs
filter-same p q [] all = refl
filter-same {X} p q (x ∷ xs) all = ap (λ (b : Bool). cond b (x ∷ filter p xs) (filter p xs)) all.0 ∙ ap (λ (ys : List X). cond (q x) (x ∷ ys) ys) (filter-same p q xs all.1)

pub filter-both : {X : Type 0} (p q : X → Bool) (xs : List X) → filter p (filter q xs) ≡ filter (λ x. q x && p x) xs
filter-both p q [] = refl
filter-both {X} p q (x ∷ xs) = by (q x) (filter-both p q xs)
  where
    by : (h : Bool) → filter p (filter q xs) ≡ filter (λ x. q x && p x) xs → filter p (cond h (x ∷ filter q xs) (filter q xs)) ≡ cond (h && p x) (x ∷ filter (λ x. q x && p x) xs) (filter (λ x. q x && p x) xs)
    by true rest = ap (λ (ys : List X). cond (p x) (x ∷ ys) ys) rest
    by false rest = rest

pub filter-map : {X Y : Type 0} (f : X → Y) (p : Y → Bool) (xs : List X) → filter p (map f xs) ≡ map f (filter (λ x. p (f x)) xs)
filter-map f p [] = refl
filter-map {X} {Y} f p (x ∷ xs) = by (p (f x)) (filter-map f p xs)
  where
    by : (h : Bool) → filter p (map f xs) ≡ map f (filter (λ x. p (f x)) xs) → cond h (f x ∷ filter p (map f xs)) (filter p (map f xs)) ≡ map f (cond h (x ∷ filter (λ x. p (f x)) xs) (filter (λ x. p (f x)) xs))
    by true rest = ap (λ (ys : List Y). f x ∷ ys) rest
    by false rest = rest

pub filter-append : {X : Type 0} (p : X → Bool) (xs ys : List X) → filter p (xs ++ ys) ≡ filter p xs ++ filter p ys
filter-append p [] ys = refl
filter-append {X} p (x ∷ xs) ys = by (p x) (filter-append p xs ys)
  where
    by : (h : Bool) → filter p (xs ++ ys) ≡ filter p xs ++ filter p ys → cond h (x ∷ filter p (xs ++ ys)) (filter p (xs ++ ys)) ≡ cond h (x ∷ filter p xs) (filter p xs) ++ filter p ys
    by true rest = ap (λ (zs : List X). x ∷ zs) rest
    by false rest = rest

-- all is left, or nothing
pub filter-all : {X : Type 0} (p : X → Bool) (xs : List X) → AllByRecursion (λ x. p x ≡ true) xs → filter p xs ≡ xs
filter-all p [] all = refl
filter-all {X} p (x ∷ xs) all = ap (λ (b : Bool). cond b (x ∷ filter p xs) (filter p xs)) all.0 ∙ ap (λ (ys : List X). x ∷ ys) (filter-all p xs all.1)

pub filter-none : {X : Type 0} (p : X → Bool) (xs : List X) → AllByRecursion (λ x. p x ≡ false) xs → filter p xs ≡ []
filter-none p [] all = refl
filter-none {X} p (x ∷ xs) all = ap (λ (b : Bool). cond b (x ∷ filter p xs) (filter p xs)) all.0 ∙ filter-none p xs all.1

pub all-filter : {X : Type 0} (P : X → Type 0) (p : X → Bool) (xs : List X) → AllByRecursion P xs → AllByRecursion P (filter p xs)
all-filter P p [] all = tt
all-filter {X} P p (x ∷ xs) all = by (p x) (all-filter P p xs all.1)
  where
    by : (h : Bool) → AllByRecursion P (filter p xs) → AllByRecursion P (cond h (x ∷ filter p xs) (filter p xs))
    by true rest = (all.0, rest)
    by false rest = rest

pub all-placed : {X : Type 0} (P : X → Type 0) (key : X → ℕ) (x : X) (xs : List X) → P x → AllByRecursion P xs → AllByRecursion P (placed key x xs)
all-placed P key x [] one all = (one, tt)
all-placed {X} P key x (y ∷ ys) one all = by (nat_lt (key x) (key y)) (all-placed P key x ys one all.1)
  where
    by : (h : Bool) → AllByRecursion P (placed key x ys) → AllByRecursion P (cond h (x ∷ y ∷ ys) (y ∷ placed key x ys))
    by true rest = (one, all)
    by false rest = (all.0, rest)

-- maps that agree, as a fact of each member
pub maps-all : {X Y : Type 0} (f g : X → Y) (xs : List X) → map f xs ≡ map g xs → AllByRecursion (λ x. f x ≡ g x) xs
maps-all f g [] same = tt
maps-all f g (x ∷ xs) same = (cc same, maps-all f g xs (cc same))

-- ---- places

-- before all that are above it
placed-first : {X : Type 0} (key : X → ℕ) (x : X) (xs : List X) → AreAbove key (key x) xs → placed key x xs ≡ x ∷ xs
unfolding AreAbove
placed-first key x [] above = refl
placed-first key x (y ∷ ys) above = ap (λ (b : Bool). cond b (x ∷ y ∷ ys) (y ∷ placed key x ys)) (lt-ltb (key x) (key y) above.0)

-- the key of what is found in a list above a number is above it
found-above : {X : Type 0} (key : X → ℕ) (n : ℕ) (p : X → Bool) (xs : List X) (x : X) → AreAbove key n xs → find p xs ≡ Some x → n < key x
unfolding AreAbove
found-above key n p [] x above found = absurd (cc found)
found-above {X} key n p (y ∷ ys) x above found = by (p y) found (found-above key n p ys x above.1)
  where
    by : (h : Bool) → cond h (Some y) (find p ys) ≡ Some x → (find p ys ≡ Some x → n < key x) → n < key x
    by true found rest = let one : y ≡ x = cc found in subst (λ (z : X). n < key z) one above.0
    by false found rest = rest found

others-left : {X : Type 0} (key : X → ℕ) (n : ℕ) (p : X → Bool) (xs : List X) → AreAbove key n xs → AllByRecursion (λ y. p y ≡ ((key y == n) || p y)) xs
unfolding AreAbove
others-left key n p [] above = tt
others-left key n p (y ∷ ys) above =
    (sym (ap (λ (b : Bool). b || p y) (false_from_ne_true (key y == n) (λ e. let same : key y ≡ n = eqb-true (key y) n e in omega (arith, same, above.0)))), others-left key n p ys above.1)

-- A record of a list that ascends is put into its place among those that are left.
pub placed-left : {X : Type 0} (key : X → ℕ) (p : X → Bool) (n : ℕ) (xs : List X) (x : X) → Ascends key xs → find (λ y. key y == n) xs ≡ Some x → p x ≡ false → placed key x (filter p xs) ≡ filter (λ y. (key y == n) || p y) xs
unfolding Ascends
placed-left key p n [] x up found gone = absurd (cc found)
placed-left {X} key p n (y ∷ ys) x up found gone = by (key y == n) refl found (placed-left key p n ys x up.1)
  where
    left : List X
    left = filter (λ z. (key z == n) || p z) ys

    here : key y ≡ n → y ≡ x → placed key x (cond (p y) (y ∷ filter p ys) (filter p ys)) ≡ y ∷ left
    here at same =
        ap (λ (b : Bool). placed key x (cond b (y ∷ filter p ys) (filter p ys))) (ap p same ∙ gone)
        ∙ placed-first key x (filter p ys) (AreAbove-filter p key (key x) ys (subst (λ (z : X). AreAbove key (key z) ys) same up.0))
        ∙ ap (λ (z : X). z ∷ filter p ys) (sym same)
        ∙ ap (λ (zs : List X). y ∷ zs) (filter-same p (λ z. (key z == n) || p z) ys (others-left key n p ys (subst (λ (m : ℕ). AreAbove key m ys) at up.0)))

    later : (b : Bool) → placed key x (filter p ys) ≡ left → key y < key x → placed key x (cond b (y ∷ filter p ys) (filter p ys)) ≡ cond b (y ∷ left) left
    later true rest low = ap (λ (b : Bool). cond b (x ∷ y ∷ filter p ys) (y ∷ placed key x (filter p ys))) (le-ltb (key x) (key y) (omega (arith, low))) ∙ ap (λ (zs : List X). y ∷ zs) rest
    later false rest low = rest

    by : (h : Bool) → (key y == n) ≡ h → cond h (Some y) (find (λ z. key z == n) ys) ≡ Some x → (find (λ z. key z == n) ys ≡ Some x → p x ≡ false → placed key x (filter p ys) ≡ left) →
        placed key x (cond (p y) (y ∷ filter p ys) (filter p ys)) ≡ cond (h || p y) (y ∷ left) left
    by true e found rest = here (eqb-true (key y) n e) (cc found)
    by false e found rest = later (p y) (rest found gone) (found-above key (key y) (λ z. key z == n) ys x up.0 found)

-- a record that is in no list changes none
pub none-placed : {X : Type 0} (key : X → ℕ) (p : X → Bool) (n : ℕ) (xs : List X) → AllByRecursion (λ y. (key y == n) ≡ false) xs → filter p xs ≡ filter (λ y. (key y == n) || p y) xs
none-placed {X} key p n xs none = filter-same p (λ y. (key y == n) || p y) xs (each xs none)
  where
    each : (ys : List X) → AllByRecursion (λ y. (key y == n) ≡ false) ys → AllByRecursion (λ y. p y ≡ ((key y == n) || p y)) ys
    each [] none = tt
    each (y ∷ ys) none = (sym (ap (λ (b : Bool). b || p y) none.0), each ys none.1)

-- ---- a range

range-above : (n from k : ℕ) → n < from → AreAbove (λ x. x) n (range_with_len from k)
unfolding AreAbove
range-above n from zero low = tt
range-above n from (suc k) low = (low, range-above n (from + 1) k (omega (arith, low)))

pub range-ascends : (from k : ℕ) → Ascends (λ x. x) (range_with_len from k)
unfolding Ascends
range-ascends from zero = tt
range-ascends from (suc k) = (range-above from (from + 1) k (omega arith), range-ascends (from + 1) k)

pub range-found : (from k n : ℕ) → from ≤ n → n < from + k → find (λ x. x == n) (range_with_len from k) ≡ Some n
range-found from zero n low high = absurd (omega (arith, low, high))
range-found from (suc k) n low high = by (from == n) refl (range-found (from + 1) k n)
  where
    by : (h : Bool) → (from == n) ≡ h → (from + 1 ≤ n → n < (from + 1) + k → find (λ x. x == n) (range_with_len (from + 1) k) ≡ Some n) → cond h (Some from) (find (λ x. x == n) (range_with_len (from + 1) k)) ≡ Some n
    by true e go = ap Some (eqb-true from n e)
    by false e go = go (let apart : from ≡ n → ⊥ = (λ same. true≢false (sym (eq-eqb from n same) ∙ e)) in omega (arith, low, apart)) (omega (arith, high))

-- its members
pub range-low : (from k n : ℕ) → IsIn n (range_with_len from k) → n < from + k
range-low from zero n none = absurd none
range-low from (suc k) n (inl same) = omega (arith, same)
range-low from (suc k) n (inr more) = let low = range-low (from + 1) k n more in omega (arith, low)

pub low-range : (from k n : ℕ) → from ≤ n → n < from + k → IsIn n (range_with_len from k)
low-range from k n low high = (find-in (λ x. x == n) (range_with_len from k) n (range-found from k n low high)).0

-- ---- no member twice

abbrev pub AreOnce : {X : Type 0} → List X → Type 0
AreOnce [] = Unit {0}
AreOnce (x ∷ xs) = (IsIn x xs → ⊥) × AreOnce xs

pub once-filter : {X : Type 0} (p : X → Bool) (xs : List X) → AreOnce xs → AreOnce (filter p xs)
once-filter p [] once = tt
once-filter {X} p (x ∷ xs) once = by (p x) (once-filter p xs once.1)
  where
    by : (h : Bool) → AreOnce (filter p xs) → AreOnce (cond h (x ∷ filter p xs) (filter p xs))
    by true rest = (λ there. once.0 (kept-in p xs x there).0, rest)
    by false rest = rest

pub once-append : {X : Type 0} (xs ys : List X) → AreOnce xs → AreOnce ys → ((x : X) → IsIn x xs → IsIn x ys → ⊥) → AreOnce (xs ++ ys)
once-append [] ys one two apart = two
once-append {X} (x ∷ xs) ys one two apart = (no, once-append xs ys one.1 two (λ y a b. apart y (inr a) b))
  where
    by : IsIn x xs ⊎ IsIn x ys → ⊥
    by (inl a) = one.0 a
    by (inr b) = apart x (inl refl) b

    no : IsIn x (xs ++ ys) → ⊥
    no there = by (in-either xs ys x there)

pub once-flat : {X Y : Type 0} (f : X → List Y) (xs : List X) → AreOnce xs → ((x : X) → AreOnce (f x)) → ((x z : X) (y : Y) → IsIn y (f x) → IsIn y (f z) → x ≡ z) → AreOnce (flat_map f xs)
once-flat f [] once each apart = tt
once-flat {X} {Y} f (x ∷ xs) once each apart = once-append (f x) (flat_map f xs) (each x) (once-flat f xs once.1 each apart) no
  where
    no : (y : Y) → IsIn y (f x) → IsIn y (flat_map f xs) → ⊥
    no y a b = let r = flat-in f xs y b in once.0 (subst (λ (z : X). IsIn z xs) (sym (apart x r.0 y a r.2)) r.1)

-- what stands after others is not among them
pub once-split : {X : Type 0} (xs : List X) (x : X) (ys : List X) → AreOnce (xs ++ x ∷ ys) → IsIn x xs → ⊥
once-split [] x ys once there = there
once-split {X} (z ∷ zs) x ys once there = by there (once-split zs x ys once.1)
  where
    by : IsIn x (z ∷ zs) → (IsIn x zs → ⊥) → ⊥
    by (inl same) go = once.0 (subst (λ (w : X). IsIn w (zs ++ x ∷ ys)) same (in-right zs (x ∷ ys) x (inl refl)))
    by (inr more) go = go more

-- a member splits its list
pub in-split : {X : Type 0} (xs : List X) (x : X) → IsIn x xs → (before : List X) × (after : List X) × (xs ≡ before ++ x ∷ after)
in-split [] x none = absurd none
in-split (y ∷ ys) x (inl same) = ([], ys, ap (λ z. z ∷ ys) (sym same))
in-split (y ∷ ys) x (inr more) = let r = in-split ys x more in (y ∷ r.0, r.1, ap (λ zs. y ∷ zs) r.2)

-- where each split tells that its record does not stand before it, no member comes twice
pub splits-once : {X : Type 0} (xs : List X) → ((before : List X) (x : X) (after : List X) → xs ≡ before ++ x ∷ after → IsIn x before → ⊥) → AreOnce xs
splits-once [] all = tt
splits-once {X} (x ∷ xs) all = (no, splits-once xs (λ before y after is there. all (x ∷ before) y after (ap (λ zs. x ∷ zs) is) (inr there)))
  where
    no : IsIn x xs → ⊥
    no there = let r = in-split xs x there in all (x ∷ r.0) x r.1 (ap (λ zs. x ∷ zs) r.2) (inl refl)

-- ---- keys that are distinct

key-apart : {X : Type 0} (key : X → ℕ) (n : ℕ) (xs : List X) (x : X) → AllByRecursion (λ m. (n == m) ≡ false) (map key xs) → IsIn x xs → n ≡ key x → ⊥
key-apart key n [] x apart none same = none
key-apart {X} key n (y ∷ ys) x apart there same = by there (λ more. key-apart key n ys x apart.1 more same)
  where
    by : IsIn x (y ∷ ys) → (IsIn x ys → ⊥) → ⊥
    by (inl here) go = true≢false (sym (eq-eqb n (key y) (same ∙ ap key here)) ∙ apart.0)
    by (inr more) go = go more

-- two members of one key are one
pub distinct-one : {X : Type 0} (key : X → ℕ) (xs : List X) (a b : X) → HasDistinct key xs → IsIn a xs → IsIn b xs → key a ≡ key b → a ≡ b
unfolding IsDistinct
distinct-one key [] a b distinct none there same = absurd none
distinct-one {X} key (x ∷ xs) a b distinct a_in b_in same = by a_in b_in (λ p q. distinct-one key xs a b distinct.1 p q same)
  where
    by : IsIn a (x ∷ xs) → IsIn b (x ∷ xs) → (IsIn a xs → IsIn b xs → a ≡ b) → a ≡ b
    by (inl p) (inl q) go = p ∙ sym q
    by (inl p) (inr q) go = absurd (key-apart key (key x) xs b distinct.0 q (ap key (sym p) ∙ same))
    by (inr p) (inl q) go = absurd (key-apart key (key x) xs a distinct.0 p (ap key (sym q) ∙ sym same))
    by (inr p) (inr q) go = go p q

-- ---- a range has no member twice

range-not : (from k n : ℕ) → n < from → IsIn n (range_with_len from k) → ⊥
range-not from zero n low none = none
range-not from (suc k) n low there = by there (range-not (from + 1) k n (omega (arith, low)))
  where
    by : IsIn n (from ∷ range_with_len (from + 1) k) → (IsIn n (range_with_len (from + 1) k) → ⊥) → ⊥
    by (inl same) go = omega (arith, same, low)
    by (inr more) go = go more

pub range-once : (from k : ℕ) → AreOnce (range_with_len from k)
range-once from zero = tt
range-once from (suc k) = (range-not (from + 1) k from (omega arith), range-once (from + 1) k)

-- ---- distinct numbers

apart-out : (n : ℕ) (ks : List ℕ) → AllByRecursion (λ m. (n == m) ≡ false) ks → IsIn n ks → ⊥
apart-out n [] apart none = none
apart-out n (m ∷ ks) apart there = by there (apart-out n ks apart.1)
  where
    by : IsIn n (m ∷ ks) → (IsIn n ks → ⊥) → ⊥
    by (inl same) go = true≢false (sym (eq-eqb n m same) ∙ apart.0)
    by (inr more) go = go more

pub distinct-once : (ks : List ℕ) → IsDistinct (λ m n. m == n) ks → AreOnce ks
unfolding IsDistinct
distinct-once [] distinct = tt
distinct-once (k ∷ ks) distinct = (apart-out k ks distinct.0, distinct-once ks distinct.1)

pub keys-once : {X : Type 0} (key : X → ℕ) (xs : List X) → HasDistinct key xs → AreOnce (map key xs)
keys-once key xs distinct = distinct-once (map key xs) distinct

out-apart : (n : ℕ) (ks : List ℕ) → (IsIn n ks → ⊥) → AllByRecursion (λ m. (n == m) ≡ false) ks
out-apart n [] out = tt
out-apart n (m ∷ ks) out = (false_from_ne_true (n == m) (λ e. out (inl (eqb-true n m e))), out-apart n ks (λ there. out (inr there)))

pub once-distinct : (ks : List ℕ) → AreOnce ks → IsDistinct (λ m n. m == n) ks
unfolding IsDistinct
once-distinct [] once = tt
once-distinct (k ∷ ks) once = (out-apart k ks once.0, once-distinct ks once.1)

-- distinct members of a list are no more than it has
pub few-once : {X : Type 0} (xs ys : List X) → AreOnce xs → ((x : X) → IsIn x xs → IsIn x ys) → length xs ≤ length ys
few-once [] ys once within = omega arith
few-once {X} (x ∷ xs) ys once within = by (in-split ys x (within x (inl refl))) (λ zs left. few-once xs zs once.1 left)
  where
    by : (before : List X) × (after : List X) × (ys ≡ before ++ x ∷ after) → ((zs : List X) → ((y : X) → IsIn y xs → IsIn y zs) → length xs ≤ length zs) → suc (length xs) ≤ length ys
    by (before, after, cut) rest =
        let few = rest (before ++ after) (λ y there. left y there (in-either before (x ∷ after) y (subst (IsIn y) cut (within y (inr there))))) in
        omega (arith, few, ap length cut, length-append before (x ∷ after), length-append before after)
      where
        left : (y : X) → IsIn y xs → IsIn y before ⊎ IsIn y (x ∷ after) → IsIn y (before ++ after)
        left y there (inl a) = in-left before after y a
        left y there (inr (inl same)) = absurd (once.0 (subst (λ z. IsIn z xs) same there))
        left y there (inr (inr b)) = in-right before after y b
