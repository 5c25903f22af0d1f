-- Members of lists.
use Rattle.std.proofs.Common.{◌≡◌, refl, sym, ap, ◌∙◌, subst, suc, ◌≤◌, List, [], ◌∷◌, ◌++◌, filter, length, Some, Bool, true, false, cond, inl, inr, ◌⊎◌, arith}
use Rattle.std.proofs.lemmas.Bool.{false≢true, or_left, or_right, or_cases}
use Rattle.std.specs.Prelude.{find}
use Rattle.std.specs.List.{list_any, AllByRecursion}

abbrev pub IsIn : {X : Type 0} → X → List X → Type 0
IsIn x [] = ⊥
IsIn x (y ∷ ys) = (x ≡ y) ⊎ IsIn x ys

-- what is so of all is so of a member, and the other way round
pub in-all : {X : Type 0} (P : X → Type 0) (xs : List X) (x : X) → AllByRecursion P xs → IsIn x xs → P x
in-all P [] x all here = absurd here
in-all P (y ∷ ys) x all (inl e) = subst P (sym e) all.0
in-all P (y ∷ ys) x all (inr more) = in-all P ys x all.1 more

pub in-each : {X : Type 0} (P : X → Type 0) (xs : List X) → ((x : X) → IsIn x xs → P x) → AllByRecursion P xs
in-each P [] f = tt
in-each P (x ∷ xs) f = (f x (inl refl), in-each P xs (λ y here. f y (inr here)))

-- where a test passes, a member passes it
pub any-in : {X : Type 0} (p : X → Bool) (xs : List X) → list_any p xs ≡ true → (x : X) × IsIn x xs × (p x ≡ true)
any-in p [] e = absurd (false≢true e)
any-in {X} p (y ∷ ys) e = by (or_cases (p y) (list_any p ys) e) (any-in p ys)
  where
    by : (p y ≡ true) ⊎ (list_any p ys ≡ true) → (list_any p ys ≡ true → (x : X) × IsIn x ys × (p x ≡ true)) → (x : X) × IsIn x (y ∷ ys) × (p x ≡ true)
    by (inl here) rest = (y, inl refl, here)
    by (inr more) rest = let r = rest more in (r.0, inr r.1, r.2)

pub in-any : {X : Type 0} (p : X → Bool) (xs : List X) (x : X) → IsIn x xs → p x ≡ true → list_any p xs ≡ true
in-any p [] x here e = absurd here
in-any p (y ∷ ys) x (inl same) e = or_left (p y) _ (ap p (sym same) ∙ e)
in-any p (y ∷ ys) x (inr more) e = or_right (p y) _ (in-any p ys x more e)

-- what is found is a member that passes
pub find-in : {X : Type 0} (p : X → Bool) (xs : List X) (x : X) → find p xs ≡ Some x → IsIn x xs × (p x ≡ true)
find-in p [] x is = absurd (cc is)
find-in {X} p (y ∷ ys) x is = by (p y) refl is (find-in p ys x)
  where
    by : (h : Bool) → p y ≡ h → cond h (Some y) (find p ys) ≡ Some x → (find p ys ≡ Some x → IsIn x ys × (p x ≡ true)) → IsIn x (y ∷ ys) × (p x ≡ true)
    by true e is rest = let same : y ≡ x = cc is in (inl (sym same), ap p (sym same) ∙ e)
    by false e is rest = let r = rest is in (inr r.0, r.1)

-- ---- those that pass a test

pub in-filter : {X : Type 0} (p q : X → Bool) (xs : List X) → list_any p (filter q xs) ≡ true → (x : X) × IsIn x xs × (q x ≡ true) × (p x ≡ true)
in-filter p q [] e = absurd (false≢true e)
in-filter {X} p q (k ∷ xs) e = by (q k) refl e (in-filter p q xs)
  where
    next : (p k ≡ true) ⊎ (list_any p (filter q xs) ≡ true) → q k ≡ true → (list_any p (filter q xs) ≡ true → (x : X) × IsIn x xs × (q x ≡ true) × (p x ≡ true)) → (x : X) × IsIn x (k ∷ xs) × (q x ≡ true) × (p x ≡ true)
    next (inl here) so rest = (k, inl refl, so, here)
    next (inr more) so rest = let r = rest more in (r.0, inr r.1, r.2, r.3)

    by : (h : Bool) → q k ≡ h → list_any p (cond h (k ∷ filter q xs) (filter q xs)) ≡ true → (list_any p (filter q xs) ≡ true → (x : X) × IsIn x xs × (q x ≡ true) × (p x ≡ true)) → (x : X) × IsIn x (k ∷ xs) × (q x ≡ true) × (p x ≡ true)
    by true is e rest = next (or_cases (p k) (list_any p (filter q xs)) e) is rest
    by false is e rest = let r = rest e in (r.0, inr r.1, r.2, r.3)

pub filter-any : {X : Type 0} (p q : X → Bool) (xs : List X) (x : X) → IsIn x xs → q x ≡ true → p x ≡ true → list_any p (filter q xs) ≡ true
filter-any p q [] x here so e = absurd here
filter-any {X} p q (k ∷ xs) x (inl same) so e = ap (λ h. list_any p (cond h (k ∷ filter q xs) (filter q xs))) (ap q (sym same) ∙ so) ∙ or_left (p k) _ (ap p (sym same) ∙ e)
filter-any {X} p q (k ∷ xs) x (inr more) so e = by (q k) (filter-any p q xs x more so e)
  where
    by : (h : Bool) → list_any p (filter q xs) ≡ true → list_any p (cond h (k ∷ filter q xs) (filter q xs)) ≡ true
    by true rest = or_right (p k) _ rest
    by false rest = rest

pub in-kept : {X : Type 0} (q : X → Bool) (xs : List X) (x : X) → IsIn x xs → q x ≡ true → IsIn x (filter q xs)
in-kept q [] x here so = absurd here
in-kept {X} q (k ∷ xs) x (inl same) so = subst (λ h. IsIn x (cond h (k ∷ filter q xs) (filter q xs))) (sym (ap q (sym same) ∙ so)) (inl same)
in-kept {X} q (k ∷ xs) x (inr more) so = by (q k) (in-kept q xs x more so)
  where
    by : (h : Bool) → IsIn x (filter q xs) → IsIn x (cond h (k ∷ filter q xs) (filter q xs))
    by true rest = inr rest
    by false rest = rest

pub kept-in : {X : Type 0} (q : X → Bool) (xs : List X) (x : X) → IsIn x (filter q xs) → IsIn x xs × (q x ≡ true)
kept-in q [] x here = absurd here
kept-in {X} q (k ∷ xs) x here = by (q k) refl here (kept-in q xs x)
  where
    by : (h : Bool) → q k ≡ h → IsIn x (cond h (k ∷ filter q xs) (filter q xs)) → (IsIn x (filter q xs) → IsIn x xs × (q x ≡ true)) → IsIn x (k ∷ xs) × (q x ≡ true)
    by true is (inl same) rest = (inl same, ap q same ∙ is)
    by true is (inr more) rest = let r = rest more in (inr r.0, r.1)
    by false is more rest = let r = rest more in (inr r.0, r.1)

pub filter-most : {X : Type 0} (q : X → Bool) (xs : List X) → length (filter q xs) ≤ length xs
filter-most q [] = omega arith
filter-most {X} q (k ∷ xs) = by (q k) (filter-most q xs)
  where
    by : (h : Bool) → length (filter q xs) ≤ length xs → length (cond h (k ∷ filter q xs) (filter q xs)) ≤ suc (length xs)
    by true rest = omega (arith, rest)
    by false rest = omega (arith, rest)

-- where a member does not pass, they are fewer
pub filter-less : {X : Type 0} (q : X → Bool) (xs : List X) (x : X) → IsIn x xs → q x ≡ false → suc (length (filter q xs)) ≤ length xs
filter-less q [] x here so = absurd here
filter-less {X} q (k ∷ xs) x (inl same) so =
    let is : length (cond (q k) (k ∷ filter q xs) (filter q xs)) ≡ length (filter q xs) = ap (λ h. length (cond h (k ∷ filter q xs) (filter q xs))) (ap q (sym same) ∙ so) in
    omega (arith, is, filter-most q xs)
filter-less {X} q (k ∷ xs) x (inr more) so = by (q k) (filter-less q xs x more so)
  where
    by : (h : Bool) → suc (length (filter q xs)) ≤ length xs → suc (length (cond h (k ∷ filter q xs) (filter q xs))) ≤ suc (length xs)
    by true rest = omega (arith, rest)
    by false rest = omega (arith, rest)

-- ---- one more at the end

pub in-end : {X : Type 0} (xs : List X) (y x : X) → IsIn x (xs ++ y ∷ []) → IsIn x xs ⊎ (x ≡ y)
in-end [] y x (inl same) = inr same
in-end [] y x (inr none) = absurd none
in-end (k ∷ xs) y x (inl same) = inl (inl same)
in-end {X} (k ∷ xs) y x (inr more) = by (in-end xs y x more)
  where
    by : IsIn x xs ⊎ (x ≡ y) → IsIn x (k ∷ xs) ⊎ (x ≡ y)
    by (inl here) = inl (inr here)
    by (inr same) = inr same

-- ---- a list with a member is not empty

pub in-length : {X : Type 0} (xs : List X) (x : X) → IsIn x xs → 1 ≤ length xs
in-length [] x here = absurd here
in-length (y ∷ ys) x here = omega arith
