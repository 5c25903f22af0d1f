-- What is found in a table, by what a place says.
use Rattle.std.proofs.Common.{◌≡◌, refl, sym, ap, ◌∙◌, ℕ, suc, List, [], ◌∷◌, ◌++◌, Bool, true, false, cond, ◌==◌, ◌||◌, Option, Some, None}
use Rattle.std.proofs.lemmas.Bool.{true≢false}
use Rattle.std.specs.Prelude.{option_map, position, find}
use Rattle.std.specs.List.{list_any}
use Rattle.fw_units.specs.declared.component.Component.{Component}
use Rattle.fw_units.specs.Changes.{has_id}
use Rattle.fw_units.proofs.Positions.{first, first-is}

-- ---- what a place says

is-there : Option ℕ → Bool
is-there None = false
is-there (Some i) = true

there-next : (o : Option ℕ) → is-there (option_map suc o) ≡ is-there o
unfolding is-there
there-next None = refl
there-next (Some i) = refl

first-any : {X : Type 0} (p : X → Bool) (xs : List X) → is-there (first p xs) ≡ list_any p xs
unfolding is-there
first-any p [] = refl
first-any {X} p (x ∷ xs) = by (p x) (there-next (first p xs) ∙ first-any p xs)
  where
    by : (h : Bool) → is-there (option_map suc (first p xs)) ≡ list_any p xs → is-there (cond h (Some 0) (option_map suc (first p xs))) ≡ (h || list_any p xs)
    by true rest = refl
    by false rest = rest

pub placed-there : (id : ℕ) (cs : List Component) (at : ℕ) → Some at ≡ position (λ c. c.id == id) cs → has_id cs id ≡ true
unfolding is-there
placed-there id cs at e = sym (first-any (λ (c : Component). c.id == id) cs) ∙ ap is-there (sym (e ∙ first-is (λ (c : Component). c.id == id) cs))

pub never-there : (id : ℕ) (cs : List Component) → None ≡ position (λ c. c.id == id) cs → has_id cs id ≡ false
unfolding is-there
never-there id cs e = sym (first-any (λ (c : Component). c.id == id) cs) ∙ ap is-there (sym (e ∙ first-is (λ (c : Component). c.id == id) cs))

-- ---- what is found

pub find-first : (id : ℕ) (xs ys : List Component) → has_id xs id ≡ true → find (λ c. c.id == id) (xs ++ ys) ≡ find (λ c. c.id == id) xs
find-first id [] ys e = absurd (true≢false (sym e))
find-first id (x ∷ xs) ys e = by (x.id == id) e (find-first id xs ys)
  where
    by : (h : Bool) → (h || has_id xs id) ≡ true → (has_id xs id ≡ true → find (λ c. c.id == id) (xs ++ ys) ≡ find (λ c. c.id == id) xs) → cond h (Some x) (find (λ c. c.id == id) (xs ++ ys)) ≡ cond h (Some x) (find (λ c. c.id == id) xs)
    by true e rest = refl
    by false e rest = rest e

pub find-past : (id : ℕ) (xs ys : List Component) → has_id xs id ≡ false → find (λ c. c.id == id) (xs ++ ys) ≡ find (λ c. c.id == id) ys
find-past id [] ys e = refl
find-past id (x ∷ xs) ys e = by (x.id == id) e (find-past id xs ys)
  where
    by : (h : Bool) → (h || has_id xs id) ≡ false → (has_id xs id ≡ false → find (λ c. c.id == id) (xs ++ ys) ≡ find (λ c. c.id == id) ys) → cond h (Some x) (find (λ c. c.id == id) (xs ++ ys)) ≡ find (λ c. c.id == id) ys
    by true e rest = absurd (true≢false e)
    by false e rest = rest e
