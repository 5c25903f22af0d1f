-- Ids in a table after each change.
use Rattle.std.proofs.Common.{◌≡◌, refl, sym, ap, ◌∙◌, subst, ℕ, ◌<◌, List, [], ◌∷◌, map, filter, Bool, true, false, cond, not, ◌==◌, ◌||◌}
use Rattle.std.proofs.lemmas.Bool.{true≢false, false_from_ne_true, eqb-true, eq-eqb, or_parts, or_right}
use Rattle.std.specs.Prelude.{nat_lt}
use Rattle.std.specs.List.{list_any, AllByRecursion}
use Rattle.stream_law.specs.Placed.{placed, AreAbove, Ascends}
use Rattle.fw_units.specs.declared.component.Component.{Component}
use Rattle.fw_units.specs.Changes.{has_id}

-- ---- what is so of all

pub all-by : {X : Type 0} (P Q : X → Type 0) → ((x : X) → P x → Q x) → (xs : List X) → AllByRecursion P xs → AllByRecursion Q xs
all-by P Q f [] all = tt
all-by P Q f (x ∷ xs) all = (f x all.0, all-by P Q f xs all.1)

pub all-with : {X : Type 0} (P Q R : X → Type 0) → ((x : X) → P x → Q x → R x) → (xs : List X) → AllByRecursion P xs → AllByRecursion Q xs → AllByRecursion R xs
all-with P Q R f [] all also = tt
all-with P Q R f (x ∷ xs) all also = (f x all.0 also.0, all-with P Q R f xs all.1 also.1)

pub all-left : {X : Type 0} (P : X → Type 0) (keep : X → Bool) (xs : List X) → AllByRecursion P xs → AllByRecursion P (filter keep xs)
all-left P keep [] all = tt
all-left {X} P keep (x ∷ xs) all = by (keep x) (all-left P keep xs all.1)
  where
    by : (h : Bool) → AllByRecursion P (filter keep xs) → AllByRecursion P (cond h (x ∷ filter keep xs) (filter keep xs))
    by true rest = (all.0, rest)
    by false rest = rest

-- what a filter keeps passes
pub all-passed : {X : Type 0} (keep : X → Bool) (xs : List X) → AllByRecursion (λ x. keep x ≡ true) (filter keep xs)
all-passed keep [] = tt
all-passed {X} keep (x ∷ xs) = by (keep x) refl (all-passed keep xs)
  where
    by : (h : Bool) → keep x ≡ h → AllByRecursion (λ x. keep x ≡ true) (filter keep xs) → AllByRecursion (λ x. keep x ≡ true) (cond h (x ∷ filter keep xs) (filter keep xs))
    by true is rest = (is, rest)
    by false is rest = rest

-- where none passes, each fails
pub all-fail : {X : Type 0} (p : X → Bool) (xs : List X) → list_any p xs ≡ false → AllByRecursion (λ x. p x ≡ false) xs
all-fail p [] none = tt
all-fail p (x ∷ xs) none = let parts = or_parts (p x) (list_any p xs) none in (parts.0, all-fail p xs parts.1)

-- ---- ids

pub other-way : (a b : ℕ) → (a == b) ≡ false → (b == a) ≡ false
other-way a b apart = false_from_ne_true (b == a) (λ e. true≢false (sym (eq-eqb a b (sym (eqb-true b a e))) ∙ apart))

pub has-placed : (id : ℕ) (c : Component) (cs : List Component) → has_id (placed (λ x. x.id) c cs) id ≡ (c.id == id || has_id cs id)
has-placed id c [] = refl
has-placed id c (x ∷ cs) = by (nat_lt c.id x.id) (has-placed id c cs)
  where
    turned : (h k l : Bool) → (h || (k || l)) ≡ (k || (h || l))
    turned true true l = refl
    turned true false l = refl
    turned false true l = refl
    turned false false l = refl

    by : (h : Bool) → has_id (placed (λ y. y.id) c cs) id ≡ (c.id == id || has_id cs id) → has_id (cond h (c ∷ x ∷ cs) (x ∷ placed (λ y. y.id) c cs)) id ≡ (c.id == id || (x.id == id || has_id cs id))
    by true rest = refl
    by false rest = ap (λ h. x.id == id || h) rest ∙ turned (x.id == id) (c.id == id) (has_id cs id)

pub has-map : (f : Component → Component) → ((c : Component) → (f c).id ≡ c.id) → (id : ℕ) (cs : List Component) → has_id (map f cs) id ≡ has_id cs id
has-map f same id [] = refl
has-map f same id (c ∷ cs) = ap (λ n. n == id || has_id (map f cs) id) (same c) ∙ ap (λ h. c.id == id || h) (has-map f same id cs)

-- what has another id is left
pub has-left : (id other : ℕ) (cs : List Component) → (other == id) ≡ false → has_id (filter (λ c. not (c.id == id)) cs) other ≡ has_id cs other
has-left id other [] apart = refl
has-left id other (c ∷ cs) apart = by (c.id == id) refl (has-left id other cs apart)
  where
    by : (h : Bool) → (c.id == id) ≡ h → has_id (filter (λ c. not (c.id == id)) cs) other ≡ has_id cs other → has_id (cond (not h) (c ∷ filter (λ c. not (c.id == id)) cs) (filter (λ c. not (c.id == id)) cs)) other ≡ (c.id == other || has_id cs other)
    by true is rest =
        let no : (c.id == other) ≡ false = ap (λ n. n == other) (eqb-true c.id id is) ∙ other-way other id apart in
        rest ∙ ap (λ h. h || has_id cs other) (sym no)
    by false is rest = ap (λ h. c.id == other || h) rest

-- what was not there is not there
pub none-left : (keep : Component → Bool) (id : ℕ) (cs : List Component) → has_id cs id ≡ false → has_id (filter keep cs) id ≡ false
none-left keep id [] none = refl
none-left keep id (c ∷ cs) none = by (keep c) (none-left keep id cs parts.1)
  where
    parts : ((c.id == id) ≡ false) × (has_id cs id ≡ false)
    parts = or_parts (c.id == id) (has_id cs id) none

    by : (h : Bool) → has_id (filter keep cs) id ≡ false → has_id (cond h (c ∷ filter keep cs) (filter keep cs)) id ≡ false
    by true rest = ap (λ h. h || has_id (filter keep cs) id) parts.0 ∙ rest
    by false rest = rest

pub has-more : (id : ℕ) (c : Component) (cs : List Component) → has_id cs id ≡ true → has_id (placed (λ x. x.id) c cs) id ≡ true
has-more id c cs is = has-placed id c cs ∙ or_right (c.id == id) (has_id cs id) is

-- ---- ids that ascend, each left by a change

above-map : (f : Component → Component) → ((c : Component) → (f c).id ≡ c.id) → (n : ℕ) (cs : List Component) → AreAbove (λ c. c.id) n cs → AreAbove (λ c. c.id) n (map f cs)
unfolding AreAbove
above-map f same n [] all = tt
above-map f same n (c ∷ cs) all = (subst (λ m. n < m) (sym (same c)) all.0, above-map f same n cs all.1)

pub ascends-map : (f : Component → Component) → ((c : Component) → (f c).id ≡ c.id) → (cs : List Component) → Ascends (λ c. c.id) cs → Ascends (λ c. c.id) (map f cs)
unfolding Ascends
ascends-map f same [] all = tt
ascends-map f same (c ∷ cs) all = (subst (λ m. AreAbove (λ x. x.id) m (map f cs)) (sym (same c)) (above-map f same c.id cs all.0), ascends-map f same cs all.1)
