-- The first component of an id, taken out of a list that ascends.
use Rattle.std.proofs.Common.{◌≡◌, refl, sym, ap, ◌∙◌, subst, ℕ, suc, List, [], ◌∷◌, filter, Bool, true, false, cond, not, ◌||◌, ◌==◌, arith, Option, Some, None, get_or}
use Rattle.std.proofs.lemmas.Bool.{true≢false, eqb-true, false_from_ne_true}
use Rattle.std.specs.Prelude.{option_map, position, find}
use Rattle.std.specs.List.{remove, list_any}
use Rattle.fw_units.proofs.Found.{never-there}
use Rattle.stream_law.specs.Placed.{AreAbove, Ascends}
use Rattle.fw_units.specs.declared.component.Component.{Component}
use Rattle.fw_units.proofs.Positions.{first, first-is}

some-is : {X : Type 0} (d x y : X) → Some x ≡ Some y → x ≡ y
some-is {X} d x y e = ap (λ (o : Option X). or d o) e
  where
    or : X → Option X → X
    or d (Some z) = z
    or d None = d

found-by : {X : Type 0} (p : X → Bool) (xs : List X) (at : ℕ) (d : X) → Some at ≡ first p xs → Some (get_or xs at d) ≡ find p xs
found-by p [] at d e = absurd (cc e)
found-by {X} p (x ∷ xs) at d e = by (p x) e (found-by p xs)
  where
    later : (o : Option ℕ) → Some at ≡ option_map suc o → ((k : ℕ) (d : X) → Some k ≡ o → Some (get_or xs k d) ≡ find p xs) → Some (get_or (x ∷ xs) at d) ≡ find p xs
    later None e rest = absurd (cc e)
    later (Some k) e rest = ap (λ i. Some (get_or (x ∷ xs) i d)) (some-is 0 at (suc k) e) ∙ rest k d refl

    by : (h : Bool) → Some at ≡ cond h (Some 0) (option_map suc (first p xs)) → ((k : ℕ) (d : X) → Some k ≡ first p xs → Some (get_or xs k d) ≡ find p xs) → Some (get_or (x ∷ xs) at d) ≡ cond h (Some x) (find p xs)
    by true e rest = ap (λ i. Some (get_or (x ∷ xs) i d)) (some-is 0 at 0 e)
    by false e rest = later (first p xs) e rest

-- the first that passes stands at the first place that passes; none does where there is no such place
pub found-at : {X : Type 0} (p : X → Bool) (xs : List X) (at : ℕ) (d : X) → Some at ≡ position p xs → Some (get_or xs at d) ≡ find p xs
found-at p xs at d e = found-by p xs at d (e ∙ first-is p xs)

none-by : {X : Type 0} (p : X → Bool) (xs : List X) → None ≡ first p xs → find p xs ≡ None
none-by p [] e = refl
none-by {X} p (x ∷ xs) e = by (p x) e (none-by p xs)
  where
    later : (o : Option ℕ) → None ≡ option_map suc o → None ≡ o
    later None e = refl
    later (Some k) e = absurd (cc e)

    by : (h : Bool) → None ≡ cond h (Some 0) (option_map suc (first p xs)) → (None ≡ first p xs → find p xs ≡ None) → cond h (Some x) (find p xs) ≡ None
    by true e rest = absurd (cc e)
    by false e rest = rest (later (first p xs) e)

pub none-found : {X : Type 0} (p : X → Bool) (xs : List X) → None ≡ position p xs → find p xs ≡ None
none-found p xs e = none-by p xs (e ∙ first-is p xs)

pub taken-found : (id : ℕ) (cs : List Component) (at : ℕ) (d : Component) → Some at ≡ position (λ c. c.id == id) cs → Some (get_or cs at d) ≡ find (λ c. c.id == id) cs
taken-found id cs at d e = found-by (λ c. c.id == id) cs at d (e ∙ first-is (λ (c : Component). c.id == id) cs)

-- no other has the id
pub none-above : (id : ℕ) (cs : List Component) → AreAbove (λ c. c.id) id cs → filter (λ c. not (c.id == id)) cs ≡ cs
unfolding AreAbove
none-above id [] all = refl
none-above id (c ∷ cs) all =
    let far : (c.id == id) ≡ false = false_from_ne_true (c.id == id) (λ e. omega (arith, all.0, eqb-true c.id id e)) in
    ap (λ h. cond (not h) (c ∷ filter (λ x. not (x.id == id)) cs) (filter (λ x. not (x.id == id)) cs)) far ∙ ap (λ (xs : List Component). c ∷ xs) (none-above id cs all.1)

left-by : (id : ℕ) (cs : List Component) (at : ℕ) → Ascends (λ c. c.id) cs → Some at ≡ first (λ c. c.id == id) cs → remove cs at ≡ filter (λ c. not (c.id == id)) cs
unfolding Ascends
left-by id [] at all e = absurd (cc e)
left-by id (c ∷ cs) at all e = by (c.id == id) refl e (λ k. left-by id cs k all.1)
  where
    later : (o : Option ℕ) → Some at ≡ option_map suc o → ((k : ℕ) → Some k ≡ o → remove cs k ≡ filter (λ x. not (x.id == id)) cs) → remove (c ∷ cs) at ≡ c ∷ filter (λ x. not (x.id == id)) cs
    later None e rest = absurd (cc e)
    later (Some k) e rest = ap (remove (c ∷ cs)) (some-is 0 at (suc k) e) ∙ ap (λ (xs : List Component). c ∷ xs) (rest k refl)

    by : (h : Bool) → (c.id == id) ≡ h → Some at ≡ cond h (Some 0) (option_map suc (first (λ x. x.id == id) cs)) → ((k : ℕ) → Some k ≡ first (λ x. x.id == id) cs → remove cs k ≡ filter (λ x. not (x.id == id)) cs) → remove (c ∷ cs) at ≡ cond (not h) (c ∷ filter (λ x. not (x.id == id)) cs) (filter (λ x. not (x.id == id)) cs)
    by true is e rest = ap (remove (c ∷ cs)) (some-is 0 at 0 e) ∙ sym (none-above id cs (subst (λ n. AreAbove (λ x. x.id) n cs) (eqb-true c.id id is) all.0))
    by false is e rest = later (first (λ x. x.id == id) cs) e rest

pub taken-left : (id : ℕ) (cs : List Component) (at : ℕ) → Ascends (λ c. c.id) cs → Some at ≡ position (λ c. c.id == id) cs → remove cs at ≡ filter (λ c. not (c.id == id)) cs
taken-left id cs at all e = left-by id cs at all (e ∙ first-is (λ (c : Component). c.id == id) cs)

-- no component has the id
never-found : (id : ℕ) (cs : List Component) → list_any (λ c. c.id == id) cs ≡ false → find (λ c. c.id == id) cs ≡ None
never-found id [] e = refl
never-found id (c ∷ cs) e = by (c.id == id) e (never-found id cs)
  where
    by : (h : Bool) → (h || list_any (λ x. x.id == id) cs) ≡ false → (list_any (λ x. x.id == id) cs ≡ false → find (λ x. x.id == id) cs ≡ None) → cond h (Some c) (find (λ x. x.id == id) cs) ≡ None
    by true e rest = absurd (true≢false e)
    by false e rest = rest e

pub never-found-by : (id : ℕ) (cs : List Component) → None ≡ position (λ c. c.id == id) cs → find (λ c. c.id == id) cs ≡ None
never-found-by id cs e = never-found id cs (never-there id cs e)
