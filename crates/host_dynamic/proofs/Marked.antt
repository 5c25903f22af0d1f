-- Marks of what walks lead to.
use Rattle.std.proofs.Common.{◌≡◌, refl, sym, ap, subst, ◌∙◌, ℕ, zero, suc, ◌<◌, List, [], ◌∷◌, length, get_or, set, replicate, Bool, true, false, cond, not, inl, inr, ◌⊎◌, Some, None, arith}
use Rattle.std.specs.Prelude.{find}
use Rattle.std.specs.List.{AllByRecursion}
use Rattle.std.proofs.lemmas.Bool.{true≢false, false≢true, and_parts, and_from}
use Rattle.stream_law.specs.declared.graph.Join.{Join}
use Rattle.stream_law.specs.declared.graph.Graph.{Graph}
use Rattle.stream_law.proofs.Members.{IsIn, in-all, find-in}
use Rattle.stream_law.proofs.Walking.{Path}
use Rattle.host_dynamic.specs.Noting.{IsLowJoin, walk_from, walk_to, is_unwalked, led_to}
use Rattle.host_widgets.proofs.Between.{reach-walk}

-- ---- marks

-- how many are not marked
abbrev pub still_unmarked : List Bool → ℕ
still_unmarked [] = 0
still_unmarked (true ∷ marks) = still_unmarked marks
still_unmarked (false ∷ marks) = suc (still_unmarked marks)

pub fewer-unmarked : (marks : List Bool) (k : ℕ) → k < length marks → get_or marks k false ≡ false → suc (still_unmarked (set marks k true)) ≡ still_unmarked marks
fewer-unmarked [] k low is = absurd (omega (arith, low))
fewer-unmarked (true ∷ marks) zero low is = absurd (true≢false is)
fewer-unmarked (false ∷ marks) zero low is = refl
fewer-unmarked (true ∷ marks) (suc k) low is = fewer-unmarked marks k (omega (arith, low)) is
fewer-unmarked (false ∷ marks) (suc k) low is = ap suc (fewer-unmarked marks k (omega (arith, low)) is)

pub set-get : (marks : List Bool) (k x : ℕ) → get_or (set marks k true) x false ≡ true → (k ≡ x) ⊎ (get_or marks x false ≡ true)
set-get [] k x is = inr is
set-get (m ∷ marks) zero zero is = inl refl
set-get (m ∷ marks) zero (suc x) is = inr is
set-get (m ∷ marks) (suc k) zero is = inr is
set-get (m ∷ marks) (suc k) (suc x) is = by (set-get marks k x is)
  where
    by : (k ≡ x) ⊎ (get_or marks x false ≡ true) → (suc k ≡ suc x) ⊎ (get_or marks x false ≡ true)
    by (inl same) = inl (ap suc same)
    by (inr there) = inr there

pub set-keeps : (marks : List Bool) (k x : ℕ) → get_or marks x false ≡ true → get_or (set marks k true) x false ≡ true
set-keeps [] k x is = is
set-keeps (m ∷ marks) zero zero is = refl
set-keeps (m ∷ marks) zero (suc x) is = is
set-keeps (m ∷ marks) (suc k) zero is = is
set-keeps (m ∷ marks) (suc k) (suc x) is = set-keeps marks k x is

pub set-there : (marks : List Bool) (k : ℕ) → k < length marks → get_or (set marks k true) k false ≡ true
set-there [] k low = absurd (omega (arith, low))
set-there (m ∷ marks) zero low = refl
set-there (m ∷ marks) (suc k) low = set-there marks k (omega (arith, low))

pub unmarked-at : (n x : ℕ) → get_or (replicate n false) x false ≡ true → ⊥
unmarked-at zero x is = false≢true is
unmarked-at (suc n) zero is = false≢true is
unmarked-at (suc n) (suc x) is = unmarked-at n x is

-- ---- walks

module _ (g : Graph) (low : AllByRecursion IsLowJoin g.joins) (back : Bool) (id : ℕ) where
  module _ (marks : List Bool) (j : Join) (found : find (is_unwalked marks back) g.joins ≡ Some j) where
    here : IsIn j g.joins × (is_unwalked marks back j ≡ true)
    here = find-in (is_unwalked marks back) g.joins j found

    parts : (get_or marks (walk_from back j) false ≡ true) × (not (get_or marks (walk_to back j) false) ≡ true)
    parts = and_parts (get_or marks (walk_from back j) false) (not (get_or marks (walk_to back j) false)) here.1

    pub is-low : walk_to back j < 288
    is-low = let both = in-all IsLowJoin g.joins j low here.0 in by back both
      where
        by : (b : Bool) → (j.source < 288) × (j.sink < 288) → walk_to b j < 288
        by true both = both.0
        by false both = both.1

    pub is-new : get_or marks (walk_to back j) false ≡ false
    is-new = by (get_or marks (walk_to back j) false) parts.1
      where
        by : (b : Bool) → not b ≡ true → b ≡ false
        by true is = absurd (false≢true is)
        by false is = refl

  -- where no join leads on, all is marked that is led to
  module _ (marks : List Bool) (first : get_or marks id false ≡ true) (none : find (is_unwalked marks back) g.joins ≡ None) where
    none-each : (js : List Join) → find (is_unwalked marks back) js ≡ None → AllByRecursion (λ j. is_unwalked marks back j ≡ false) js
    none-each [] is = tt
    none-each (j ∷ js) is = by (is_unwalked marks back j) refl is (none-each js)
      where
        by : (h : Bool) → is_unwalked marks back j ≡ h → cond h (Some j) (find (is_unwalked marks back) js) ≡ None → (find (is_unwalked marks back) js ≡ None → AllByRecursion (λ k. is_unwalked marks back k ≡ false) js) → AllByRecursion (λ k. is_unwalked marks back k ≡ false) (j ∷ js)
        by true e is rest = absurd (cc is)
        by false e is rest = (e, rest is)

    closed : (j : Join) → IsIn j g.joins → get_or marks (walk_from back j) false ≡ true → get_or marks (walk_to back j) false ≡ true
    closed j there from = by (get_or marks (walk_to back j) false) refl
      where
        by : (b : Bool) → get_or marks (walk_to back j) false ≡ b → b ≡ true
        by true e = refl
        by false e = absurd (true≢false (sym (and_from (get_or marks (walk_from back j) false) (not (get_or marks (walk_to back j) false)) from (ap not e)) ∙ in-all (λ k. is_unwalked marks back k ≡ false) g.joins j (none-each g.joins none) there))

    out-marked : back ≡ false → (n a b : ℕ) → Path g.joins n a b → get_or marks a false ≡ true → get_or marks b false ≡ true
    out-marked is zero a b same on = subst (λ (y : ℕ). get_or marks y false ≡ true) same on
    out-marked is (suc n) a b (j, there, from, rest) on =
        out-marked is n j.sink b rest
        (subst (λ (b : Bool). get_or marks (walk_to b j) false ≡ true) is (closed j there
        (subst (λ (b : Bool). get_or marks (walk_from b j) false ≡ true) (sym is) (subst (λ (y : ℕ). get_or marks y false ≡ true) (sym from) on))))

    back-marked : back ≡ true → (n y : ℕ) → Path g.joins n y id → get_or marks y false ≡ true
    back-marked is zero y same = subst (λ (y : ℕ). get_or marks y false ≡ true) (sym same) first
    back-marked is (suc n) y (j, there, from, rest) =
        subst (λ (y : ℕ). get_or marks y false ≡ true) from
        (subst (λ (b : Bool). get_or marks (walk_to b j) false ≡ true) is (closed j there
        (subst (λ (b : Bool). get_or marks (walk_from b j) false ≡ true) (sym is) (back-marked is n j.sink rest))))

    pub all-marked : (x : ℕ) → led_to g back id x ≡ true → get_or marks x false ≡ true
    all-marked x led = by back refl led
      where
        by : (b : Bool) → back ≡ b → led_to g b id x ≡ true → get_or marks x false ≡ true
        by true is led = let w = reach-walk g x id led in back-marked is w.0 x w.1
        by false is led = let w = reach-walk g id x led in out-marked is w.0 id x w.1 first
