-- Walks along joins: a walk of any length has one of no more joins than there are.
use Rattle.std.proofs.Common.{◌≡◌, refl, sym, ap, ◌∙◌, subst, ℕ, zero, suc, ◌≤◌, List, [], ◌∷◌, ◌++◌, filter, length, Bool, true, false, not, inl, inr, ◌⊎◌, ◌==◌, arith}
use Rattle.std.proofs.lemmas.Bool.{true≢false, false≢true, false_from_ne_true, or_left, or_right, or_cases, eqb-true, eq-eqb}
use Rattle.std.specs.Prelude.{◌↔◌}
use Rattle.std.specs.List.{list_any, AllByRecursion, Contains}
use Rattle.stream_law.specs.declared.graph.Join.{Join}
use Rattle.stream_law.specs.Ways.{leads}
use Rattle.stream_law.specs.Walks.{JoinWalk}
use Rattle.stream_law.proofs.Members.{IsIn, in-all, in-each, in-filter, filter-any, in-kept, kept-in, filter-less, in-end, in-length}

-- a walk of n joins leads from a to b, by members
abbrev pub Path : List Join → ℕ → ℕ → ℕ → Type 0
Path joins zero a b = a ≡ b
Path joins (suc n) a b = (j : Join) × IsIn j joins × (j.source ≡ a) × Path joins n j.sink b

-- a walk of some joins does
abbrev pub Walks : List Join → ℕ → ℕ → Type 0
Walks joins a b = (n : ℕ) × Path joins n a b

-- a walk of no more joins than there are does
abbrev IsShort : List Join → ℕ → ℕ → Type 0
IsShort joins a b = (n : ℕ) × (n ≤ length joins) × Path joins n a b

pub path-of : (joins : List Join) (n a b : ℕ) → leads joins n a b ≡ true → Walks joins a b
path-of joins zero a b is = (0, eqb-true a b is)
path-of joins (suc n) a b is = by (or_cases (a == b) (list_any (λ j. leads joins n j.sink b) (filter (λ j. j.source == a) joins)) is) (λ j. path-of joins n j.sink b)
  where
    by : ((a == b) ≡ true) ⊎ (list_any (λ j. leads joins n j.sink b) (filter (λ j. j.source == a) joins) ≡ true) → ((j : Join) → leads joins n j.sink b ≡ true → Walks joins j.sink b) → Walks joins a b
    by (inl same) rest = (0, eqb-true a b same)
    by (inr any) rest =
        let found = in-filter (λ (j : Join). leads joins n j.sink b) (λ j. j.source == a) joins any in
        let j : Join = found.0 in
        let w = rest j found.3 in
        (suc w.0, (j, found.1, eqb-true j.source a found.2, w.1))

pub leads-same : (joins : List Join) (n a b : ℕ) → a ≡ b → leads joins n a b ≡ true
leads-same joins zero a b same = eq-eqb a b same
leads-same joins (suc n) a b same = or_left (a == b) _ (eq-eqb a b same)

pub leads-of : (joins : List Join) (n m a b : ℕ) → m ≤ n → Path joins m a b → leads joins n a b ≡ true
leads-of joins n zero a b le p = leads-same joins n a b p
leads-of joins zero (suc m) a b le p = absurd (omega (arith, le))
leads-of joins (suc n) (suc m) a b le (j, there, from, p) = or_right (a == b) _ (filter-any (λ (k : Join). leads joins n k.sink b) (λ k. k.source == a) joins j there (eq-eqb j.source a from) (leads-of joins n m j.sink b (omega (arith, le)) p))

-- walks one after another
pub walk-on : (joins : List Join) (m a b c : ℕ) → Path joins m a b → Walks joins b c → Walks joins a c
walk-on joins zero a b c p w = subst (λ x. Walks joins x c) (sym p) w
walk-on joins (suc m) a b c (j, there, from, p) w = let rest = walk-on joins m j.sink b c p w in (suc rest.0, (j, there, from, rest.1))

-- the same along other joins
pub walk-in : (js ks : List Join) → ((j : Join) → IsIn j js → IsIn j ks) → (m a b : ℕ) → Path js m a b → Path ks m a b
walk-in js ks f zero a b p = p
walk-in js ks f (suc m) a b (j, there, from, p) = (j, f j there, from, walk-in js ks f m j.sink b p)

-- ---- a walk that comes to no place again

-- a join leads on from a
abbrev leaves : ℕ → Join → Bool
leaves a j = not (j.source == a)

-- after a walk left a for the last time, it goes along joins that do not come from there
last-left : (joins : List Join) (a m x b : ℕ) → Path joins m x b → Walks (filter (leaves a) joins) x b ⊎ ((j : Join) × IsIn j joins × (j.source ≡ a) × Walks (filter (leaves a) joins) j.sink b)
last-left joins a zero x b p = inl (0, p)
last-left joins a (suc m) x b (k, there, from, p) = by (last-left joins a m k.sink b p) (k.source == a) refl
  where
    by : Walks (filter (leaves a) joins) k.sink b ⊎ ((j : Join) × IsIn j joins × (j.source ≡ a) × Walks (filter (leaves a) joins) j.sink b) → (h : Bool) → (k.source == a) ≡ h → Walks (filter (leaves a) joins) x b ⊎ ((j : Join) × IsIn j joins × (j.source ≡ a) × Walks (filter (leaves a) joins) j.sink b)
    by (inr r) h is = inr r
    by (inl w) true is = inr (k, there, eqb-true k.source a is, w)
    by (inl w) false is = inl (suc w.0, (k, in-kept (leaves a) joins k there (ap not is), from, w.1))

short : (most : ℕ) (joins : List Join) → length joins ≤ most → (m a b : ℕ) → Path joins m a b → IsShort joins a b
short most joins le zero a b p = (0, omega arith, p)
short zero joins le (suc m) a b (j, there, from, p) = absurd (omega (arith, le, in-length joins j there))
short (suc most) joins le (suc m) a b p = by (last-left joins a (suc m) a b p) (λ js few n x q. short most js few n x b q)
  where
    by : Walks (filter (leaves a) joins) a b ⊎ ((j : Join) × IsIn j joins × (j.source ≡ a) × Walks (filter (leaves a) joins) j.sink b) → ((js : List Join) → length js ≤ most → (n x : ℕ) → Path js n x b → IsShort js x b) → IsShort joins a b
    by (inl (zero, same)) below = (0, omega arith, same)
    by (inl (suc n, (k, there, from, q))) below = absurd (false≢true (sym (ap not (eq-eqb k.source a from)) ∙ (kept-in (leaves a) joins k there).1))
    by (inr (j, there, from, w)) below =
        let few = filter-less (leaves a) joins j there (ap not (eq-eqb j.source a from)) in
        let rest = below (filter (leaves a) joins) (omega (arith, few, le)) w.0 j.sink w.1 in
        (suc rest.0, omega (arith, few, rest.1), (j, there, from, walk-in (filter (leaves a) joins) joins (λ k here. (kept-in (leaves a) joins k here).0) rest.0 j.sink b rest.2))

-- what is walked to is reached
pub walks-lead : (joins : List Join) (a b : ℕ) → Walks joins a b → leads joins (length joins) a b ≡ true
walks-lead joins a b w = let s = short (length joins) joins (omega arith) w.0 a b w.1 in leads-of joins (length joins) s.0 a b s.1 s.2

-- ---- walks by what the list of joins contains

contains-in : (joins : List Join) (j : Join) → Contains joins j → IsIn j joins
contains-in [] j (k, low, is) = absurd (omega (arith, low))
contains-in (x ∷ joins) j (zero, low, is) = inl (sym is)
contains-in (x ∷ joins) j (suc k, low, is) = inr (contains-in joins j (k, omega (arith, low), is))

in-contains : (joins : List Join) (j : Join) → IsIn j joins → Contains joins j
in-contains [] j here = absurd here
in-contains (x ∷ joins) j (inl same) = (0, omega arith, sym same)
in-contains (x ∷ joins) j (inr more) = let r = in-contains joins j more in (suc r.0, omega (arith, r.1), r.2)

walk-path : (joins : List Join) (n a b : ℕ) → JoinWalk joins n a b → Path joins n a b
walk-path joins zero a b w = w
walk-path joins (suc n) a b (j, there, from, w) = (j, contains-in joins j there, from, walk-path joins n j.sink b w)

path-walk : (joins : List Join) (n a b : ℕ) → Path joins n a b → JoinWalk joins n a b
path-walk joins zero a b p = p
path-walk joins (suc n) a b (j, there, from, p) = (j, in-contains joins j there, from, path-walk joins n j.sink b p)

pub leads-walks : (joins : List Join) (a b : ℕ) → (leads joins (length joins) a b ≡ true) ↔ ((n : ℕ) × JoinWalk joins n a b)
leads-walks joins a b = (
  λ is. let w = path-of joins (length joins) a b is in (w.0, path-walk joins w.0 a b w.1),
  λ w. walks-lead joins a b (w.0, walk-path joins w.0 a b w.1),
)

-- ---- one join more

-- a walk goes along the old joins, or by them to the new one and on from it
pub through : (joins : List Join) (j : Join) (m a b : ℕ) → Path (joins ++ j ∷ []) m a b → Walks joins a b ⊎ (Walks joins a j.source × Walks joins j.sink b)
through joins j zero a b p = inl (0, p)
through joins j (suc m) a b (k, there, from, p) = by (in-end joins j k there) (through joins j m k.sink b p)
  where
    by : IsIn k joins ⊎ (k ≡ j) → Walks joins k.sink b ⊎ (Walks joins k.sink j.source × Walks joins j.sink b) → Walks joins a b ⊎ (Walks joins a j.source × Walks joins j.sink b)
    by (inl old) (inl w) = inl (suc w.0, (k, old, from, w.1))
    by (inl old) (inr w) = inr ((suc w.0.0, (k, old, from, w.0.1)), w.1)
    by (inr new) (inl w) = inr ((0, sym from ∙ ap (λ (x : Join). x.source) new), subst (λ (x : Join). Walks joins x.sink b) new w)
    by (inr new) (inr w) = inr ((0, sym from ∙ ap (λ (x : Join). x.source) new), w.1)

-- a join that closes no walk leaves all walks open
pub open-joined : (joins : List Join) (j : Join) → leads joins (length joins) j.sink j.source ≡ false → AllByRecursion (λ k. leads joins (length joins) k.sink k.source ≡ false) joins → AllByRecursion (λ k. leads (joins ++ j ∷ []) (length (joins ++ j ∷ [])) k.sink k.source ≡ false) (joins ++ j ∷ [])
open-joined joins j far opens = in-each (λ k. leads (joins ++ j ∷ []) (length (joins ++ j ∷ [])) k.sink k.source ≡ false) (joins ++ j ∷ []) (λ k there. false_from_ne_true _ (λ is. let w = path-of (joins ++ j ∷ []) (length (joins ++ j ∷ [])) k.sink k.source is in closed k (in-end joins j k there) (through joins j w.0 k.sink k.source w.1)))
  where
    none : Walks joins j.sink j.source → ⊥
    none w = true≢false (sym (walks-lead joins j.sink j.source w) ∙ far)

    closed : (k : Join) → IsIn k joins ⊎ (k ≡ j) → Walks joins k.sink k.source ⊎ (Walks joins k.sink j.source × Walks joins j.sink k.source) → ⊥
    closed k (inl old) (inl w) = true≢false (sym (walks-lead joins k.sink k.source w) ∙ in-all (λ (k : Join). leads joins (length joins) k.sink k.source ≡ false) joins k opens old)
    closed k (inl old) (inr w) = none (walk-on joins w.1.0 j.sink k.source j.source w.1.1 (suc w.0.0, (k, old, refl, w.0.1)))
    closed k (inr new) (inl w) = none (subst (λ (x : Join). Walks joins x.sink x.source) new w)
    closed k (inr new) (inr w) = none (subst (λ (x : Join). Walks joins x.sink j.source) new w.0)
