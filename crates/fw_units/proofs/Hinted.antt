-- What stands at a place of an ascending table is the first of its id, and halves of the table hold all that is lower or not.
use Rattle.std.proofs.Common.{◌≡◌, ◌≢◌, refl, sym, ap, ℕ, zero, suc, ◌+◌, ◌<◌, ◌≤◌, List, [], ◌∷◌, length, get_or, Bool, false, cond, ◌==◌, ◌∙◌, Option, Some, None, arith}
use Rattle.std.proofs.lemmas.Bool.{eqb-true, eq-eqb, false_from_ne_true}
use Rattle.std.specs.Prelude.{option_map, position}
use Rattle.stream_law.specs.Placed.{AreAbove, Ascends}
use Rattle.fw_units.specs.declared.component.Component.{Component}
use Rattle.fw_units.proofs.Positions.{first, first-is}

above-at : (n : ℕ) (cs : List Component) (at : ℕ) (d : Component) → AreAbove (λ c. c.id) n cs → at < length cs → n < (get_or cs at d).id
unfolding AreAbove
above-at n [] at d all lt = absurd (omega (arith, lt))
above-at n (c ∷ cs) zero d all lt = all.0
above-at n (c ∷ cs) (suc at) d all lt = above-at n cs at d all.1 (omega (arith, lt))

first-at : (id : ℕ) (cs : List Component) (at : ℕ) (d : Component) → Ascends (λ c. c.id) cs → at < length cs → (get_or cs at d).id ≡ id → Some at ≡ first (λ c. c.id == id) cs
unfolding Ascends
first-at id [] at d all lt is = absurd (omega (arith, lt))
first-at id (c ∷ cs) zero d all lt is = ap (λ h. cond h (Some 0) (option_map suc (first (λ (x : Component). x.id == id) cs))) (sym (eq-eqb c.id id is))
first-at id (c ∷ cs) (suc at) d all lt is =
    let above : c.id < (get_or cs at d).id = above-at c.id cs at d all.0 (omega (arith, lt)) in
    let far : (c.id == id) ≡ false = false_from_ne_true (c.id == id) (λ e. omega (arith, above, is, eqb-true c.id id e)) in
    ap (option_map suc) (first-at id cs at d all.1 (omega (arith, lt)) is) ∙ ap (λ h. cond h (Some 0) (option_map suc (first (λ (x : Component). x.id == id) cs))) (sym far)

pub stands-at : (id : ℕ) (cs : List Component) (at : ℕ) (d : Component) → Ascends (λ c. c.id) cs → at < length cs → (get_or cs at d).id ≡ id → Some at ≡ position (λ c. c.id == id) cs
stands-at id cs at d all lt is = first-at id cs at d all lt is ∙ sym (first-is (λ (c : Component). c.id == id) cs)

-- ---- halves

-- each id before a place is below this one
abbrev pub AreBelow : ℕ → List Component → ℕ → Type 0
AreBelow id cs at = (k : ℕ) (d : Component) → k < at → (get_or cs k d).id < id

-- no id from a place on is below this one
abbrev pub AreFrom : ℕ → List Component → ℕ → Type 0
AreFrom id cs at = (k : ℕ) (d : Component) → at ≤ k → k < length cs → id ≤ (get_or cs k d).id

pub below_none : (id : ℕ) (cs : List Component) → AreBelow id cs 0
below_none id cs k d lt = absurd (omega (arith, lt))

pub from_none : (id : ℕ) (cs : List Component) → AreFrom id cs (length cs)
from_none id cs k d past lt = absurd (omega (arith, past, lt))

pub below_to : (id : ℕ) (cs : List Component) (at : ℕ) (e : Component) → Ascends (λ c. c.id) cs → at < length cs → (get_or cs at e).id < id → AreBelow id cs (at + 1)
unfolding Ascends
below_to id [] at e all some low k d lt = absurd (omega (arith, some))
below_to id (c ∷ cs) zero e all some low zero d lt = low
below_to id (c ∷ cs) zero e all some low (suc k) d lt = absurd (omega (arith, lt))
below_to id (c ∷ cs) (suc at) e all some low zero d lt = omega (arith, low, above-at c.id cs at e all.0 (omega (arith, some)))
below_to id (c ∷ cs) (suc at) e all some low (suc k) d lt = below_to id cs at e all.1 (omega (arith, some)) low k d (omega (arith, lt))

pub from_at : (id : ℕ) (cs : List Component) (at : ℕ) (e : Component) → Ascends (λ c. c.id) cs → id ≤ (get_or cs at e).id → AreFrom id cs at
unfolding Ascends
from_at id [] at e all high k d past lt = absurd (omega (arith, lt))
from_at id (c ∷ cs) zero e all high zero d past lt = high
from_at id (c ∷ cs) zero e all high (suc k) d past lt = omega (arith, high, above-at c.id cs k d all.0 (omega (arith, lt)))
from_at id (c ∷ cs) (suc at) e all high zero d past lt = absurd (omega (arith, past))
from_at id (c ∷ cs) (suc at) e all high (suc k) d past lt = from_at id cs at e all.1 high k d (omega (arith, past)) (omega (arith, lt))

apart : (m n : ℕ) → m ≢ n → (m == n) ≡ false
apart m n differ = false_from_ne_true (m == n) (λ e. differ (eqb-true m n e))

-- the first of an id is in the rest
first-next : (id : ℕ) (c : Component) (cs : List Component) → (c.id == id) ≡ false → None ≡ first (λ (x : Component). x.id == id) cs → None ≡ first (λ (x : Component). x.id == id) (c ∷ cs)
first-next id c cs far none = ap (option_map suc) none ∙ ap (λ h. cond h (Some 0) (option_map suc (first (λ (x : Component). x.id == id) cs))) (sym far)

-- where all are above, none is it
first-above : (id : ℕ) (cs : List Component) (low : ℕ) → id ≤ low → AreAbove (λ c. c.id) low cs → None ≡ first (λ (x : Component). x.id == id) cs
unfolding AreAbove
first-above id [] low le all = refl
first-above id (c ∷ cs) low le all = first-next id c cs (apart c.id id (λ e. omega (arith, le, all.0, e))) (first-above id cs low le all.1)

first-past : (id : ℕ) (cs : List Component) (at : ℕ) → AreBelow id cs at → length cs ≤ at → None ≡ first (λ (x : Component). x.id == id) cs
first-past id [] at below past = refl
first-past id (c ∷ cs) zero below past = absurd (omega (arith, past))
first-past id (c ∷ cs) (suc at) below past =
    first-next id c cs (apart c.id id (λ e. omega (arith, below 0 c (omega arith), e))) (first-past id cs at (λ k d lt. below (suc k) d (omega (arith, lt))) (omega (arith, past)))

first-between : (id : ℕ) (cs : List Component) (at : ℕ) (e : Component) → Ascends (λ c. c.id) cs → AreBelow id cs at → at < length cs → id < (get_or cs at e).id → None ≡ first (λ (x : Component). x.id == id) cs
unfolding Ascends
first-between id [] at e all below some high = refl
first-between id (c ∷ cs) zero e all below some high = first-next id c cs (apart c.id id (λ e. omega (arith, high, e))) (first-above id cs c.id (omega (arith, high)) all.0)
first-between id (c ∷ cs) (suc at) e all below some high =
    first-next id c cs (apart c.id id (λ e. omega (arith, below 0 c (omega arith), e))) (first-between id cs at e all.1 (λ k d lt. below (suc k) d (omega (arith, lt))) (omega (arith, some)) high)

pub none_past : (id : ℕ) (cs : List Component) (at : ℕ) → AreBelow id cs at → length cs ≤ at → None ≡ position (λ c. c.id == id) cs
none_past id cs at below past = first-past id cs at below past ∙ sym (first-is (λ (c : Component). c.id == id) cs)

pub none_between : (id : ℕ) (cs : List Component) (at : ℕ) (e : Component) → Ascends (λ c. c.id) cs → AreBelow id cs at → at < length cs → id ≤ (get_or cs at e).id → (get_or cs at e).id ≢ id → None ≡ position (λ c. c.id == id) cs
none_between id cs at e all below some high other =
    first-between id cs at e all below some (omega (arith, high, other)) ∙ sym (first-is (λ (c : Component). c.id == id) cs)

pub found_at : (id : ℕ) (cs : List Component) (at : ℕ) (d : Component) → Ascends (λ c. c.id) cs → at < length cs → (get_or cs at d).id ≡ id → Some at ≡ position (λ c. c.id == id) cs
found_at = stands-at
