-- What is staged under the ids of a table.
use Rattle.std.proofs.Common.{◌≡◌, refl, sym, ap, ◌∙◌, subst, ℕ, ◌+◌, ◌*◌, ◌<◌, List, [], ◌∷◌, take, Bool, true, false, cond, ◌==◌, Option, Some, None, find, arith}
use Rattle.std.proofs.lemmas.Bool.{eqb-true, eq-eqb, false_from_ne_true}
use Rattle.eq_biquad.specs.EqState.{staged_of}
use Rattle.stream_law.specs.State.{Staging}
use Rattle.stream_law.specs.Placed.{AreAbove, Ascends}
use Rattle.fw_units.specs.declared.component.Component.{Component}
use Rattle.fw_units.specs.declared.component.Unit as units
use Rattle.fw_units.specs.declared.component.Unit.TheVariants.{Eq}
use Rattle.fw_units.specs.Units.{staging_by, with_staging_by}
use Rattle.fw_components.specs.Parts.{staging_one}

-- ---- one after the other

-- in front of others, where there is one
abbrev pub in_front : Option Staging → List Staging → List Staging
in_front None ss = ss
in_front (Some s) ss = s ∷ ss

-- what is staged under an id, if anything is
abbrev pub IsUnder : ℕ → Option Staging → Type 0
IsUnder id None = Unit {0}
IsUnder id (Some s) = s.eq ≡ id

pub front-is : (id : ℕ) (u : units.Unit) (ss : List Staging) → with_staging_by id u ss ≡ in_front (staging_one id u) ss
front-is id (Eq eq next remaining) ss = by (remaining == 0)
  where
    by : (h : Bool) → cond h ss (record { eq = id; bytes = take (32 + 260 * next) (staged_of eq); next = next; remaining = remaining } ∷ ss) ≡ in_front (cond h None (Some (record { eq = id; bytes = take (32 + 260 * next) (staged_of eq); next = next; remaining = remaining }))) ss
    by true = refl
    by false = refl
front-is id u ss = refl

pub under-own : (id : ℕ) (u : units.Unit) → IsUnder id (staging_one id u)
under-own id (Eq eq next remaining) = by (remaining == 0)
  where
    by : (h : Bool) → IsUnder id (cond h None (Some (record { eq = id; bytes = take (32 + 260 * next) (staged_of eq); next = next; remaining = remaining })))
    by true = tt
    by false = refl
under-own id u = tt

-- all that is staged is above what the components are above
pub staged-above : (n : ℕ) (cs : List Component) → AreAbove (λ c. c.id) n cs → AreAbove (λ s. s.eq) n (staging_by cs)
unfolding AreAbove
staged-above n [] all = tt
staged-above n (c ∷ cs) all = subst (AreAbove (λ (s : Staging). s.eq) n) (sym (front-is c.id c.unit (staging_by cs))) (by (staging_one c.id c.unit) (under-own c.id c.unit) (staged-above n cs all.1))
  where
    by : (o : Option Staging) → IsUnder c.id o → AreAbove (λ s. s.eq) n (staging_by cs) → AreAbove (λ s. s.eq) n (in_front o (staging_by cs))
    by None under rest = rest
    by (Some s) under rest = (subst (λ m. n < m) (sym under) all.0, rest)

-- ---- what is under an id

none-under : (id : ℕ) (ss : List Staging) → AreAbove (λ s. s.eq) id ss → find (λ s. s.eq == id) ss ≡ None
unfolding AreAbove
none-under id [] all = refl
none-under id (s ∷ ss) all =
    let far : (s.eq == id) ≡ false = false_from_ne_true (s.eq == id) (λ e. omega (arith, all.0, eqb-true s.eq id e)) in
    ap (λ h. cond h (Some s) (find (λ s. s.eq == id) ss)) far ∙ none-under id ss all.1

pub staging-found : (id : ℕ) (cs : List Component) (c : Component) → Ascends (λ c. c.id) cs → find (λ c. c.id == id) cs ≡ Some c → find (λ s. s.eq == id) (staging_by cs) ≡ staging_one c.id c.unit
unfolding Ascends
staging-found id [] c all at = absurd (cc at)
staging-found id (d ∷ cs) c all at = ap (find (λ (s : Staging). s.eq == id)) (front-is d.id d.unit (staging_by cs)) ∙ by (d.id == id) refl at (staging-found id cs c all.1)
  where
    first : (o : Option Staging) → IsUnder d.id o → d.id ≡ id → AreAbove (λ s. s.eq) id (staging_by cs) → find (λ s. s.eq == id) (in_front o (staging_by cs)) ≡ o
    first None under same above = none-under id (staging_by cs) above
    first (Some s) under same above = ap (λ h. cond h (Some s) (find (λ s. s.eq == id) (staging_by cs))) (eq-eqb s.eq id (under ∙ same))

    past : (o : Option Staging) → IsUnder d.id o → (d.id == id) ≡ false → find (λ s. s.eq == id) (in_front o (staging_by cs)) ≡ find (λ s. s.eq == id) (staging_by cs)
    past None under far = refl
    past (Some s) under far = ap (λ h. cond h (Some s) (find (λ s. s.eq == id) (staging_by cs))) (ap (λ n. n == id) under ∙ far)

    by : (h : Bool) → (d.id == id) ≡ h → cond h (Some d) (find (λ c. c.id == id) cs) ≡ Some c → (find (λ c. c.id == id) cs ≡ Some c → find (λ s. s.eq == id) (staging_by cs) ≡ staging_one c.id c.unit) → find (λ s. s.eq == id) (in_front (staging_one d.id d.unit) (staging_by cs)) ≡ staging_one c.id c.unit
    by true is at rest =
        let same : d ≡ c = cc at in
        let id_is = eqb-true d.id id is in
        first (staging_one d.id d.unit) (under-own d.id d.unit) id_is (subst (λ n. AreAbove (λ (s : Staging). s.eq) n (staging_by cs)) id_is (staged-above d.id cs all.0))
        ∙ ap (λ (x : Component). staging_one x.id x.unit) same
    by false is at rest = past (staging_one d.id d.unit) (under-own d.id d.unit) is ∙ rest at
