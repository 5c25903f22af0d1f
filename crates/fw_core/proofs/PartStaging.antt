-- What is staged at the equalisers of a table once a part came.
use Rattle.std.proofs.Common.{◌≡◌, refl, sym, ap, ◌∙◌, subst, ℕ, ◌<◌, List, [], ◌∷◌, map, Bool, true, false, cond, not, ◌==◌, Option, Some, None, ℤ, find, arith}
use Rattle.std.proofs.lemmas.Bool.{eqb-true, eq-eqb, lt-ltb, le-ltb, false_from_ne_true}
use Rattle.sof_base.specs.declared.part.Part.{Part}
use Rattle.stream_law.specs.State.{Staging}
use Rattle.stream_law.proofs.Members.{find-in}
use Rattle.stream_law.specs.Placed.{placed, AreAbove, Ascends}
use Rattle.mbox_link.specs.Step.{unstaged}
use Rattle.fw_units.specs.declared.component.Component.{Component}
use Rattle.fw_units.specs.declared.component.Unit as units
use Rattle.fw_units.specs.Units.{staging_by, with_staging_by}
use Rattle.fw_components.specs.Parts.{staging_one, parted_by, parted_at}
use Rattle.fw_components.proofs.StagedUnder.{in_front, IsUnder, front-is, under-own, staged-above}

-- ---- one after the other

-- put in its place, where there is one
abbrev pub put : Option Staging → List Staging → List Staging
put None ss = ss
put (Some s) ss = placed (λ s. s.eq) s ss

all-kept : (id : ℕ) (ss : List Staging) → AreAbove (λ s. s.eq) id ss → unstaged id ss ≡ ss
unfolding AreAbove
all-kept id [] all = refl
all-kept id (s ∷ ss) all =
    let far : (s.eq == id) ≡ false = false_from_ne_true (s.eq == id) (λ e. omega (arith, all.0, eqb-true s.eq id e)) in
    ap (λ h. cond (not h) (s ∷ unstaged id ss) (unstaged id ss)) far ∙ ap (λ (xs : List Staging). s ∷ xs) (all-kept id ss all.1)

none-changed : (id : ℕ) (part : Part) (words : List ℤ) (cs : List Component) → AreAbove (λ c. c.id) id cs → map (parted_at id part words) cs ≡ cs
unfolding AreAbove
none-changed id part words [] all = refl
none-changed id part words (c ∷ cs) all =
    let far : (c.id == id) ≡ false = false_from_ne_true (c.id == id) (λ e. omega (arith, all.0, eqb-true c.id id e)) in
    ap (λ h. cond {A = Component} h (parted_by part words c) c ∷ map (parted_at id part words) cs) far ∙ ap (λ (xs : List Component). c ∷ xs) (none-changed id part words cs all.1)

-- a staging under this id is put in front, where it is the least
placed-first : (id : ℕ) (o : Option Staging) (ss : List Staging) → IsUnder id o → AreAbove (λ s. s.eq) id ss → put o ss ≡ in_front o ss
unfolding AreAbove
placed-first id None ss under all = refl
placed-first id (Some s) [] under all = refl
placed-first id (Some s) (x ∷ ss) under all = ap (λ h. cond h (s ∷ x ∷ ss) (x ∷ placed (λ (s : Staging). s.eq) s ss)) (lt-ltb s.eq x.eq (omega (arith, under, all.0)))

-- what is found there, and a component that is above another
found-above : (n id : ℕ) (cs : List Component) (c : Component) → AreAbove (λ c. c.id) n cs → find (λ c. c.id == id) cs ≡ Some c → n < id
unfolding AreAbove
found-above n id [] c all at = absurd (cc at)
found-above n id (d ∷ cs) c all at = by (d.id == id) refl at (found-above n id cs c all.1)
  where
    by : (h : Bool) → (d.id == id) ≡ h → cond h (Some d) (find (λ c. c.id == id) cs) ≡ Some c → (find (λ c. c.id == id) cs ≡ Some c → n < id) → n < id
    by true is at rest = omega (arith, all.0, eqb-true d.id id is)
    by false is at rest = rest at

-- ---- what is staged after a part

pub staging-parted : (id : ℕ) (part : Part) (words : List ℤ) (cs : List Component) (c : Component) → Ascends (λ c. c.id) cs → find (λ c. c.id == id) cs ≡ Some c
    → put (staging_one c.id (parted_by part words c).unit) (unstaged id (staging_by cs)) ≡ staging_by (map (parted_at id part words) cs)
unfolding Ascends
staging-parted id part words [] c all at = absurd (cc at)
staging-parted id part words (d ∷ cs) c all at = ap (λ (ss : List Staging). put o (unstaged id ss)) (front-is d.id d.unit (staging_by cs)) ∙ by (d.id == id) refl at (staging-parted id part words cs c all.1)
  where
    o : Option Staging
    o = staging_one c.id (parted_by part words c).unit

    -- the first goes
    gone : (p : Option Staging) → IsUnder d.id p → d.id ≡ id → AreAbove (λ s. s.eq) id (staging_by cs) → unstaged id (in_front p (staging_by cs)) ≡ staging_by cs
    gone None under same above = all-kept id (staging_by cs) above
    gone (Some s) under same above = ap (λ h. cond (not h) (s ∷ unstaged id (staging_by cs)) (unstaged id (staging_by cs))) (eq-eqb s.eq id (under ∙ same)) ∙ all-kept id (staging_by cs) above

    -- or stays
    stays : (p : Option Staging) → IsUnder d.id p → (d.id == id) ≡ false → unstaged id (in_front p (staging_by cs)) ≡ in_front p (unstaged id (staging_by cs))
    stays None under far = refl
    stays (Some s) under far = ap (λ h. cond (not h) (s ∷ unstaged id (staging_by cs)) (unstaged id (staging_by cs))) (ap (λ n. n == id) under ∙ far)

    -- and what is put after it
    behind : (q p : Option Staging) (ss : List Staging) → IsUnder id q → IsUnder d.id p → d.id < id → put q (in_front p ss) ≡ in_front p (put q ss)
    behind None p ss under own less = refl
    behind (Some s) None ss under own less = refl
    behind (Some s) (Some x) ss under own less = ap (λ h. cond h (s ∷ x ∷ ss) (x ∷ placed (λ (s : Staging). s.eq) s ss)) (le-ltb s.eq x.eq (omega (arith, under, own, less)))

    by : (h : Bool) → (d.id == id) ≡ h → cond h (Some d) (find (λ c. c.id == id) cs) ≡ Some c → (find (λ c. c.id == id) cs ≡ Some c → put o (unstaged id (staging_by cs)) ≡ staging_by (map (parted_at id part words) cs)) → put o (unstaged id (in_front (staging_one d.id d.unit) (staging_by cs))) ≡ with_staging_by (cond {A = Component} h (parted_by part words d) d).id (cond {A = Component} h (parted_by part words d) d).unit (staging_by (map (parted_at id part words) cs))
    by true is at rest =
        let same : d ≡ c = cc at in
        let id_is = eqb-true d.id id is in
        let above = subst (λ n. AreAbove (λ (s : Staging). s.eq) n (staging_by cs)) id_is (staged-above d.id cs all.0) in
        let under : IsUnder id o = subst (λ n. IsUnder n o) (ap (λ (x : Component). x.id) (sym same) ∙ id_is) (under-own c.id (parted_by part words c).unit) in
        ap (put o) (gone (staging_one d.id d.unit) (under-own d.id d.unit) id_is above)
        ∙ placed-first id o (staging_by cs) under above
        ∙ ap (λ (x : Component). in_front (staging_one x.id (parted_by part words x).unit) (staging_by cs)) (sym same)
        ∙ sym (front-is d.id (parted_by part words d).unit (staging_by cs))
        ∙ ap (λ (xs : List Component). with_staging_by d.id (parted_by part words d).unit (staging_by xs)) (sym (none-changed id part words cs (subst (λ n. AreAbove (λ (c : Component). c.id) n cs) id_is all.0)))
    by false is at rest =
        let more : d.id < id = found-above d.id id cs c all.0 at in
        let own : IsUnder id o = subst (λ n. IsUnder n o) (eqb-true c.id id (find-in (λ c. c.id == id) cs c at).1) (under-own c.id (parted_by part words c).unit) in
        ap (put o) (stays (staging_one d.id d.unit) (under-own d.id d.unit) is)
        ∙ behind o (staging_one d.id d.unit) (unstaged id (staging_by cs)) own (under-own d.id d.unit) more
        ∙ ap (in_front (staging_one d.id d.unit)) (rest at)
        ∙ sym (front-is d.id d.unit (staging_by (map (parted_at id part words) cs)))
