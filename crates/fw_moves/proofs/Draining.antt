-- Buffers lose their first frames one after another.
use Rattle.std.proofs.Common.{◌≡◌, refl, sym, ap, ◌∙◌, ℕ, zero, suc, ◌<◌, List, [], ◌∷◌, ◌++◌, map, take, length, get_or, Bool, true, false, cond, ◌==◌, ◌||◌, nat_eq, arith}
use Rattle.std.proofs.lemmas.Bool.{eqb-true, eq-eqb, true≢false}
use Rattle.std.proofs.lemmas.List.Folds.{list_any-append}
use Rattle.std.specs.List.{IsDistinct}
use Rattle.stream_law.specs.Order.{is_among}
use Rattle.fw_units.specs.declared.component.Component.{Component}
use Rattle.fw_units.specs.Frames.{taken_by, taken_at}
use Rattle.fw_moves.specs.Processed.{drained_at}
use Rattle.fw_units.proofs.Ids.{other-way}
use Rattle.fw_moves.proofs.MadeLaws.{all-at}

-- no id comes before itself where each comes once
pub not-before : (ids : List ℕ) (i : ℕ) → IsDistinct nat_eq ids → i < length ids → is_among (take i ids) (get_or ids i 0) ≡ false
unfolding IsDistinct
not-before [] i d lt = absurd (omega (arith, lt))
not-before (id ∷ ids) zero d lt = refl
not-before (id ∷ ids) (suc i) d lt =
    let low : i < length ids = omega (arith, lt) in
    let far : (id == get_or ids i 0) ≡ false = all-at (λ other. nat_eq id other ≡ false) ids i 0 low d.0 in
    ap (λ h. h || is_among (take i ids) (get_or ids i 0)) far ∙ not-before ids i d.1 low

pub drained-none : (n : ℕ) (cs : List Component) → cs ≡ map (drained_at [] n) cs
drained-none n [] = refl
drained-none n (c ∷ cs) = ap (λ (xs : List Component). c ∷ xs) (drained-none n cs)

drained-one : (seen : List ℕ) (b n : ℕ) (c : Component) → is_among seen b ≡ false → taken_at b n (drained_at seen n c) ≡ drained_at (seen ++ b ∷ []) n c
drained-one seen b n c apart = by (is_among seen c.id) refl (c.id == b) refl
  where
    more : is_among (seen ++ b ∷ []) c.id ≡ (is_among seen c.id || (b == c.id || false))
    more = list_any-append (λ id. id == c.id) seen (b ∷ [])

    by : (h : Bool) → is_among seen c.id ≡ h → (k : Bool) → (c.id == b) ≡ k → taken_at b n (drained_at seen n c) ≡ drained_at (seen ++ b ∷ []) n c
    by true before true it = absurd (true≢false (sym before ∙ ap (is_among seen) (eqb-true c.id b it) ∙ apart))
    by true before false it =
        ap (taken_at b n) (ap (λ h. cond {A = Component} h (taken_by n c) c) before)
        ∙ ap (λ h. cond {A = Component} h (taken_by n (taken_by n c)) (taken_by n c)) it
        ∙ sym (ap (λ h. cond {A = Component} h (taken_by n c) c) (more ∙ ap (λ h. h || (b == c.id || false)) before))
    by false before true it =
        let turned : (b == c.id) ≡ true = eq-eqb b c.id (sym (eqb-true c.id b it)) in
        ap (taken_at b n) (ap (λ h. cond {A = Component} h (taken_by n c) c) before)
        ∙ ap (λ h. cond {A = Component} h (taken_by n c) c) it
        ∙ sym (ap (λ h. cond {A = Component} h (taken_by n c) c) (more ∙ (λ i. before i || (turned i || false))))
    by false before false it =
        ap (taken_at b n) (ap (λ h. cond {A = Component} h (taken_by n c) c) before)
        ∙ ap (λ h. cond {A = Component} h (taken_by n c) c) it
        ∙ sym (ap (λ h. cond {A = Component} h (taken_by n c) c) (more ∙ (λ i. before i || (other-way c.id b it i || false))))

-- one more buffer
pub drained-more : (seen : List ℕ) (b n : ℕ) (cs : List Component) → is_among seen b ≡ false → map (taken_at b n) (map (drained_at seen n) cs) ≡ map (drained_at (seen ++ b ∷ []) n) cs
drained-more seen b n [] apart = refl
drained-more seen b n (c ∷ cs) apart = (λ i. drained-one seen b n c apart i ∷ drained-more seen b n cs apart i)

-- one alone
pub drained-single : (looked : List ℕ) (n : ℕ) (cs : List Component) → length looked ≡ 1 → map (taken_at (get_or looked 0 0) n) cs ≡ map (drained_at looked n) cs
drained-single [] n cs one = absurd (omega (arith, one))
drained-single (b ∷ []) n cs one = ap (map (taken_at b n)) (drained-none n cs) ∙ drained-more [] b n cs refl
drained-single (b ∷ d ∷ bs) n cs one = absurd (omega (arith, one))
