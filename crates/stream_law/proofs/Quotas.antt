-- The quota in numbers that are never below 0.
use Rattle.std.proofs.Common.{◌≡◌, refl, sym, ap, ◌∙◌, subst, ℕ, zero, suc, ◌+◌, ◌-◌, ◌*◌, ◌/◌, ◌%◌, ◌<◌, ◌≤◌, Bool, true, false, cond, arith, pos, negsuc, ◌-ℤ◌}
use Rattle.std.proofs.lemmas.Bool.{ltb-true, ltb-false}
use Rattle.std.proofs.Math.IntN.{neg_ℤ}
use Rattle.std.proofs.Math.Nat.{mul-le-mul}
use Rattle.std.specs.Prelude.{nat_lt}
use Rattle.std.specs.Int.{int_div_euclid, int_gap}
use Rattle.stream_law.specs.State.{View}
use Rattle.stream_law.specs.Ways.{rate_of}
use Rattle.stream_law.specs.Moves.{period, frames_up_to, quota}

-- from below 0 up to a count
below : (x b : ℕ) → int_gap (int_div_euclid (neg_ℤ (pos x)) (pos 1000)) (pos b) ≡ b + (x + 999) / 1000
below zero b = omega arith
below (suc m) b = omega arith

by_numbers : (r p t : ℕ) → p ≤ 1000 → int_gap (frames_up_to r (pos t -ℤ pos p)) (frames_up_to r (pos t)) ≡ (t + 1000) * r / 1000 - (t + 1000 - p) * r / 1000
by_numbers r zero t low =
    let same : t + 0 ≡ t = omega arith in
    ap (λ k. t * r / 1000 - k * r / 1000) same ∙ (let none : t * r / 1000 - t * r / 1000 ≡ (t + 1000) * r / 1000 - (t + 1000) * r / 1000 = omega arith in none) ∙ ap (λ k. (t + 1000) * r / 1000 - k * r / 1000) (let e : t + 1000 ≡ t + 1000 - 0 = omega arith in e)
by_numbers r (suc n) t low = by (nat_lt t (suc n)) refl
  where
    by : (h : Bool) → nat_lt t (suc n) ≡ h → int_gap (frames_up_to r (cond h (negsuc (suc n - suc t)) (pos (t - suc n)))) (pos (t * r / 1000)) ≡ (t + 1000) * r / 1000 - (t + 1000 - suc n) * r / 1000
    by true h =
        let less : t < suc n = ltb-true t (suc n) h in
        let d : ℕ = t + 1000 - suc n in
        let k : ℕ = suc n - suc t in
        let whole : d + suc k ≡ 1000 = omega (arith, less, low) in
        let sum : d * r + suc k * r ≡ 1000 * r = (let e : d * r + suc k * r ≡ (d + suc k) * r = omega arith in e) ∙ ap (λ z. z * r) whole in
        let later : (t + 1000) * r ≡ t * r + 1000 * r = omega arith in
        below (suc k * r) (t * r / 1000) ∙ (let e : t * r / 1000 + (suc k * r + 999) / 1000 ≡ (t + 1000) * r / 1000 - d * r / 1000 = omega (arith, sum, later) in e)
    by false h =
        let more : suc n ≤ t = ltb-false t (suc n) h in
        let d : ℕ = t - suc n in
        let behind : (t + 1000 - suc n) * r ≡ d * r + 1000 * r = ap (λ z. z * r) (let e : t + 1000 - suc n ≡ d + 1000 = omega (arith, more) in e) ∙ (let e : (d + 1000) * r ≡ d * r + 1000 * r = omega arith in e) in
        let later : (t + 1000) * r ≡ t * r + 1000 * r = omega arith in
        let e : t * r / 1000 - d * r / 1000 ≡ (t + 1000) * r / 1000 - (t + 1000 - suc n) * r / 1000 = omega (arith, behind, later) in e

pub quota-numbers : (v : View) (t c : ℕ) → period v c ≤ 1000 → quota v t c ≡ (t + 1000) * rate_of v c / 1000 - (t + 1000 - period v c) * rate_of v c / 1000
unfolding quota
quota-numbers v t c low = by_numbers (rate_of v c) (period v c) t low

-- what is after and what a period has are what is before it
parts : (r p t : ℕ) → p ≤ 1000 → (t + 1000 - p) * r + p * r ≡ (t + 1000) * r
parts r p t low = (let e : (t + 1000 - p) * r + p * r ≡ (t + 1000 - p + p) * r = omega arith in e) ∙ ap (λ z. z * r) (let e : t + 1000 - p + p ≡ t + 1000 = omega (arith, low) in e)

-- what a period leaves over is a frame more where a count has just come to a whole one
pub quota-parts : (v : View) (t c : ℕ) → period v c ≤ 1000 → quota v t c ≡ period v c * rate_of v c / 1000 + cond (nat_lt (t * rate_of v c % 1000) (period v c * rate_of v c % 1000)) 1 0
quota-parts v t c low = quota-numbers v t c low ∙ split (rate_of v c) (period v c) low
  where
    split : (r p : ℕ) → p ≤ 1000 → (t + 1000) * r / 1000 - (t + 1000 - p) * r / 1000 ≡ p * r / 1000 + cond (nat_lt (t * r % 1000) (p * r % 1000)) 1 0
    split r p most = by (nat_lt (t * r % 1000) (p * r % 1000)) refl
      where
        all : (t + 1000 - p) * r + p * r ≡ (t + 1000) * r
        all = parts r p t most

        later : (t + 1000) * r ≡ t * r + 1000 * r
        later = omega arith

        by : (h : Bool) → nat_lt (t * r % 1000) (p * r % 1000) ≡ h → (t + 1000) * r / 1000 - (t + 1000 - p) * r / 1000 ≡ p * r / 1000 + cond h 1 0
        by true h = let less : t * r % 1000 < p * r % 1000 = ltb-true (t * r % 1000) (p * r % 1000) h in omega (arith, all, later, less)
        by false h = let more : p * r % 1000 ≤ t * r % 1000 = ltb-false (t * r % 1000) (p * r % 1000) h in omega (arith, all, later, more)

pub quota-thousands : (v : View) (t c k : ℕ) → period v c ≤ 1000 → rate_of v c ≡ k * 1000 → quota v t c ≡ period v c * k
quota-thousands v t c k low is =
    quota-numbers v t c low
    ∙ ap (λ r. (t + 1000) * r / 1000 - (t + 1000 - period v c) * r / 1000) is
    ∙ steps (period v c) low
  where
    steps : (p : ℕ) → p ≤ 1000 → (t + 1000) * (k * 1000) / 1000 - (t + 1000 - p) * (k * 1000) / 1000 ≡ p * k
    steps p most =
        let d : ℕ = t + 1000 - p in
        let all : d * k + p * k ≡ (t + 1000) * k = parts k p t most in
        let one : (t + 1000) * (k * 1000) ≡ 1000 * ((t + 1000) * k) = omega arith in
        let two : d * (k * 1000) ≡ 1000 * (d * k) = omega arith in
        let e : (t + 1000) * (k * 1000) / 1000 - d * (k * 1000) / 1000 ≡ p * k = omega (arith, all, one, two) in e

pub quota-few : (v : View) (t c : ℕ) → period v c ≤ 10 → rate_of v c ≤ 192000 → quota v t c ≤ 1920
quota-few v t c short slow =
    subst (λ n. n ≤ 1920) (sym (quota-numbers v t c (omega (arith, short)))) (few (rate_of v c) (period v c) short slow)
  where
    few : (r p : ℕ) → p ≤ 10 → r ≤ 192000 → (t + 1000) * r / 1000 - (t + 1000 - p) * r / 1000 ≤ 1920
    few r p low most =
        let d : ℕ = t + 1000 - p in
        let all : d * r + p * r ≡ (t + 1000) * r = parts r p t (omega (arith, low)) in
        let top : p * r ≤ 10 * 192000 = mul-le-mul low most in
        omega (arith, all, top)
