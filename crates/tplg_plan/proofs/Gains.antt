-- How great a gain is.
use Rattle.std.proofs.Common.{◌≡◌, refl, ap, ◌∙◌, ℕ, zero, suc, ◌+◌, ◌-◌, ◌*◌, ◌/◌, ◌≤◌, arith}
use Rattle.stream_law.specs.Gain.{gain_above, gain_below}

pub above-zero : 65536 ≡ gain_above 0
unfolding gain_above
above-zero = refl

pub below-zero : 65536 ≡ gain_below 0
unfolding gain_below
below-zero = refl

-- one more half decibel
pub above-suc : (h : ℕ) → gain_above (h + 1) ≡ gain_above h * 69419 / 65536
unfolding gain_above
above-suc h = let e : h + 1 ≡ suc h = omega arith in ap gain_above e

pub below-suc : (h : ℕ) → gain_below (h + 1) ≡ gain_below h * 61870 / 65536
unfolding gain_below
below-suc h = let e : h + 1 ≡ suc h = omega arith in ap gain_below e

grows : (x : ℕ) → x ≤ x * 69419 / 65536
grows x = omega arith

rises : (h k : ℕ) → gain_above h ≤ gain_above (h + k)
rises h zero = let e : gain_above (h + 0) ≡ gain_above h = (let f : h + 0 ≡ h = omega arith in ap gain_above f) in omega (arith, e)
rises h (suc k) =
    let e : gain_above (h + suc k) ≡ gain_above (h + k) * 69419 / 65536 = (let f : h + suc k ≡ h + k + 1 = omega arith in ap gain_above f) ∙ above-suc (h + k) in
    omega (arith, e, rises h k, grows (gain_above (h + k)))

greatest : gain_above 84 ≤ 16777216
unfolding gain_above
greatest = omega arith

pub above-most : (h : ℕ) → h ≤ 84 → gain_above h ≤ 16777216
above-most h low = let e : gain_above (h + (84 - h)) ≡ gain_above 84 = (let f : h + (84 - h) ≡ 84 = omega arith in ap gain_above f) in omega (arith, e, rises h (84 - h), greatest)
