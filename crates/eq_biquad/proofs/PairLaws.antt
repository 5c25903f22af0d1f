-- One of two numbers side by side, as its bits are computed.
use Rattle.std.proofs.Common.{◌≡◌, refl, sym, ap, subst, ◌∙◌, Bool, true, false, cond, min, ℕ, suc, ◌+◌, ◌-◌, ◌*◌, ◌/◌, ◌%◌, ◌^◌, ◌<◌, ◌≤◌, List, [], ◌∷◌, map, length, replicate, arith, ℤ, pos, negsuc, ◌+ℤ◌, ◌*ℤ◌, nat_abs, w32, w64, to_z, of_z, FitsSigned}
use Rattle.std.specs.Simd.Lanes.{zip2, top, sel_l}
use Rattle.std.specs.Int.Signed.{lt_z, shr_z, mag}
use Rattle.std.specs.Int.{int_div_euclid, int_wrap}
use Rattle.std.proofs.Math.Nat.{mod-lt, mod-eq_of_lt}
use Rattle.std.proofs.Math.Facts.{to_z-neg}
use Rattle.std.proofs.lemmas.Bool.{le-ltb}
use Rattle.std.proofs.lemmas.Int.{ints, to_z-of_z, of_z-to_z, to_z_pos, int_wrap_fits, wrapping_add_is, wrapping_add_onto, wrapping_mul_is, SFits-int_wrap, fits_signed_from_abs}
use mir.Syntax.{Width}
use Rattle.eq_biquad.specs.Pairs.{left_number, right_number, BothAre, inner_of_sum}
use Rattle.eq_biquad.proofs.ArithLaws.{abs-below, abs-times, shr-low}
use Rattle.eq_blob.proofs.Cases.{by_less}

-- ---- sums of 64 bits that wrap

wraps-down : (n : ℕ) → 2 ^ 63 ≤ n → n < 2 ^ 64 → int_wrap w64 (pos n) ≡ negsuc (2 ^ 64 - 1 - n)
unfolding int_wrap
wraps-down n ge small =
    let k : ℕ = 2 ^ 64 - 1 - n in
    let is : n ≡ 2 ^ 64 - suc k = omega (arith, small) in
    ap (to_z w64) (mod-eq_of_lt small ∙ is) ∙ to_z-neg w64 k (omega (arith, ge, small))

wraps-up : (n : ℕ) → 2 ^ 63 ≤ n → n < 2 ^ 64 → int_wrap w64 (negsuc n) ≡ pos (2 ^ 64 - 1 - n)
unfolding int_wrap
wraps-up n ge small = ap (λ m. to_z w64 (2 ^ 64 - 1 - m)) (mod-eq_of_lt small) ∙ to_z_pos w64 (2 ^ 64 - 1 - n) (omega (arith, ge, small))

pub fits-pos : (n : ℕ) → n < 2 ^ 63 → FitsSigned w64 (pos n)
fits-pos n low = record { sfits = omega (arith, low) }

pub fits-neg : (n : ℕ) → n < 2 ^ 63 → FitsSigned w64 (negsuc n)
fits-neg n low = record { sfits = omega (arith, low) }

-- ---- which sums are held

-- a sum and 2 ^ 61, as they wrap
abbrev pub above : ℤ → ℤ
above t = int_wrap w64 (int_wrap w64 t +ℤ pos 2305843009213693952)

-- a number that is neither below 0 nor twice it
abbrev IsLow : ℤ → Type 0
IsLow a = (n : ℕ) × ((a ≡ pos n) × (n < 2 ^ 62))

-- a number that is, or that wraps to below 0 twice
abbrev pub IsHigh : ℤ → Type 0
IsHigh a = (n : ℕ) → a ≡ pos n → 2 ^ 62 ≤ n

negative : (k : ℕ) (a : ℤ) → a ≡ negsuc k → IsHigh a
negative k a is n e = absurd (omega (arith, ints, is, e))

positive : (k : ℕ) (a : ℤ) → a ≡ pos k → 2 ^ 62 ≤ k → IsHigh a
positive k a is low n e = omega (arith, ints, is, e, low)

more : (n : ℕ) → 2 ^ 61 ≤ n → n < 2 ^ 63 → IsHigh (int_wrap w64 (pos n +ℤ pos 2305843009213693952))
more n ge low = by_less (n + 2305843009213693952) (2 ^ 63)
    (λ less. positive (n + 2305843009213693952) _ (int_wrap_fits w64 (pos (n + 2305843009213693952)) (fits-pos (n + 2305843009213693952) less)) (omega (arith, ge)))
    (λ far. negative (2 ^ 64 - 1 - (n + 2305843009213693952)) _ (wraps-down (n + 2305843009213693952) far (omega (arith, low))))

less-so : (n : ℕ) → 2 ^ 61 ≤ n → n < 2 ^ 63 → IsHigh (int_wrap w64 (negsuc n +ℤ pos 2305843009213693952))
less-so n ge low =
    let k : ℕ = n - 2305843009213693952 in
    let is : negsuc n +ℤ pos 2305843009213693952 ≡ negsuc k = omega (arith, ints, ge) in
    negative k _ (ap (int_wrap w64) is ∙ int_wrap_fits w64 (negsuc k) (fits-neg k (omega (arith, low))))

pub held-up : (n : ℕ) → 2 ^ 61 ≤ n → n < 7 * 2 ^ 61 → IsHigh (above (pos n))
held-up n ge low = by_less n (2 ^ 63)
    (λ less. subst (λ z. IsHigh (int_wrap w64 (z +ℤ pos 2305843009213693952))) (sym (int_wrap_fits w64 (pos n) (fits-pos n less))) (more n ge less))
    (λ far. let k : ℕ = 2 ^ 64 - 1 - n in
    subst (λ z. IsHigh (int_wrap w64 (z +ℤ pos 2305843009213693952))) (sym (wraps-down n far (omega (arith, low)))) (less-so k (omega (arith, low)) (omega (arith, far, low))))

pub held-down : (n : ℕ) → 2 ^ 61 ≤ n → suc n < 7 * 2 ^ 61 → IsHigh (above (negsuc n))
held-down n ge low = by_less n (2 ^ 63)
    (λ less. subst (λ z. IsHigh (int_wrap w64 (z +ℤ pos 2305843009213693952))) (sym (int_wrap_fits w64 (negsuc n) (fits-neg n less))) (less-so n ge less))
    (λ far. let k : ℕ = 2 ^ 64 - 1 - n in
    subst (λ z. IsHigh (int_wrap w64 (z +ℤ pos 2305843009213693952))) (sym (wraps-up n far (omega (arith, low)))) (more k (omega (arith, low)) (omega (arith, far, low))))

low-up : (n : ℕ) → n < 2 ^ 61 → IsLow (above (pos n))
low-up n low = (
  n + 2305843009213693952,
  (
    ap (λ z. int_wrap w64 (z +ℤ pos 2305843009213693952)) (int_wrap_fits w64 (pos n) (fits-pos n (omega (arith, low))))
        ∙ int_wrap_fits w64 (pos (n + 2305843009213693952)) (fits-pos (n + 2305843009213693952) (omega (arith, low))),
    omega (arith, low),
  ),
)

low-down : (n : ℕ) → n < 2 ^ 61 → IsLow (above (negsuc n))
low-down n low =
    let k : ℕ = 2305843009213693952 - suc n in
    let is : negsuc n +ℤ pos 2305843009213693952 ≡ pos k = omega (arith, ints, low) in (
      k,
      (
        ap (λ z. int_wrap w64 (z +ℤ pos 2305843009213693952)) (int_wrap_fits w64 (negsuc n) (fits-neg n (omega (arith, low))))
            ∙ ap (int_wrap w64) is
            ∙ int_wrap_fits w64 (pos k) (fits-pos k (omega (arith, low))),
        omega (arith, low),
      ),
    )

-- ---- what a test chooses

abbrev pub bits_sum : ℕ → ℕ → ℕ
bits_sum a b = (a + b) % 2 ^ 64

abbrev pub bits_shift : ℕ → ℕ → ℕ
bits_shift a b = of_z w64 (shr_z (to_z w64 a) (2 ^ b))

abbrev pub bits_less : ℕ → ℕ → ℕ
bits_less a b = cond (lt_z (to_z w64 a) (to_z w64 b)) 18446744073709551615 0

-- the first of two bits of 64 where a number is below 0, and else the second
abbrev pub bits_choice : ℕ → ℕ → ℕ → ℕ
bits_choice a x y = cond (top 63 (bits_less a 0)) x y

chosen : (t : Bool) (x y : ℕ) → cond (top 63 (cond t 18446744073709551615 0)) x y ≡ cond t x y
chosen true x y = refl
chosen false x y = refl

choice-is : (a : ℕ) (z : ℤ) (x y : ℕ) → to_z w64 a ≡ z → bits_choice a x y ≡ cond (lt_z z (pos 0)) x y
choice-is a z x y is = chosen (lt_z (to_z w64 a) (pos 0)) x y ∙ ap (λ v. cond (lt_z v (pos 0)) x y) is

-- a natural number is not below 0
not-below : (n x y : ℕ) → cond (lt_z (pos n) (pos 0)) x y ≡ y
not-below n x y = ap (λ t. cond t x y) (le-ltb n 0 (omega arith))

-- the choices of a number: its own test, and that of twice it
abbrev pub bits_chosen : ℕ → ℕ → ℕ → ℕ
bits_chosen a end inner = bits_choice a end (bits_choice (bits_sum a a) end inner)

twice-is : (a : ℕ) → a < 2 ^ 64 → FitsSigned w64 (to_z w64 a) → to_z w64 (bits_sum a a) ≡ int_wrap w64 (to_z w64 a +ℤ to_z w64 a)
twice-is a small fit =
    ap (λ b. to_z w64 ((a + b) % 2 ^ 64)) (sym (of_z-to_z w64 a small))
    ∙ wrapping_add_onto w64 a (to_z w64 a) small fit

chosen-high : (a : ℕ) (z : ℤ) (end inner : ℕ) → a < 2 ^ 64 → to_z w64 a ≡ z → FitsSigned w64 z → IsHigh z → bits_chosen a end inner ≡ end
chosen-high a (pos n) end inner small is fit high =
    let low : 2 ^ 62 ≤ n = high n refl in
    choice-is a (pos n) end (bits_choice (bits_sum a a) end inner) is
    ∙ not-below n end (bits_choice (bits_sum a a) end inner)
    ∙ choice-is (bits_sum a a) (negsuc (2 ^ 64 - 1 - (n + n))) end inner
    (twice-is a small (subst (FitsSigned w64) (sym is) fit) ∙ (λ i. int_wrap w64 (is i +ℤ is i)) ∙ wraps-down (n + n) (omega (arith, low)) (omega (arith, fit.sfits)))
chosen-high a (negsuc n) end inner small is fit high = choice-is a (negsuc n) end (bits_choice (bits_sum a a) end inner) is

chosen-low : (a : ℕ) (z : ℤ) (end inner : ℕ) → a < 2 ^ 64 → to_z w64 a ≡ z → IsLow z → bits_chosen a end inner ≡ inner
chosen-low a z end inner small is low =
    let n : ℕ = low.0 in let e : to_z w64 a ≡ pos n = is ∙ low.1.0 in
    choice-is a (pos n) end (bits_choice (bits_sum a a) end inner) e
    ∙ not-below n end (bits_choice (bits_sum a a) end inner)
    ∙ choice-is (bits_sum a a) (pos (n + n)) end inner
    (twice-is a small (subst (FitsSigned w64) (sym e) (fits-pos n (omega (arith, low.1.1)))) ∙ (λ i. int_wrap w64 (e i +ℤ e i)) ∙ int_wrap_fits w64 (pos (n + n)) (fits-pos (n + n) (omega (arith, low.1.1))))
    ∙ not-below (n + n) end inner

-- ---- the sign of the halves

halved : (z : ℤ) → (r : ℕ) × ((r < 2) × (z ≡ (shr_z z 2 *ℤ pos 2) +ℤ pos r))
halved z = shr-low z 2 (omega arith)

half-low : (z : ℤ) → FitsSigned w64 z → mag (shr_z z 2) < 2 ^ 62
half-low (pos n) fit = let low : n < 2 ^ 63 = fit.sfits in let e : n / 2 < 2 ^ 62 = omega (arith, low) in e
half-low (negsuc n) fit = let low : n < 2 ^ 63 = fit.sfits in let e : n / 2 < 2 ^ 62 = omega (arith, low) in e

halves-fit : (a b : ℤ) → mag a < 2 ^ 62 → mag b < 2 ^ 62 → FitsSigned w64 (a +ℤ b)
halves-fit (pos m) (pos n) low_a low_b = let a : m < 2 ^ 62 = low_a in let b : n < 2 ^ 62 = low_b in fits-pos (m + n) (omega (arith, a, b))
halves-fit (pos m) (negsuc n) low_a low_b = let a : m < 2 ^ 62 = low_a in let b : n < 2 ^ 62 = low_b in fits_signed_from_abs w64 (pos m +ℤ negsuc n) (omega (arith, ints, a, b))
halves-fit (negsuc m) (pos n) low_a low_b = let a : m < 2 ^ 62 = low_a in let b : n < 2 ^ 62 = low_b in fits_signed_from_abs w64 (negsuc m +ℤ pos n) (omega (arith, ints, a, b))
halves-fit (negsuc m) (negsuc n) low_a low_b =
    let a : m < 2 ^ 62 = low_a in let b : n < 2 ^ 62 = low_b in let is : negsuc m +ℤ negsuc n ≡ negsuc (m + n + 1) = omega (arith, ints) in
    subst (FitsSigned w64) (sym is) (fits-neg (m + n + 1) (omega (arith, a, b)))

abbrev pub bits_end : ℕ → ℕ → ℕ
bits_end a b = bits_choice (bits_sum (bits_shift a 1) (bits_shift b 1)) 18446744071562067968 2147483647

module _ (p q : ℤ) (fit_p : FitsSigned w64 p) (fit_q : FitsSigned w64 q) where
  abbrev halves : ℤ
  halves = shr_z p 2 +ℤ shr_z q 2

  halves-are : to_z w64 (bits_sum (bits_shift (of_z w64 p) 1) (bits_shift (of_z w64 q) 1)) ≡ halves
  halves-are =
      let low_p = half-low p fit_p in let low_q = half-low q fit_q in
      let one : FitsSigned w64 (shr_z p 2) = record { sfits = omega (arith, low_p) } in
      let two : FitsSigned w64 (shr_z q 2) = record { sfits = omega (arith, low_q) } in
      (λ i. to_z w64 (bits_sum (of_z w64 (shr_z (to_z-of_z w64 p fit_p i) 2)) (of_z w64 (shr_z (to_z-of_z w64 q fit_q i) 2))))
      ∙ wrapping_add_is w64 (shr_z p 2) (shr_z q 2) one two
      ∙ int_wrap_fits w64 halves (halves-fit (shr_z p 2) (shr_z q 2) low_p low_q)

  sign-up : (n : ℕ) → p +ℤ q ≡ pos n → 2 ^ 61 ≤ n → bits_end (of_z w64 p) (of_z w64 q) ≡ 2147483647
  sign-up n is far =
      choice-is (bits_sum (bits_shift (of_z w64 p) 1) (bits_shift (of_z w64 q) 1)) halves 18446744071562067968 2147483647 halves-are
      ∙ at (shr_z p 2) (shr_z q 2) halves (halved p) (halved q) refl
    where
      at : (a b h : ℤ) → (r : ℕ) × ((r < 2) × (p ≡ (a *ℤ pos 2) +ℤ pos r)) → (r : ℕ) × ((r < 2) × (q ≡ (b *ℤ pos 2) +ℤ pos r)) → a +ℤ b ≡ h → ◌≡◌ {A = ℕ} (cond (lt_z h (pos 0)) 18446744071562067968 2147483647) 2147483647
      at a b (pos m) g h e = not-below m 18446744071562067968 2147483647
      at a b (negsuc m) g h e = let r : ℕ = g.0 in let s : ℕ = h.0 in absurd (omega (arith, ints, is, far, g.1.0, g.1.1, h.1.0, h.1.1, e))

  sign-down : (n : ℕ) → p +ℤ q ≡ negsuc n → 2 ^ 61 ≤ n → bits_end (of_z w64 p) (of_z w64 q) ≡ 18446744071562067968
  sign-down n is far =
      choice-is (bits_sum (bits_shift (of_z w64 p) 1) (bits_shift (of_z w64 q) 1)) halves 18446744071562067968 2147483647 halves-are
      ∙ at (shr_z p 2) (shr_z q 2) halves (halved p) (halved q) refl
    where
      at : (a b h : ℤ) → (r : ℕ) × ((r < 2) × (p ≡ (a *ℤ pos 2) +ℤ pos r)) → (r : ℕ) × ((r < 2) × (q ≡ (b *ℤ pos 2) +ℤ pos r)) → a +ℤ b ≡ h → ◌≡◌ {A = ℕ} (cond (lt_z h (pos 0)) 18446744071562067968 2147483647) 18446744071562067968
      at a b (negsuc m) g h e = refl
      at a b (pos m) g h e = let r : ℕ = g.0 in let s : ℕ = h.0 in absurd (omega (arith, ints, is, far, g.1.0, g.1.1, h.1.0, h.1.1, e))

-- ---- the number that is held

abbrev pub bits_hold : ℕ → ℕ → ℕ
bits_hold a b = let sum = bits_sum a b in bits_chosen (bits_sum sum 2305843009213693952) (bits_end a b) (bits_shift sum 30)

module _ (p q : ℤ) (fit_p : FitsSigned w64 p) (fit_q : FitsSigned w64 q) where
  abbrev sum : ℕ
  sum = bits_sum (of_z w64 p) (of_z w64 q)

  pub sum-small : sum < 2 ^ 64
  sum-small = mod-lt (of_z w64 p + of_z w64 q) (omega arith)

  pub sum-is : to_z w64 sum ≡ int_wrap w64 (p +ℤ q)
  sum-is = wrapping_add_is w64 p q fit_p fit_q

  pub above-is : to_z w64 (bits_sum sum 2305843009213693952) ≡ above (p +ℤ q)
  above-is =
      wrapping_add_onto w64 sum (pos 2305843009213693952) sum-small (fits-pos 2305843009213693952 (omega arith))
      ∙ ap (λ z. int_wrap w64 (z +ℤ pos 2305843009213693952)) sum-is

  above-small : bits_sum sum 2305843009213693952 < 2 ^ 64
  above-small = mod-lt (sum + 2305843009213693952) (omega arith)

  above-fits : FitsSigned w64 (above (p +ℤ q))
  above-fits = SFits-int_wrap w64 (int_wrap w64 (p +ℤ q) +ℤ pos 2305843009213693952)

  hold-total : (t : ℤ) → p +ℤ q ≡ t → nat_abs t < 7 * 2 ^ 61 → bits_hold (of_z w64 p) (of_z w64 q) ≡ of_z w64 (inner_of_sum t)
  hold-total (pos n) is low = by_less n (2 ^ 61)
      (λ less.
      chosen-low (bits_sum sum 2305843009213693952) (above (pos n)) (bits_end (of_z w64 p) (of_z w64 q)) (bits_shift sum 30) above-small (above-is ∙ ap above is) (low-up n less)
      ∙ ap (λ z. of_z w64 (shr_z z 1073741824)) (sum-is ∙ ap (int_wrap w64) is ∙ int_wrap_fits w64 (pos n) (fits-pos n (omega (arith, less))))
      ∙ ap (λ m. of_z w64 (pos m)) (let e : n / 1073741824 ≡ min (n / 1073741824) 2147483647 = omega (arith, less) in e))
      (λ far.
      chosen-high (bits_sum sum 2305843009213693952) (above (pos n)) (bits_end (of_z w64 p) (of_z w64 q)) (bits_shift sum 30) above-small (above-is ∙ ap above is) (subst (λ z. FitsSigned w64 (above z)) is above-fits) (held-up n far low)
      ∙ sign-up p q fit_p fit_q n is far
      ∙ ap (λ m. of_z w64 (pos m)) (let e : 2147483647 ≡ min (n / 1073741824) 2147483647 = omega (arith, far) in e))
  hold-total (negsuc n) is low = by_less n (2 ^ 61)
      (λ less.
      chosen-low (bits_sum sum 2305843009213693952) (above (negsuc n)) (bits_end (of_z w64 p) (of_z w64 q)) (bits_shift sum 30) above-small (above-is ∙ ap above is) (low-down n less)
      ∙ ap (λ z. of_z w64 (shr_z z 1073741824)) (sum-is ∙ ap (int_wrap w64) is ∙ int_wrap_fits w64 (negsuc n) (fits-neg n (omega (arith, less))))
      ∙ ap (λ m. of_z w64 (negsuc m)) (let e : n / 1073741824 ≡ min (n / 1073741824) 2147483647 = omega (arith, less) in e))
      (λ far.
      chosen-high (bits_sum sum 2305843009213693952) (above (negsuc n)) (bits_end (of_z w64 p) (of_z w64 q)) (bits_shift sum 30) above-small (above-is ∙ ap above is) (subst (λ z. FitsSigned w64 (above z)) is above-fits) (held-down n far low)
      ∙ sign-down p q fit_p fit_q n is far
      ∙ ap (λ m. of_z w64 (negsuc m)) (let e : 2147483647 ≡ min (n / 1073741824) 2147483647 = omega (arith, far) in e))

  pub hold-is : nat_abs (p +ℤ q) < 7 * 2 ^ 61 → bits_hold (of_z w64 p) (of_z w64 q) ≡ of_z w64 (inner_of_sum (p +ℤ q))
  hold-is low = hold-total (p +ℤ q) refl low

-- it fits in 32 bits
pub inner-of-sum-fits : (z : ℤ) → FitsSigned w32 (inner_of_sum z)
inner-of-sum-fits z = at (int_div_euclid z (pos 1073741824))
  where
    at : (y : ℤ) → FitsSigned w32 (Rattle.sof_base.specs.Samples.sat 32 y)
    at (pos n) = record { sfits = omega arith }
    at (negsuc n) = record { sfits = omega arith }

pub inner-of-sum-wide : (z : ℤ) → to_z w64 (of_z w64 (inner_of_sum z)) ≡ inner_of_sum z
inner-of-sum-wide z = let low = abs-below (inner_of_sum z) (inner-of-sum-fits z) in to_z-of_z w64 (inner_of_sum z) (fits_signed_from_abs w64 (inner_of_sum z) (omega (arith, low)))

pub inner-of-sum-narrow : (z : ℤ) → to_z w32 (of_z w32 (to_z w64 (of_z w64 (inner_of_sum z)))) ≡ inner_of_sum z
inner-of-sum-narrow z = ap (λ v. to_z w32 (of_z w32 v)) (inner-of-sum-wide z) ∙ to_z-of_z w32 (inner_of_sum z) (inner-of-sum-fits z)

-- ---- a product

abbrev pub bits_times : ℕ → ℕ → ℕ
bits_times a b = of_z w64 (to_z w32 a) * of_z w64 (to_z w32 b) % 2 ^ 64

pub times-is : (a b : ℤ) → FitsSigned w32 a → FitsSigned w32 b → to_z w64 (bits_times (of_z w32 a) (of_z w32 b)) ≡ a *ℤ b
times-is a b fit_a fit_b =
    let low_a = abs-below a fit_a in let low_b = abs-below b fit_b in
    let low = abs-times a b (2 ^ 31) (2 ^ 31) low_a low_b in
    (λ i. to_z w64 (of_z w64 (to_z-of_z w32 a fit_a i) * of_z w64 (to_z-of_z w32 b fit_b i) % 2 ^ 64))
    ∙ wrapping_mul_is w64 a b (fits_signed_from_abs w64 a (omega (arith, low_a))) (fits_signed_from_abs w64 b (omega (arith, low_b)))
    ∙ int_wrap_fits w64 (a *ℤ b) (fits_signed_from_abs w64 (a *ℤ b) (omega (arith, low)))

-- ---- a sum

pub sum-fits : (a b : ℤ) → FitsSigned w64 a → FitsSigned w64 b → FitsSigned w64 (a +ℤ b) → to_z w64 (bits_sum (of_z w64 a) (of_z w64 b)) ≡ a +ℤ b
sum-fits a b fit_a fit_b fit = wrapping_add_is w64 a b fit_a fit_b ∙ int_wrap_fits w64 (a +ℤ b) fit

-- ---- two of them

pub pair-is : (pair : List ℤ) → length pair ≡ 2 → pair ≡ left_number pair ∷ right_number pair ∷ []
pair-is [] long = absurd (omega (arith, long))
pair-is (x ∷ []) long = absurd (omega (arith, long))
pair-is (x ∷ y ∷ []) long = refl
pair-is (x ∷ y ∷ z ∷ rest) long = absurd (omega (arith, long))

abbrev pub pair_sums : List ℤ → List ℤ → List ℕ
pair_sums a b = zip2 bits_sum (map (of_z w64) a) (map (of_z w64) b)

abbrev pub pair_choice : List ℕ → List ℕ → List ℕ → List ℕ
pair_choice ks xs ys = sel_l (map (top 63) (zip2 bits_less ks (replicate 2 0))) xs ys

abbrev pub pair_ends : List ℤ → List ℤ → List ℕ
pair_ends a b = pair_choice (zip2 bits_sum (zip2 bits_shift (map (of_z w64) a) (replicate 2 1)) (zip2 bits_shift (map (of_z w64) b) (replicate 2 1))) (replicate 2 18446744071562067968) (replicate 2 2147483647)

abbrev pub pair_above : List ℤ → List ℤ → List ℕ
pair_above a b = zip2 bits_sum (pair_sums a b) (replicate 2 2305843009213693952)

abbrev pub pair_held : List ℤ → List ℤ → List ℕ
pair_held a b = pair_choice (pair_above a b) (pair_ends a b) (pair_choice (zip2 bits_sum (pair_above a b) (pair_above a b)) (pair_ends a b) (zip2 bits_shift (pair_sums a b) (replicate 2 30)))

-- ---- a pair that was passed

pub pair-again : (w : Width) (pair : List ℤ) → BothAre (FitsSigned w) pair → map (to_z w) (map (of_z w) pair) ≡ pair
pair-again w pair fit =
    (λ i. map (to_z w) (map (of_z w) (pair-is pair fit.0 i)))
    ∙ (λ i. to_z-of_z w (left_number pair) fit.1.0 i ∷ to_z-of_z w (right_number pair) fit.1.1 i ∷ [])
    ∙ sym (pair-is pair fit.0)

-- the same of a pair that is known
pub known-again : (w : Width) (pair : List ℤ) (a b : ℤ) → pair ≡ a ∷ b ∷ [] → FitsSigned w a → FitsSigned w b → map (to_z w) (map (of_z w) pair) ≡ a ∷ b ∷ []
known-again w pair a b is fit_a fit_b = (λ i. map (to_z w) (map (of_z w) (is i))) ∙ (λ i. to_z-of_z w a fit_a i ∷ to_z-of_z w b fit_b i ∷ [])

-- ---- sizes

pub product-low : (a x : ℤ) → FitsSigned w32 x → nat_abs (a *ℤ x) ≤ nat_abs a * 2 ^ 31
product-low a x fit = abs-times a x (nat_abs a) (2 ^ 31) (omega arith) (abs-below x fit)

pub product-fits : (a x : ℤ) → FitsSigned w32 a → FitsSigned w32 x → FitsSigned w64 (a *ℤ x)
product-fits a x fit_a fit_x = let low = product-low a x fit_x in let few = abs-below a fit_a in fits_signed_from_abs w64 (a *ℤ x) (omega (arith, low, few))

-- a sum fits where the sizes together do
pub sizes-fit : (a b : ℤ) (m : ℕ) → nat_abs a ≤ m → m + nat_abs b < 2 ^ 63 → FitsSigned w64 (a +ℤ b)
sizes-fit a b m low room = fits_signed_from_abs w64 (a +ℤ b) (omega (arith, ints, low, room))

-- the sum of three that is held
pub three-low : (p f a : ℤ) (m : ℕ) → nat_abs p ≤ m → nat_abs (a +ℤ f) + m < 7 * 2 ^ 61 → nat_abs ((p +ℤ f) +ℤ a) < 7 * 2 ^ 61
three-low p f a m low room = omega (arith, ints, low, room)

-- a sum with the half that rounds
pub half-fits : (p s : ℤ) (m : ℕ) → nat_abs p ≤ m → m + nat_abs s < 2 ^ 63 - 2 ^ 29 → FitsSigned w64 ((p +ℤ s) +ℤ pos 536870912)
half-fits p s m low room = fits_signed_from_abs w64 ((p +ℤ s) +ℤ pos 536870912) (omega (arith, ints, low, room))
