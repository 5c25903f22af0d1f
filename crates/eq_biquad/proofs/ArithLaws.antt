-- The arithmetic of numbers in words and of sections.
use Rattle.std.proofs.Common.{◌≡◌, refl, sym, ap, ◌∙◌, subst, ℕ, suc, ◌+◌, ◌-◌, ◌*◌, ◌/◌, ◌%◌, ◌^◌, ◌<◌, ◌≤◌, arith, ℤ, pos, negsuc, ◌+ℤ◌, ◌*ℤ◌, nat_abs, w32, w64, FitsSigned, to_z, of_z}
use Rattle.std.specs.Int.{int_div_euclid}
use mir.Syntax.{w128}
use Rattle.std.specs.Int.Signed.{shr_z, mag, mag_shr}
use Rattle.std.proofs.lemmas.Int.{ints, unsigned_abs-mul, to_z-of_z, of_z-to_z}
use Rattle.std.proofs.Math.IntN.{neg_ℤ, pos-*ℤ-pos, negsuc-*ℤ-pos}
use Rattle.std.proofs.Math.Nat.{mod-lt, div-add-mod, mul-le-mul, div-le_of_le-mul, div-lt_iff_lt-mul}
use Rattle.eq_biquad.specs.PieceWords.{wide_number}

-- a shift to the right is a division that rounds down
pub shr-is : (z : ℤ) (m : ℕ) → shr_z z m ≡ int_div_euclid z (pos m)
shr-is (pos a) m = refl
shr-is (negsuc a) m = refl

-- what a shift leaves after
pub shr-low : (z : ℤ) (m : ℕ) → 0 < m → (r : ℕ) × ((r < m) × (z ≡ (shr_z z m *ℤ pos m) +ℤ pos r))
shr-low (pos a) m some =
    let all : m * (a / m) + a % m ≡ a = div-add-mod a m in
    (a % m, (mod-lt a some, sym (ap (λ z. z +ℤ pos (a % m)) (pos-*ℤ-pos (a / m) m) ∙ ap pos (let e : a / m * m + a % m ≡ a = omega (arith, all) in e))))
shr-low (negsuc a) m some =
    let all : m * (a / m) + a % m ≡ a = div-add-mod a m in
    let low : a % m < m = mod-lt a some in
    let r : ℕ = m - 1 - a % m in
    let q : ℕ = suc (a / m) * m in
    let whole : q ≡ a / m * m + m = omega arith in
    (r, (omega arith, (let e : negsuc a ≡ neg_ℤ (pos q) +ℤ pos r = omega (arith, ints, all) in e) ∙ sym (ap (λ z. z +ℤ pos r) (negsuc-*ℤ-pos (a / m) m))))

pub abs-below : (z : ℤ) → FitsSigned w32 z → nat_abs z ≤ 2 ^ 31
abs-below z fit = omega (arith, ints)

pub abs-times : (a b : ℤ) (m n : ℕ) → nat_abs a ≤ m → nat_abs b ≤ n → nat_abs (a *ℤ b) ≤ m * n
abs-times a b m n p q = subst (λ k. k ≤ m * n) (sym (unsigned_abs-mul a b)) (mul-le-mul p q)

pub abs-sum : (a b : ℤ) (m n : ℕ) → nat_abs a ≤ m → nat_abs b ≤ n → nat_abs (a +ℤ b) ≤ m + n
abs-sum a b m n p q = omega (arith, ints)

mag-abs : (z : ℤ) → mag z ≤ nat_abs z
mag-abs (pos n) = omega arith
mag-abs (negsuc n) = omega arith

pub fits-64 : (z : ℤ) → nat_abs z ≤ 2 ^ 62 + 2 ^ 44 → FitsSigned w64 z
fits-64 z low = record { sfits = omega (arith, mag-abs z) }

pub fits-128 : (z : ℤ) → nat_abs z ≤ 2 ^ 97 → FitsSigned w128 z
fits-128 z low = record { sfits = omega (arith, mag-abs z) }

pub fits-32 : (z : ℤ) → nat_abs z ≤ 2 ^ 30 → FitsSigned w32 z
fits-32 z low = record { sfits = omega (arith, mag-abs z) }

pub same-128 : (z : ℤ) → nat_abs z ≤ 2 ^ 97 → to_z w128 (of_z w128 z) ≡ z
same-128 z low = to_z-of_z w128 z (fits-128 z low)

pub same-64 : (z : ℤ) → nat_abs z ≤ 2 ^ 62 + 2 ^ 44 → to_z w64 (of_z w64 z) ≡ z
same-64 z low = to_z-of_z w64 z (fits-64 z low)

-- a shifted number is smaller by as much
pub shr-abs : (z : ℤ) (m b : ℕ) → 0 < m → nat_abs z ≤ m * b → nat_abs (shr_z z m) ≤ b
shr-abs (pos a) m b some low = div-le_of_le-mul m low
shr-abs (negsuc a) m b some low = (div-lt_iff_lt-mul {k = m} {x = a} {y = b} some).1 (let e : m * b ≡ b * m = omega arith in omega (arith, e))

-- ---- the next inner value

-- the sum that is shifted, as the code has it
abbrev pub code_sum : ℤ → ℤ → ℤ
code_sum from first = to_z w128 (of_z w128 (shr_z (to_z w128 (of_z w128 (to_z w128 (of_z w128 (to_z w128 (of_z w128 from) +ℤ to_z w128 (of_z w128 first))) +ℤ pos 536870912))) 1073741824))

module _ (p from first : ℤ) (is : from ≡ to_z w64 (of_z w64 p)) (low_p : nat_abs p ≤ 2 ^ 62) (low_first : nat_abs first ≤ 2 ^ 64) where
  abbrev inner_sum : ℤ
  inner_sum = (p +ℤ first) +ℤ pos 536870912

  two : nat_abs (p +ℤ first) ≤ 2 ^ 62 + 2 ^ 64
  two = abs-sum p first (2 ^ 62) (2 ^ 64) low_p low_first

  three : nat_abs inner_sum ≤ (2 ^ 62 + 2 ^ 64) + 2 ^ 29
  three = abs-sum (p +ℤ first) (pos 536870912) (2 ^ 62 + 2 ^ 64) (2 ^ 29) two (omega arith)

  shifted : nat_abs (shr_z inner_sum 1073741824) ≤ 2 ^ 37
  shifted = shr-abs inner_sum 1073741824 (2 ^ 37) (omega arith) (omega (arith, three))

  pub inner-same : code_sum from first ≡ shr_z inner_sum 1073741824
  inner-same =
      let a : from ≡ p = is ∙ same-64 p (omega arith) in
      let b : to_z w128 (of_z w128 from) ≡ p = ap (λ z. to_z w128 (of_z w128 z)) a ∙ same-128 p (omega arith) in
      let c : to_z w128 (of_z w128 first) ≡ first = same-128 first (omega arith) in
      let d : to_z w128 (of_z w128 (to_z w128 (of_z w128 from) +ℤ to_z w128 (of_z w128 first))) ≡ p +ℤ first = (λ i. to_z w128 (of_z w128 (b i +ℤ c i))) ∙ same-128 (p +ℤ first) (omega (arith, two)) in
      (λ i. to_z w128 (of_z w128 (shr_z ((ap (λ z. to_z w128 (of_z w128 (z +ℤ pos 536870912))) d ∙ same-128 inner_sum (omega (arith, three))) i) 1073741824)))
      ∙ same-128 (shr_z inner_sum 1073741824) (omega (arith, shifted))

  pub inner-fits : FitsSigned w64 (code_sum from first)
  inner-fits = subst (FitsSigned w64) (sym inner-same) (fits-64 (shr_z inner_sum 1073741824) (omega (arith, shifted)))

  pub inner-is : to_z w64 (of_z w64 (code_sum from first)) ≡ int_div_euclid inner_sum (pos 1073741824)
  inner-is = ap (λ z. to_z w64 (of_z w64 z)) inner-same ∙ same-64 (shr_z inner_sum 1073741824) (omega (arith, shifted)) ∙ shr-is inner_sum 1073741824

-- ---- the output

module _ (p half : ℤ) (bits h : ℕ) (low_p : nat_abs p ≤ 2 ^ 62) (is : half ≡ pos h) (low_h : h ≤ 2 ^ 44) where
  abbrev out_sum : ℤ
  out_sum = p +ℤ pos h

  most : nat_abs out_sum ≤ 2 ^ 62 + 2 ^ 44
  most = abs-sum p (pos h) (2 ^ 62) (2 ^ 44) low_p low_h

  pub out-is : to_z w64 (of_z w64 (shr_z (to_z w64 (of_z w64 (to_z w64 (of_z w64 p) +ℤ to_z w64 (of_z w64 half)))) (2 ^ bits))) ≡ int_div_euclid out_sum (pos (2 ^ bits))
  out-is =
      let a : to_z w64 (of_z w64 p) ≡ p = same-64 p (omega arith) in
      let b : to_z w64 (of_z w64 half) ≡ pos h = ap (λ z. to_z w64 (of_z w64 z)) is ∙ same-64 (pos h) (omega arith) in
      let c : to_z w64 (of_z w64 (to_z w64 (of_z w64 p) +ℤ to_z w64 (of_z w64 half))) ≡ out_sum = (λ i. to_z w64 (of_z w64 (a i +ℤ b i))) ∙ same-64 out_sum most in
      let fit : FitsSigned w64 out_sum = fits-64 out_sum most in
      (λ i. to_z w64 (of_z w64 (shr_z (c i) (2 ^ bits))))
      ∙ to_z-of_z w64 (shr_z out_sum (2 ^ bits)) (record { sfits = omega (arith, mag_shr out_sum (2 ^ bits), fit.sfits) })
      ∙ shr-is out_sum (2 ^ bits)

-- ---- 32 bits of a number

pub bits-again : (n : ℕ) → n < 2 ^ 32 → of_z w32 (to_z w32 (of_z w32 (to_z w32 n))) ≡ n
bits-again n low = ap (λ k. of_z w32 (to_z w32 k)) (of_z-to_z w32 n low) ∙ of_z-to_z w32 n low

-- what is above 32 bits is smaller by as much
pub joined-high : (high : ℤ) (low : ℕ) → low < 2 ^ 32 → nat_abs (wide_number high low) ≤ 2 ^ 64 → nat_abs high ≤ 2 ^ 33
joined-high high low small within = omega (arith, ints)

pub joined-top : (high : ℤ) (low : ℕ) → low < 2 ^ 32 → nat_abs (wide_number high low) ≤ 2 ^ 32 → nat_abs high ≤ 2
joined-top high low small within = omega (arith, ints)
