-- Sums that are not held, and the marks that tell it, as their bits are computed.
use Rattle.std.proofs.Common.{◌≡◌, refl, sym, ap, subst, ◌∙◌, min, ℕ, suc, ◌+◌, ◌-◌, ◌*◌, ◌/◌, ◌%◌, ◌^◌, ◌<◌, arith, List, [], ◌∷◌, map, replicate, ℤ, pos, negsuc, ◌+ℤ◌, nat_abs, w32, w64, to_z, of_z, FitsSigned}
use Rattle.std.specs.Simd.Lanes.{Each1, zip2}
use Rattle.std.specs.Int.Signed.{shr_z}
use Rattle.std.specs.Int.Bits.{bit_or}
use Rattle.std.specs.Int.{int_wrap}
use Rattle.std.proofs.Math.Facts.{to_z-neg}
use Rattle.std.proofs.lemmas.Nat.{or_lt, le_or_l, le_or_r}
use Rattle.std.proofs.lemmas.Int.{to_z-of_z, of_z-to_z, to_z_pos, int_wrap_fits, SFits-int_wrap, fits_signed_from_abs}
use Rattle.eq_biquad.specs.Pairs.{left_number, right_number, BothAre, inner_of_sum, IsClear}
use Rattle.eq_biquad.proofs.ArithLaws.{abs-below}
use Rattle.eq_biquad.proofs.PairLaws.{fits-pos, fits-neg, above, held-up, held-down, bits_sum, bits_shift, sum-small, sum-is, above-is, pair-is, pair_sums, pair_above, inner-of-sum-narrow}
use Rattle.eq_blob.proofs.Cases.{by_less}

-- a number of 64 bits from what it stands for
bits-are : (a : ℕ) (z : ℤ) → a < 2 ^ 64 → to_z w64 a ≡ z → a ≡ of_z w64 z
bits-are a z small is = sym (of_z-to_z w64 a small) ∙ ap (of_z w64) is

bits-small : (z : ℤ) → FitsSigned w64 z → of_z w64 z < 2 ^ 64
bits-small (pos n) fit = let low : n < 2 ^ 63 = fit.sfits in let e : n < 2 ^ 64 = omega (arith, low) in e
bits-small (negsuc n) fit = let low : n < 2 ^ 63 = fit.sfits in let e : 2 ^ 64 - suc n < 2 ^ 64 = omega (arith, low) in e

-- ---- the 32 bits above the lowest 30

abbrev pub bits_up : ℕ → ℕ → ℕ
bits_up a b = a * 2 ^ b % 2 ^ 64

abbrev pub bits_taken : ℕ → ℕ → ℕ
bits_taken a b = bits_shift (bits_up (bits_sum a b) 2) 32

abbrev pub bits_mark : ℕ → ℕ → ℕ
bits_mark a b = bits_sum (bits_sum a b) 2305843009213693952

up-fits : (n : ℕ) → FitsSigned w64 (to_z w64 (n % 2 ^ 64))
unfolding int_wrap
up-fits n = SFits-int_wrap w64 (pos n)

high-fits : (z : ℤ) → FitsSigned w64 z → FitsSigned w32 (shr_z z (2 ^ 32))
high-fits (pos n) fit = let low : n < 2 ^ 63 = fit.sfits in let e : n / 4294967296 < 2 ^ 31 = omega (arith, low) in record { sfits = e }
high-fits (negsuc n) fit = let low : n < 2 ^ 63 = fit.sfits in let e : n / 4294967296 < 2 ^ 31 = omega (arith, low) in record { sfits = e }

wider : (z : ℤ) → FitsSigned w32 z → FitsSigned w64 z
wider z fit = let low = abs-below z fit in fits_signed_from_abs w64 z (omega (arith, low))

-- they fit, whatever the sum is
pub taken-fits : (a b : ℕ) → FitsSigned w32 (to_z w64 (bits_taken a b))
taken-fits a b =
    let z = to_z w64 (bits_up (bits_sum a b) 2) in let fit = high-fits z (up-fits (bits_sum a b * 2 ^ 2)) in
    subst (FitsSigned w32) (sym (to_z-of_z w64 (shr_z z (2 ^ 32)) (wider (shr_z z (2 ^ 32)) fit))) fit

pub taken-again : (a b : ℕ) → FitsSigned w32 (to_z w32 (of_z w32 (to_z w64 (bits_taken a b))))
taken-again a b = let fit = taken-fits a b in subst (FitsSigned w32) (sym (to_z-of_z w32 (to_z w64 (bits_taken a b)) fit)) fit

module _ (p q : ℤ) (fit_p : FitsSigned w64 p) (fit_q : FitsSigned w64 q) where
  abbrev mark : ℤ
  mark = to_z w64 (bits_mark (of_z w64 p) (of_z w64 q))

  taken-total : (t : ℤ) → p +ℤ q ≡ t → nat_abs t < 7 * 2 ^ 61 → IsClear mark → bits_taken (of_z w64 p) (of_z w64 q) ≡ of_z w64 (inner_of_sum t)
  taken-total (pos n) is low clear = by_less n (2 ^ 61)
      (λ less.
      let same : bits_sum (of_z w64 p) (of_z w64 q) ≡ n = bits-are (bits_sum (of_z w64 p) (of_z w64 q)) (pos n) (sum-small p q fit_p fit_q) (sum-is p q fit_p fit_q ∙ ap (int_wrap w64) is ∙ int_wrap_fits w64 (pos n) (fits-pos n (omega (arith, less)))) in
      ap (λ s. bits_shift (bits_up s 2) 32) same
      ∙ ap (λ m. bits_shift m 32) (let e : n * 2 ^ 2 % 2 ^ 64 ≡ 4 * n = omega (arith, less) in e)
      ∙ ap (λ z. of_z w64 (shr_z z 4294967296)) (to_z_pos w64 (4 * n) (omega (arith, less)))
      ∙ ap (λ m. of_z w64 (pos m)) (let e : 4 * n / 4294967296 ≡ min (n / 1073741824) 2147483647 = omega (arith, less) in e))
      (λ far. let high = held-up n far low clear.0 (sym (above-is p q fit_p fit_q ∙ ap above is) ∙ clear.1.0) in absurd (omega (arith, high, clear.1.1)))
  taken-total (negsuc n) is low clear = by_less n (2 ^ 61)
      (λ less.
      let same : bits_sum (of_z w64 p) (of_z w64 q) ≡ 2 ^ 64 - suc n = bits-are (bits_sum (of_z w64 p) (of_z w64 q)) (negsuc n) (sum-small p q fit_p fit_q) (sum-is p q fit_p fit_q ∙ ap (int_wrap w64) is ∙ int_wrap_fits w64 (negsuc n) (fits-neg n (omega (arith, less)))) in
      let k : ℕ = 4 * n + 3 in
      ap (λ s. bits_shift (bits_up s 2) 32) same
      ∙ ap (λ m. bits_shift m 32) (let e : (2 ^ 64 - suc n) * 2 ^ 2 % 2 ^ 64 ≡ 2 ^ 64 - suc k = omega (arith, less) in e)
      ∙ ap (λ z. of_z w64 (shr_z z 4294967296)) (to_z-neg w64 k (omega (arith, less)))
      ∙ ap (λ m. of_z w64 (negsuc m)) (let e : k / 4294967296 ≡ min (n / 1073741824) 2147483647 = omega (arith, less) in e))
      (λ far. let high = held-down n far low clear.0 (sym (above-is p q fit_p fit_q ∙ ap above is) ∙ clear.1.0) in absurd (omega (arith, high, clear.1.1)))

  pub taken-is : nat_abs (p +ℤ q) < 7 * 2 ^ 61 → IsClear mark → bits_taken (of_z w64 p) (of_z w64 q) ≡ of_z w64 (inner_of_sum (p +ℤ q))
  taken-is low clear = taken-total (p +ℤ q) refl low clear

-- ---- marks

pub mark-fits : (a b : ℕ) → FitsSigned w64 (to_z w64 (bits_mark a b))
mark-fits a b = up-fits (bits_sum a b + 2305843009213693952)

-- a number below 2 ^ 62 as its bits are, and back
pub clear-of : (z : ℤ) → FitsSigned w64 z → of_z w64 z < 2 ^ 62 → IsClear z
clear-of z fit low = (of_z w64 z, (sym (to_z-of_z w64 z fit) ∙ to_z_pos w64 (of_z w64 z) (omega (arith, low)), low))

clear-bits : (a : ℕ) → a < 2 ^ 64 → IsClear (to_z w64 a) → a < 2 ^ 62
clear-bits a small clear = let same : a ≡ clear.0 = bits-are a (pos clear.0) small clear.1.0 in omega (arith, same, clear.1.1)

module _ (p q : ℤ) (fit_p : FitsSigned w64 p) (fit_q : FitsSigned w64 q) where
  joined-small : bit_or (of_z w64 p) (of_z w64 q) < 2 ^ 64
  joined-small = or_lt 64 (of_z w64 p) (of_z w64 q) (bits-small p fit_p) (bits-small q fit_q)

  pub joined-clear : IsClear (to_z w64 (bit_or (of_z w64 p) (of_z w64 q))) → IsClear p × IsClear q
  joined-clear clear =
      let low = clear-bits (bit_or (of_z w64 p) (of_z w64 q)) joined-small clear in
      let one = le_or_l (of_z w64 p) (of_z w64 q) in let two = le_or_r (of_z w64 p) (of_z w64 q) in
      (clear-of p fit_p (omega (arith, low, one)), clear-of q fit_q (omega (arith, low, two)))

  pub joined-fits : FitsSigned w64 (to_z w64 (bit_or (of_z w64 p) (of_z w64 q)))
  joined-fits =
      let v : ℕ = bit_or (of_z w64 p) (of_z w64 q) in
      subst (λ n. FitsSigned w64 (to_z w64 n)) (let e : v % 2 ^ 64 ≡ v = omega (arith, joined-small) in e) (up-fits v)

-- ---- two of them

abbrev pub pair_taken : List ℤ → List ℤ → List ℕ
pair_taken a b = zip2 bits_shift (zip2 bits_up (pair_sums a b) (replicate 2 2)) (replicate 2 32)

-- what is made of them
abbrev pub taken_numbers : List ℤ → List ℤ → List ℤ
taken_numbers a b = map (to_z w32) (map (λ n. of_z w32 (to_z w64 n)) (pair_taken a b))

abbrev pub mark_numbers : List ℤ → List ℤ → List ℤ
mark_numbers a b = map (to_z w64) (pair_above a b)

abbrev pub joined_numbers : List ℤ → List ℤ → List ℤ
joined_numbers a b = map (to_z w64) (zip2 bit_or (map (of_z w64) a) (map (of_z w64) b))

module _ (a b : List ℤ) (fit_a : BothAre (FitsSigned w64) a) (fit_b : BothAre (FitsSigned w64) b) where
  pub of-pairs : (P : List ℤ → List ℤ → Type 0) → P (left_number a ∷ right_number a ∷ []) (left_number b ∷ right_number b ∷ []) → P a b
  of-pairs P so = subst (λ (v : List ℤ × List ℤ). P v.0 v.1) (λ i. (sym (pair-is a fit_a.0) i, sym (pair-is b fit_b.0) i)) so

  pub taken-left : nat_abs (left_number a +ℤ left_number b) < 7 * 2 ^ 61 → IsClear (left_number (mark_numbers a b)) → left_number (taken_numbers a b) ≡ inner_of_sum (left_number a +ℤ left_number b)
  taken-left low = of-pairs (λ u v. IsClear (left_number (mark_numbers u v)) → left_number (taken_numbers u v) ≡ inner_of_sum (left_number a +ℤ left_number b)) (λ clear.
      ap (λ m. to_z w32 (of_z w32 (to_z w64 m))) (taken-is (left_number a) (left_number b) fit_a.1.0 fit_b.1.0 low clear) ∙ inner-of-sum-narrow (left_number a +ℤ left_number b))

  pub taken-right : nat_abs (right_number a +ℤ right_number b) < 7 * 2 ^ 61 → IsClear (right_number (mark_numbers a b)) → right_number (taken_numbers a b) ≡ inner_of_sum (right_number a +ℤ right_number b)
  taken-right low = of-pairs (λ u v. IsClear (right_number (mark_numbers u v)) → right_number (taken_numbers u v) ≡ inner_of_sum (right_number a +ℤ right_number b)) (λ clear.
      ap (λ m. to_z w32 (of_z w32 (to_z w64 m))) (taken-is (right_number a) (right_number b) fit_a.1.1 fit_b.1.1 low clear) ∙ inner-of-sum-narrow (right_number a +ℤ right_number b))

  pub both-taken-again : BothAre (FitsSigned w32) (taken_numbers a b)
  both-taken-again = of-pairs (λ u v. BothAre (FitsSigned w32) (taken_numbers u v)) (refl, (taken-again (of_z w64 (left_number a)) (of_z w64 (left_number b)), taken-again (of_z w64 (right_number a)) (of_z w64 (right_number b))))

  pub both-taken-fit : Each1 (λ n. FitsSigned w32 (to_z w64 n)) (pair_taken a b)
  both-taken-fit = of-pairs (λ u v. Each1 (λ n. FitsSigned w32 (to_z w64 n)) (pair_taken u v)) (taken-fits (of_z w64 (left_number a)) (of_z w64 (left_number b)), (taken-fits (of_z w64 (right_number a)) (of_z w64 (right_number b)), tt))

  pub both-marks-fit : BothAre (FitsSigned w64) (mark_numbers a b)
  both-marks-fit = of-pairs (λ u v. BothAre (FitsSigned w64) (mark_numbers u v)) (refl, (mark-fits (of_z w64 (left_number a)) (of_z w64 (left_number b)), mark-fits (of_z w64 (right_number a)) (of_z w64 (right_number b))))

  pub joined-left : IsClear (left_number (joined_numbers a b)) → IsClear (left_number a) × IsClear (left_number b)
  joined-left = of-pairs (λ u v. IsClear (left_number (joined_numbers u v)) → IsClear (left_number a) × IsClear (left_number b)) (joined-clear (left_number a) (left_number b) fit_a.1.0 fit_b.1.0)

  pub joined-right : IsClear (right_number (joined_numbers a b)) → IsClear (right_number a) × IsClear (right_number b)
  joined-right = of-pairs (λ u v. IsClear (right_number (joined_numbers u v)) → IsClear (right_number a) × IsClear (right_number b)) (joined-clear (right_number a) (right_number b) fit_a.1.1 fit_b.1.1)

  pub both-joined-fit : BothAre (FitsSigned w64) (joined_numbers a b)
  both-joined-fit = of-pairs (λ u v. BothAre (FitsSigned w64) (joined_numbers u v)) (refl, (joined-fits (left_number a) (left_number b) fit_a.1.0 fit_b.1.0, joined-fits (right_number a) (right_number b) fit_a.1.1 fit_b.1.1))
