-- The arithmetic of sections in 64 bits.
use Rattle.std.proofs.Common.{◌≡◌, sym, ap, ◌∙◌, subst, ℕ, suc, ◌+◌, ◌-◌, ◌*◌, ◌%◌, ◌^◌, ◌<◌, ◌≤◌, arith, ℤ, pos, negsuc, ◌+ℤ◌, ◌-ℤ◌, ◌*ℤ◌, nat_abs, w32, w64, FitsSigned, to_z, of_z}
use Rattle.std.specs.Int.{int_div_euclid, int_wrap}
use mir.Syntax.{w128}
use Rattle.std.specs.Int.Signed.{shr_z, mag_shr}
use Rattle.std.proofs.lemmas.Int.{ints, to_z-of_z, to_z_pos, int_wrap_fits, wrapping_add_is, wrapping_add_onto, int_wrap-add_left, SFits-int_wrap, fits_signed_from_abs}
use Rattle.std.proofs.Math.Facts.{to_z-neg}
use Rattle.std.proofs.Math.Nat.{mod-eq_of_lt, mod-lt}
use Rattle.sof_base.specs.Samples.{sat}
use Rattle.eq_biquad.proofs.ArithLaws.{shr-is, shr-low, abs-below, abs-times, abs-sum, same-128, fits-128}
use Rattle.eq_blob.proofs.Cases.{by_less}

-- a number that fits is held as it is
pub sat-fits : (z : ℤ) → FitsSigned w32 z → sat 32 z ≡ z
sat-fits (pos n) fit = ap pos (omega (arith, fit.sfits))
sat-fits (negsuc n) fit = ap negsuc (omega (arith, fit.sfits))

pub fits : (z : ℤ) → nat_abs z < 2 ^ 63 → FitsSigned w64 z
fits z low = fits_signed_from_abs w64 z low

pub same : (z : ℤ) → nat_abs z < 2 ^ 63 → to_z w64 (of_z w64 z) ≡ z
same z low = to_z-of_z w64 z (fits z low)

pub wider : (z : ℤ) → FitsSigned w32 z → to_z w64 (of_z w64 z) ≡ z
wider z fit = let low = abs-below z fit in same z (omega (arith, low))

-- a sum below 7 * 2 ^ 61 in size that wraps to one within 2 ^ 61 did not wrap
pub unwrapped : (z : ℤ) → nat_abs z < 7 * 2 ^ 61 → nat_abs (int_wrap w64 z) ≤ 2 ^ 61 → int_wrap w64 z ≡ z
unfolding int_wrap
unwrapped (pos n) low within = by_less n (2 ^ 63)
    (λ less. int_wrap_fits w64 (pos n) (fits (pos n) less))
    (λ ge.
    let k : ℕ = 2 ^ 64 - 1 - n in
    let small : n < 2 ^ 64 = omega (arith, low) in
    let is : n ≡ 2 ^ 64 - suc k = omega (arith, low) in
    let e : int_wrap w64 (pos n) ≡ negsuc k = ap (to_z w64) (mod-eq_of_lt small ∙ is) ∙ to_z-neg w64 k (omega (arith, ge, low)) in
    let far : suc k ≤ 2 ^ 61 = subst (λ z. nat_abs z ≤ 2 ^ 61) e within in
    absurd (omega (arith, far, low, ge)))
unwrapped (negsuc n) low within = by_less n (2 ^ 63)
    (λ less. int_wrap_fits w64 (negsuc n) (record { sfits = omega (arith, less) }))
    (λ ge.
    let small : n < 2 ^ 64 = omega (arith, low) in
    let k : ℕ = 2 ^ 64 - 1 - n in
    let e : int_wrap w64 (negsuc n) ≡ pos k = ap (λ m. to_z w64 (2 ^ 64 - 1 - m)) (mod-eq_of_lt small) ∙ to_z_pos w64 k (omega (arith, ge, low)) in
    let far : k ≤ 2 ^ 61 = subst (λ z. nat_abs z ≤ 2 ^ 61) e within in
    absurd (omega (arith, far, low, ge)))

-- ---- the next inner value

-- the sum that wraps, as the code has it
abbrev pub wrapped_sum : ℤ → ℤ → ℤ → ℤ
wrapped_sum p ahead fed = to_z w64 (((of_z w64 p + of_z w64 ahead) % 2 ^ 64 + of_z w64 fed) % 2 ^ 64)

abbrev pub shifted : ℤ → ℤ → ℤ → ℤ
shifted p ahead fed = to_z w64 (of_z w64 (shr_z (wrapped_sum p ahead fed) 1073741824))

module _ (p ahead fed : ℤ) (fit_p : FitsSigned w64 p) (fit_ahead : FitsSigned w64 ahead) (fit_fed : FitsSigned w64 fed) (low : nat_abs ((p +ℤ ahead) +ℤ fed) < 7 * 2 ^ 61) (held : FitsSigned w32 (shifted p ahead fed)) where
  abbrev total : ℤ
  total = (p +ℤ ahead) +ℤ fed

  wraps : wrapped_sum p ahead fed ≡ int_wrap w64 total
  wraps =
      wrapping_add_onto w64 ((of_z w64 p + of_z w64 ahead) % 2 ^ 64) fed (mod-lt (of_z w64 p + of_z w64 ahead) (omega arith)) fit_fed
      ∙ ap (λ z. int_wrap w64 (z +ℤ fed)) (wrapping_add_is w64 p ahead fit_p fit_ahead)
      ∙ int_wrap-add_left w64 (p +ℤ ahead) fed

  abbrev high : ℤ
  high = shr_z (int_wrap w64 total) 1073741824

  is_high : shifted p ahead fed ≡ high
  is_high =
      let fit = SFits-int_wrap w64 total in
      ap (λ z. to_z w64 (of_z w64 (shr_z z 1073741824))) wraps
      ∙ to_z-of_z w64 high (record { sfits = omega (arith, mag_shr (int_wrap w64 total) 1073741824, fit.sfits) })

  fit_high : FitsSigned w32 high
  fit_high = subst (FitsSigned w32) is_high held

  within : nat_abs (int_wrap w64 total) ≤ 2 ^ 61
  within =
      let parts = shr-low (int_wrap w64 total) 1073741824 (omega arith) in
      near (int_wrap w64 total) high parts.0 parts.1.0 parts.1.1 fit_high
    where
      near : (z h : ℤ) (r : ℕ) → r < 1073741824 → z ≡ (h *ℤ pos 1073741824) +ℤ pos r → FitsSigned w32 h → nat_abs z ≤ 2 ^ 61
      near z h r small is fit = omega (arith, ints, small, is, fit.sfits)

  pub near-inner : shifted p ahead fed ≡ sat 32 (int_div_euclid total (pos 1073741824))
  near-inner =
      let so : int_wrap w64 total ≡ total = unwrapped total low within in
      is_high
      ∙ sym (sat-fits high fit_high)
      ∙ ap (λ z. sat 32 (shr_z z 1073741824)) so
      ∙ ap (sat 32) (shr-is total 1073741824)

-- ---- the first number from its parts

-- as the code has it
abbrev pub joined_parts : ℤ → ℤ → ℤ
joined_parts a f = to_z w128 (of_z w128 (to_z w128 (of_z w128 (to_z w128 (of_z w128 a) +ℤ to_z w128 (of_z w128 f))) -ℤ pos 536870912))

pub joined-is : (a f : ℤ) → FitsSigned w64 a → FitsSigned w64 f → joined_parts a f ≡ (a +ℤ f) -ℤ pos 536870912
joined-is a f fit_a fit_f =
    let low_a : nat_abs a ≤ 2 ^ 63 = omega (arith, ints, fit_a.sfits) in
    let low_f : nat_abs f ≤ 2 ^ 63 = omega (arith, ints, fit_f.sfits) in
    let sum : nat_abs (a +ℤ f) ≤ 2 ^ 63 + 2 ^ 63 = abs-sum a f (2 ^ 63) (2 ^ 63) low_a low_f in
    let less : nat_abs ((a +ℤ f) -ℤ pos 536870912) ≤ 2 ^ 65 = omega (arith, ints, sum) in
    ap (λ z. to_z w128 (of_z w128 (z -ℤ pos 536870912))) ((λ i. to_z w128 (of_z w128 (same-128 a (omega (arith, low_a)) i +ℤ same-128 f (omega (arith, low_f)) i))) ∙ same-128 (a +ℤ f) (omega (arith, sum)))
    ∙ same-128 ((a +ℤ f) -ℤ pos 536870912) (omega (arith, less))

pub joined-fits : (a f : ℤ) → FitsSigned w64 a → FitsSigned w64 f → FitsSigned w128 (to_z w128 (of_z w128 (to_z w128 (of_z w128 a) +ℤ to_z w128 (of_z w128 f))) -ℤ pos 536870912)
joined-fits a f fit_a fit_f =
    let low_a : nat_abs a ≤ 2 ^ 63 = omega (arith, ints, fit_a.sfits) in
    let low_f : nat_abs f ≤ 2 ^ 63 = omega (arith, ints, fit_f.sfits) in
    let sum : nat_abs (a +ℤ f) ≤ 2 ^ 63 + 2 ^ 63 = abs-sum a f (2 ^ 63) (2 ^ 63) low_a low_f in
    let less : nat_abs ((a +ℤ f) -ℤ pos 536870912) ≤ 2 ^ 65 = omega (arith, ints, sum) in
    subst (λ z. FitsSigned w128 (z -ℤ pos 536870912))
    (sym ((λ i. to_z w128 (of_z w128 (same-128 a (omega (arith, low_a)) i +ℤ same-128 f (omega (arith, low_f)) i))) ∙ same-128 (a +ℤ f) (omega (arith, sum))))
    (fits-128 ((a +ℤ f) -ℤ pos 536870912) (omega (arith, less)))

-- the 2 ^ 29 away, and there again
pub less-half : (a f first : ℤ) → a +ℤ f ≡ first +ℤ pos 536870912 → (a +ℤ f) -ℤ pos 536870912 ≡ first
less-half a f first parts = omega (arith, ints, parts)

pub with-half : (a f : ℤ) → a +ℤ f ≡ ((a +ℤ f) -ℤ pos 536870912) +ℤ pos 536870912
with-half a f = omega (arith, ints)

pub less-within : (a f : ℤ) → nat_abs (a +ℤ f) < 7 * 2 ^ 61 → nat_abs ((a +ℤ f) -ℤ pos 536870912) ≤ 2 ^ 64
less-within a f low = omega (arith, ints, low)

-- ---- the parts of a first number

-- as the code has it
abbrev pub first_ahead : ℤ → ℤ
first_ahead first = to_z w64 (of_z w64 (to_z w64 (of_z w64 (to_z w128 (of_z w128 first))) +ℤ pos 536870912))

pub kept-64 : (z : ℤ) → nat_abs z < 2 ^ 63 → to_z w64 (of_z w64 (to_z w128 (of_z w128 z))) ≡ z
kept-64 z low = ap (λ y. to_z w64 (of_z w64 y)) (same-128 z (omega (arith, low))) ∙ same z low

module _ (first : ℤ) (low : nat_abs first ≤ 2 ^ 63 - 2 ^ 30) where
  more : nat_abs (first +ℤ pos 536870912) ≤ 2 ^ 63 - 2 ^ 30 + 536870912
  more = abs-sum first (pos 536870912) (2 ^ 63 - 2 ^ 30) 536870912 low (omega arith)

  pub is_first : first_ahead first ≡ first +ℤ pos 536870912
  is_first = ap (λ z. to_z w64 (of_z w64 (z +ℤ pos 536870912))) (kept-64 first (omega (arith, low))) ∙ same (first +ℤ pos 536870912) (omega (arith, more))

  pub first-is : (first_ahead first +ℤ pos 0) -ℤ pos 536870912 ≡ first
  first-is = ap (λ z. (z +ℤ pos 0) -ℤ pos 536870912) is_first ∙ there first
    where
      there : (z : ℤ) → ((z +ℤ pos 536870912) +ℤ pos 0) -ℤ pos 536870912 ≡ z
      there z = omega (arith, ints)

  pub first-within : (b0 : ℤ) → nat_abs b0 ≤ 2 ^ 31 → nat_abs (first_ahead first +ℤ pos 0) + nat_abs b0 * 2 ^ 31 < 7 * 2 ^ 61
  first-within b0 few =
      let e : first_ahead first +ℤ pos 0 ≡ first +ℤ pos 536870912 = ap (λ z. z +ℤ pos 0) is_first ∙ zero-more (first +ℤ pos 536870912) in
      subst (λ z. nat_abs z + nat_abs b0 * 2 ^ 31 < 7 * 2 ^ 61) (sym e) (omega (arith, more, few))
    where
      zero-more : (z : ℤ) → z +ℤ pos 0 ≡ z
      zero-more z = omega (arith, ints)

-- ---- the next numbers

pub product-within : (a x p : ℤ) → p ≡ a *ℤ x → FitsSigned w32 x → nat_abs p ≤ nat_abs a * 2 ^ 31
product-within a x p is fit = subst (λ z. nat_abs z ≤ nat_abs a * 2 ^ 31) (sym is) (abs-times a x (nat_abs a) (2 ^ 31) (omega arith) (abs-below x fit))

module _ (b1 a1 b2 a2 x w second p q r t : ℤ) (is_p : p ≡ b1 *ℤ x) (is_q : q ≡ a1 *ℤ w) (is_r : r ≡ b2 *ℤ x) (is_t : t ≡ a2 *ℤ w) (fit_x : FitsSigned w32 x) (fit_w : FitsSigned w32 w)
    (narrow : nat_abs b1 + (nat_abs b2 + nat_abs a2) < 2 ^ 32) (low : nat_abs second ≤ (nat_abs b2 + nat_abs a2) * 2 ^ 31) (few : nat_abs a1 ≤ 2 ^ 31) where
  low_p : nat_abs p ≤ nat_abs b1 * 2 ^ 31
  low_p = product-within b1 x p is_p fit_x

  low_q : nat_abs q ≤ nat_abs a1 * 2 ^ 31
  low_q = product-within a1 w q is_q fit_w

  low_r : nat_abs r ≤ nat_abs b2 * 2 ^ 31
  low_r = product-within b2 x r is_r fit_x

  low_t : nat_abs t ≤ nat_abs a2 * 2 ^ 31
  low_t = product-within a2 w t is_t fit_w

  low_one : nat_abs (p +ℤ second) ≤ nat_abs b1 * 2 ^ 31 + (nat_abs b2 + nat_abs a2) * 2 ^ 31
  low_one = abs-sum p second (nat_abs b1 * 2 ^ 31) ((nat_abs b2 + nat_abs a2) * 2 ^ 31) low_p low

  low_two : nat_abs ((p +ℤ second) +ℤ pos 536870912) ≤ nat_abs b1 * 2 ^ 31 + (nat_abs b2 + nat_abs a2) * 2 ^ 31 + 536870912
  low_two = abs-sum (p +ℤ second) (pos 536870912) (nat_abs b1 * 2 ^ 31 + (nat_abs b2 + nat_abs a2) * 2 ^ 31) 536870912 low_one (omega arith)

  low_three : nat_abs (r +ℤ t) ≤ nat_abs b2 * 2 ^ 31 + nat_abs a2 * 2 ^ 31
  low_three = abs-sum r t (nat_abs b2 * 2 ^ 31) (nat_abs a2 * 2 ^ 31) low_r low_t

  one : to_z w64 (of_z w64 p) +ℤ to_z w64 (of_z w64 second) ≡ p +ℤ second
  one = λ i. same p (omega (arith, low_p, narrow)) i +ℤ same second (omega (arith, low, narrow)) i

  two : to_z w64 (of_z w64 (to_z w64 (of_z w64 p) +ℤ to_z w64 (of_z w64 second))) +ℤ pos 536870912 ≡ (p +ℤ second) +ℤ pos 536870912
  two = ap (λ z. to_z w64 (of_z w64 z) +ℤ pos 536870912) one ∙ ap (λ z. z +ℤ pos 536870912) (same (p +ℤ second) (omega (arith, low_one, narrow)))

  three : to_z w64 (of_z w64 r) +ℤ to_z w64 (of_z w64 t) ≡ r +ℤ t
  three = λ i. same r (omega (arith, low_r, narrow)) i +ℤ same t (omega (arith, low_t, narrow)) i

  pub next-fits : FitsSigned w64 (to_z w64 (of_z w64 p) +ℤ to_z w64 (of_z w64 second))
  next-fits = subst (FitsSigned w64) (sym one) (fits (p +ℤ second) (omega (arith, low_one, narrow)))

  pub next-fits-2 : FitsSigned w64 (to_z w64 (of_z w64 (to_z w64 (of_z w64 p) +ℤ to_z w64 (of_z w64 second))) +ℤ pos 536870912)
  next-fits-2 = subst (FitsSigned w64) (sym two) (fits ((p +ℤ second) +ℤ pos 536870912) (omega (arith, low_two, narrow)))

  pub next-fits-3 : FitsSigned w64 (to_z w64 (of_z w64 r) +ℤ to_z w64 (of_z w64 t))
  next-fits-3 = subst (FitsSigned w64) (sym three) (fits (r +ℤ t) (omega (arith, low_three, narrow)))

  abbrev ahead_sum : ℤ
  ahead_sum = to_z w64 (of_z w64 (to_z w64 (of_z w64 (to_z w64 (of_z w64 p) +ℤ to_z w64 (of_z w64 second))) +ℤ pos 536870912))

  is_ahead : ahead_sum ≡ (p +ℤ second) +ℤ pos 536870912
  is_ahead = ap (λ z. to_z w64 (of_z w64 z)) two ∙ same ((p +ℤ second) +ℤ pos 536870912) (omega (arith, low_two, narrow))

  moved : (a b c d : ℤ) → ((a +ℤ c) +ℤ d) +ℤ b ≡ ((a +ℤ b) +ℤ c) +ℤ d
  moved a b c d = omega (arith, ints)

  pub next-first : ahead_sum +ℤ to_z w64 (of_z w64 q) ≡ (((b1 *ℤ x) +ℤ (a1 *ℤ w)) +ℤ second) +ℤ pos 536870912
  next-first =
      (λ i. is_ahead i +ℤ same q (omega (arith, low_q, few)) i)
      ∙ moved p q second (pos 536870912)
      ∙ (λ i. ((is_p i +ℤ is_q i) +ℤ second) +ℤ pos 536870912)

  pub next-second : to_z w64 (of_z w64 (to_z w64 (of_z w64 r) +ℤ to_z w64 (of_z w64 t))) ≡ (b2 *ℤ x) +ℤ (a2 *ℤ w)
  next-second = ap (λ z. to_z w64 (of_z w64 z)) three ∙ same (r +ℤ t) (omega (arith, low_three, narrow)) ∙ (λ i. is_r i +ℤ is_t i)

  pub next-first-within : nat_abs (ahead_sum +ℤ to_z w64 (of_z w64 q)) ≤ (nat_abs b1 + nat_abs a1 + nat_abs b2 + nat_abs a2) * 2 ^ 31 + 2 ^ 29
  next-first-within =
      let e : ahead_sum +ℤ to_z w64 (of_z w64 q) ≡ ((p +ℤ second) +ℤ pos 536870912) +ℤ q = λ i. is_ahead i +ℤ same q (omega (arith, low_q, few)) i in
      let low_all = abs-sum ((p +ℤ second) +ℤ pos 536870912) q (nat_abs b1 * 2 ^ 31 + (nat_abs b2 + nat_abs a2) * 2 ^ 31 + 536870912) (nat_abs a1 * 2 ^ 31) low_two low_q in
      subst (λ z. nat_abs z ≤ (nat_abs b1 + nat_abs a1 + nat_abs b2 + nat_abs a2) * 2 ^ 31 + 2 ^ 29) (sym e) (omega (arith, low_all))

  pub next-second-within : nat_abs (to_z w64 (of_z w64 (to_z w64 (of_z w64 r) +ℤ to_z w64 (of_z w64 t)))) ≤ (nat_abs b2 + nat_abs a2) * 2 ^ 31
  next-second-within = subst (λ z. nat_abs z ≤ (nat_abs b2 + nat_abs a2) * 2 ^ 31) (sym (ap (λ z. to_z w64 (of_z w64 z)) three ∙ same (r +ℤ t) (omega (arith, low_three, narrow)))) (omega (arith, low_three))
