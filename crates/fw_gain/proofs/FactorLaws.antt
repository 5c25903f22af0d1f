-- Samples times signed factors, eight lanes at a time.
use Rattle.std.proofs.Common.{◌≡◌, refl, sym, ap, subst, ◌∙◌, Bool, true, false, cond, ltb, min, ℕ, zero, suc, ◌+◌, ◌*◌, ◌/◌, ◌-◌, ◌%◌, ◌^◌, ◌<◌, ◌≤◌, List, [], ◌∷◌, map, take, drop, length, replicate, get_or, arith, ℤ, pos, negsuc, neg_ℤ, ◌+ℤ◌, ◌*ℤ◌, nat_abs, w32, w64, to_z, of_z, FitsSigned}
use Rattle.std.specs.Prelude.{◌&&◌, nat_le}
use Rattle.std.specs.List.{list_all, AllByRecursion}
use Rattle.std.specs.Simd.Lanes.{zip2, top, sel_l, Each1}
use Rattle.std.specs.Int.Signed.{lt_z, shr_z, le_z_yes}
use Rattle.std.specs.Int.{int_div_euclid, int_wrap}
use Rattle.std.proofs.Math.Nat.{mod-lt, mul-le-mul}
use Rattle.std.proofs.Math.Facts.{yes_leb, leb_yes}
use Rattle.std.proofs.lemmas.Bool.{and_parts, ltb-true, ltb-false, leb-true, le-leb}
use Rattle.std.proofs.lemmas.Int.{unsigned_abs-mul, wrapping_mul_is, wrapping_add_onto, to_z-of_z, of_z-to_z, ints, fits_signed_from_abs, int_wrap_fits}
use Rattle.sof_base.specs.Samples.{sat, rounded}
use Rattle.sof_base.specs.Equations.{amplified, channel_gain}
use Rattle.fw_gain.specs.Kernels.{scaled, IsFactor, eight_gains}
use Rattle.fw_gain.proofs.LaneLaws.{abs-below, items, lane_sum, shr-is, sat-fits}

-- ---- one lane

-- the bits of a sample or a factor in 64 bits, of a product, of a shift, and of what a comparison leaves
abbrev pub lane_wide : ℕ → ℕ
lane_wide a = of_z w64 (to_z w32 a)

abbrev pub lane_times : ℕ → ℕ → ℕ
lane_times a b = a * b % 2 ^ 64

abbrev pub lane_shift : ℕ → ℕ → ℕ
lane_shift a b = of_z w64 (shr_z (to_z w64 a) (2 ^ b))

abbrev pub lane_less : ℕ → ℕ → ℕ
lane_less a b = cond (lt_z (to_z w64 a) (to_z w64 b)) 18446744073709551615 0

-- the number of a narrower lane
abbrev pub lane_narrow : ℕ → ℕ
lane_narrow a = of_z w32 (to_z w64 a)

-- the bits of the product and a half
abbrev pub lane_exact : ℕ → ℕ → ℕ
lane_exact a b = lane_sum (lane_times (lane_wide a) (lane_wide b)) 32768

product-low : (x f : ℤ) → FitsSigned w32 x → FitsSigned w32 f → nat_abs (x *ℤ f) ≤ 2 ^ 31 * 2 ^ 31
product-low x f fit_x fit_f = omega (arith, unsigned_abs-mul x f, mul-le-mul (abs-below x fit_x) (abs-below f fit_f))

exact-fits : (x f : ℤ) → FitsSigned w32 x → FitsSigned w32 f → FitsSigned w64 (x *ℤ f +ℤ pos 32768)
exact-fits x f fit_x fit_f = fits_signed_from_abs w64 (x *ℤ f +ℤ pos 32768) (sum-low (x *ℤ f) (product-low x f fit_x fit_f))
  where
    sum-low : (z : ℤ) → nat_abs z ≤ 2 ^ 31 * 2 ^ 31 → nat_abs (z +ℤ pos 32768) < 2 ^ 63
    sum-low z low = omega (arith, ints)

exact-is : (x f : ℤ) → FitsSigned w32 x → FitsSigned w32 f → lane_exact (of_z w32 x) (of_z w32 f) ≡ of_z w64 (x *ℤ f +ℤ pos 32768)
exact-is x f fit_x fit_f =
    let m : ℕ = of_z w64 x * of_z w64 f % 2 ^ 64 in
    let small : m < 2 ^ 64 = mod-lt (of_z w64 x * of_z w64 f) (omega arith) in
    let wide_x : FitsSigned w64 x = fits_signed_from_abs w64 x (omega (arith, abs-below x fit_x)) in
    let wide_f : FitsSigned w64 f = fits_signed_from_abs w64 f (omega (arith, abs-below f fit_f)) in
    let product : to_z w64 m ≡ x *ℤ f =
    wrapping_mul_is w64 x f wide_x wide_f ∙ int_wrap_fits w64 (x *ℤ f) (fits_signed_from_abs w64 (x *ℤ f) (omega (arith, product-low x f fit_x fit_f))) in
    let sum : to_z w64 (lane_sum m 32768) ≡ x *ℤ f +ℤ pos 32768 =
    wrapping_add_onto w64 m (pos 32768) small (fits_signed_from_abs w64 (pos 32768) (omega arith))
    ∙ ap (λ v. int_wrap w64 (v +ℤ pos 32768)) product
    ∙ int_wrap_fits w64 (x *ℤ f +ℤ pos 32768) (exact-fits x f fit_x fit_f) in
    (λ i. lane_sum (lane_times (of_z w64 (to_z-of_z w32 x fit_x i)) (of_z w64 (to_z-of_z w32 f fit_f i))) 32768)
    ∙ sym (of_z-to_z w64 (lane_sum m 32768) (mod-lt (m + 32768) (omega arith)))
    ∙ ap (of_z w64) sum

shift-is : (z : ℤ) → FitsSigned w64 z → lane_shift (of_z w64 z) 16 ≡ of_z w64 (int_div_euclid z (pos 65536))
shift-is z fit = ap (λ v. of_z w64 (shr_z v 65536)) (to_z-of_z w64 z fit) ∙ ap (of_z w64) (shr-is z)

-- ---- no factor is above 1

-- how far a number is from 0 or -1
abbrev size : ℤ → ℕ
size (pos n) = n
size (negsuc n) = n

size-low : (z : ℤ) (m : ℕ) → z ≡ neg_ℤ (pos m) +ℤ pos 32768 → m ≤ 2 ^ 47 → size z < 2 ^ 47
size-low (pos n) m is low = omega (arith, ints)
size-low (negsuc n) m is low = omega (arith, ints)

low-product : (x f : ℤ) → FitsSigned w32 x → IsFactor 65536 f → size (x *ℤ f +ℤ pos 32768) < 2 ^ 47
low-product (pos n) (pos g) fit low =
    let a : n ≤ 2 ^ 31 - 1 = omega (arith, fit.sfits) in
    let b : g ≤ 65536 = leb_yes low.1.le in
    omega (arith, mul-le-mul a b)
low-product (negsuc n) (pos g) fit low =
    let a : suc n ≤ 2 ^ 31 = omega (arith, fit.sfits) in
    let b : g ≤ 65536 = leb_yes low.1.le in
    size-low (negsuc n *ℤ pos g +ℤ pos 32768) (suc n * g) refl (omega (arith, mul-le-mul a b))
low-product x (negsuc g) fit low = absurd low.0.le

quotient-same : (z : ℤ) → size z < 2 ^ 47 → int_div_euclid z (pos 65536) ≡ sat 32 (int_div_euclid z (pos 65536))
quotient-same (pos n) low = ap pos (let e : n / 65536 ≡ min (n / 65536) 2147483647 = omega (arith, low) in e)
quotient-same (negsuc n) low = ap negsuc (let e : n / 65536 ≡ min (n / 65536) 2147483647 = omega (arith, low) in e)

lane-lower : (x f : ℤ) → FitsSigned w32 x → FitsSigned w32 f → IsFactor 65536 f → lane_shift (lane_exact (of_z w32 x) (of_z w32 f)) 16 ≡ of_z w64 (scaled f x)
lane-lower x f fit_x fit_f low =
    ap (λ a. lane_shift a 16) (exact-is x f fit_x fit_f)
    ∙ shift-is (x *ℤ f +ℤ pos 32768) (exact-fits x f fit_x fit_f)
    ∙ ap (of_z w64) (quotient-same (x *ℤ f +ℤ pos 32768) (low-product x f fit_x low))

-- ---- each factor

-- the bits no less than the least product, and no more than the most
abbrev pub lane_least : ℕ → ℕ
lane_least a = cond (top 63 (lane_less a 18446603336221196288)) 18446603336221196288 a

abbrev pub lane_most : ℕ → ℕ
lane_most a = cond (top 63 (lane_less 140737488355327 a)) 140737488355327 a

-- the same of numbers
abbrev least_of : ℤ → ℤ
least_of z = cond (lt_z z (negsuc 140737488355327)) (negsuc 140737488355327) z

abbrev most_of : ℤ → ℤ
most_of z = cond (lt_z (pos 140737488355327) z) (pos 140737488355327) z

chosen : (t : Bool) (a z : ℤ) → cond (top 63 (cond t 18446744073709551615 0)) (of_z w64 a) (of_z w64 z) ≡ of_z w64 (cond t a z)
chosen true a z = refl
chosen false a z = refl

chosen-fits : (t : Bool) (a z : ℤ) → FitsSigned w64 a → FitsSigned w64 z → FitsSigned w64 (cond t a z)
chosen-fits true a z fit_a fit_z = fit_a
chosen-fits false a z fit_a fit_z = fit_z

least-is : (z : ℤ) → FitsSigned w64 z → lane_least (of_z w64 z) ≡ of_z w64 (least_of z)
least-is z fit =
    ap (λ v. cond (top 63 (cond (lt_z v (negsuc 140737488355327)) 18446744073709551615 0)) (of_z w64 (negsuc 140737488355327)) (of_z w64 z)) (to_z-of_z w64 z fit)
    ∙ chosen (lt_z z (negsuc 140737488355327)) (negsuc 140737488355327) z

least-fits : (z : ℤ) → FitsSigned w64 z → FitsSigned w64 (least_of z)
least-fits z fit = chosen-fits (lt_z z (negsuc 140737488355327)) (negsuc 140737488355327) z (record { sfits = omega arith }) fit

most-is : (z : ℤ) → FitsSigned w64 z → lane_most (of_z w64 z) ≡ of_z w64 (most_of z)
most-is z fit =
    ap (λ v. cond (top 63 (cond (lt_z (pos 140737488355327) v) 18446744073709551615 0)) (of_z w64 (pos 140737488355327)) (of_z w64 z)) (to_z-of_z w64 z fit)
    ∙ chosen (lt_z (pos 140737488355327) z) (pos 140737488355327) z

most-fits : (z : ℤ) → FitsSigned w64 z → FitsSigned w64 (most_of z)
most-fits z fit = chosen-fits (lt_z (pos 140737488355327) z) (pos 140737488355327) z (record { sfits = omega arith }) fit

-- what is held and then divided is divided and then held
quotient-held : (z : ℤ) → int_div_euclid (most_of (least_of z)) (pos 65536) ≡ sat 32 (int_div_euclid z (pos 65536))
quotient-held (pos n) = above (ltb 140737488355327 n) refl
  where
    above : (t : Bool) → ltb 140737488355327 n ≡ t → int_div_euclid (cond t (pos 140737488355327) (pos n)) (pos 65536) ≡ pos (min (n / 65536) 2147483647)
    above true is = ap pos (let e : 2147483647 ≡ min (n / 65536) 2147483647 = omega (arith, ltb-true 140737488355327 n is) in e)
    above false is = ap pos (let e : n / 65536 ≡ min (n / 65536) 2147483647 = omega (arith, ltb-false 140737488355327 n is) in e)
quotient-held (negsuc n) = below (ltb 140737488355327 n) refl
  where
    below : (t : Bool) → ltb 140737488355327 n ≡ t → int_div_euclid (most_of (cond t (negsuc 140737488355327) (negsuc n))) (pos 65536) ≡ negsuc (min (n / 65536) 2147483647)
    below true is = ap negsuc (let e : 2147483647 ≡ min (n / 65536) 2147483647 = omega (arith, ltb-true 140737488355327 n is) in e)
    below false is = ap negsuc (let e : n / 65536 ≡ min (n / 65536) 2147483647 = omega (arith, ltb-false 140737488355327 n is) in e)

lane-scaled : (x f : ℤ) → FitsSigned w32 x → FitsSigned w32 f → lane_shift (lane_most (lane_least (lane_exact (of_z w32 x) (of_z w32 f)))) 16 ≡ of_z w64 (scaled f x)
lane-scaled x f fit_x fit_f =
    let z : ℤ = x *ℤ f +ℤ pos 32768 in
    let fit : FitsSigned w64 z = exact-fits x f fit_x fit_f in
    ap (λ a. lane_shift (lane_most (lane_least a)) 16) (exact-is x f fit_x fit_f)
    ∙ ap (λ a. lane_shift (lane_most a) 16) (least-is z fit)
    ∙ ap (λ a. lane_shift a 16) (most-is (least_of z) (least-fits z fit))
    ∙ shift-is (most_of (least_of z)) (most-fits (least_of z) (least-fits z fit))
    ∙ ap (of_z w64) (quotient-held z)

-- ---- lanes

-- the bits of the products and a half
abbrev pub lanes_exact : ℕ → List ℤ → List ℤ → List ℕ
lanes_exact n xs fs = zip2 lane_sum (zip2 lane_times (map lane_wide (map (of_z w32) xs)) (map lane_wide (map (of_z w32) fs))) (replicate n 32768)

abbrev pub lanes_least : ℕ → List ℕ → List ℕ
lanes_least n es = sel_l (map (top 63) (zip2 lane_less es (replicate n 18446603336221196288))) (replicate n 18446603336221196288) es

abbrev pub lanes_most : ℕ → List ℕ → List ℕ
lanes_most n es = sel_l (map (top 63) (zip2 lane_less (replicate n 140737488355327) es)) (replicate n 140737488355327) es

abbrev pub lanes_shift : ℕ → List ℕ → List ℕ
lanes_shift n es = zip2 lane_shift es (replicate n 16)

pub lanes-lower : (n : ℕ) (xs fs : List ℤ) → length xs ≡ n → length fs ≡ n → Each1 (FitsSigned w32) xs → Each1 (FitsSigned w32) fs → AllByRecursion (IsFactor 65536) fs → lanes_shift n (lanes_exact n xs fs) ≡ map (of_z w64) (zip2 scaled fs xs)
lanes-lower zero [] [] long_x long_f fit_x fit_f low = refl
lanes-lower zero (x ∷ xs) fs long_x long_f fit_x fit_f low = absurd (omega arith)
lanes-lower zero [] (f ∷ fs) long_x long_f fit_x fit_f low = absurd (omega arith)
lanes-lower (suc n) [] fs long_x long_f fit_x fit_f low = absurd (omega arith)
lanes-lower (suc n) (x ∷ xs) [] long_x long_f fit_x fit_f low = absurd (omega arith)
lanes-lower (suc n) (x ∷ xs) (f ∷ fs) long_x long_f fit_x fit_f low = λ i. lane-lower x f fit_x.0 fit_f.0 low.0 i ∷ lanes-lower n xs fs (omega arith) (omega arith) fit_x.1 fit_f.1 low.1 i

pub lanes-scaled : (n : ℕ) (xs fs : List ℤ) → length xs ≡ n → length fs ≡ n → Each1 (FitsSigned w32) xs → Each1 (FitsSigned w32) fs → lanes_shift n (lanes_most n (lanes_least n (lanes_exact n xs fs))) ≡ map (of_z w64) (zip2 scaled fs xs)
lanes-scaled zero [] [] long_x long_f fit_x fit_f = refl
lanes-scaled zero (x ∷ xs) fs long_x long_f fit_x fit_f = absurd (omega arith)
lanes-scaled zero [] (f ∷ fs) long_x long_f fit_x fit_f = absurd (omega arith)
lanes-scaled (suc n) [] fs long_x long_f fit_x fit_f = absurd (omega arith)
lanes-scaled (suc n) (x ∷ xs) [] long_x long_f fit_x fit_f = absurd (omega arith)
lanes-scaled (suc n) (x ∷ xs) (f ∷ fs) long_x long_f fit_x fit_f = λ i. lane-scaled x f fit_x.0 fit_f.0 i ∷ lanes-scaled n xs fs (omega arith) (omega arith) fit_x.1 fit_f.1 i

-- ---- narrower lanes

pub wide-fits : (zs : List ℤ) → Each1 (FitsSigned w32) zs → Each1 (λ a. FitsSigned w64 (to_z w32 a)) (map (of_z w32) zs)
wide-fits [] fit = tt
wide-fits (z ∷ zs) fit =
    let wide : FitsSigned w64 z = fits_signed_from_abs w64 z (omega (arith, abs-below z fit.0)) in
    (subst (λ v. FitsSigned w64 v) (sym (to_z-of_z w32 z fit.0)) wide, wide-fits zs fit.1)

wide-same : (z : ℤ) → FitsSigned w32 z → to_z w64 (of_z w64 z) ≡ z
wide-same z fit = to_z-of_z w64 z (fits_signed_from_abs w64 z (omega (arith, abs-below z fit)))

pub scaled-fits : (fs xs : List ℤ) → Each1 (λ a. FitsSigned w32 (to_z w64 a)) (map (of_z w64) (zip2 scaled fs xs))
scaled-fits [] xs = tt
scaled-fits (f ∷ fs) [] = tt
scaled-fits (f ∷ fs) (x ∷ xs) =
    let fit : FitsSigned w32 (scaled f x) = sat-fits (rounded 16 (x *ℤ f)) in
    (subst (λ v. FitsSigned w32 v) (sym (wide-same (scaled f x) fit)) fit, scaled-fits fs xs)

pub scaled-narrow : (fs xs : List ℤ) → map (to_z w32) (map lane_narrow (map (of_z w64) (zip2 scaled fs xs))) ≡ zip2 scaled fs xs
scaled-narrow [] xs = refl
scaled-narrow (f ∷ fs) [] = refl
scaled-narrow (f ∷ fs) (x ∷ xs) =
    let fit : FitsSigned w32 (scaled f x) = sat-fits (rounded 16 (x *ℤ f)) in
    λ i. (ap (λ v. to_z w32 (of_z w32 v)) (wide-same (scaled f x) fit) ∙ to_z-of_z w32 (scaled f x) fit) i ∷ scaled-narrow fs xs i

pub length-scaled : (fs xs : List ℤ) → length fs ≡ length xs → length (zip2 scaled fs xs) ≡ length xs
length-scaled [] [] same = refl
length-scaled [] (x ∷ xs) same = absurd (omega arith)
length-scaled (f ∷ fs) [] same = absurd (omega arith)
length-scaled (f ∷ fs) (x ∷ xs) same = ap (λ n. suc n) (length-scaled fs xs (omega arith))

-- ---- eight samples, and gains as factors

-- the samples from a place on
abbrev pub eight_of : List ℤ → ℕ → List ℤ
eight_of x at = get_or x at (pos 0) ∷ get_or x (at + 1) (pos 0) ∷ get_or x (at + 2) (pos 0) ∷ get_or x (at + 3) (pos 0) ∷ get_or x (at + 4) (pos 0) ∷ get_or x (at + 5) (pos 0) ∷ get_or x (at + 6) (pos 0) ∷ get_or x (at + 7) (pos 0) ∷ []

pub eight-is : (x : List ℤ) (at : ℕ) → at + 8 ≤ length x → take 8 (drop at x) ≡ eight_of x at
eight-is x at fits =
    let first : at + 0 ≡ at = omega arith in
    items x at 8 fits ∙ (λ i. get_or x (first i) (pos 0) ∷ get_or x (at + 1) (pos 0) ∷ get_or x (at + 2) (pos 0) ∷ get_or x (at + 3) (pos 0) ∷ get_or x (at + 4) (pos 0) ∷ get_or x (at + 5) (pos 0) ∷ get_or x (at + 6) (pos 0) ∷ get_or x (at + 7) (pos 0) ∷ [])

-- factors that are no more than a number of 31 bits fit
pub factors-fit : (most : ℕ) (fs : List ℤ) → most ≤ 2147483647 → AllByRecursion (IsFactor most) fs → Each1 (FitsSigned w32) fs
factors-fit most [] few low = tt
factors-fit most (pos g ∷ fs) few low = (record { sfits = let e : g ≤ most = leb_yes low.0.1.le in omega (arith, e, few) }, factors-fit most fs few low.1)
factors-fit most (negsuc g ∷ fs) few low = absurd low.0.0.le

-- a sample by a gain is the sample by the factor
pub scaled-amplified : (gains : List ℕ) (xs : List ℤ) → zip2 scaled (map pos gains) xs ≡ zip2 amplified gains xs
scaled-amplified [] xs = refl
scaled-amplified (g ∷ gains) [] = refl
scaled-amplified (g ∷ gains) (x ∷ xs) = ap (λ t. amplified g x ∷ t) (scaled-amplified gains xs)

-- the gain of each channel is at most what each is
pub gain-low : (most : ℕ) (gains : List ℕ) (k : ℕ) → list_all (λ gain. nat_le gain most) gains ≡ true → channel_gain gains k ≤ most
gain-low most gains k low = at gains (min k (length gains - 1)) low
  where
    at : (gains : List ℕ) (k : ℕ) → list_all (λ gain. nat_le gain most) gains ≡ true → get_or gains k 0 ≤ most
    at [] k low = omega arith
    at (g ∷ gains) zero low = leb-true g most (and_parts (nat_le g most) (list_all (λ gain. nat_le gain most) gains) low).0
    at (g ∷ gains) (suc k) low = at gains k (and_parts (nat_le g most) (list_all (λ gain. nat_le gain most) gains) low).1

-- what is at most a number is at most a greater one
pub low-more : (a b : ℕ) (gains : List ℕ) → a ≤ b → list_all (λ gain. nat_le gain a) gains ≡ true → list_all (λ gain. nat_le gain b) gains ≡ true
low-more a b [] less low = refl
low-more a b (g ∷ gains) less low =
    let parts = and_parts (nat_le g a) (list_all (λ gain. nat_le gain a) gains) low in
    let e : g ≤ b = omega (arith, leb-true g a parts.0, less) in
    λ i. le-leb g b e i && low-more a b gains less parts.1 i

pub factors-low : (most channels : ℕ) (gains : List ℕ) → list_all (λ gain. nat_le gain most) gains ≡ true → AllByRecursion (IsFactor most) (map pos (eight_gains channels gains))
factors-low most channels gains low =
    let at = λ (k : ℕ). let is : IsFactor most (pos (channel_gain gains k)) = (le_z_yes (yes_leb (let e : 0 ≤ channel_gain gains k = omega arith in e)), le_z_yes (yes_leb (gain-low most gains k low))) in is in
    (at (0 % channels), (at (1 % channels), (at (2 % channels), (at (3 % channels), (at (4 % channels), (at (5 % channels), (at (6 % channels), (at (7 % channels), tt))))))))
