-- Sums of samples in lanes of 32 bits, which wrap, and the sums of the samples' upper halves.
use Rattle.std.proofs.Common.{◌≡◌, refl, sym, ap, subst, ◌∙◌, Bool, true, false, cond, ltb, min, ℕ, zero, suc, ◌+◌, ◌*◌, ◌/◌, ◌-◌, ◌%◌, ◌^◌, ◌<◌, ◌≤◌, List, [], ◌∷◌, ◌++◌, map, take, drop, length, replicate, get_or, arith, ℤ, pos, negsuc, neg_ℤ, ◌+ℤ◌, ◌-ℤ◌, ◌*ℤ◌, nat_abs, w32, to_z, of_z, FitsSigned, length-take, length-drop}
use Rattle.std.specs.List.{range_with_len, AllByRecursion}
use Rattle.std.specs.Simd.Lanes.{zip2, top, sel_l}
use Rattle.std.specs.Int.Signed.{lt_z, shr_z}
use Rattle.std.specs.Int.{int_wrap}
use Rattle.std.proofs.Math.Nat.{mod-lt}
use Rattle.std.proofs.lemmas.Bool.{ltb-true, ltb-false}
use Rattle.std.proofs.lemmas.Int.{ints, to_z-of_z, fits_signed_from_abs, int_wrap_fits, wrapping_add_onto, wrapping_sub-bits, wrapping_mul_onto, int_wrap-add_left, int_wrap-sub_right}
use Rattle.std.proofs.lemmas.List.{take_more, map-append, get_or-take, get_or-drop}
use Rattle.std.proofs.lemmas.List.FromFn.{fill_by_all, get_or-map-range_with_len}
use Rattle.sof_base.specs.Samples.{Frame, sat, sample_of}
use Rattle.sof_base.specs.Equations.{exact_sum}

-- ---- exact sums

-- with one more list
pub exact_sum-more : (k : ℕ) (lists : List Frame) (list : Frame) → exact_sum k (lists ++ list ∷ []) ≡ exact_sum k lists +ℤ sample_of list k
exact_sum-more k [] list = omega (arith, ints)
exact_sum-more k (l ∷ ls) list = omega (arith, ints, exact_sum-more k ls list)

-- with one more part
pub part-more : {X : Type 0} (now : X → List ℤ) (parts : List X) (p : ℕ) (d : X) (k : ℕ) → p < length parts → exact_sum k (map now (take (p + 1) parts)) ≡ exact_sum k (map now (take p parts)) +ℤ get_or (now (get_or parts p d)) k (pos 0)
part-more now parts p d k low =
    ap (λ l. exact_sum k (map now l)) (take_more parts p d low)
    ∙ ap (exact_sum k) (map-append now (take p parts) (get_or parts p d ∷ []))
    ∙ exact_sum-more k (map now (take p parts)) (now (get_or parts p d))

-- ---- what is so of each

pub all-at : {X : Type 0} (P : X → Type 0) (xs : List X) (i : ℕ) (d : X) → i < length xs → AllByRecursion P xs → P (get_or xs i d)
all-at P [] i d low all = absurd (omega (arith, low))
all-at P (x ∷ xs) zero d low all = all.0
all-at P (x ∷ xs) (suc i) d low all = all-at P xs i d (omega (arith, low)) all.1

pub all-by : {X : Type 0} (P Q : X → Type 0) → ((x : X) → P x → Q x) → (xs : List X) → AllByRecursion P xs → AllByRecursion Q xs
all-by P Q by [] all = tt
all-by P Q by (x ∷ xs) all = (by x all.0, all-by P Q by xs all.1)

-- ---- one lane

-- the bits of a sum, of a difference, of what is moved up, and of what is moved down
abbrev pub lane_sum : ℕ → ℕ → ℕ
lane_sum a b = (a + b) % 2 ^ 32

abbrev pub lane_rest : ℕ → ℕ → ℕ
lane_rest a b = (a + (2 ^ 32 - b)) % 2 ^ 32

abbrev pub lane_up : ℕ → ℕ → ℕ
lane_up a b = a * 2 ^ b % 2 ^ 32

abbrev pub lane_down : ℕ → ℕ → ℕ
lane_down a b = of_z w32 (shr_z (to_z w32 a) (2 ^ b))

-- what a comparison leaves
abbrev pub lane_less : ℕ → ℕ → ℕ
lane_less a b = cond (lt_z (to_z w32 a) (to_z w32 b)) 4294967295 0

-- what two sums come to
abbrev pub lane_whole : ℕ → ℕ → ℕ
lane_whole w h = lane_sum h (lane_down (lane_rest w (lane_up h 16)) 16)

abbrev pub lane_held : ℕ → ℕ → ℕ
lane_held w whole = cond (top 31 (lane_less 32767 whole)) 2147483647 (cond (top 31 (lane_less whole 4294934528)) 2147483648 w)

-- Of the sum s of n samples, w are the bits that did not wrap away, and h those of the sum of the samples' upper halves: with 32768 more
-- for each of them that is `upper`, and `lower` is the sum of their lower halves.
pub record IsSum (n : ℕ) (s : ℤ) (w h : ℕ) : Type 0 where
  pub upper : ℕ
  pub lower : ℕ
  pub wrapped_low : w < 2 ^ 32
  pub upper_low : h < 2 ^ 32
  pub wrapped : to_z w32 w ≡ int_wrap w32 s
  pub is : to_z w32 h +ℤ pos (n * 32768) ≡ pos upper
  pub whole : s +ℤ pos (n * 2147483648) ≡ pos (upper * 65536 + lower)
  pub few_upper : upper ≤ n * 65535
  pub few_lower : lower ≤ n * 65535

pub no-sum : IsSum 0 (pos 0) 0 0
no-sum = record {
  upper = 0;
  lower = 0;
  wrapped_low = omega arith;
  upper_low = omega arith;
  wrapped = sym (int_wrap_fits w32 (pos 0) (fits_signed_from_abs w32 (pos 0) (omega arith)));
  is = refl;
  whole = refl;
  few_upper = omega arith;
  few_lower = omega arith;
}

-- the halves of a sample
record HasHalves (x : ℤ) : Type 0 where
  upper : ℕ
  lower : ℕ
  is : shr_z x 65536 +ℤ pos 32768 ≡ pos upper
  whole : x +ℤ pos 2147483648 ≡ pos (upper * 65536 + lower)
  few_upper : upper ≤ 65535
  few_lower : lower ≤ 65535

halves : (x : ℤ) → FitsSigned w32 x → HasHalves x
halves (pos a) fit =
    let small : a < 2147483648 = omega (arith, fit.sfits) in
    record {
      upper = a / 65536 + 32768;
      lower = a % 65536;
      is = refl;
      whole = ap pos (let e : a + 2147483648 ≡ (a / 65536 + 32768) * 65536 + a % 65536 = omega arith in e);
      few_upper = omega (arith, small);
      few_lower = omega arith;
    }
halves (negsuc a) fit =
    let small : a < 2147483648 = omega (arith, fit.sfits) in
    record {
      upper = 32767 - a / 65536;
      lower = 65535 - a % 65536;
      is = let e : a / 65536 ≤ 32767 = omega (arith, small) in omega (arith, ints, e);
      whole = omega (arith, ints, small);
      few_upper = omega arith;
      few_lower = omega arith;
    }

near : (z : ℤ) (m u : ℕ) → z +ℤ pos m ≡ pos u → m ≤ 4194304 → u ≤ 8388608 → FitsSigned w32 z
near z m u is low_m low_u = fits_signed_from_abs w32 z (omega (arith, ints))

-- one more sample
pub one-more : (n : ℕ) (s : ℤ) (w h : ℕ) (x : ℤ) → n ≤ 127 → FitsSigned w32 x → IsSum n s w h → IsSum (n + 1) (s +ℤ x) (lane_sum w (of_z w32 x)) (lane_sum h (lane_down (of_z w32 x) 16))
one-more n s w h x few fit so =
    let two = halves x fit in
    let q : ℤ = shr_z x 65536 in
    let fit_q : FitsSigned w32 q = near q 32768 two.upper two.is (omega arith) (omega (arith, two.few_upper)) in
    let u : ℕ = so.upper + two.upper in
    let sum : (to_z w32 h +ℤ q) +ℤ pos ((n + 1) * 32768) ≡ pos u = omega (arith, ints, so.is, two.is) in
    let fit_sum : FitsSigned w32 (to_z w32 h +ℤ q) = near (to_z w32 h +ℤ q) ((n + 1) * 32768) u sum (omega (arith, few)) (omega (arith, few, so.few_upper, two.few_upper)) in
    let moved : lane_down (of_z w32 x) 16 ≡ of_z w32 q = ap (λ v. of_z w32 (shr_z v 65536)) (to_z-of_z w32 x fit) in
    let added : to_z w32 (lane_sum h (lane_down (of_z w32 x) 16)) ≡ to_z w32 h +ℤ q =
    ap (λ v. to_z w32 (lane_sum h v)) moved ∙ wrapping_add_onto w32 h q so.upper_low fit_q ∙ int_wrap_fits w32 (to_z w32 h +ℤ q) fit_sum in
    record {
      upper = u;
      lower = so.lower + two.lower;
      wrapped_low = mod-lt (w + of_z w32 x) (omega arith);
      upper_low = mod-lt (h + lane_down (of_z w32 x) 16) (omega arith);
      wrapped = wrapping_add_onto w32 w x so.wrapped_low fit ∙ ap (λ v. int_wrap w32 (v +ℤ x)) so.wrapped ∙ int_wrap-add_left w32 s x;
      is = ap (λ z. z +ℤ pos ((n + 1) * 32768)) added ∙ sum;
      whole = omega (arith, ints, so.whole, two.whole);
      few_upper = omega (arith, so.few_upper, two.few_upper);
      few_lower = omega (arith, so.few_lower, two.few_lower);
    }

-- ---- the end of a lane

-- what is moved up by 16 bits is 65536 times as much
moved-up : (z : ℤ) (u m : ℕ) → z +ℤ pos m ≡ pos u → z *ℤ pos 65536 +ℤ pos (m * 65536) ≡ pos (u * 65536)
moved-up (pos a) u m is = omega (arith, ints, is)
moved-up (negsuc a) u m is = omega (arith, ints, is)

-- by the upper half of the whole sum its bits are held, or are the sum
held-by : (t s : ℤ) (r n k w : ℕ) → t +ℤ pos (n * 32768) ≡ pos k → s +ℤ pos (n * 2147483648) ≡ pos (k * 65536 + r) → r ≤ 65535 → to_z w32 w ≡ int_wrap w32 s
    → to_z w32 (cond (top 31 (cond (lt_z (pos 32767) t) 4294967295 0)) 2147483647 (cond (top 31 (cond (lt_z t (negsuc 32767)) 4294967295 0)) 2147483648 w)) ≡ sat 32 s
held-by (pos m) s r n k w upper whole few wrapped = above (ltb 32767 m) refl ∙ ap (sat 32) (sym is)
  where
    is : s ≡ pos (m * 65536 + r)
    is = omega (arith, ints, upper, whole)

    above : (t : Bool) → ltb 32767 m ≡ t → to_z w32 (cond (top 31 (cond t 4294967295 0)) 2147483647 w) ≡ pos (min (m * 65536 + r) 2147483647)
    above true more = ap pos (let e : 2147483647 ≡ min (m * 65536 + r) 2147483647 = omega (arith, ltb-true 32767 m more) in e)
    above false less =
        let small : m ≤ 32767 = omega (arith, ltb-false 32767 m less) in
        wrapped ∙ ap (int_wrap w32) is
        ∙ int_wrap_fits w32 (pos (m * 65536 + r)) (fits_signed_from_abs w32 (pos (m * 65536 + r)) (omega (arith, small, few)))
        ∙ ap pos (let e : m * 65536 + r ≡ min (m * 65536 + r) 2147483647 = omega (arith, small, few) in e)
held-by (negsuc m) s r n k w upper whole few wrapped = below (ltb 32767 m) refl ∙ ap (sat 32) (sym is)
  where
    is : s ≡ negsuc (m * 65536 + (65535 - r))
    is = omega (arith, ints, upper, whole, few)

    below : (t : Bool) → ltb 32767 m ≡ t → to_z w32 (cond (top 31 (cond t 4294967295 0)) 2147483648 w) ≡ negsuc (min (m * 65536 + (65535 - r)) 2147483647)
    below true more = ap negsuc (let e : 2147483647 ≡ min (m * 65536 + (65535 - r)) 2147483647 = omega (arith, ltb-true 32767 m more) in e)
    below false less =
        let small : m ≤ 32767 = omega (arith, ltb-false 32767 m less) in
        wrapped ∙ ap (int_wrap w32) is
        ∙ int_wrap_fits w32 (negsuc (m * 65536 + (65535 - r))) (record { sfits = omega (arith, small) })
        ∙ ap negsuc (let e : m * 65536 + (65535 - r) ≡ min (m * 65536 + (65535 - r)) 2147483647 = omega (arith, small) in e)

pub lane-is : (n : ℕ) (s : ℤ) (w h : ℕ) → n ≤ 128 → IsSum n s w h → to_z w32 (lane_held w (lane_whole w h)) ≡ sat 32 s
lane-is n s w h few so =
    let z : ℤ = to_z w32 h in
    let up : ℕ = lane_up h 16 in
    let up_low : up < 2 ^ 32 = mod-lt (h * 2 ^ 16) (omega arith) in
    let times : to_z w32 up ≡ int_wrap w32 (z *ℤ pos 65536) = wrapping_mul_onto w32 h (pos 65536) so.upper_low (fits_signed_from_abs w32 (pos 65536) (omega arith)) in
    let left : s -ℤ (z *ℤ pos 65536) ≡ pos so.lower = omega (arith, ints, so.whole, moved-up z so.upper (n * 32768) so.is) in
    let rest : to_z w32 (lane_rest w up) ≡ pos so.lower =
    wrapping_sub-bits w32 w up so.wrapped_low up_low
    ∙ (λ i. int_wrap w32 (so.wrapped i -ℤ times i))
    ∙ int_wrap-sub_right w32 (int_wrap w32 s) (z *ℤ pos 65536)
    ∙ int_wrap-add_left w32 s (neg_ℤ (z *ℤ pos 65536))
    ∙ ap (int_wrap w32) left
    ∙ int_wrap_fits w32 (pos so.lower) (fits_signed_from_abs w32 (pos so.lower) (omega (arith, few, so.few_lower))) in
    let q : ℕ = so.lower / 65536 in
    let down : lane_down (lane_rest w up) 16 ≡ q = ap (λ v. of_z w32 (shr_z v 65536)) rest in
    let t : ℤ = z +ℤ pos q in
    let k : ℕ = so.upper + q in
    let upper : t +ℤ pos (n * 32768) ≡ pos k = omega (arith, ints, so.is) in
    let fit_t : FitsSigned w32 t = near t (n * 32768) k upper (let a : n * 32768 ≤ 4194304 = omega (arith, few) in a) (let b : k ≤ 8388608 = omega (arith, few, so.few_upper, so.few_lower) in b) in
    let whole : to_z w32 (lane_whole w h) ≡ t =
    ap (λ v. to_z w32 (lane_sum h v)) down
    ∙ wrapping_add_onto w32 h (pos q) so.upper_low (fits_signed_from_abs w32 (pos q) (omega (arith, few, so.few_lower)))
    ∙ int_wrap_fits w32 t fit_t in
    ap (λ v. to_z w32 (cond (top 31 (cond (lt_z (pos 32767) v) 4294967295 0)) 2147483647 (cond (top 31 (cond (lt_z v (negsuc 32767)) 4294967295 0)) 2147483648 w))) whole
    ∙ held-by t s (so.lower % 65536) n k w upper (omega (arith, ints, so.whole)) (omega arith) so.wrapped

-- ---- eight lanes

abbrev eights : ℕ → List ℕ → List ℕ
eights n xs = map (λ k. get_or xs k 0) (range_with_len 0 n)

eight-is : (xs : List ℕ) → length xs ≡ 8 → xs ≡ eights 8 xs
eight-is xs long = fill_by_all (λ k. get_or xs k 0) xs 8 0 long (λ k low. refl)

items : (xs : List ℤ) (at n : ℕ) → at + n ≤ length xs → take n (drop at xs) ≡ map (λ k. get_or xs (at + k) (pos 0)) (range_with_len 0 n)
items xs at n fits =
    fill_by_all (λ k. get_or xs (at + k) (pos 0)) (take n (drop at xs)) n (pos 0) (omega (arith, length-take n (drop at xs), length-drop at xs))
    (λ k lt. get_or-take n (drop at xs) k (pos 0) lt ∙ get_or-drop at xs k (pos 0))

-- the lanes once eight samples are added, and their upper halves
abbrev pub more_wrapped : List ℕ → List ℤ → List ℕ
more_wrapped wrapped eight = zip2 lane_sum wrapped (map (of_z w32) eight)

abbrev pub more_upper : List ℕ → List ℤ → List ℕ
more_upper upper eight = zip2 lane_sum upper (zip2 lane_down (map (of_z w32) eight) (replicate 8 16))

wrapped-at : (wrapped : List ℕ) (xs : List ℤ) (at i : ℕ) → length wrapped ≡ 8 → at + 8 ≤ length xs → i < 8 → get_or (more_wrapped wrapped (take 8 (drop at xs))) i 0 ≡ lane_sum (get_or wrapped i 0) (of_z w32 (get_or xs (at + i) (pos 0)))
wrapped-at wrapped xs at i long fits low =
    (λ j. get_or (more_wrapped (eight-is wrapped long j) (items xs at 8 fits j)) i 0)
    ∙ get_or-map-range_with_len (λ k. lane_sum (get_or wrapped k 0) (of_z w32 (get_or xs (at + k) (pos 0)))) 0 8 i i 0 low (omega arith)

upper-at : (upper : List ℕ) (xs : List ℤ) (at i : ℕ) → length upper ≡ 8 → at + 8 ≤ length xs → i < 8 → get_or (more_upper upper (take 8 (drop at xs))) i 0 ≡ lane_sum (get_or upper i 0) (lane_down (of_z w32 (get_or xs (at + i) (pos 0))) 16)
upper-at upper xs at i long fits low =
    (λ j. get_or (more_upper (eight-is upper long j) (items xs at 8 fits j)) i 0)
    ∙ get_or-map-range_with_len (λ k. lane_sum (get_or upper k 0) (lane_down (of_z w32 (get_or xs (at + k) (pos 0))) 16)) 0 8 i i 0 low (omega arith)

pub length-wrapped : (wrapped : List ℕ) (xs : List ℤ) (at : ℕ) → length wrapped ≡ 8 → at + 8 ≤ length xs → length (more_wrapped wrapped (take 8 (drop at xs))) ≡ 8
length-wrapped wrapped xs at long fits = λ j. length (more_wrapped (eight-is wrapped long j) (items xs at 8 fits j))

pub length-upper : (upper : List ℕ) (xs : List ℤ) (at : ℕ) → length upper ≡ 8 → at + 8 ≤ length xs → length (more_upper upper (take 8 (drop at xs))) ≡ 8
length-upper upper xs at long fits = λ j. length (more_upper (eight-is upper long j) (items xs at 8 fits j))

pub lanes-more : (wrapped upper : List ℕ) (xs : List ℤ) (at i n : ℕ) (s : ℤ) → length wrapped ≡ 8 → length upper ≡ 8 → at + 8 ≤ length xs → i < 8 → n ≤ 127 → FitsSigned w32 (get_or xs (at + i) (pos 0)) → IsSum n s (get_or wrapped i 0) (get_or upper i 0)
    → IsSum (n + 1) (s +ℤ get_or xs (at + i) (pos 0)) (get_or (more_wrapped wrapped (take 8 (drop at xs))) i 0) (get_or (more_upper upper (take 8 (drop at xs))) i 0)
lanes-more wrapped upper xs at i n s long_w long_u fits low few fit so =
    subst (λ (p : ℕ × ℕ). IsSum (n + 1) (s +ℤ get_or xs (at + i) (pos 0)) p.0 p.1)
    (λ j. (sym (wrapped-at wrapped xs at i long_w fits low) j, sym (upper-at upper xs at i long_u fits low) j))
    (one-more n s (get_or wrapped i 0) (get_or upper i 0) (get_or xs (at + i) (pos 0)) few fit so)

-- the lanes before the first part
pub none-yet : (i : ℕ) → i < 8 → IsSum 0 (pos 0) (get_or (replicate 8 0) i 0) (get_or (replicate 8 0) i 0)
none-yet i low = subst (λ n. IsSum 0 (pos 0) n n) (sym (get_or-map-range_with_len (λ _. 0) 0 8 i i 0 low (omega arith))) no-sum

-- what the lanes come to
abbrev pub wholes : List ℕ → List ℕ → List ℕ
wholes wrapped upper = zip2 lane_sum upper (zip2 lane_down (zip2 lane_rest wrapped (zip2 lane_up upper (replicate 8 16))) (replicate 8 16))

abbrev pub holds : List ℕ → List ℕ → List ℕ
holds wrapped upper =
    sel_l (map (top 31) (zip2 lane_less (replicate 8 32767) (wholes wrapped upper))) (replicate 8 2147483647)
    (sel_l (map (top 31) (zip2 lane_less (wholes wrapped upper) (replicate 8 4294934528))) (replicate 8 2147483648) wrapped)

pub holds-are : (wrapped upper : List ℕ) → length wrapped ≡ 8 → length upper ≡ 8 → holds wrapped upper ≡ map (λ k. lane_held (get_or wrapped k 0) (lane_whole (get_or wrapped k 0) (get_or upper k 0))) (range_with_len 0 8)
holds-are wrapped upper long_w long_u = λ j. holds (eight-is wrapped long_w j) (eight-is upper long_u j)

-- and as samples
pub samples-are : (wrapped upper : List ℕ) (n : ℕ) (s : ℕ → ℤ) → length wrapped ≡ 8 → length upper ≡ 8 → n ≤ 128 → ((i : ℕ) → i < 8 → IsSum n (s i) (get_or wrapped i 0) (get_or upper i 0)) → map (to_z w32) (holds wrapped upper) ≡ map (λ i. sat 32 (s i)) (range_with_len 0 8)
samples-are wrapped upper n s long_w long_u few so =
    ap (map (to_z w32)) (holds-are wrapped upper long_w long_u)
    ∙ fill_by_all (λ i. sat 32 (s i)) (map (to_z w32) (map (λ k. lane_held (get_or wrapped k 0) (lane_whole (get_or wrapped k 0) (get_or upper k 0))) (range_with_len 0 8))) 8 (pos 0) refl
    (λ i low. get_or-map-range_with_len (λ k. to_z w32 (lane_held (get_or wrapped k 0) (lane_whole (get_or wrapped k 0) (get_or upper k 0)))) 0 8 i i (pos 0) low (omega arith) ∙ lane-is n (s i) (get_or wrapped i 0) (get_or upper i 0) few (so i low))

-- ---- samples

-- one more is a sample
pub fits-more : (xs : List ℤ) (i : ℕ) → i < length xs → AllByRecursion (FitsSigned w32) (take i xs) → FitsSigned w32 (get_or xs i (pos 0)) → AllByRecursion (FitsSigned w32) (take (i + 1) xs)
fits-more xs i below all fit = subst (AllByRecursion (FitsSigned w32)) (sym (take_more xs i (pos 0) below)) (last (take i xs) (get_or xs i (pos 0)) all fit)
  where
    last : (ys : List ℤ) (y : ℤ) → AllByRecursion (FitsSigned w32) ys → FitsSigned w32 y → AllByRecursion (FitsSigned w32) (ys ++ y ∷ [])
    last [] y all here = (here, tt)
    last (x ∷ xs) y all here = (all.0, last xs y all.1 here)

-- one more sample leaves a sum within so many samples
pub sum-near : (s x : ℤ) (n : ℕ) → nat_abs s ≤ n * 2 ^ 31 → FitsSigned w32 x → nat_abs (s +ℤ x) ≤ (n + 1) * 2 ^ 31
sum-near s x n low fit = omega (arith, ints)
