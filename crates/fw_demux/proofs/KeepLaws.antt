-- Samples that are kept by channel, frames after frames, and eight lanes at a time.
use Rattle.std.proofs.Common.{◌≡◌, refl, sym, ap, ◌∙◌, inl, inr, Bool, true, false, cond, ℕ, suc, ◌+◌, ◌-◌, ◌%◌, ◌^◌, ◌<◌, ◌≤◌, List, [], ◌∷◌, ◌++◌, map, length, get_or, arith, ℤ, pos, negsuc, length-append, w32, to_z, of_z, FitsSigned}
use Rattle.std.specs.List.{range_with_len, AllByRecursion}
use Rattle.std.specs.Prelude.{bit_and}
use Rattle.std.specs.Simd.Lanes.{zip2, Each1}
use Rattle.std.proofs.Math.Nat.{mod-eq_of_lt, mod-one}
use Rattle.std.proofs.lemmas.Nat.{and_mask}
use Rattle.std.proofs.Math.Facts.{Fits-of_z}
use Rattle.std.proofs.lemmas.Int.{to_z-of_z}
use Rattle.std.proofs.lemmas.List.{get_or_append_left, get_or-append-add}
use Rattle.std.proofs.lemmas.List.FromFn.{fill_by_all}
use Rattle.std.proofs.lemmas.Simd.{zip2-map}
use Rattle.sof_base.specs.Samples.{sample_of}
use Rattle.sof_base.specs.Masks.{has_bit, kept_sample}
use Rattle.sof_base.proofs.SampleLaws.{map-range_same}
use Rattle.fw_gain.proofs.KernelLaws.{map-range-split, map-range-shifted, channel-after}
use Rattle.fw_demux.specs.Splits.{all_kept, keep_of, eight_keeps, IsKeep, kept_by}

-- whole frames, and what is after them
pub kept-append : (channels mask : ℕ) (xs ys : List ℤ) → 1 ≤ channels → length xs % channels ≡ 0 → all_kept channels mask (xs ++ ys) ≡ all_kept channels mask xs ++ all_kept channels mask ys
kept-append channels mask xs ys some whole =
    let made = λ (l : List ℤ) (i : ℕ). kept_sample mask (i % channels) (sample_of l i) in
    let m = length xs in let n = length ys in
    let front : map (made (xs ++ ys)) (range_with_len 0 m) ≡ map (made xs) (range_with_len 0 m) =
    map-range_same (made (xs ++ ys)) (made xs) 0 m (λ i low. ap (kept_sample mask (i % channels)) (get_or_append_left xs ys (pos 0) i (omega arith))) in
    let behind : map (made (xs ++ ys)) (range_with_len (0 + m) n) ≡ map (made ys) (range_with_len 0 n) =
    map-range-shifted (made (xs ++ ys)) (made ys) (0 + m) 0 n (λ j low.
    ap (made (xs ++ ys)) (let e : 0 + m + j ≡ m + j = omega arith in e)
    ∙ (λ i. kept_sample mask (channel-after channels m j some whole i) (get_or-append-add xs ys j (pos 0) i))
    ∙ ap (made ys) (let e : j ≡ 0 + j = omega arith in e)) in
    ap (λ k. map (made (xs ++ ys)) (range_with_len 0 k)) (length-append xs ys)
    ∙ map-range-split (made (xs ++ ys)) 0 m n
    ∙ (λ i. front i ++ behind i)

-- ---- eight lanes

-- the bits of a lane that is kept or not
abbrev pub lane_and : ℕ → ℕ → ℕ
lane_and a b = bit_and a b

of_z-low : (x : ℤ) → FitsSigned w32 x → of_z w32 x < 2 ^ 32
of_z-low x fit = (Fits-of_z {w = w32} {z = x} fit).fits

lane-is : (x keep : ℤ) → FitsSigned w32 x → IsKeep keep → to_z w32 (lane_and (of_z w32 x) (of_z w32 keep)) ≡ kept_by keep x
lane-is x keep fit (inl is) =
    ap (λ k. to_z w32 (lane_and (of_z w32 x) (of_z w32 k))) is
    ∙ ap (to_z w32) (and_mask (of_z w32 x) 32 ∙ mod-eq_of_lt (of_z-low x fit))
    ∙ to_z-of_z w32 x fit
    ∙ ap (λ k. kept_by k x) (sym is)
lane-is x keep fit (inr is) =
    ap (λ k. to_z w32 (lane_and (of_z w32 x) (of_z w32 k))) is
    ∙ ap (to_z w32) (and_mask (of_z w32 x) 0 ∙ mod-one (of_z w32 x))
    ∙ ap (λ k. kept_by k x) (sym is)

pub lanes-kept : (xs keeps : List ℤ) → length xs ≡ length keeps → Each1 (FitsSigned w32) xs → AllByRecursion IsKeep keeps → map (to_z w32) (zip2 lane_and (map (of_z w32) xs) (map (of_z w32) keeps)) ≡ zip2 kept_by keeps xs
lanes-kept [] [] same fit all = refl
lanes-kept [] (k ∷ keeps) same fit all = absurd (omega arith)
lanes-kept (x ∷ xs) [] same fit all = absurd (omega arith)
lanes-kept (x ∷ xs) (k ∷ keeps) same fit all = λ i. lane-is x k fit.0 all.0 i ∷ lanes-kept xs keeps (omega arith) fit.1 all.1 i

pub length-kept : (keeps xs : List ℤ) → length keeps ≡ length xs → length (zip2 kept_by keeps xs) ≡ length xs
length-kept [] [] same = refl
length-kept [] (x ∷ xs) same = absurd (omega arith)
length-kept (k ∷ keeps) [] same = absurd (omega arith)
length-kept (k ∷ keeps) (x ∷ xs) same = ap (λ n. suc n) (length-kept keeps xs (omega arith))

-- each of the eight is -1 or 0
pub keeps-are : (channels mask : ℕ) → AllByRecursion IsKeep (eight_keeps channels mask)
keeps-are channels mask = (at 0, (at 1, (at 2, (at 3, (at 4, (at 5, (at 6, (at 7, tt))))))))
  where
    by : (b : Bool) → IsKeep (cond b (negsuc 0) (pos 0))
    by true = inl refl
    by false = inr refl

    at : (k : ℕ) → IsKeep (keep_of mask (k % channels))
    at k = by (has_bit mask (k % channels))

kept-is : (mask c : ℕ) (x : ℤ) → kept_by (keep_of mask c) x ≡ kept_sample mask c x
kept-is mask c x = by (has_bit mask c)
  where
    by : (b : Bool) → kept_by (cond b (negsuc 0) (pos 0)) x ≡ cond b x (pos 0)
    by true = refl
    by false = refl

-- eight samples that begin at the first channel
pub eight-kept : (channels mask : ℕ) (xs : List ℤ) → length xs ≡ 8 → zip2 kept_by (eight_keeps channels mask) xs ≡ all_kept channels mask xs
eight-kept channels mask xs long =
    let all : xs ≡ map (λ k. get_or xs k (pos 0)) (range_with_len 0 8) = fill_by_all (λ k. get_or xs k (pos 0)) xs 8 (pos 0) long (λ k low. refl) in
    (λ i. zip2 kept_by (eight_keeps channels mask) (all i))
    ∙ zip2-map kept_by (λ k. keep_of mask (k % channels)) (λ k. get_or xs k (pos 0)) (range_with_len 0 8)
    ∙ map-range_same (λ k. kept_by (keep_of mask (k % channels)) (get_or xs k (pos 0))) (λ i. kept_sample mask (i % channels) (sample_of xs i)) 0 8 (λ k low. kept-is mask (k % channels) (get_or xs k (pos 0)))
    ∙ ap (λ n. map (λ i. kept_sample mask (i % channels) (sample_of xs i)) (range_with_len 0 n)) (sym long)
