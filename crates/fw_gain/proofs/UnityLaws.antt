-- A gain of 1 leaves a sample as it is.
use Rattle.std.proofs.Common.{◌≡◌, refl, sym, ap, subst, ◌∙◌, ℕ, zero, suc, ◌+◌, ◌*◌, ◌/◌, ◌%◌, ◌-◌, ◌^◌, ◌<◌, List, [], ◌∷◌, take, length, get_or, min, arith, ℤ, pos, negsuc, ◌+ℤ◌, ◌*ℤ◌, w32, FitsSigned}
use Rattle.std.specs.Prelude.{true, ◌==◌, not}
use Rattle.std.specs.List.{list_all, AllByRecursion}
use Rattle.std.specs.Int.{int_div_euclid}
use Rattle.std.proofs.Math.Nat.{mod-add-div, mod-lt}
use Rattle.std.proofs.lemmas.Int.{ints}
use Rattle.std.proofs.lemmas.Bool.{and_parts, true≢false}
use Rattle.std.proofs.lemmas.Bool.Decides.{Decides-eqb}
use Rattle.std.proofs.lemmas.List.{take_more}
use Rattle.std.proofs.lemmas.List.FromFn.{fill_by_all}
use Rattle.sof_base.specs.Samples.{sat, sample_of}
use Rattle.sof_base.specs.Equations.{amplified, channel_gain}
use Rattle.fw_gain.specs.Kernels.{are_ones, all_amplified}
use Rattle.fw_gain.proofs.LaneLaws.{all-append}

-- n times 65536 and less than 65536 more is n times 65536, rounded down
quotient : (n rest : ℕ) → rest < 65536 → (n * 65536 + rest) / 65536 ≡ n
quotient n rest low = omega (arith, mod-add-div (n * 65536 + rest) 65536, mod-lt (n * 65536 + rest) {m = 65536} (omega arith))

-- a sample times 1 is the sample
unity : (x : ℤ) → FitsSigned w32 x → amplified 65536 x ≡ x
unity (pos n) fit =
    let exact : (pos n *ℤ pos 65536) +ℤ pos 32768 ≡ pos (n * 65536 + 32768) = omega (arith, ints) in
    let low : min n (2 ^ 31 - 1) ≡ n = omega (arith, ints, fit) in
    ap (λ z. sat 32 (int_div_euclid z (pos 65536))) exact
    ∙ ap (λ q. sat 32 (pos q)) (quotient n 32768 (omega arith))
    ∙ ap pos low
unity (negsuc n) fit =
    let exact : (negsuc n *ℤ pos 65536) +ℤ pos 32768 ≡ negsuc (n * 65536 + 32767) = omega (arith, ints) in
    let low : min n (2 ^ 31 - 1) ≡ n = omega (arith, ints, fit) in
    ap (λ z. sat 32 (int_div_euclid z (pos 65536))) exact
    ∙ ap (λ q. sat 32 (negsuc q)) (quotient n 32767 (omega arith))
    ∙ ap negsuc low

-- each of such gains is 1
one-at : (gains : List ℕ) (k : ℕ) → k < length gains → list_all (λ gain. gain == 65536) gains ≡ true → get_or gains k 0 ≡ 65536
one-at [] k below all = absurd (omega arith)
one-at (g ∷ gains) zero below all = (Decides-eqb g 65536).0 (and_parts (g == 65536) (list_all (λ gain. gain == 65536) gains) all).0
one-at (g ∷ gains) (suc k) below all = one-at gains k (omega arith) (and_parts (g == 65536) (list_all (λ gain. gain == 65536) gains) all).1

-- the gain of each channel is 1
channel-one : (gains : List ℕ) (k : ℕ) → are_ones gains ≡ true → channel_gain gains k ≡ 65536
channel-one gains k ones =
    let parts = and_parts (not (length gains == 0)) (list_all (λ gain. gain == 65536) gains) ones in
    one-at gains (min k (length gains - 1)) (some gains parts.0) parts.1
  where
    some : (gains : List ℕ) → not (length gains == 0) ≡ true → min k (length gains - 1) < length gains
    some [] few = absurd (true≢false (sym few))
    some (g ∷ gains) few = omega arith

-- each sample by the gain of its channel is the sample
pub sample-unity : (channels : ℕ) (gains : List ℕ) (xs : List ℤ) (i : ℕ) → are_ones gains ≡ true → FitsSigned w32 (get_or xs i (pos 0)) → get_or xs i (pos 0) ≡ amplified (channel_gain gains (i % channels)) (sample_of xs i)
sample-unity channels gains xs i ones fit =
    sym (ap (λ g. amplified g (get_or xs i (pos 0))) (channel-one gains (i % channels) ones) ∙ unity (get_or xs i (pos 0)) fit)

-- ---- samples

-- one more number is a sample
pub fits-more : (xs : List ℤ) (i : ℕ) → i < length xs → AllByRecursion (FitsSigned w32) (take i xs) → FitsSigned w32 (get_or xs i (pos 0)) → AllByRecursion (FitsSigned w32) (take (i + 1) xs)
fits-more xs i below all fit =
    subst (AllByRecursion (FitsSigned w32)) (sym (take_more xs i (pos 0) below)) (all-append (FitsSigned w32) (take i xs) (get_or xs i (pos 0) ∷ []) all (fit, tt))

-- each of samples is one
fits-at : (xs : List ℤ) (i : ℕ) → i < length xs → AllByRecursion (FitsSigned w32) xs → FitsSigned w32 (get_or xs i (pos 0))
fits-at [] i below all = absurd (omega arith)
fits-at (x ∷ xs) zero below all = all.0
fits-at (x ∷ xs) (suc i) below all = fits-at xs i (omega arith) all.1

-- samples by gains of 1 stay as they are
pub amplified-unity : (channels : ℕ) (gains : List ℕ) (xs : List ℤ) → are_ones gains ≡ true → AllByRecursion (FitsSigned w32) xs → xs ≡ all_amplified channels gains xs
amplified-unity channels gains xs ones all =
    fill_by_all (λ i. amplified (channel_gain gains (i % channels)) (sample_of xs i)) xs (length xs) (pos 0) refl (λ i below. sample-unity channels gains xs i ones (fits-at xs i below all))
