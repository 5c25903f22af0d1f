-- Numbers of 128 bits in words.
use Rattle.std.proofs.Common.{◌≡◌, refl, sym, ap, ◌∙◌, subst, ℕ, zero, suc, ◌+◌, ◌*◌, ◌^◌, ◌<◌, ◌≤◌, ◌⊎◌, inl, inr, List, ◌∷◌, ◌++◌, length, replicate, arith, ℤ, pos, nat_abs, w32}
use Rattle.std.specs.Int.{cast_unsigned}
use Rattle.sof_base.specs.Samples.{sample_of}
use Rattle.stream_law.specs.Equaliser.{sections_of}
use Rattle.stream_law.specs.Seen.{fresh_from}
use Rattle.eq_biquad.specs.PieceWords.{wide_number, wide_at, numbers_at, AreNumbers}
use Rattle.eq_biquad.specs.Passing.{in_turn, channel_numbers}
use Rattle.eq_blob.proofs.Cases.{by_less}
use Rattle.eq_biquad.proofs.PassLaws.{HasNumbers}

pub wide-same : (xs ys : List ℤ) (p : ℕ) → ((i : ℕ) → p ≤ i → i < p + 4 → sample_of xs i ≡ sample_of ys i) → wide_at xs p ≡ wide_at ys p
wide-same xs ys p same = λ k.
    wide_number (wide_number (wide_number (same (p + 3) (omega arith) (omega arith) k) (cast_unsigned w32 (same (p + 2) (omega arith) (omega arith) k))) (cast_unsigned w32 (same (p + 1) (omega arith) (omega arith) k))) (cast_unsigned w32 (same p (omega arith) (omega arith) k))

pub numbers_at-same : (xs ys : List ℤ) (p n : ℕ) → ((i : ℕ) → p ≤ i → i < p + 8 * n → sample_of xs i ≡ sample_of ys i) → numbers_at xs p n ≡ numbers_at ys p n
numbers_at-same xs ys p zero same = refl
numbers_at-same xs ys p (suc n) same = λ k.
    wide-same xs ys p (λ i le lt. same i (omega arith) (omega arith)) k
    ∷ wide-same xs ys (p + 4) (λ i le lt. same i (omega arith) (omega arith)) k
    ∷ numbers_at-same xs ys (p + 8) n (λ i le lt. same i (omega arith) (omega arith)) k

pub length-numbers_at : (ws : List ℤ) (p n : ℕ) → length (numbers_at ws p n) ≡ 2 * n
length-numbers_at ws p zero = refl
length-numbers_at ws p (suc n) = let rest = length-numbers_at ws (p + 8) n in omega (arith, rest)

pub has-numbers : (blob : List ℕ) (ws : List ℤ) → HasNumbers blob (channel_numbers blob ws)
has-numbers blob ws = λ c. length-numbers_at ws (64 * c) (length (sections_of blob c))

-- ---- zeros

zero-at : (m i : ℕ) → sample_of (replicate m (pos 0)) i ≡ pos 0
zero-at zero i = refl
zero-at (suc m) zero = refl
zero-at (suc m) (suc i) = zero-at m i

pub wide-zero : (m p : ℕ) → wide_at (replicate m (pos 0)) p ≡ pos 0
wide-zero m p = λ k. wide_number (wide_number (wide_number (zero-at m (p + 3) k) (cast_unsigned w32 (zero-at m (p + 2) k))) (cast_unsigned w32 (zero-at m (p + 1) k))) (cast_unsigned w32 (zero-at m p k))

numbers-zero : (m p n : ℕ) → numbers_at (replicate m (pos 0)) p n ≡ replicate (2 * n) (pos 0)
numbers-zero m p zero = refl
numbers-zero m p (suc n) =
    (λ k. wide-zero m p k ∷ wide-zero m (p + 4) k ∷ numbers-zero m (p + 8) n k)
    ∙ ap (λ q. replicate q (pos 0)) (let e : suc (suc (2 * n)) ≡ 2 * suc n = omega arith in e)

-- they are those of an epoch that begins
pub fresh-zero : (blob : List ℕ) (m k left : ℕ) → in_turn k (channel_numbers blob (replicate m (pos 0))) left ≡ fresh_from k blob left
fresh-zero blob m k zero = refl
fresh-zero blob m k (suc left) = λ i. numbers-zero m (64 * k) (length (sections_of blob k)) i ++ fresh-zero blob m (k + 1) left i

pub are-zero : (m : ℕ) → AreNumbers (replicate m (pos 0))
unfolding AreNumbers
are-zero m = λ k lt. (subst (λ z. nat_abs z ≤ 2 ^ 64) (sym (wide-zero m (8 * k))) (omega arith), subst (λ z. nat_abs z ≤ 2 ^ 63) (sym (wide-zero m (8 * k + 4))) (omega arith))

-- ---- two numbers are put

pub numbers-put : (old new : List ℤ) (j : ℕ) (first second : ℤ) → AreNumbers old → wide_at new (8 * j) ≡ first → wide_at new (8 * j + 4) ≡ second → nat_abs first ≤ 2 ^ 64 → nat_abs second ≤ 2 ^ 63 → ((i : ℕ) → (i < 8 * j) ⊎ (8 * j + 8 ≤ i) → sample_of new i ≡ sample_of old i) → AreNumbers new
unfolding AreNumbers
numbers-put old new j first second are at_first at_second low_first low_second others = λ k lt.
    let same : (8 * k + 8 ≤ 8 * j) ⊎ (8 * j + 8 ≤ 8 * k) → (nat_abs (wide_at new (8 * k)) ≤ 2 ^ 64) × (nat_abs (wide_at new (8 * k + 4)) ≤ 2 ^ 63) = λ apart.
    let by : (i : ℕ) → 8 * k ≤ i → i < 8 * k + 8 → sample_of old i ≡ sample_of new i = λ i le under. sym (others i (beside k apart i le under)) in (
      subst (λ z. nat_abs z ≤ 2 ^ 64) (wide-same old new (8 * k) (λ i le under. by i le (omega arith))) (are k lt).0,
      subst (λ z. nat_abs z ≤ 2 ^ 63) (wide-same old new (8 * k + 4) (λ i le under. by i (omega arith) (omega arith))) (are k lt).1,
    ) in
    by_less k j (λ l. same (inl (omega arith)))
    (λ le. by_less j k (λ l. same (inr (omega arith)))
    (λ ge. let e : j ≡ k = omega arith in
    subst (λ q. (nat_abs (wide_at new (8 * q)) ≤ 2 ^ 64) × (nat_abs (wide_at new (8 * q + 4)) ≤ 2 ^ 63)) e
    (subst (λ z. nat_abs z ≤ 2 ^ 64) (sym at_first) low_first, subst (λ z. nat_abs z ≤ 2 ^ 63) (sym at_second) low_second)))
  where
    beside : (k : ℕ) → (8 * k + 8 ≤ 8 * j) ⊎ (8 * j + 8 ≤ 8 * k) → (i : ℕ) → 8 * k ≤ i → i < 8 * k + 8 → (i < 8 * j) ⊎ (8 * j + 8 ≤ i)
    beside k (inl before) i le under = inl (omega arith)
    beside k (inr after) i le under = inr (omega arith)

-- ---- by slot

pub slot-bound-at : (ws : List ℤ) → AreNumbers ws → (slot : ℕ) → slot < 64 → (nat_abs (wide_at ws (8 * slot)) ≤ 2 ^ 64) × (nat_abs (wide_at ws (8 * slot + 4)) ≤ 2 ^ 63)
unfolding AreNumbers
slot-bound-at ws are slot low = are slot low

pub slot-bound : (ws : List ℤ) → AreNumbers ws → (slot s : ℕ) → slot + s < 64 → (nat_abs (wide_at ws (8 * slot + 8 * s)) ≤ 2 ^ 64) × (nat_abs (wide_at ws (8 * slot + 8 * s + 4)) ≤ 2 ^ 63)
unfolding AreNumbers
slot-bound ws are slot s low =
    subst (λ q. (nat_abs (wide_at ws q) ≤ 2 ^ 64) × (nat_abs (wide_at ws (q + 4)) ≤ 2 ^ 63)) (let e : 8 * (slot + s) ≡ 8 * slot + 8 * s = omega arith in e) (are (slot + s) low)

pub slot-put : (old new : List ℤ) (slot s : ℕ) (first second : ℤ) → AreNumbers old → wide_at new (8 * slot + 8 * s) ≡ first → wide_at new (8 * slot + 8 * s + 4) ≡ second → nat_abs first ≤ 2 ^ 64 → nat_abs second ≤ 2 ^ 63
    → ((i : ℕ) → (i < 8 * slot + 8 * s) ⊎ (8 * slot + 8 * s + 8 ≤ i) → sample_of new i ≡ sample_of old i) → AreNumbers new
slot-put old new slot s first second are at_first at_second low_first low_second others =
    let e : 8 * slot + 8 * s ≡ 8 * (slot + s) = omega arith in
    numbers-put old new (slot + s) first second are
    (ap (wide_at new) (sym e) ∙ at_first)
    (ap (λ q. wide_at new (q + 4)) (sym e) ∙ at_second)
    low_first low_second
    (λ i out. others i (moved i out))
  where
    moved : (i : ℕ) → (i < 8 * (slot + s)) ⊎ (8 * (slot + s) + 8 ≤ i) → (i < 8 * slot + 8 * s) ⊎ (8 * slot + 8 * s + 8 ≤ i)
    moved i (inl low) = inl (omega (arith, low))
    moved i (inr high) = inr (omega (arith, high))
