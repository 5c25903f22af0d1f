-- The bytes of words.
use Rattle.std.proofs.Common.{◌≡◌, refl, sym, ap, ◌∙◌, ℕ, zero, suc, ◌+◌, ◌-◌, ◌*◌, ◌/◌, ◌^◌, ◌<◌, ◌≤◌, List, [], ◌∷◌, ◌++◌, length, take, drop, get_or, set, arith, ℤ, w32, FitsSigned, length-take}
use Rattle.std.specs.Int.{to_le_bytes, from_le_bytes, cast_unsigned, cast_signed}
use Rattle.std.proofs.lemmas.Int.{ints, to_z-of_z, of_z-to_z}
use Rattle.std.proofs.lemmas.Nat.{from_le_bytes-to_le_bytes_4, le_bytes_4}
use Rattle.std.proofs.lemmas.List.{drop-take, take-take, get_or_append_left, set-append_left, set-append_right, length-set, drop_more, take_more, append_assoc}
use Rattle.sof_base.specs.declared.format.Format.TheVariants.{S32}
use Rattle.sof_base.specs.Slots.{part, word_at}
use Rattle.sof_base.specs.Samples.{sample_of}
use Rattle.sof_base.proofs.SampleLaws.{length-sample_out, length-frame_out}
use Rattle.std.proofs.Math.Nat.{mod-lt}
use Rattle.eq_blob.specs.WordBytes.{bytes_of_words, bits_at}

pub length-bytes : (ws : List ℤ) → length (bytes_of_words ws) ≡ 4 * length ws
length-bytes ws = omega (arith, length-frame_out S32 ws)

pub length-blob : (ws : List ℤ) (len : ℕ) → len ≤ 4 * length ws → length (take len (bytes_of_words ws)) ≡ len
length-blob ws len le = omega (arith, length-take len (bytes_of_words ws), length-bytes ws)

-- the bytes of a word
abbrev pub four : ℤ → List ℕ
four w = to_le_bytes w32 (cast_unsigned w32 w)

pub drop-bytes : (ws : List ℤ) (i : ℕ) → drop (4 * i) (bytes_of_words ws) ≡ bytes_of_words (drop i ws)
drop-bytes ws zero = refl
drop-bytes [] (suc i) = ap (λ n. drop n []) (let e : 4 * suc i ≡ suc (4 * i + 3) = omega arith in e)
drop-bytes (w ∷ ws) (suc i) =
    ap (λ n. drop n (bytes_of_words (w ∷ ws))) (let e : 4 * suc i ≡ suc (suc (suc (suc (4 * i)))) = omega arith in e) ∙ drop-bytes ws i

-- the four bytes of a word within the bytes
pub part-bytes : (ws : List ℤ) (i len : ℕ) → i < length ws → 4 * i + 4 ≤ len → part (take len (bytes_of_words ws)) (4 * i) 4 ≡ four (sample_of ws i)
part-bytes ws i len lt fits =
    let split : len ≡ 4 * i + (len - 4 * i) = omega arith in
    ap (λ n. take 4 (drop (4 * i) (take n (bytes_of_words ws)))) split
    ∙ ap (take 4) (drop-take (4 * i) (len - 4 * i) (bytes_of_words ws))
    ∙ take-take 4 (len - 4 * i) (drop (4 * i) (bytes_of_words ws)) (omega arith)
    ∙ ap (take 4) (drop-bytes ws i)
    ∙ first ws i lt
  where
    first : (ws : List ℤ) (i : ℕ) → i < length ws → take 4 (bytes_of_words (drop i ws)) ≡ four (sample_of ws i)
    first [] i lt = absurd (omega arith)
    first (w ∷ ws) zero lt = refl
    first (w ∷ ws) (suc i) lt = first ws i (omega arith)

pub bits-below : (w : ℤ) → FitsSigned w32 w → cast_unsigned w32 w < 2 ^ 32
bits-below w fit = omega (arith, ints)

-- a word of the bytes is the word
pub word-bytes : (ws : List ℤ) (i len : ℕ) → i < length ws → 4 * i + 4 ≤ len → FitsSigned w32 (sample_of ws i) → word_at (take len (bytes_of_words ws)) (4 * i) ≡ bits_at ws i
unfolding word_at
word-bytes ws i len lt fits fit = ap (from_le_bytes w32) (part-bytes ws i len lt fits) ∙ from_le_bytes-to_le_bytes_4 (bits_at ws i) (bits-below (sample_of ws i) fit)

pub cast-bits : (w : ℤ) → FitsSigned w32 w → cast_signed w32 (cast_unsigned w32 w) ≡ w
cast-bits w fit = to_z-of_z w32 w fit

-- a word of the bytes as a signed number
pub word-cast : (ws : List ℤ) (p m place len : ℕ) → place ≡ 4 * (p + m) → p + m < length ws → place + 4 ≤ len → FitsSigned w32 (sample_of ws (p + m)) → cast_signed w32 (word_at (take len (bytes_of_words ws)) place) ≡ sample_of ws (p + m)
word-cast ws p m place len is lt fits fit =
    ap (λ n. cast_signed w32 (word_at (take len (bytes_of_words ws)) n)) is ∙ ap (cast_signed w32) (word-bytes ws (p + m) len lt (omega arith) fit) ∙ cast-bits (sample_of ws (p + m)) fit

-- a byte of the bytes is one of its word
pub get-bytes : (ws : List ℤ) (q r : ℕ) (d : ℕ) → q < length ws → r < 4 → get_or (bytes_of_words ws) (4 * q + r) d ≡ get_or (four (sample_of ws q)) r d
get-bytes [] q r d lt low = absurd (omega arith)
get-bytes (w ∷ ws) zero r d lt low =
    ap (λ n. get_or (bytes_of_words (w ∷ ws)) n d) (let e : 4 * 0 + r ≡ r = omega arith in e) ∙ get_or_append_left (four w) (bytes_of_words ws) d r (omega (arith, length-sample_out S32 w))
get-bytes (w ∷ ws) (suc q) r d lt low =
    ap (λ n. get_or (bytes_of_words (w ∷ ws)) n d) (let e : 4 * suc q + r ≡ suc (suc (suc (suc (4 * q + r)))) = omega arith in e) ∙ get-bytes ws q r d (omega arith) low

-- a byte that is set is set in its word
pub set-bytes : (ws : List ℤ) (q r b : ℕ) (w : ℤ) → q < length ws → r < 4 → four w ≡ set (four (sample_of ws q)) r b → bytes_of_words (set ws q w) ≡ set (bytes_of_words ws) (4 * q + r) b
set-bytes [] q r b w lt low is = absurd (omega arith)
set-bytes (v ∷ ws) zero r b w lt low is =
    ap (λ (t : List ℕ). t ++ bytes_of_words ws) is ∙ sym (set-append_left (four v) (bytes_of_words ws) r b (omega (arith, length-sample_out S32 v)))
    ∙ ap (λ n. set (bytes_of_words (v ∷ ws)) n b) (let e : r ≡ 4 * 0 + r = omega arith in e)
set-bytes (v ∷ ws) (suc q) r b w lt low is =
    ap (λ (t : List ℕ). four v ++ t) (set-bytes ws q r b w (omega arith) low is)
    ∙ ap (λ n. set (bytes_of_words (v ∷ ws)) n b) (let e : suc (suc (suc (suc (4 * q + r)))) ≡ 4 * suc q + r = omega arith in e)

-- ---- each byte is one

four-small : (n k : ℕ) → get_or (to_le_bytes w32 n) k 0 < 256
four-small n zero = mod-lt n (omega arith)
four-small n (suc zero) = mod-lt (n / 256) (omega arith)
four-small n (suc (suc zero)) = mod-lt (n / 65536) (omega arith)
four-small n (suc (suc (suc zero))) = mod-lt (n / 16777216) (omega arith)
four-small n (suc (suc (suc (suc k)))) = omega arith

set-small : (xs : List ℕ) (i b k : ℕ) → ((k : ℕ) → get_or xs k 0 < 256) → b < 256 → get_or (set xs i b) k 0 < 256
set-small [] i b k each low = omega arith
set-small (x ∷ xs) zero b zero each low = low
set-small (x ∷ xs) zero b (suc k) each low = each (suc k)
set-small (x ∷ xs) (suc i) b zero each low = each 0
set-small (x ∷ xs) (suc i) b (suc k) each low = set-small xs i b k (λ k. each (suc k)) low

-- a word that is read of four bytes of which one is another
pub four-set : (v w : ℤ) (r b : ℕ) → b < 256 → w ≡ cast_signed w32 (from_le_bytes w32 (set (four v) r b)) → four (cast_signed w32 (cast_unsigned w32 w)) ≡ set (four v) r b
four-set v w r b low is =
    let bs = set (four v) r b in
    let each = λ (k : ℕ). set-small (four v) r b k (four-small (cast_unsigned w32 v)) low in
    let n : ℕ = from_le_bytes w32 bs in
    let fits : n < 2 ^ 32 = omega (arith, each 0, each 1, each 2, each 3) in
    ap (λ z. four (cast_signed w32 (cast_unsigned w32 z))) is
    ∙ ap (λ k. to_le_bytes w32 (cast_unsigned w32 (cast_signed w32 k))) (of_z-to_z w32 n fits)
    ∙ ap (to_le_bytes w32) (of_z-to_z w32 n fits)
    ∙ le_bytes_4 bs n (length-set (four v) r b ∙ length-sample_out S32 v) each refl

-- one byte more is put over those from a place on
pub put-more : (old bytes : List ℕ) (at i b : ℕ) → at + i < length old → i < length bytes → b ≡ get_or bytes i 0
    → set (take at old ++ (take i bytes ++ drop (at + i) old)) (at + i) b ≡ take at old ++ (take (i + 1) bytes ++ drop (at + (i + 1)) old)
put-more old bytes at i b within lt is =
    let n : ℕ = at + i in
    let rest = drop (n + 1) old in
    let front : length (take at old) ≡ at = omega (arith, length-take at old) in
    let mid : length (take i bytes) ≡ i = omega (arith, length-take i bytes) in
    set-append_right (take at old) (take i bytes ++ drop n old) at n b front (omega arith)
    ∙ ap (λ k. take at old ++ set (take i bytes ++ drop n old) k b) (let e : at + i - at ≡ i = omega arith in e)
    ∙ ap (λ (t : List ℕ). take at old ++ t) (set-append_right (take i bytes) (drop n old) i i b mid (omega arith)
    ∙ ap (λ k. take i bytes ++ set (drop n old) k b) (let e : i - i ≡ 0 = omega arith in e)
    ∙ ap (λ (t : List ℕ). take i bytes ++ set t 0 b) (drop_more old n 0 within)
    ∙ sym (append_assoc (take i bytes) (b ∷ []) rest)
    ∙ (λ k. (ap (λ y. take i bytes ++ y ∷ []) is ∙ sym (take_more bytes i 0 lt)) k ++ drop ((let e : n + 1 ≡ at + (i + 1) = omega arith in e) k) old))
