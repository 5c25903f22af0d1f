-- How an equaliser's piece keeps numbers in its words.
use Rattle.std.specs.Prelude.{ℕ, zero, suc, ◌+◌, ◌*◌, ◌^◌, ◌<◌, ◌≤◌, List, [], ◌∷◌, take, drop, ℤ, pos, ◌+ℤ◌, ◌*ℤ◌, nat_abs}
use Rattle.sof_base.specs.Samples.{sample_of}
use Rattle.eq_blob.specs.WordBytes.{bits_at}

-- n words from a place on
abbrev pub words_from : ℕ → ℕ → List ℤ → List ℤ
words_from place n words = take n (drop place words)

-- a number, and 32 bits below it
abbrev pub wide_number : ℤ → ℕ → ℤ
wide_number high low = (high *ℤ pos (2 ^ 32)) +ℤ pos low

-- the number whose 128 bits, in two's complement, are the four words from a place on, the low one first
abbrev pub wide_at : List ℤ → ℕ → ℤ
wide_at words i = wide_number (wide_number (wide_number (sample_of words (i + 3)) (bits_at words (i + 2))) (bits_at words (i + 1))) (bits_at words i)

-- the two numbers of each of n sections, eight words for each, from a place on
abbrev pub numbers_at : List ℤ → ℕ → ℕ → List ℤ
numbers_at words place zero = []
numbers_at words place (suc n) = wide_at words place ∷ wide_at words (place + 4) ∷ numbers_at words (place + 8) n

-- what is so of the words of all numbers: the first of two is a sum of four products of 32 bits, the second one of two
unfoldable pub AreNumbers : List ℤ → Type 0
AreNumbers words = (k : ℕ) → k < 64 → (nat_abs (wide_at words (8 * k)) ≤ 2 ^ 64) × (nat_abs (wide_at words (8 * k + 4)) ≤ 2 ^ 63)
