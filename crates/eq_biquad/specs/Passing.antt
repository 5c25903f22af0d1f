-- The samples of one channel through its sections.
use Rattle.std.specs.Prelude.{ℕ, zero, suc, ◌+◌, ◌*◌, List, [], ◌∷◌, ◌++◌, length, ℤ}
use Rattle.sof_base.specs.Equations.{Section}
use Rattle.stream_law.specs.Equaliser.{passed_sections, sections_of}
use Rattle.eq_biquad.specs.PieceWords.{numbers_at}

-- samples through sections in series, one after the other
abbrev pub passed_samples : List Section → List ℤ → List ℤ → List ℤ
passed_samples ss numbers [] = []
passed_samples ss numbers (x ∷ xs) = let p = passed_sections ss numbers x in p.sample ∷ passed_samples ss p.numbers xs

-- and the sections' numbers after them
abbrev pub numbers_passed : List Section → List ℤ → List ℤ → List ℤ
numbers_passed ss numbers [] = numbers
numbers_passed ss numbers (x ∷ xs) = numbers_passed ss (passed_sections ss numbers x).numbers xs

-- the numbers of channels k and up, of which so many are left, one channel after the other
abbrev pub in_turn : ℕ → (ℕ → List ℤ) → ℕ → List ℤ
in_turn k numbers zero = []
in_turn k numbers (suc left) = numbers k ++ in_turn (k + 1) numbers left

-- the numbers of a channel, 64 words for each
abbrev pub channel_numbers : List ℕ → List ℤ → ℕ → List ℤ
channel_numbers blob words k = numbers_at words (64 * k) (length (sections_of blob k))
