-- The bytes and the bits of words.
use Rattle.std.specs.Prelude.{ℕ, List, ℤ}
use Rattle.std.specs.Int.{w32, cast_unsigned}
use Rattle.sof_base.specs.declared.format.Format.TheVariants.{S32}
use Rattle.sof_base.specs.Samples.{sample_of, frame_out}

-- the bytes of words, four for each, the low one first
abbrev pub bytes_of_words : List ℤ → List ℕ
bytes_of_words words = frame_out S32 words

-- a word as 32 bits
abbrev pub bits_at : List ℤ → ℕ → ℕ
bits_at words i = cast_unsigned w32 (sample_of words i)
