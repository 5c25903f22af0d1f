-- The words of `decode` and `replay`.
use Rattle.std.specs.Prelude.{ℕ, List, Option, codes}
use Rattle.run_words.specs.Words.{named_by}

-- `decode TRACE`: the name of its file
abbrev pub decode_of : List (List ℕ) → Option (List ℕ)
decode_of words = named_by (codes "decode") words

-- `replay TRACE`
abbrev pub replay_of : List (List ℕ) → Option (List ℕ)
replay_of words = named_by (codes "replay") words
