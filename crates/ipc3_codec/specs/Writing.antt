-- Numbers as bytes, one after the other.
use Rattle.std.specs.Prelude.{ℕ, List, [], ◌∷◌, ◌++◌}
use Rattle.std.specs.Int.{w16, to_le_bytes}

-- each number in two bytes, the low one first
unfoldable pub halves_bytes : List ℕ → List ℕ
halves_bytes [] = []
halves_bytes (n ∷ ns) = to_le_bytes w16 n ++ halves_bytes ns
