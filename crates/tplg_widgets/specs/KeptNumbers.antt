-- Numbers that are kept by their key.
use Rattle.std.specs.Prelude.{ℕ, Bool, false, ◌==◌, Option, Some, None, if◌then◌else◌}
use Rattle.std.specs.Option.{option_or}

-- the number that was there, or else this one where the key is its own
abbrev pub kept_first : Option ℕ → Bool → ℕ → Option ℕ
kept_first old same n = option_or old (if same then Some n else None)

-- whether a number is there, and this one
abbrev pub is_number : Option ℕ → ℕ → Bool
is_number None k = false
is_number (Some n) k = n == k
