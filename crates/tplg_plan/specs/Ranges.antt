-- What a plan's numbers and bytes may be.
use Rattle.std.specs.Prelude.{ℕ, ◌%◌, List, [], ◌∷◌, Bool, true, false, ◌&&◌, ◌==◌, nat_le, Option, Some, None}
use Rattle.sof_base.specs.BlobFaults.{is_blob}

-- a period in µs is there: a multiple of 1000 from 1000 to 10000
abbrev pub is_period : Option ℕ → Bool
is_period None = false
is_period (Some p) = p % 1000 == 0 && nat_le 1000 p && nat_le p 10000

-- an equaliser begins with no bytes, or with a blob
abbrev pub is_initial : List ℕ → Bool
is_initial [] = true
is_initial (b ∷ bs) = is_blob (b ∷ bs)
