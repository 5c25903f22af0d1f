-- How the bytes that an input holds lie in its memory.
use Rattle.std.specs.Prelude.{◌≡◌, ℕ, ◌+◌, ◌-◌, ◌≤◌, ◌<◌, List, ◌++◌, take, drop, nat_lt, if◌then◌else◌}
use Rattle.sof_base.specs.declared.limits.TheConstants.{INPUT_BYTES}

-- n bytes of a list, read from a place on and round its end
unfoldable pub round_bytes : ℕ → ℕ → List ℕ → List ℕ
round_bytes start n bytes = take n (drop start (bytes ++ bytes))

-- the place n past start, round the end of a list of this length
abbrev pub place_past : ℕ → ℕ → ℕ → ℕ
place_past len start n = if nat_lt len (start + n) then start + n - len else start + n

-- what is so of the memory of an input that holds so many bytes from a place on: it grows up to its bound, and until then
-- the bytes that are held are its last
pub record IsHeld (start held len : ℕ) : Type 0 where
  pub begins : start ≤ len
  pub fits : held ≤ len
  pub bound : len ≤ INPUT_BYTES
  pub grows : len < INPUT_BYTES → start + held ≡ len
