-- The gain of a volume's value, of which 65536 is 1.
use Rattle.std.specs.Prelude.{ℕ, zero, suc, ◌*◌, ◌/◌, ℤ, pos, negsuc, ◌+ℤ◌, ◌&&◌, not, if◌then◌else◌, ◌==◌}
use Rattle.std.specs.Int.{int_div_euclid, int_min, int_max}

-- the gain so many half decibels above 1
unfoldable pub gain_above : ℕ → ℕ
gain_above zero = 65536
gain_above (suc h) = gain_above h * 69419 / 65536

-- the gain so many half decibels below 1
unfoldable pub gain_below : ℕ → ℕ
gain_below zero = 65536
gain_below (suc h) = gain_below h * 61870 / 65536

-- the gain at a signed number of half decibels
abbrev pub gain_at : ℤ → ℕ
gain_at (pos h) = gain_above h
gain_at (negsuc h) = gain_below (suc h)

-- the half decibels of a value: the hundredths of a decibel by 50, rounded down and held to -200 to 84. A control begins at
-- its least hundredths and rises by a step for each value
abbrev pub half_decibels : ℤ → ℕ → ℕ → ℤ
half_decibels lowest step value = int_max (negsuc 199) (int_min (pos 84) (int_div_euclid (lowest +ℤ pos (value * step)) (pos 50)))

-- the gain of a value; value 0 is silent where mute is not 0
abbrev pub gain_of : ℤ → ℕ → ℕ → ℕ → ℕ
gain_of lowest step mute value = if value == 0 && not (mute == 0) then 0 else gain_at (half_decibels lowest step value)
