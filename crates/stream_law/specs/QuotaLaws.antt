-- The quota in numbers that are never below 0.
use Rattle.std.specs.Prelude.{◌≡◌, ℕ, ◌+◌, ◌-◌, ◌*◌, ◌/◌, ◌%◌, ◌≤◌, if◌then◌else◌, nat_lt}
use Rattle.stream_law.specs.State.{View}
use Rattle.stream_law.specs.Ways.{rate_of}
use Rattle.stream_law.specs.Moves.{period, quota}

-- a second later a stream has its rate more, so both counts may be taken a second later
abbrev pub QuotaIsOfNumbers : Type 0
QuotaIsOfNumbers = (v : View) (t c : ℕ) → period v c ≤ 1000 → quota v t c ≡ (t + 1000) * rate_of v c / 1000 - (t + 1000 - period v c) * rate_of v c / 1000

-- what a period leaves over is a frame more at the runs whose count has just come to a whole one
abbrev pub QuotaByParts : Type 0
QuotaByParts = (v : View) (t c : ℕ) → period v c ≤ 1000 →
    quota v t c ≡ period v c * rate_of v c / 1000 + (if nat_lt (t * rate_of v c % 1000) (period v c * rate_of v c % 1000) then 1 else 0)

-- of a rate that is a multiple of 1000 each run has the same
abbrev pub QuotaOfThousands : Type 0
QuotaOfThousands = (v : View) (t c k : ℕ) → period v c ≤ 1000 → rate_of v c ≡ k * 1000 → quota v t c ≡ period v c * k

-- and a period of at most 10 ticks has at most 1920 frames, of 192000 a second
abbrev pub QuotaIsFew : Type 0
QuotaIsFew = (v : View) (t c : ℕ) → period v c ≤ 10 → rate_of v c ≤ 192000 → quota v t c ≤ 1920
