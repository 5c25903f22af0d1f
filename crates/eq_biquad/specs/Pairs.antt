-- Two numbers side by side, the left one of a channel and the right one of the channel after it.
use Rattle.std.specs.Prelude.{◌≡◌, ◌+◌, ◌-◌, ◌*◌, ◌^◌, ◌<◌, ℕ, List, length, get_or, ℤ, pos, nat_abs}
use Rattle.std.specs.Int.{int_div_euclid}
use Rattle.sof_base.specs.Samples.{sat}

abbrev pub left_number : List ℤ → ℤ
left_number pair = get_or pair 0 (pos 0)

abbrev pub right_number : List ℤ → ℤ
right_number pair = get_or pair 1 (pos 0)

-- what is so of both
abbrev pub BothAre : (ℤ → Type 0) → List ℤ → Type 0
BothAre P pair = (length pair ≡ 2) × (P (left_number pair) × P (right_number pair))

-- what is so of the two left ones, and of the two right ones
abbrev pub BothMeet : (ℤ → ℤ → Type 0) → List ℤ → List ℤ → Type 0
BothMeet R a b = R (left_number a) (left_number b) × R (right_number a) (right_number b)

-- a sum without the 30 bits at its bottom, held to 32 bits
abbrev pub inner_of_sum : ℤ → ℤ
inner_of_sum sum = sat 32 (int_div_euclid sum (pos 1073741824))

-- a product with 32 bits and a sum that leave room for the half that rounds
abbrev pub HasRoomToRound : ℤ → ℤ → Type 0
HasRoomToRound a sum = nat_abs a * 2 ^ 31 + nat_abs sum < 2 ^ 63 - 2 ^ 29

-- a mark is a sum plus 2 ^ 61, and clear where it is at least 0 and below 2 ^ 62: such a sum is not held
abbrev pub IsClear : ℤ → Type 0
IsClear mark = (n : ℕ) × ((mark ≡ pos n) × (n < 2 ^ 62))
