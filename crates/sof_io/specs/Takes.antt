-- What an input gives, and what is left of it.
use Rattle.std.specs.Prelude.{ℕ, ◌==◌, List, [], ◌∷◌, ◌++◌, take, drop, replicate, if◌then◌else◌, Bool, true, false, ◌&&◌, not, nat_lt, length, ◌≤◌, ◌-◌, ◌^◌, map}
use Rattle.sof_base.specs.Ports.{InputView, moved_on}

-- an input after n more bytes of it
abbrev pub after_input : ℕ → InputView → InputView
after_input n input = record input { position = moved_on input.position n; left = drop n input.left }

-- the next n bytes of those that are left, and zeros past the end
abbrev pub next_bytes : ℕ → List ℕ → List ℕ
next_bytes n left = take n (left ++ replicate n 0)

-- the bytes that are left of a slot; none of an unknown slot
abbrev pub left_at : ℕ → List InputView → List ℕ
left_at slot [] = []
left_at slot (input ∷ inputs) = if input.slot == slot then input.left else left_at slot inputs

-- how many bytes were taken of a slot; none of an unknown slot
abbrev pub position_at : ℕ → List InputView → ℕ
position_at slot [] = 0
position_at slot (input ∷ inputs) = if input.slot == slot then input.position else position_at slot inputs

-- the next n bytes of a slot; zeros past its end, and of an unknown slot
abbrev pub bytes_given : ℕ → ℕ → List InputView → List ℕ
bytes_given slot n inputs = next_bytes n (left_at slot inputs)

-- the inputs after n more bytes of a slot; the same for an unknown slot
abbrev pub taken : ℕ → ℕ → List InputView → List InputView
taken slot n [] = []
taken slot n (input ∷ inputs) = if input.slot == slot then after_input n input ∷ inputs else input ∷ taken slot n inputs

-- how many bytes are left of a slot; none of an unknown slot
abbrev pub held_at : ℕ → List InputView → ℕ
held_at slot inputs = length (left_at slot inputs)

-- whether no more bytes come of a slot
abbrev pub has_ended : ℕ → List InputView → Bool
has_ended slot [] = false
has_ended slot (input ∷ inputs) = if input.slot == slot then input.ended else has_ended slot inputs

-- the slots of the inputs, in their order
abbrev pub input_slots : List InputView → List ℕ
input_slots inputs = map (λ (input : InputView). input.slot) inputs

-- the position of an input is at most the greatest usize
abbrev pub HasPosition : InputView → Type 0
HasPosition input = input.position ≤ 2 ^ 64 - 1

-- an input with a piece more
abbrev pub fuller_input : List ℕ → InputView → InputView
fuller_input piece input = record input { left = input.left ++ piece }

-- an input of which no more bytes come
abbrev pub ended_input : InputView → InputView
ended_input input = record input { ended = true }

-- whether an input holds fewer bytes than a level, and more may come
abbrev pub is_wanting : ℕ → InputView → Bool
is_wanting level input = nat_lt (length input.left) level && not input.ended
