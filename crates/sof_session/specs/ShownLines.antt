-- One of the lines that are shown.
use Rattle.std.specs.Prelude.{◌≡◌, ℕ, Bool, true, false, List, length, Option, Some, None, Result, Ok, Err, MatchOption}
use Rattle.std.specs.List.{slice_get}

-- whether there is a line of this number, counted from 0, and where there is, that it is this one
abbrev pub IsLineAt : List (List ℕ) → ℕ → Bool → List ℕ → Type 0
IsLineAt lines k there line = MatchOption (slice_get lines k) (there ≡ false) (λ text. (there ≡ true) × (line ≡ text))

-- the item of this number, counted from 0, or how many there are, where they are fewer
abbrev pub item_or_count : {X : Type 0} → ℕ → Option X → Result X ℕ
item_or_count count None = Err count
item_or_count count (Some x) = Ok x

abbrev pub kth_in : {X : Type 0} → List X → ℕ → Result X ℕ
kth_in xs k = item_or_count (length xs) (slice_get xs k)
