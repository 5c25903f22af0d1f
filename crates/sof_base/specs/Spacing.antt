-- How far pieces and holes reach.
use Rattle.std.specs.Prelude.{◌≡◌, ℕ, ◌+◌, ◌%◌, ◌<◌, ◌≤◌, List, [], ◌∷◌}
use Rattle.sof_base.specs.declared.hole.Hole.{Hole}

-- the sum of the sizes
abbrev pub total : List Hole → ℕ
total [] = 0
total (h ∷ hs) = h.size + total hs

-- holes ascend from low up to high, in whole units of 16, and none touches the next
abbrev pub Spaced : ℕ → ℕ → List Hole → Type 0
Spaced low high [] = Unit {0}
Spaced low high (h ∷ hs) = (low ≤ h.place) × (h.place % 16 ≡ 0) × (0 < h.size) × (h.size % 16 ≡ 0) × (h.place + h.size ≤ high) × Spaced (h.place + h.size + 1) high hs

-- each hole ends before b
abbrev pub Below : ℕ → List Hole → Type 0
Below b [] = Unit {0}
Below b (h ∷ hs) = (h.place + h.size < b) × Below b hs

-- the first hole, if there is one, begins after b
abbrev pub After : ℕ → List Hole → Type 0
After b [] = Unit {0}
After b (h ∷ hs) = b < h.place
