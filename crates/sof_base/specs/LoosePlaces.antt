-- Which places of a spelling are loose, and what bytes hold there
use Rattle.std.specs.Prelude.{◌≡◌, ℕ, zero, suc, Bool, true, false, List, [], ◌∷◌, length, slice_index}
use Rattle.sof_base.specs.Cells.{Cell, written, Fixed, Loose}

-- the loose places
unfoldable pub is_loose : List Cell → ℕ → Bool
is_loose [] i = false
is_loose (Fixed x ∷ cs) zero = false
is_loose (Loose x ∷ cs) zero = true
is_loose (c ∷ cs) (suc i) = is_loose cs i

-- one length, and the same outside the loose places
abbrev pub AgreesOutsideLoose : List ℕ → List Cell → Type 0
AgreesOutsideLoose b cs = (length b ≡ length (written cs)) × ((i : ℕ) → is_loose cs i ≡ false → slice_index b i ≡ slice_index (written cs) i)

-- and inside them
abbrev pub IsCanonical : List ℕ → List Cell → Type 0
IsCanonical b cs = (i : ℕ) → is_loose cs i ≡ true → slice_index b i ≡ slice_index (written cs) i
