-- What a spelling says of each byte of a file.
use Rattle.std.specs.Prelude.{◌≡◌, ℕ, List, [], ◌∷◌, map}

-- a byte that is to be so, or one that is ignored on reading and written so
pub data Cell : Type 0 where
  Fixed : ℕ → Cell
  Loose : ℕ → Cell

-- the byte that is written
abbrev pub byte_of : Cell → ℕ
byte_of (Fixed b) = b
byte_of (Loose b) = b

-- bytes that are all to be so, and bytes that are all ignored
abbrev pub fixed : List ℕ → List Cell
fixed bytes = map Fixed bytes

abbrev pub loose : List ℕ → List Cell
loose bytes = map Loose bytes

-- the bytes that are written
abbrev pub written : List Cell → List ℕ
written cells = map byte_of cells

-- bytes have the length of the cells, and agree with them outside the loose ones
unfoldable pub Fits : List ℕ → List Cell → Type 0
Fits [] [] = Unit {0}
Fits (b ∷ bs) (Fixed x ∷ cs) = (b ≡ x) × Fits bs cs
Fits (b ∷ bs) (Loose x ∷ cs) = Fits bs cs
Fits _ _ = ⊥
