-- Bytes that were said.
use Rattle.std.specs.Prelude.{◌≡◌, ℕ, List, ◌++◌, if◌then◌else◌}
use Rattle.sof_desk.specs.Desk.{DeskMeaning, DeskPlace, Spoken, same_place, with_more}

-- these bytes were said, and nothing else was written
abbrev pub Spoke : {D : Type 0} → DeskMeaning D → List ℕ → D → D → Type 0
Spoke means part old new = (place : DeskPlace) → means.wrote new place ≡ (if same_place Spoken place then with_more (means.wrote old place) part else means.wrote old place)

-- a front of a text
abbrev pub IsFront : List ℕ → List ℕ → Type 0
IsFront part text = (rest : List ℕ) × (part ++ rest ≡ text)
