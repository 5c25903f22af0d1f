-- The files that a desk over real files reads, as far as their readers tell.
use Rattle.std.specs.Prelude.{◌≡◌, ℕ, Bool, true, false, nat_eq, List, [], map, find, Option, Some, None}
use Rattle.std.specs.Io.KnownBytes.{Consumes, IsAtEnd, Keeps}
use Rattle.sof_desk.specs.Desk.{DeskAct, Create, Put, Open}

-- the slot of a file and its name, and the bytes that its reader tells that it will give
pub record InView : Type 0 where
  pub slot : ℕ
  pub name : List ℕ
  pub left : Option (List ℕ)

abbrev pub opens_of : List InView → List ℕ
opens_of files = map (λ f. f.slot) files

-- each slot with the name of its file
abbrev pub in_names : List InView → List (ℕ × List ℕ)
in_names files = map (λ f. (f.slot, f.name)) files

abbrev pub left_in : Option InView → Option (List ℕ)
left_in None = None
left_in (Some file) = file.left

-- the bytes that the file of a slot will give
abbrev pub left_in_file : ℕ → List InView → Option (List ℕ)
left_in_file slot files = left_in (find (λ f. nat_eq f.slot slot) files)

-- the files of all other slots will give what they would have given before
abbrev pub SameLeftBeside : ℕ → List InView → List InView → Type 0
SameLeftBeside slot old new = (other : ℕ) → nat_eq slot other ≡ false → left_in_file other new ≡ left_in_file other old

-- which files a call keeps: all, but the one of a slot that was opened
abbrev pub KeepsLeft : DeskAct → (done : Bool) → List InView → List InView → Type 0
KeepsLeft (Create slot name) done old new = new ≡ old
KeepsLeft (Put place piece) done old new = new ≡ old
KeepsLeft (Open slot name) true old new = SameLeftBeside slot old new
KeepsLeft (Open slot name) false old new = new ≡ old

-- what is left of a file after a read: all but the bytes that it got, which are none only at the end
abbrev pub LeavesOf : (got : Option (List ℕ)) (old new : Option (List ℕ)) → Type 0
LeavesOf None old new = Keeps old new
LeavesOf (Some bytes) old new = Consumes old new bytes × (bytes ≡ [] → IsAtEnd new)
