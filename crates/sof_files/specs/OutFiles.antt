-- The files that a desk over real files appends to, as far as their writers tell.
use Rattle.std.specs.Prelude.{◌≡◌, ◌⊎◌, ◌≤◌, ℕ, Bool, true, false, nat_eq, List, [], get_or, map, find, Option, Some, None}
use Rattle.std.specs.List.{All}
use Rattle.std.specs.Io.KnownBytes.{Keeps}
use Rattle.sof_desk.specs.Desk.{DeskAct, Create, Put, Open, Slot, Spoken}
use Rattle.sof_files.specs.Transfers.{Writes}
use Rattle.sof_files.specs.declared.trouble.SayFault.{SayFault}
use Rattle.sof_files.specs.declared.trouble.SayFault.TheVariants.{Unsaid, Unemptied}

-- the slot of a file and its name, the bytes that the file was given where its writer tells them, those of them that are not yet
-- written, and whether it is still to be emptied
pub record OutView : Type 0 where
  pub slot : ℕ
  pub name : List ℕ
  pub given : Option (List ℕ)
  pub kept : List ℕ
  pub stale : Bool

-- what a writer tells that it holds, once it is there
abbrev pub contents_in : {F : Type 0} → (F → Option (List ℕ)) → Option F → Option (List ℕ)
contents_in contents None = None
contents_in contents (Some file) = contents file

abbrev pub slots_of : List OutView → List ℕ
slots_of files = map (λ f. f.slot) files

-- each slot with the name of its file
abbrev pub out_names : List OutView → List (ℕ × List ℕ)
out_names files = map (λ f. (f.slot, f.name)) files

abbrev pub given_of : Option OutView → Option (List ℕ)
given_of None = None
given_of (Some file) = file.given

-- what the file of a slot was given
abbrev pub given_at : ℕ → List OutView → Option (List ℕ)
given_at slot files = given_of (find (λ f. nat_eq f.slot slot) files)

-- the files of all other slots were given what they were given before
abbrev pub SameBeside : ℕ → List OutView → List OutView → Type 0
SameBeside slot old new = (other : ℕ) → nat_eq slot other ≡ false → given_at other new ≡ given_at other old

-- each file was given what it was given before
abbrev pub SameGiven : List OutView → List OutView → Type 0
SameGiven old new = (slot : ℕ) → Keeps (given_at slot old) (given_at slot new)

-- all bytes are written
abbrev pub NoneKept : List OutView → Type 0
NoneKept files = All (λ f. f.kept ≡ []) files

-- so far the files from a place on, and those for which no byte was kept, are as they were
abbrev pub UntouchedFrom : ℕ → List OutView → List OutView → Type 0
UntouchedFrom n old new = (i : ℕ) (d : OutView) → (((get_or old i d).kept ≡ []) ⊎ (n ≤ i)) → get_or new i d ≡ get_or old i d

-- a file for which no byte was kept is as it was
abbrev pub Untouched : List OutView → List OutView → Type 0
Untouched old new = (i : ℕ) (d : OutView) → (get_or old i d).kept ≡ [] → get_or new i d ≡ get_or old i d

-- where the line did not come
abbrev pub UntouchedWhere : SayFault → List OutView → List OutView → Type 0
UntouchedWhere (Unsaid trouble) old new = Untouched old new
UntouchedWhere (Unemptied trouble) old new = Unit {0}

-- what the files are given by a call: a piece, or a prefix of it, reaches its slot and no other; and once a line is said, no
-- byte that came before it is kept back
abbrev pub GivesFiles : DeskAct → Bool → List OutView → List OutView → Type 0
GivesFiles (Create slot name) done old new = SameBeside slot old new
GivesFiles (Put (Slot slot) piece) done old new = Writes piece done (given_at slot old) (given_at slot new) × SameBeside slot old new
GivesFiles (Put Spoken piece) done old new = SameGiven old new × (done ≡ true → NoneKept new)
GivesFiles (Open slot name) done old new = new ≡ old
