-- The files that a desk over real files has taken, each for its use.
use Rattle.std.specs.Prelude.{◌≡◌, Bool, true, false, nat_eq, ◌&&◌, List, [], ◌∷◌, ◌++◌, find, ⊤, Option, Some, None, is_some, option_map, if◌then◌else◌}
use Rattle.sof_desk.specs.declared.calls.FileUse.{FileUse}
use Rattle.sof_desk.specs.declared.calls.FileUse.TheVariants.{ToRead, ToWrite, ToTell}
use Rattle.sof_files.specs.declared.file_use.FileId.{FileId}
use Rattle.sof_files.specs.declared.file_use.UsedFile.{UsedFile}
use Rattle.sof_desk.specs.Desk.{DeskAct, Create, Put, Open}
use Rattle.sof_desk.specs.FileUses.{may_use}

-- whether it is this file: one device and one number there
abbrev pub is_same_file : FileId → UsedFile → Bool
is_same_file file used = nat_eq used.file.device file.device && nat_eq used.file.number file.number

-- how a file is used
abbrev pub use_in : List UsedFile → FileId → Option FileUse
use_in files file = option_map (λ used. used.usage) (find (is_same_file file) files)

-- a file to which lines are told, as one that is used so
abbrev pub told_to : Option FileId → List UsedFile
told_to None = []
told_to (Some file) = record { file = file; usage = ToTell } ∷ []

-- whether a file may be taken; a special file may be shared
abbrev pub MayTake : FileUse → Option FileId → List UsedFile → Type 0
MayTake usage None files = ⊤
MayTake usage (Some file) files = may_use usage (use_in files file) ≡ true

-- the files with one more, unless it is one of them or a special file
abbrev pub used_with : FileUse → Option FileId → List UsedFile → List UsedFile
used_with usage None files = files
used_with usage (Some file) files = if is_some (use_in files file) then files else files ++ record { file = file; usage = usage } ∷ []

-- a file is taken for a use, which the use that it has allows
abbrev pub IsTaken : FileUse → Option FileId → (old new : List UsedFile) → Type 0
IsTaken usage file old new = MayTake usage file old × (new ≡ used_with usage file old)

-- some file is taken for a use
abbrev pub TakesFile : FileUse → (old new : List UsedFile) → Type 0
TakesFile usage old new = (file : Option FileId) × IsTaken usage file old new

-- where a call was done, some file is taken for a use, and else none
abbrev pub TakesWhere : FileUse → (done : Bool) → (old new : List UsedFile) → Type 0
TakesWhere usage true old new = TakesFile usage old new
TakesWhere usage false old new = new ≡ old

-- what a call takes: a create a file to be written, an open one to be read, and any other call none
abbrev pub TakesForCall : DeskAct → (done : Bool) → (old new : List UsedFile) → Type 0
TakesForCall (Create slot name) true old new = TakesFile ToWrite old new
TakesForCall (Create slot name) false old new = new ≡ old
TakesForCall (Put place piece) done old new = new ≡ old
TakesForCall (Open slot name) true old new = TakesFile ToRead old new
TakesForCall (Open slot name) false old new = new ≡ old
