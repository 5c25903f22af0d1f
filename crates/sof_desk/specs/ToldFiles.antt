-- The files to which lines are told.
use Rattle.std.specs.Prelude.{◌≡◌, List, Some}
use Rattle.sof_desk.specs.declared.calls.FileUse.{FileUse}
use Rattle.sof_desk.specs.declared.calls.FileUse.TheVariants.{ToTell}
use Rattle.sof_desk.specs.Desk.{DeskMeaning, DeskCall, DeskLed, TookFile}

-- lines are told to a file
abbrev pub IsTold : {D : Type 0} (means : DeskMeaning D) → D → means.File → Type 0
IsTold means d file = means.use_of d file ≡ Some ToTell

-- they are told to it after any calls too
abbrev pub ToldStays : {D : Type 0} → DeskMeaning D → Type 0
ToldStays {D} means = (old new : D) (calls : List DeskCall) (file : means.File) → DeskLed means old calls new → IsTold means old file → IsTold means new file

-- no call takes such a file
abbrev pub NeverTaken : {D : Type 0} → DeskMeaning D → Type 0
NeverTaken {D} means = (usage : FileUse) (old new : D) (took : TookFile means usage old new) → IsTold means old took.file → ⊥
