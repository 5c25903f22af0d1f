-- The files that a desk in memory holds.
use Rattle.std.specs.Prelude.{ℕ, Bool, true, false, nat_eq, map, List, [], length, Option, Some, None, if◌then◌else◌}
use Rattle.std.specs.Str.{bytes_eq}
use Rattle.sof_desk.specs.declared.calls.FileUse.{FileUse}
use Rattle.sof_desk.specs.declared.calls.FileUse.TheVariants.{ToRead, ToWrite}
use Rattle.sof_desk.specs.declared.file.Role.{Role}
use Rattle.sof_desk.specs.declared.file.Role.TheVariants.{Input, Output, Tied, Left}
use Rattle.sof_desk.specs.Edits.{changed_first}
use Rattle.sof_desk.specs.Room.{Room, room_with_piece, takes_whole}

-- a file: its name, its bytes with their room, and what it is for
pub record HeldFile : Type 0 where
  pub name : List ℕ
  pub room : Room
  pub role : Role

-- a file of these bytes, to be loaded
abbrev pub input_file : (name bytes : List ℕ) → HeldFile
input_file name bytes = record { name = name; room = record { bytes = bytes; size = length bytes }; role = Input }

-- an empty file with room for so many bytes, to be created
abbrev pub output_file : (name : List ℕ) (size : ℕ) → HeldFile
output_file name size = record { name = name; room = record { bytes = []; size = size }; role = Output }

-- whether a file has a name
abbrev pub named : List ℕ → HeldFile → Bool
named name file = bytes_eq file.name name

-- whether a role is that of a slot
abbrev pub is_tied : ℕ → Role → Bool
is_tied slot Input = false
is_tied slot Output = false
is_tied slot (Tied other) = nat_eq other slot
is_tied slot Left = false

-- whether a slot was created for a file and for no later one
abbrev pub tied : ℕ → HeldFile → Bool
tied slot file = is_tied slot file.role

-- the bytes of a file of a role that are loaded: those of an input
abbrev pub bytes_in_role : Role → List ℕ → Option (List ℕ)
bytes_in_role Input bytes = Some bytes
bytes_in_role Output bytes = None
bytes_in_role (Tied slot) bytes = None
bytes_in_role Left bytes = None

-- the bytes of a file that are loaded
abbrev pub loaded_of : Option HeldFile → Option (List ℕ)
loaded_of None = None
loaded_of (Some file) = bytes_in_role file.role file.room.bytes

-- how a file of a role is used: an input is there to be read alone, and an output until a slot was created for it for nothing
abbrev pub use_in_role : Role → Option FileUse
use_in_role Input = Some ToRead
use_in_role Output = None
use_in_role (Tied slot) = Some ToWrite
use_in_role Left = Some ToWrite

-- how a file is used
abbrev pub use_of_file : Option HeldFile → Option FileUse
use_of_file None = None
use_of_file (Some file) = use_in_role file.role

-- the bytes that were appended to the file of a slot: none where no slot was created
abbrev pub appended_of : Option HeldFile → List ℕ
appended_of None = []
appended_of (Some file) = file.room.bytes

-- whether a role is that of an output which no slot was created for
abbrev pub is_output : Role → Bool
is_output Input = false
is_output Output = true
is_output (Tied slot) = false
is_output Left = false

-- whether a slot can be created for a file
abbrev pub can_create : Option HeldFile → Bool
can_create None = false
can_create (Some file) = is_output file.role

-- a role after a slot was created for another file
abbrev pub role_without : ℕ → Role → Role
role_without slot Input = Input
role_without slot Output = Output
role_without slot (Tied other) = if nat_eq other slot then Left else Tied other
role_without slot Left = Left

-- a file after a slot was created for another one
abbrev pub without_slot : ℕ → HeldFile → HeldFile
without_slot slot file = record file { role = role_without slot file.role }

-- a file that a slot was just created for: it is empty
abbrev pub file_with_slot : ℕ → HeldFile → HeldFile
file_with_slot slot file = record file { room = record { bytes = []; size = file.room.size }; role = Tied slot }

-- the files after a slot was created for a name
abbrev pub files_with_slot : ℕ → List ℕ → List HeldFile → List HeldFile
files_with_slot slot name files = changed_first (named name) (file_with_slot slot) (map (without_slot slot) files)

-- a file after a piece
abbrev pub file_with_piece : Option ℕ → List ℕ → HeldFile → HeldFile
file_with_piece planned piece file = record file { room = room_with_piece file.room planned piece }

-- whether a file takes a piece whole
abbrev pub file_takes_whole : Option ℕ → List ℕ → Option HeldFile → Bool
file_takes_whole planned piece None = false
file_takes_whole planned piece (Some file) = takes_whole file.room planned piece
