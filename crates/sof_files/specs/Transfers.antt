-- What a transfer of a whole piece does to a writer.
use Rattle.std.specs.Prelude.{Bool, ℕ, List, Option}
use Rattle.std.specs.Io.KnownBytes.{Appends}
use Rattle.sof_desk.specs.declared.calls.LoadFault.{LoadFault}
use Rattle.sof_desk.specs.declared.calls.LoadFault.TheVariants.{Failed, TooLong, OutOfMemory}
use Rattle.sof_files.specs.declared.transfer.ReadFault.{ReadFault}
use Rattle.sof_files.specs.declared.transfer.ReadFault.TheVariants.{Failed as ReadFailed, TooLong as ReadTooLong, OutOfMemory as ReadOutOfMemory}
use Rattle.sof_desk.specs.Desk.{Part}

-- the bytes that a writer holds, where they are known, grow by the piece, or by a prefix of it where it was not done
pub record Writes (piece : List ℕ) (done : Bool) (old new : Option (List ℕ)) : Type 0 where
  pub part : List ℕ
  pub takes : Part done part piece
  pub appends : Appends old new part

-- the fault of a load whose bytes were not all read
abbrev pub load_fault : ReadFault → LoadFault
load_fault (ReadFailed reason) = Failed
load_fault ReadTooLong = TooLong
load_fault ReadOutOfMemory = OutOfMemory
