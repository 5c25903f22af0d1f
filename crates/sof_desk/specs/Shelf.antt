-- A desk in memory as a value.
use Rattle.std.specs.Prelude.{ℕ, ◌-◌, ◌^◌, find, List, [], Option}
use Rattle.std.specs.Option.{option_map}
use Rattle.sof_desk.specs.declared.open_slot.OpenSlot.{OpenSlot}
use Rattle.sof_desk.specs.declared.plan.Planned.{Planned}
use Rattle.sof_desk.specs.Edits.{put_first}
use Rattle.sof_desk.specs.Plans.{is_for}
use Rattle.sof_desk.specs.Room.{Room}
use Rattle.sof_desk.specs.HeldFiles.{HeldFile, named}

-- the files, the open slots, how many bytes a read gives at most, what was said, the calls that are planned to fail, how many
-- calls there were, and how many failed
pub record Shelf : Type 0 where
  pub files : List HeldFile
  pub opens : List OpenSlot
  pub most : ℕ
  pub said : Room
  pub plans : List Planned
  pub calls : ℕ
  pub faults : ℕ

-- a desk with nothing on it, and room for so many bytes to be said: its reads fill as much room as there can be
abbrev pub empty_shelf : ℕ → Shelf
empty_shelf size = record { files = []; opens = []; most = 2 ^ 64 - 1; said = record { bytes = []; size = size }; plans = []; calls = 0; faults = 0 }

-- a desk that holds a file more, in the place of the one of its name where there is one
abbrev pub with_file : Shelf → HeldFile → Shelf
with_file s file = record s { files = put_first (named file.name) file s.files }

-- a desk whose call of a number is planned to fail, in the place of an earlier plan for it where there is one
abbrev pub with_planned : Shelf → (number passes : ℕ) → Shelf
with_planned s number passes = record s { plans = put_first (is_for number) (record { number = number; passes = passes }) s.plans }

-- the bytes that a desk holds under a name
abbrev pub file_bytes : Shelf → List ℕ → Option (List ℕ)
file_bytes s name = option_map (λ file. file.room.bytes) (find (named name) s.files)

-- a desk whose reads give at most so many bytes
abbrev pub with_most : Shelf → ℕ → Shelf
with_most s most = record s { most = most }
