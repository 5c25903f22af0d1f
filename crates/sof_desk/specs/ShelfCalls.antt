-- What each call on a desk in memory does: for each call one answer and one desk after it, but for want of memory.
use Rattle.std.specs.Prelude.{◌≡◌, ◌⊎◌, ℕ, min, Bool, nat_le, ◌&&◌, find, List, length, take, Option, Some, None, Ok, Err, is_some, is_none, option_map, MatchBool, if◌then◌else◌}
use Rattle.std.specs.List.{position_or_len}
use Rattle.sof_desk.specs.declared.calls.FileUse.{FileUse}
use Rattle.sof_desk.specs.declared.calls.LoadFault.TheVariants.{Failed, TooLong, OutOfMemory}
use Rattle.sof_desk.specs.Counts.{one_more}
use Rattle.sof_desk.specs.Desk.{DeskMeaning, DeskPlace, Slot, Spoken, DeskAct, Create, Put, Open, Heard}
use Rattle.sof_desk.specs.Edits.{changed_first}
use Rattle.sof_desk.specs.Room.{room_with_piece, takes_whole}
use Rattle.sof_desk.specs.Plans.{planned_at}
use Rattle.sof_desk.specs.HeldFiles.{HeldFile, named, tied, loaded_of, use_of_file, appended_of, can_create, files_with_slot, file_with_piece, file_takes_whole}
use Rattle.sof_desk.specs.OpenSlots.{is_opened, can_open, with_opened, with_read, left_under}
use Rattle.sof_desk.specs.Shelf.{Shelf}

-- what a name gives to be loaded
abbrev pub shelf_holds : Shelf → List ℕ → Option (List ℕ)
shelf_holds s name = loaded_of (find (named name) s.files)

-- how the file of a name is used
abbrev pub shelf_uses : Shelf → List ℕ → Option FileUse
shelf_uses s name = use_of_file (find (named name) s.files)

-- the file that a slot was created for
abbrev pub file_of_slot : Shelf → ℕ → Option HeldFile
file_of_slot s slot = find (tied slot) s.files

-- what was written at a place
abbrev pub shelf_wrote : Shelf → DeskPlace → Option (List ℕ)
shelf_wrote s Spoken = Some s.said.bytes
shelf_wrote s (Slot slot) = Some (appended_of (file_of_slot s slot))

-- how many bytes the next call passes, where it is planned to fail
abbrev pub planned_passes : Shelf → Option ℕ
planned_passes s = planned_at (one_more s.calls) s.plans

-- a desk after a call that changes no file: it is counted, and so is its failure
abbrev pub counted : Shelf → (done : Bool) → Shelf
counted s done = record s { calls = one_more s.calls; faults = if done then s.faults else one_more s.faults }

-- the bytes that the next call could load: none where it is planned to fail or the name gives none
abbrev pub loadable : Shelf → List ℕ → Option (List ℕ)
loadable s name = if is_some (planned_passes s) then None else shelf_holds s name

-- what a load of these bytes answers
abbrev pub Hears : Option (List ℕ) → (limit : ℕ) → Heard → Type 0
Hears None limit heard = heard ≡ Err Failed
Hears (Some bytes) limit heard = MatchBool (nat_le (length bytes) limit) ((heard ≡ Ok bytes) ⊎ (heard ≡ Err OutOfMemory)) (heard ≡ Err TooLong)

-- what a load does: its answer, and that a failure is counted
pub record ShelfLoads (name : List ℕ) (limit : ℕ) (heard : Heard) (old new : Shelf) : Type 0 where
  pub hears : Hears (loadable old name) limit heard
  pub after : new ≡ counted old (is_some (loadable old name))

-- whether a call is done
abbrev pub shelf_does : Shelf → DeskAct → Bool
shelf_does s (Create slot name) = is_none (planned_passes s) && can_create (find (named name) s.files)
shelf_does s (Put Spoken piece) = takes_whole s.said (planned_passes s) piece
shelf_does s (Put (Slot slot) piece) = file_takes_whole (planned_passes s) piece (file_of_slot s slot)
shelf_does s (Open slot name) = is_some (loadable s name) && can_open slot s.opens

-- a desk with what a call changes, but for the counts: a create or an open that is not done changes nothing
abbrev pub shelf_with : Shelf → DeskAct → Shelf
shelf_with s (Create slot name) = if shelf_does s (Create slot name) then record s { files = files_with_slot slot name s.files } else s
shelf_with s (Put Spoken piece) = record s { said = room_with_piece s.said (planned_passes s) piece }
shelf_with s (Put (Slot slot) piece) = record s { files = changed_first (tied slot) (file_with_piece (planned_passes s) piece) s.files }
shelf_with s (Open slot name) = if shelf_does s (Open slot name) then record s { opens = with_opened slot (position_or_len (named name) s.files) s.opens } else s

-- what another call does: its answer, what it writes, and that a failure is counted
pub record ShelfActs (act : DeskAct) (done : Bool) (old new : Shelf) : Type 0 where
  pub answer : done ≡ shelf_does old act
  pub after : new ≡ counted (shelf_with old act) (shelf_does old act)

-- what is still to be read of a slot
abbrev pub shelf_unread : Shelf → ℕ → Option (List ℕ)
shelf_unread s slot = left_under slot s.opens s.files

-- what a read gets: the next bytes, as many as were asked for and a read gives at most, and none where it is planned to fail
abbrev pub shelf_gets : Shelf → (slot size : ℕ) → Option (List ℕ)
shelf_gets s slot size = if is_some (planned_passes s) then None else option_map (take (min size s.most)) (shelf_unread s slot)

-- a desk after a read, but for the counts
abbrev pub shelf_past : Shelf → (slot : ℕ) (got : Option (List ℕ)) → Shelf
shelf_past s slot None = s
shelf_past s slot (Some bytes) = record s { opens = with_read slot (length bytes) s.opens }

-- what a read does: what it gets, that its slot is read on, and that a failure is counted
pub record ShelfReads (slot size : ℕ) (got : Option (List ℕ)) (old new : Shelf) : Type 0 where
  pub gets : got ≡ shelf_gets old slot size
  pub after : new ≡ counted (shelf_past old slot got) (is_some got)

-- what a desk in memory means: it tells all
abbrev pub shelf : DeskMeaning Shelf
shelf =
    record {
      faults = λ s. s.faults;
      holds = shelf_holds;
      wrote = shelf_wrote;
      created = λ s slot. is_some (file_of_slot s slot);
      opened = λ s slot. is_opened slot s.opens;
      unread = shelf_unread;
      File = List ℕ;
      use_of = shelf_uses;
      load = ShelfLoads;
      act = ShelfActs;
      read = ShelfReads;
    }
