-- The steps of a call on a desk in memory are the call.
use Rattle.std.proofs.Common.{◌≡◌, ◌≤◌, Bool, true, false, List, ℕ, length, take, min, refl, sym, ◌∙◌, Option, Some, None, option_map, is_some, is_none, ◌&&◌, find, if◌then◌else◌, length-take-le}
use Rattle.std.specs.List.{position_or_len}
use Rattle.sof_desk.specs.Counts.{one_more}
use Rattle.sof_desk.specs.Desk.{Create, Put, Open, Slot, Spoken}
use Rattle.sof_desk.specs.Edits.{changed_first}
use Rattle.sof_desk.specs.Room.{Room, room_with_piece, takes_whole}
use Rattle.sof_desk.specs.HeldFiles.{HeldFile, named, tied, can_create, files_with_slot, file_with_piece, file_takes_whole}
use Rattle.sof_desk.specs.OpenSlots.{can_open, with_opened, with_read}
use Rattle.sof_desk.specs.Shelf.{Shelf}
use Rattle.sof_desk.specs.ShelfCalls.{planned_passes, counted, shelf_holds, shelf_unread, shelf_does, shelf_with, ShelfActs, ShelfReads}

-- a desk whose call was counted
abbrev pub called : Shelf → Shelf
called s = record s { calls = one_more s.calls }

-- a desk after an answer
abbrev pub answered : Shelf → Bool → Shelf
answered s done = record s { faults = if done then s.faults else one_more s.faults }

pub says : (old mid new : Shelf) (planned : Option ℕ) (piece : List ℕ) (ok done : Bool) (said : Room) → mid ≡ called old → planned ≡ planned_passes old → done ≡ takes_whole mid.said planned piece → said ≡ room_with_piece mid.said planned piece → new ≡ answered (record mid { said = said }) done → ok ≡ done → ShelfActs (Put Spoken piece) ok old new
says old mid new planned piece ok done said mid_is planned_is done_is said_is new_is ok_is =
    record { answer = ok_is ∙ done_is ∙ rw (mid_is, planned_is) refl; after = rw (new_is, said_is, done_is, mid_is, planned_is) refl }

pub appends : (old mid new : Shelf) (planned : Option ℕ) (slot : ℕ) (piece : List ℕ) (ok done : Bool) (files : List HeldFile) → mid ≡ called old → planned ≡ planned_passes old → done ≡ file_takes_whole planned piece (find (tied slot) mid.files) → files ≡ changed_first (tied slot) (file_with_piece planned piece) mid.files → new ≡ answered (record mid { files = files }) done → ok ≡ done → ShelfActs (Put (Slot slot) piece) ok old new
appends old mid new planned slot piece ok done files mid_is planned_is done_is files_is new_is ok_is =
    record { answer = ok_is ∙ done_is ∙ rw (mid_is, planned_is) refl; after = rw (new_is, files_is, done_is, mid_is, planned_is) refl }

pub creates : (old mid at new : Shelf) (planned : Option ℕ) (slot : ℕ) (name : List ℕ) (ok done : Bool) (files : List HeldFile) → mid ≡ called old → planned ≡ planned_passes old → is_none planned ≡ true → done ≡ can_create (find (named name) mid.files) → files ≡ (if done then files_with_slot slot name mid.files else mid.files) → at ≡ record mid { files = files } → new ≡ answered at done → ok ≡ done → ShelfActs (Create slot name) ok old new
creates old mid at new planned slot name ok done files mid_is planned_is free done_is files_is at_is new_is ok_is =
    record { answer = ok_is ∙ does; after = rw (new_is, at_is, files_is, mid_is) (by_does done does) }
  where
    does : done ≡ (is_none (planned_passes old) && can_create (find (named name) old.files))
    does = rw (← planned_is, free, done_is, mid_is) refl

    by_does : (b : Bool) → b ≡ (is_none (planned_passes old) && can_create (find (named name) old.files)) → answered (record (called old) { files = if b then files_with_slot slot name old.files else old.files }) b ≡ counted (shelf_with old (Create slot name)) (shelf_does old (Create slot name))
    by_does true is = rw (← is) refl
    by_does false is = rw (← is) refl

pub create_fails : (old mid at new : Shelf) (planned : Option ℕ) (slot : ℕ) (name : List ℕ) (ok done : Bool) → mid ≡ called old → planned ≡ planned_passes old → done ≡ is_none planned → is_none planned ≡ false → at ≡ mid → new ≡ answered at done → ok ≡ done → ShelfActs (Create slot name) ok old new
create_fails old mid at new planned slot name ok done mid_is planned_is done_is plans at_is new_is ok_is =
    record { answer = ok_is ∙ done_is ∙ plans ∙ rw (← planned_is, plans) refl; after = rw (new_is, at_is, done_is, plans, mid_is, ← planned_is, plans) refl }

pub opens : (old mid at new : Shelf) (planned : Option ℕ) (slot : ℕ) (name : List ℕ) (ok done : Bool) → mid ≡ called old → planned ≡ planned_passes old → is_none planned ≡ true → done ≡ (is_some (shelf_holds mid name) && can_open slot mid.opens) → at ≡ record mid { opens = if done then with_opened slot (position_or_len (named name) mid.files) mid.opens else mid.opens } → new ≡ answered at done → ok ≡ done → ShelfActs (Open slot name) ok old new
opens old mid at new (Some passes) slot name ok done mid_is planned_is free done_is at_is new_is ok_is = cc
opens old mid at new None slot name ok done mid_is planned_is free done_is at_is new_is ok_is =
    record { answer = ok_is ∙ does; after = rw (new_is, at_is, mid_is) (by_does done does) }
  where
    does : done ≡ shelf_does old (Open slot name)
    does = done_is ∙ rw (mid_is, ← planned_is) refl

    by_does : (b : Bool) → b ≡ shelf_does old (Open slot name) → answered (record (called old) { opens = if b then with_opened slot (position_or_len (named name) old.files) old.opens else old.opens }) b ≡ counted (shelf_with old (Open slot name)) (shelf_does old (Open slot name))
    by_does true is = rw (← is) refl
    by_does false is = rw (← is) refl

pub open_fails : (old mid at new : Shelf) (planned : Option ℕ) (slot : ℕ) (name : List ℕ) (ok done : Bool) → mid ≡ called old → planned ≡ planned_passes old → done ≡ is_none planned → is_none planned ≡ false → at ≡ mid → new ≡ answered at done → ok ≡ done → ShelfActs (Open slot name) ok old new
open_fails old mid at new None slot name ok done mid_is planned_is done_is plans at_is new_is ok_is = cc
open_fails old mid at new (Some passes) slot name ok done mid_is planned_is done_is plans at_is new_is ok_is =
    record { answer = ok_is ∙ done_is ∙ rw (← planned_is) refl; after = rw (new_is, at_is, done_is, mid_is, ← planned_is) refl }

pub reads : (old mid new : Shelf) (planned : Option ℕ) (slot size count : ℕ) (out : List ℕ) → mid ≡ called old → planned ≡ planned_passes old → planned ≡ None → count ≤ length out → option_map (take (min size mid.most)) (shelf_unread mid slot) ≡ Some (take count out) → new ≡ record mid { opens = with_read slot count mid.opens } → ShelfReads slot size (Some (take count out)) old new
reads old mid new planned slot size count out mid_is planned_is free within got new_is =
    record {
      gets = rw (← planned_is, free) (sym (rw mid_is at got));
      after = rw (new_is, mid_is, length-take-le count out within) refl;
    }
