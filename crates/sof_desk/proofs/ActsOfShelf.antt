-- A desk in memory does what a desk has to do.
use Rattle.std.proofs.Common.{◌≡◌, ◌⊎◌, inl, inr, ◌≤◌, ℕ, Bool, true, false, nat_eq, List, [], ◌++◌, length, take, find, Option, Some, None, is_some, is_none, ◌&&◌, refl, sym, ◌∙◌, ap, subst, arith, if◌then◌else◌}
use Rattle.std.specs.List.{position_or_len}
use Rattle.std.specs.Option.{option_map}
use Rattle.sof_desk.specs.declared.calls.FileUse.TheVariants.{ToRead}
use Rattle.sof_desk.specs.Counts.{one_more}
use Rattle.sof_desk.specs.FileUses.{may_use}
use Rattle.sof_desk.specs.Desk.{DeskPlace, Slot, Spoken, DeskAct, Create, Put, Open, CountRose, Part, Acted, WasRead, Gets, Kept, unread_past, written_after, created_after, with_more}
use Rattle.sof_desk.specs.Room.{room_taken}
use Rattle.sof_desk.specs.HeldFiles.{HeldFile, appended_of, named, tied, can_create, files_with_slot, file_with_piece, file_takes_whole}
use Rattle.sof_desk.specs.Edits.{changed_first}
use Rattle.sof_desk.specs.OpenSlots.{can_open, with_opened, is_opened}
use Rattle.sof_desk.specs.Shelf.{Shelf}
use Rattle.sof_desk.specs.ShelfCalls.{shelf, shelf_does, shelf_with, counted, planned_passes, file_of_slot, ShelfActs, shelf_holds, shelf_uses, shelf_past, shelf_unread, ShelfReads}
use Rattle.sof_desk.proofs.CountLaws.{same_number, le-one_more, rose-one_more, kept_faults, failed_faults}
use Rattle.sof_desk.proofs.StillUnread.{left_same, same_loaded-piece, same_loaded-create, is_opened-opened, left-opened, is_opened-read, left-read, gets_front}
use Rattle.sof_desk.proofs.Pieces.{taken_part}
use Rattle.sof_desk.proofs.UsesOfNames.{uses_after_piece, creatable, written_after_create, others_after_create, loaded_read}
use Rattle.sof_desk.proofs.TiedFiles.{loaded_after_piece, other_after_piece, file_after_piece, loaded_after_create, other_after_create, bytes_after_create, tied_after_create}

-- what is said
acted_say : (s : Shelf) (piece : List ℕ) → let done = shelf_does s (Put Spoken piece) in Acted shelf (Put Spoken piece) done s (counted (shelf_with s (Put Spoken piece)) done)
acted_say s piece =
    let planned = planned_passes s in
    record {
      did = record { answer = refl; after = refl };
      failed = failed_faults s.faults (shelf_does s (Put Spoken piece));
      part = take (room_taken s.said planned piece) piece;
      takes = taken_part s.said planned piece;
      wrote = wrote;
      created = λ slot. refl;
      opened = λ slot. refl;
      unread = λ slot. refl;
      took = λ name. refl;
      kept = record { faults = kept_faults s.faults (shelf_does s (Put Spoken piece)); holds = λ name. refl };
    }
  where
    wrote : (place : DeskPlace) → shelf.wrote (counted (shelf_with s (Put Spoken piece)) (shelf_does s (Put Spoken piece))) place ≡ written_after (Put Spoken piece) (shelf_does s (Put Spoken piece)) (take (room_taken s.said (planned_passes s) piece) piece) place (shelf.wrote s place)
    wrote Spoken = refl
    wrote (Slot slot) = refl

-- the part of a piece that a file takes, where there is one
abbrev part_of : Option ℕ → List ℕ → Option HeldFile → List ℕ
part_of planned piece None = []
part_of planned piece (Some file) = take (room_taken file.room planned piece) piece

part_taken : (planned : Option ℕ) (piece : List ℕ) (found : Option HeldFile) → Part (file_takes_whole planned piece found) (part_of planned piece found) piece
part_taken planned piece None = (piece, refl)
part_taken planned piece (Some file) = taken_part file.room planned piece

bytes_after : (planned : Option ℕ) (piece : List ℕ) (found : Option HeldFile) → appended_of (option_map (file_with_piece planned piece) found) ≡ appended_of found ++ part_of planned piece found
bytes_after planned piece None = refl
bytes_after planned piece (Some file) = refl

some_after : (planned : Option ℕ) (piece : List ℕ) (found : Option HeldFile) → is_some (option_map (file_with_piece planned piece) found) ≡ is_some found
some_after planned piece None = refl
some_after planned piece (Some file) = refl

-- the desk after a call
abbrev after_of : Shelf → DeskAct → Shelf
after_of s act = counted (shelf_with s act) (shelf_does s act)

wrote_append : (s : Shelf) (slot : ℕ) (piece : List ℕ) (place : DeskPlace) → shelf.wrote (after_of s (Put (Slot slot) piece)) place ≡ written_after (Put (Slot slot) piece) (shelf_does s (Put (Slot slot) piece)) (part_of (planned_passes s) piece (file_of_slot s slot)) place (shelf.wrote s place)
wrote_append s slot piece Spoken = refl
wrote_append s slot piece (Slot other) = by_test (nat_eq slot other) refl
  where
    by_test : (b : Bool) → nat_eq slot other ≡ b → shelf.wrote (after_of s (Put (Slot slot) piece)) (Slot other) ≡ (if b then with_more (shelf.wrote s (Slot other)) (part_of (planned_passes s) piece (file_of_slot s slot)) else shelf.wrote s (Slot other))
    by_test true same =
        subst (λ n. shelf.wrote (after_of s (Put (Slot slot) piece)) (Slot n) ≡ with_more (shelf.wrote s (Slot n)) (part_of (planned_passes s) piece (file_of_slot s slot))) (same_number slot other same)
        (ap (λ file. Some (appended_of file)) (file_after_piece slot (planned_passes s) piece s.files) ∙ ap (λ (bytes : List ℕ). Some bytes) (bytes_after (planned_passes s) piece (file_of_slot s slot)))
    by_test false differ = ap (λ file. Some (appended_of file)) (other_after_piece slot other (planned_passes s) piece s.files differ)

created_append : (s : Shelf) (slot : ℕ) (piece : List ℕ) (other : ℕ) → shelf.created (after_of s (Put (Slot slot) piece)) other ≡ shelf.created s other
created_append s slot piece other = by_test (nat_eq slot other) refl
  where
    by_test : (b : Bool) → nat_eq slot other ≡ b → shelf.created (after_of s (Put (Slot slot) piece)) other ≡ shelf.created s other
    by_test true same =
        subst (λ n. shelf.created (after_of s (Put (Slot slot) piece)) n ≡ shelf.created s n) (same_number slot other same)
        (ap is_some (file_after_piece slot (planned_passes s) piece s.files) ∙ some_after (planned_passes s) piece (file_of_slot s slot))
    by_test false differ = ap is_some (other_after_piece slot other (planned_passes s) piece s.files differ)

-- what is appended
acted_append : (s : Shelf) (slot : ℕ) (piece : List ℕ) → Acted shelf (Put (Slot slot) piece) (shelf_does s (Put (Slot slot) piece)) s (after_of s (Put (Slot slot) piece))
acted_append s slot piece =
    record {
      did = record { answer = refl; after = refl };
      failed = failed_faults s.faults (shelf_does s (Put (Slot slot) piece));
      part = part_of (planned_passes s) piece (file_of_slot s slot);
      takes = part_taken (planned_passes s) piece (file_of_slot s slot);
      wrote = wrote_append s slot piece;
      created = created_append s slot piece;
      opened = λ other. refl;
      unread = λ other. left_same other s.opens s.files (changed_first (tied slot) (file_with_piece (planned_passes s) piece) s.files) (same_loaded-piece slot (planned_passes s) piece s.files);
      took = λ name. uses_after_piece name slot (planned_passes s) piece s.files;
      kept =
          record {
            faults = kept_faults s.faults (shelf_does s (Put (Slot slot) piece));
            holds = λ name. loaded_after_piece name slot (planned_passes s) piece s.files;
          };
    }

-- the desk after a create that is done
abbrev made_of : Shelf → ℕ → List ℕ → Shelf
made_of s slot name = counted (record s { files = files_with_slot slot name s.files }) true

wrote_create : (s : Shelf) (slot : ℕ) (name : List ℕ) → can_create (find (named name) s.files) ≡ true → (place : DeskPlace) → shelf.wrote (made_of s slot name) place ≡ written_after (Create slot name) true [] place (shelf.wrote s place)
wrote_create s slot name can Spoken = refl
wrote_create s slot name can (Slot other) = by_test (nat_eq slot other) refl
  where
    by_test : (b : Bool) → nat_eq slot other ≡ b → shelf.wrote (made_of s slot name) (Slot other) ≡ (if b then Some [] else shelf.wrote s (Slot other))
    by_test true same =
        subst (λ n. shelf.wrote (made_of s slot name) (Slot n) ≡ Some []) (same_number slot other same) (ap (λ (bytes : List ℕ). Some bytes) (bytes_after_create slot name s.files can))
    by_test false differ = ap (λ file. Some (appended_of file)) (other_after_create slot other name s.files differ can)

created_create : (s : Shelf) (slot : ℕ) (name : List ℕ) → can_create (find (named name) s.files) ≡ true → (other : ℕ) → shelf.created (made_of s slot name) other ≡ created_after (Create slot name) true other (shelf.created s other)
created_create s slot name can other = by_test (nat_eq slot other) refl
  where
    by_test : (b : Bool) → nat_eq slot other ≡ b → shelf.created (made_of s slot name) other ≡ (if b then true else shelf.created s other)
    by_test true same =
        subst (λ n. shelf.created (made_of s slot name) n ≡ true) (same_number slot other same) (tied_after_create slot name s.files can)
    by_test false differ = ap is_some (other_after_create slot other name s.files differ can)

-- a create that is done needs an output that no slot was created for
done_can : (s : Shelf) (slot : ℕ) (name : List ℕ) → shelf_does s (Create slot name) ≡ true → can_create (find (named name) s.files) ≡ true
done_can s slot name done = both (is_none (planned_passes s)) (can_create (find (named name) s.files)) done
  where
    both : (a b : Bool) → (a && b) ≡ true → b ≡ true
    both true b is = is
    both false b is = cc

-- what is created
acted_create : (s : Shelf) (slot : ℕ) (name : List ℕ) → Acted shelf (Create slot name) (shelf_does s (Create slot name)) s (after_of s (Create slot name))
acted_create s slot name = by_does (shelf_does s (Create slot name)) refl
  where
    by_does : (done : Bool) → shelf_does s (Create slot name) ≡ done → Acted shelf (Create slot name) done s (counted (if done then record s { files = files_with_slot slot name s.files } else s) done)
    by_does true is =
        record {
          did = record { answer = sym is; after = ap (λ (done : Bool). counted (if done then record s { files = files_with_slot slot name s.files } else s) done) (sym is) };
          failed = λ no. cc;
          part = [];
          takes = refl;
          wrote = wrote_create s slot name (done_can s slot name is);
          created = created_create s slot name (done_can s slot name is);
          opened = λ other. refl;
          unread = λ other. left_same other s.opens s.files (files_with_slot slot name s.files) (same_loaded-create slot name s.files (done_can s slot name is));
          took =
              inl (record {
                file = name;
                may = creatable (find (named name) s.files) (done_can s slot name is);
                used = written_after_create slot name s.files (done_can s slot name is);
                others = λ other apart. others_after_create slot name other s.files apart;
              });
          kept =
              record {
                faults = omega arith;
                holds = λ other. loaded_after_create slot name other s.files (done_can s slot name is);
              };
        }
    by_does false is =
        record {
          did = record { answer = sym is; after = ap (λ (done : Bool). counted (if done then record s { files = files_with_slot slot name s.files } else s) done) (sym is) };
          failed = λ no. rose-one_more s.faults;
          part = [];
          takes = refl;
          wrote = wrote;
          created = λ other. refl;
          opened = λ other. refl;
          unread = λ other. refl;
          took = λ other. refl;
          kept = record { faults = le-one_more s.faults; holds = λ other. refl };
        }
      where
        wrote : (place : DeskPlace) → shelf.wrote (counted s false) place ≡ shelf.wrote s place
        wrote Spoken = refl
        wrote (Slot other) = refl

-- an open that is done needs a file that is loaded
done_holds : (s : Shelf) (slot : ℕ) (name : List ℕ) → shelf_does s (Open slot name) ≡ true → is_some (shelf_holds s name) ≡ true
done_holds s slot name done = both (is_some (planned_passes s)) (shelf_holds s name) (can_open slot s.opens) done
  where
    both : (planned : Bool) (held : Option (List ℕ)) (room : Bool) → (is_some (if planned then None else held) && room) ≡ true → is_some held ≡ true
    both true held room is = cc
    both false None room is = is
    both false (Some bytes) room is = refl

-- what is opened
acted_open : (s : Shelf) (slot : ℕ) (name : List ℕ) → Acted shelf (Open slot name) (shelf_does s (Open slot name)) s (after_of s (Open slot name))
acted_open s slot name = by_does (shelf_does s (Open slot name)) refl
  where
    with_open : Shelf
    with_open = record s { opens = with_opened slot (position_or_len (named name) s.files) s.opens }

    by_does : (done : Bool) → shelf_does s (Open slot name) ≡ done → Acted shelf (Open slot name) done s (counted (if done then with_open else s) done)
    by_does true is =
        record {
          did = record { answer = sym is; after = ap (λ (done : Bool). counted (if done then with_open else s) done) (sym is) };
          failed = λ no. cc;
          part = [];
          takes = refl;
          wrote = wrote_open true;
          created = λ other. refl;
          opened = is_opened-opened slot (position_or_len (named name) s.files) s.opens;
          unread = left-opened slot name s.opens s.files (done_holds s slot name is);
          took =
              let read = loaded_read (find (named name) s.files) (done_holds s slot name is) in
              inl (record { file = name; may = ap (may_use ToRead) read; used = read; others = λ other apart. refl });
          kept = record { faults = omega arith; holds = λ other. refl };
        }
      where
        wrote_open : (done : Bool) (place : DeskPlace) → shelf.wrote (counted with_open done) place ≡ shelf.wrote s place
        wrote_open done Spoken = refl
        wrote_open done (Slot other) = refl
    by_does false is =
        record {
          did = record { answer = sym is; after = ap (λ (done : Bool). counted (if done then with_open else s) done) (sym is) };
          failed = λ no. rose-one_more s.faults;
          part = [];
          takes = refl;
          wrote = wrote;
          created = λ other. refl;
          opened = λ other. refl;
          unread = λ other. refl;
          took = λ other. refl;
          kept = record { faults = le-one_more s.faults; holds = λ other. refl };
        }
      where
        wrote : (place : DeskPlace) → shelf.wrote (counted s false) place ≡ shelf.wrote s place
        wrote Spoken = refl
        wrote (Slot other) = refl

acted_as : (act : DeskAct) (s : Shelf) → Acted shelf act (shelf_does s act) s (after_of s act)
acted_as (Create slot name) s = acted_create s slot name
acted_as (Put Spoken piece) s = acted_say s piece
acted_as (Put (Slot slot) piece) s = acted_append s slot piece
acted_as (Open slot name) s = acted_open s slot name

-- a call on a desk in memory does what a desk's call has to do
pub acted : (act : DeskAct) (done : Bool) (old new : Shelf) → ShelfActs act done old new → Acted shelf act done old new
acted act done old new acts =
    subst (λ (b : Bool). Acted shelf act b old new) (sym acts.answer)
    (subst (λ (s : Shelf). Acted shelf act (shelf_does old act) old s) (sym acts.after) (acted_as act old))

-- a read on a desk in memory does what a desk's read has to do
pub was_read : (slot size : ℕ) (got : Option (List ℕ)) (old new : Shelf) → 1 ≤ size → 1 ≤ old.most → ShelfReads slot size got old new → WasRead shelf slot size got old new
was_read slot size got old new one room reads =
    subst (λ (s : Shelf). WasRead shelf slot size got old s) (sym reads.after)
    (record {
      did = record { gets = reads.gets; after = refl };
      failed = λ none. failed got none;
      answers = subst (λ g. Gets (shelf_unread old slot) size g) (sym reads.gets) (gets_front (planned_passes old) (shelf_unread old slot) size old.most one room);
      unread = unread got;
      opened = opened got;
      wrote = wrote got;
      created = created got;
      took = took got;
      kept = kept got;
    })
  where
    after : Option (List ℕ) → Shelf
    after g = counted (shelf_past old slot g) (is_some g)

    failed : (g : Option (List ℕ)) → g ≡ None → CountRose old.faults (after g).faults
    failed None none = rose-one_more old.faults
    failed (Some bytes) none = cc

    unread : (g : Option (List ℕ)) (other : ℕ) → shelf_unread (after g) other ≡ unread_past slot g other (shelf_unread old other)
    unread None other = refl
    unread (Some bytes) other = left-read slot bytes old.opens old.files other

    opened : (g : Option (List ℕ)) (other : ℕ) → is_opened other (after g).opens ≡ is_opened other old.opens
    opened None other = refl
    opened (Some bytes) other = is_opened-read slot (length bytes) old.opens other

    wrote : (g : Option (List ℕ)) (place : DeskPlace) → shelf.wrote (after g) place ≡ shelf.wrote old place
    wrote None Spoken = refl
    wrote None (Slot other) = refl
    wrote (Some bytes) Spoken = refl
    wrote (Some bytes) (Slot other) = refl

    created : (g : Option (List ℕ)) (other : ℕ) → shelf.created (after g) other ≡ shelf.created old other
    created None other = refl
    created (Some bytes) other = refl

    took : (g : Option (List ℕ)) (name : List ℕ) → shelf_uses (after g) name ≡ shelf_uses old name
    took None name = refl
    took (Some bytes) name = refl

    kept : (g : Option (List ℕ)) → Kept shelf old (after g)
    kept None = record { faults = le-one_more old.faults; holds = λ name. refl }
    kept (Some bytes) = record { faults = omega arith; holds = λ name. refl }
