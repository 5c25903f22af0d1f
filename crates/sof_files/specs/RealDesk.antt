-- A desk over real files and standard output, as far as it tells of itself.
use Rattle.std.specs.Prelude.{◌≡◌, ℕ, ◌≤◌, Bool, true, false, not, nat_eq, List, [], ◌∷◌, ◌++◌, length, Option, None, is_some, Ok, Err, if◌then◌else◌}
use Rattle.std.specs.List.{list_any}
use Rattle.sof_desk.specs.declared.calls.LoadFault.TheVariants.{Failed, TooLong, OutOfMemory}
use Rattle.sof_desk.specs.declared.calls.TheConstants.{SLOTS}
use Rattle.sof_desk.specs.Counts.{one_more}
use Rattle.sof_desk.specs.Edits.{put_first}
use Rattle.sof_desk.specs.Desk.{DeskMeaning, DeskAct, Create, Put, Open, Slot, Spoken, Heard}
use Rattle.sof_files.specs.OutFiles.{OutView, slots_of, out_names, GivesFiles}
use Rattle.sof_desk.specs.declared.calls.FileUse.{FileUse}
use Rattle.sof_desk.specs.declared.calls.FileUse.TheVariants.{ToRead}
use Rattle.sof_files.specs.declared.file_use.FileId.{FileId}
use Rattle.sof_files.specs.declared.file_use.UsedFile.{UsedFile}
use Rattle.sof_files.specs.declared.trouble.Subject.{Subject}
use Rattle.sof_files.specs.declared.trouble.Trouble.{Trouble}
use Rattle.sof_files.specs.Troubles.{about_file, about_slot, about_any, FirstNoted}
use Rattle.sof_files.specs.declared.standard.Stream.{Stream}
use Rattle.sof_files.specs.declared.standard.Stream.TheVariants.{Output, Error}
use Rattle.sof_files.specs.UsedFiles.{use_in, told_to, TakesFile, TakesWhere, TakesForCall}
use Rattle.sof_files.specs.InFiles.{InView, opens_of, in_names, left_in_file, SameLeftBeside, KeepsLeft, LeavesOf}

-- the files of the slots that were created and of those that are open, the files that were taken, how many calls failed, and why the
-- first of them did
pub record RealDesk : Type 0 where
  pub files : List OutView
  pub inputs : List InView
  pub uses : List UsedFile
  pub faults : ℕ
  pub first : Option Trouble

-- A desk that is new, over a system that tells which files lines go to: no slot was created or opened and no call failed, and
-- standard output and standard error are told to
pub record IsNew (goes_to : Stream → Option FileId → Type 0) (desk : RealDesk) : Type 0 where
  pub output : Option FileId
  pub error : Option FileId
  pub output_is : goes_to Output output
  pub error_is : goes_to Error error
  pub desk_is : desk ≡ record { files = []; inputs = []; uses = told_to output ++ told_to error; faults = 0; first = None }

-- whether a slot is one of these
abbrev pub is_slot_of : ℕ → List ℕ → Bool
is_slot_of slot slots = list_any (λ other. nat_eq other slot) slots

-- the slots with one more, unless it is one of them
abbrev pub slots_with : ℕ → List ℕ → List ℕ
slots_with slot slots = if is_slot_of slot slots then slots else slots ++ slot ∷ []

-- the slots that were created after a call
abbrev pub slots_after : DeskAct → Bool → List ℕ → List ℕ
slots_after (Create slot name) done slots = if done then slots_with slot slots else slots
slots_after (Put place piece) done slots = slots
slots_after (Open slot name) done slots = slots

-- the open slots after a call
abbrev pub opens_after : DeskAct → Bool → List ℕ → List ℕ
opens_after (Create slot name) done opens = opens
opens_after (Put place piece) done opens = opens
opens_after (Open slot name) done opens = if done then slots_with slot opens else opens

-- whether a load failed
abbrev pub has_failed : Heard → Bool
has_failed (Ok bytes) = false
has_failed (Err Failed) = true
has_failed (Err TooLong) = false
has_failed (Err OutOfMemory) = false

-- the slots that were created, each with the name of its file, after a call
abbrev pub out_names_after : DeskAct → Bool → List (ℕ × List ℕ) → List (ℕ × List ℕ)
out_names_after (Create slot name) done names = if done then put_first (λ named. nat_eq named.0 slot) (slot, name) names else names
out_names_after (Put place piece) done names = names
out_names_after (Open slot name) done names = names

-- the open slots, each with the name of its file, after a call
abbrev pub in_names_after : DeskAct → Bool → List (ℕ × List ℕ) → List (ℕ × List ℕ)
in_names_after (Create slot name) done names = names
in_names_after (Put place piece) done names = names
in_names_after (Open slot name) done names = if done then put_first (λ named. nat_eq named.0 slot) (slot, name) names else names

-- what a call's failure is about: the file of its name, or of its slot; a line's failure may be any file's that lets its bytes go out
abbrev pub about_act : DeskAct → RealDesk → Subject → Type 0
about_act (Create slot name) d = about_file name
about_act (Put (Slot slot) piece) d = about_slot slot (out_names d.files)
about_act (Put Spoken piece) d = about_any
about_act (Open slot name) d = about_file name

-- a call keeps to its slots, gives its bytes to its own file, takes a file only for a use that is allowed, and counts and notes a
-- failure; no more slots are created or open than there is room for
pub record RealActs (act : DeskAct) (done : Bool) (old new : RealDesk) : Type 0 where
  pub faults : new.faults ≡ (if done then old.faults else one_more old.faults)
  pub slots : slots_of new.files ≡ slots_after act done (slots_of old.files)
  pub gives : GivesFiles act done old.files new.files
  pub room : length old.files ≤ SLOTS → length new.files ≤ SLOTS
  pub opens : opens_of new.inputs ≡ opens_after act done (opens_of old.inputs)
  pub keeps : KeepsLeft act done old.inputs new.inputs
  pub room_to_read : length old.inputs ≤ SLOTS → length new.inputs ≤ SLOTS
  pub takes : TakesForCall act done old.uses new.uses
  pub created_names : out_names new.files ≡ out_names_after act done (out_names old.files)
  pub opened_names : in_names new.inputs ≡ in_names_after act done (in_names old.inputs)
  pub noted : FirstNoted (about_act act old) done old.first new.first

-- a load takes its file to be read, keeps all other files, and counts and notes a failure
pub record RealLoads (name : List ℕ) (limit : ℕ) (heard : Heard) (old new : RealDesk) : Type 0 where
  pub faults : new.faults ≡ (if has_failed heard then one_more old.faults else old.faults)
  pub files : new.files ≡ old.files
  pub inputs : new.inputs ≡ old.inputs
  pub takes : TakesFile ToRead old.uses new.uses
  pub noted : FirstNoted (about_file name) (not (has_failed heard)) old.first new.first

-- a file that is handed out is taken for its use, and a failure is counted and noted; no other file is touched
pub record HandsOut (usage : FileUse) (name : List ℕ) (done : Bool) (old new : RealDesk) : Type 0 where
  pub faults : new.faults ≡ (if done then old.faults else one_more old.faults)
  pub files : new.files ≡ old.files
  pub inputs : new.inputs ≡ old.inputs
  pub takes : TakesWhere usage done old.uses new.uses
  pub noted : FirstNoted (about_file name) done old.first new.first

-- a read takes its bytes from the file of its slot, keeps all other files, and counts and notes a failure
pub record RealReads (slot size : ℕ) (got : Option (List ℕ)) (old new : RealDesk) : Type 0 where
  pub faults : new.faults ≡ (if is_some got then old.faults else one_more old.faults)
  pub files : new.files ≡ old.files
  pub opens : opens_of new.inputs ≡ opens_of old.inputs
  pub leaves : LeavesOf got (left_in_file slot old.inputs) (left_in_file slot new.inputs)
  pub others : SameLeftBeside slot old.inputs new.inputs
  pub takes : new.uses ≡ old.uses
  pub opened_names : in_names new.inputs ≡ in_names old.inputs
  pub noted : FirstNoted (about_slot slot (in_names old.inputs)) (is_some got) old.first new.first

-- what such a desk means: it tells no content
abbrev pub real : DeskMeaning RealDesk
real =
    record {
      faults = λ d. d.faults;
      holds = λ d name. None;
      wrote = λ d place. None;
      created = λ d slot. is_slot_of slot (slots_of d.files);
      opened = λ d slot. is_slot_of slot (opens_of d.inputs);
      unread = λ d slot. None;
      File = FileId;
      use_of = λ d file. use_in d.uses file;
      load = RealLoads;
      act = RealActs;
      read = RealReads;
    }
