-- A desk over real files does what a desk has to do.
use Rattle.std.proofs.Common.{◌≡◌, ◌≤◌, ℕ, Bool, true, false, nat_eq, List, [], Some, None, is_some, is_ok, Result, Ok, Err, option_map, Option, length, drop, refl, sym, ◌∙◌, ap, arith, if◌then◌else◌}
use Rattle.std.proofs.lemmas.List.{length-map}
use Rattle.sof_desk.specs.declared.calls.TheConstants.{SLOTS}
use Rattle.sof_desk.specs.Counts.{one_more}
use Rattle.sof_desk.specs.Desk.{DeskPlace, Slot, Put, Create, Open, Acted, WasRead, Gets, Part, same_place, with_more, with_nothing, unread_past}
use Rattle.sof_files.specs.OutFiles.{OutView, slots_of, out_names, SameBeside, GivesFiles}
use Rattle.sof_files.specs.InFiles.{InView, opens_of, in_names, left_in_file, SameLeftBeside, KeepsLeft, LeavesOf}
use Rattle.sof_files.specs.RealDesk.{RealDesk, real, is_slot_of, slots_with, out_names_after, in_names_after, about_act}
use Rattle.std.specs.Option.{option_or}
use Rattle.std.specs.Result.{result_err}
use Rattle.sof_files.specs.declared.trouble.Subject.{Subject}
use Rattle.sof_files.specs.declared.trouble.Trouble.{Trouble}
use Rattle.sof_files.specs.Troubles.{Noted, noted, Notes, about_file, about_slot, about_any, FirstNoted}
use Rattle.sof_files.specs.UsedFiles.{use_in, TakesForCall}
use Rattle.sof_files.proofs.OpenSlots.{is_slot-after}
use Rattle.sof_files.proofs.UsedFiles.{took_for}
use Rattle.sof_desk.proofs.CountLaws.{kept_faults, failed_faults}

some_part : (done : Bool) (piece : List ℕ) → Part done (if done then piece else []) piece
some_part true piece = refl
some_part false piece = (piece, refl)

untold : (same : Bool) (part : List ℕ) → let none : Option (List ℕ) = None in none ≡ (if same then with_more none part else none)
untold true part = refl
untold false part = refl

as_many : (old new : List OutView) → slots_of new ≡ slots_of old → length new ≡ length old
as_many old new slots = sym (length-map new (λ f. f.slot)) ∙ ap length slots ∙ length-map old (λ f. f.slot)

-- a failure that was noted is counted
pub notes-count : (about : Subject → Type 0) (done : Bool) (before after : Noted) → Notes about done before after → after.count ≡ (if done then before.count else one_more before.count)
notes-count about true before after same = ap (λ (n : Noted). n.count) same
notes-count about false before after noting = ap (λ (n : Noted). n.count) noting.2

-- and noted
pub notes-first : (about : Subject → Type 0) (done : Bool) (before after : Noted) → Notes about done before after → FirstNoted about done before.first after.first
notes-first about true before after same = ap (λ (n : Noted). n.first) same
notes-first about false before after noting = (noting.0, noting.1, ap (λ (n : Noted). n.first) noting.2)

or-none : (before : Option Trouble) → option_or before None ≡ before
or-none None = refl
or-none (Some trouble) = refl

-- an answer that may be about anything
pub answered-first : {A : Type 0} (done : Result A Trouble) (before after : Option Trouble) → after ≡ option_or before (result_err done) → FirstNoted about_any (is_ok done) before after
answered-first (Ok a) before after is = is ∙ or-none before
answered-first (Err trouble) before after is = (trouble, tt, is)

-- a piece that keeps the slots, reaches its file and counts its failure
pub puts : (to : DeskPlace) (piece : List ℕ) (ok done : Bool) (old mid new : RealDesk) → mid ≡ old → ok ≡ done → slots_of new.files ≡ slots_of mid.files → GivesFiles (Put to piece) done mid.files new.files → new.inputs ≡ mid.inputs → new.uses ≡ mid.uses → new.faults ≡ (if done then mid.faults else one_more mid.faults) → out_names new.files ≡ out_names mid.files → FirstNoted (about_act (Put to piece) mid) done mid.first new.first → Acted real (Put to piece) ok old new
puts to piece ok done old mid new is answer slots gives inputs uses faults names noted =
    rw (← is, answer) (record {
      did = record { faults = faults; slots = slots; gives = gives; room = λ within. omega (arith, as_many mid.files new.files slots, within); opens = ap opens_of inputs; keeps = inputs; room_to_read = λ within. omega (arith, ap length inputs, within); takes = uses; created_names = names; opened_names = ap in_names inputs; noted = noted };
      failed = λ failing. rw faults (failed_faults mid.faults done failing);
      part = if done then piece else [];
      takes = some_part done piece;
      wrote = λ place. untold (same_place to place) (if done then piece else []);
      created = λ slot. ap (is_slot_of slot) slots;
      opened = λ slot. ap (λ (files : List InView). is_slot_of slot (opens_of files)) inputs;
      unread = λ slot. refl;
      took = λ file. ap (λ files. use_in files file) uses;
      kept = record { faults = rw faults (kept_faults mid.faults done); holds = λ name. refl };
    })

untold_made : (done same : Bool) → let none : Option (List ℕ) = None in none ≡ (if done then (if same then with_nothing none else none) else none)
untold_made true true = refl
untold_made true false = refl
untold_made false same = refl

untold_opened : (done same : Bool) → let none : Option (List ℕ) = None in none ≡ (if done then (if same then none else none) else none)
untold_opened true true = refl
untold_opened true false = refl
untold_opened false same = refl

-- a desk after an answer
abbrev pub answered : RealDesk → Bool → Option Trouble → RealDesk
answered d done first = record d { faults = if done then d.faults else one_more d.faults; first = first }

-- a desk after a failure that was noted
pub answered_is : (last mid : RealDesk) (before after : Noted) (trouble : Trouble) → last ≡ mid → before.count ≡ last.faults → before.first ≡ last.first → after ≡ noted trouble before → record last { faults = after.count; first = after.first } ≡ answered mid false (option_or mid.first (Some trouble))
answered_is last mid before after trouble is count first notes = rw (notes, count, first, is) refl

-- a create that ties its slot to a file, keeps the others and counts its failure
pub creates : (slot : ℕ) (name : List ℕ) (ok done : Bool) (old mid new : RealDesk) → ok ≡ done → mid.faults ≡ old.faults → slots_of mid.files ≡ (if done then slots_with slot (slots_of old.files) else slots_of old.files) → SameBeside slot old.files mid.files → length mid.files ≤ SLOTS → mid.inputs ≡ old.inputs → TakesForCall (Create slot name) done old.uses mid.uses → out_names mid.files ≡ out_names_after (Create slot name) done (out_names old.files) → (first : Option Trouble) → FirstNoted (about_file name) done old.first first → new ≡ answered mid done first → Acted real (Create slot name) ok old new
creates slot name ok done old mid new answer faults slots others room inputs takes names first noted is =
    rw (is, answer) (record {
      did = record { faults = rw faults refl; slots = slots; gives = others; room = λ within. room; opens = ap opens_of inputs; keeps = inputs; room_to_read = λ within. omega (arith, ap length inputs, within); takes = takes; created_names = names; opened_names = ap in_names inputs; noted = noted };
      failed = λ failing. rw faults (failed_faults old.faults done failing);
      part = [];
      takes = refl;
      wrote = λ place. untold_made done (same_place (Slot slot) place);
      created = is_slot-after slot done (slots_of old.files) (slots_of mid.files) slots;
      opened = λ other. ap (λ (files : List InView). is_slot_of other (opens_of files)) inputs;
      unread = λ other. refl;
      took = took_for (Create slot name) done old (answered mid done first) takes;
      kept = record { faults = rw faults (kept_faults old.faults done); holds = λ other. refl };
    })

-- an open that ties its slot to a file, keeps the others and counts its failure
pub opens : (slot : ℕ) (name : List ℕ) (ok done : Bool) (old mid new : RealDesk) → ok ≡ done → mid.faults ≡ old.faults → mid.files ≡ old.files → opens_of mid.inputs ≡ (if done then slots_with slot (opens_of old.inputs) else opens_of old.inputs) → KeepsLeft (Open slot name) done old.inputs mid.inputs → length mid.inputs ≤ SLOTS → TakesForCall (Open slot name) done old.uses mid.uses → in_names mid.inputs ≡ in_names_after (Open slot name) done (in_names old.inputs) → (first : Option Trouble) → FirstNoted (about_file name) done old.first first → new ≡ answered mid done first → Acted real (Open slot name) ok old new
opens slot name ok done old mid new answer faults files slots keeps room takes names first noted is =
    rw (is, answer) (record {
      did = record { faults = rw faults refl; slots = ap slots_of files; gives = files; room = λ within. omega (arith, ap length files, within); opens = slots; keeps = keeps; room_to_read = λ within. room; takes = takes; created_names = ap out_names files; opened_names = names; noted = noted };
      failed = λ failing. rw faults (failed_faults old.faults done failing);
      part = [];
      takes = refl;
      wrote = λ place. refl;
      created = λ other. ap (λ (fs : List OutView). is_slot_of other (slots_of fs)) files;
      opened = is_slot-after slot done (opens_of old.inputs) (opens_of mid.inputs) slots;
      unread = λ other. untold_opened done (nat_eq slot other);
      took = took_for (Open slot name) done old (answered mid done first) takes;
      kept = record { faults = rw faults (kept_faults old.faults done); holds = λ other. refl };
    })

untold_read : (slot other : ℕ) (got : Option (List ℕ)) → let none : Option (List ℕ) = None in none ≡ unread_past slot got other none
untold_read slot other None = refl
untold_read slot other (Some bytes) =
    elim (nat_eq slot other) as (λ b. let none : Option (List ℕ) = None in none ≡ (if b then option_map (drop (length bytes)) none else none)) [ true ↦ refl | false ↦ refl ]

gets_untold : (size : ℕ) (got : Option (List ℕ)) → ((bytes : List ℕ) → got ≡ Some bytes → length bytes ≤ size) → let none : Option (List ℕ) = None in Gets none size got
gets_untold size None within = tt
gets_untold size (Some bytes) within = (within bytes refl, λ all is. cc)

-- a read that takes its bytes from the file of its slot, keeps the others and counts its failure
pub reads : (slot size : ℕ) (got : Option (List ℕ)) (old mid new : RealDesk) → mid ≡ old → ((bytes : List ℕ) → got ≡ Some bytes → length bytes ≤ size) → opens_of new.inputs ≡ opens_of mid.inputs → LeavesOf got (left_in_file slot mid.inputs) (left_in_file slot new.inputs) → SameLeftBeside slot mid.inputs new.inputs → new.files ≡ mid.files → new.uses ≡ mid.uses → new.faults ≡ (if is_some got then mid.faults else one_more mid.faults) → in_names new.inputs ≡ in_names mid.inputs → FirstNoted (about_slot slot (in_names mid.inputs)) (is_some got) mid.first new.first → WasRead real slot size got old new
reads slot size got old mid new is within slots leaves others files uses faults names noted =
    rw (← is) (record {
      did = record { faults = faults; files = files; opens = slots; leaves = leaves; others = others; takes = uses; opened_names = names; noted = noted };
      failed = λ none. rw faults (failed_faults mid.faults (is_some got) (ap is_some none));
      answers = gets_untold size got within;
      unread = λ other. untold_read slot other got;
      opened = λ other. ap (is_slot_of other) slots;
      wrote = λ place. refl;
      created = λ other. ap (λ (fs : List OutView). is_slot_of other (slots_of fs)) files;
      took = λ file. ap (λ us. use_in us file) uses;
      kept = record { faults = rw faults (kept_faults mid.faults (is_some got)); holds = λ name. refl };
    })
