-- The failures of a desk over real files.
use Rattle.std.specs.Prelude.{◌≡◌, ℕ, Bool, true, false, nat_eq, List, find, string_bytes, Option, Some, None}
use Rattle.std.specs.Option.{option_or}
use Rattle.sof_files.specs.declared.trouble.Subject.{Subject}
use Rattle.sof_files.specs.declared.trouble.Subject.TheVariants.{File, SomeFile, Output}
use Rattle.sof_files.specs.declared.trouble.Trouble.{Trouble}
use Rattle.sof_desk.specs.Counts.{one_more}

-- a call was about the file of a name, which is kept unless memory for it ran out
abbrev pub about_file : List ℕ → Subject → Type 0
about_file name (File told) = string_bytes told ≡ name
about_file name SomeFile = Unit {0}
about_file name Output = ⊥

-- a call was about the file that stands under a slot, by each slot with its file's name; where none does, it was about no name
abbrev pub about_named : Option (ℕ × List ℕ) → Subject → Type 0
about_named None subject = subject ≡ SomeFile
about_named (Some named) subject = about_file named.1 subject

abbrev pub about_slot : ℕ → List (ℕ × List ℕ) → Subject → Type 0
about_slot slot names subject = about_named (find (λ named. nat_eq named.0 slot) names) subject

-- how many calls failed, and why the first of them did
pub record Noted : Type 0 where
  pub count : ℕ
  pub first : Option Trouble

-- after one more failure: the first one stays
abbrev pub noted : Trouble → Noted → Noted
noted trouble before = record { count = one_more before.count; first = option_or before.first (Some trouble) }

-- a failure with the file of a name is noted
abbrev pub NotesFile : (name : List ℕ) → (before after : Noted) → Type 0
NotesFile name before after = (trouble : Trouble) × about_file name trouble.subject × (after ≡ noted trouble before)

-- what a call notes: nothing where it was done, and else why it failed, which is about what the call was about
abbrev pub Notes : (about : Subject → Type 0) → Bool → Noted → Noted → Type 0
Notes about true before after = after ≡ before
Notes about false before after = (trouble : Trouble) × about trouble.subject × (after ≡ noted trouble before)

-- a call may be about anything
abbrev pub about_any : Subject → Type 0
about_any subject = Unit {0}

-- why the first call failed that did, after one more: it stays where this one was done or an earlier one failed, and else it is this one's
-- trouble, which is about what the call was about
abbrev pub FirstNoted : (about : Subject → Type 0) → (done : Bool) → (before after : Option Trouble) → Type 0
FirstNoted about true before after = after ≡ before
FirstNoted about false before after = (trouble : Trouble) × about trouble.subject × (after ≡ option_or before (Some trouble))
