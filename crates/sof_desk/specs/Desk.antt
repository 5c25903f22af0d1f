-- What each call on a desk does, and what a list of calls does.
use Rattle.std.specs.Prelude.{◌≡◌, ◌⊎◌, ◌+◌, ◌<◌, ◌≤◌, ◌^◌, ℕ, Bool, true, false, nat_eq, List, [], ◌∷◌, ◌++◌, length, take, drop, Option, Some, None, Result, Ok, Err, if◌then◌else◌, option_map}
use Rattle.sof_desk.specs.declared.calls.LoadFault.{LoadFault}
use Rattle.sof_desk.specs.declared.calls.LoadFault.TheVariants.{Failed, TooLong, OutOfMemory}
use Rattle.sof_desk.specs.declared.calls.FileUse.{FileUse}
use Rattle.sof_desk.specs.declared.calls.FileUse.TheVariants.{ToRead, ToWrite}
use Rattle.sof_desk.specs.FileUses.{may_use}

-- where a piece goes: to the file of a slot, or to what is said
pub data DeskPlace : Type 0 where
  Slot : (slot : ℕ) → DeskPlace
  Spoken : DeskPlace

-- a call that answers only whether it was done
pub data DeskAct : Type 0 where
  Create : (slot : ℕ) (name : List ℕ) → DeskAct
  Put : (place : DeskPlace) (piece : List ℕ) → DeskAct
  Open : (slot : ℕ) (name : List ℕ) → DeskAct

-- what a load answers: the bytes of the file, or why there are none
abbrev pub Heard : Type 0
Heard = Result (List ℕ) LoadFault

-- a call with its arguments and its answer; a read that failed got nothing, not even no bytes
pub data DeskCall : Type 0 where
  Load : (name : List ℕ) (limit : ℕ) (heard : Heard) → DeskCall
  Did : (act : DeskAct) (done : Bool) → DeskCall
  Read : (slot size : ℕ) (got : Option (List ℕ)) → DeskCall

-- what a desk means; a desk may leave untold, as `None`, what it holds, what was written and what is still to be read
pub record DeskMeaning (D : Type 0) : Type 1 where
  pub faults : D → ℕ  -- how many failures it counted
  pub holds : D → List ℕ → Option (List ℕ)  -- what a name gives to be loaded
  pub wrote : D → DeskPlace → Option (List ℕ)  -- what was appended to a slot since it was created, and what was said
  pub created : D → ℕ → Bool  -- which slots were created
  pub opened : D → ℕ → Bool  -- which slots are open to be read
  pub unread : D → ℕ → Option (List ℕ)  -- what is still to be read of the file that is open under a slot
  pub File : Type 0  -- what tells a file from all others
  pub use_of : D → File → Option FileUse  -- how a file is used by the calls up to now
  pub load : List ℕ → ℕ → Heard → D → D → Type 0  -- what else is known of a load: name, limit, answer, before, after
  pub act : DeskAct → Bool → D → D → Type 0  -- what else is known of a call that answers only whether it was done: the call, whether done, before, after
  pub read : ℕ → ℕ → Option (List ℕ) → D → D → Type 0  -- what else is known of a read: slot, how many bytes were asked for, what was got, before, after

-- a count rose, or stands at its last value
abbrev pub CountRose : ℕ → ℕ → Type 0
CountRose before after = (before < after) ⊎ (2 ^ 64 ≤ after + 1)

-- what a load answers, by what the name is stated to give
abbrev pub Answers : Option (List ℕ) → ℕ → Heard → (rose : Type 0) → Type 0
Answers told limit (Ok bytes) rose = (length bytes ≤ limit) × ((all : List ℕ) → told ≡ Some all → bytes ≡ all)
Answers told limit (Err TooLong) rose = (all : List ℕ) → told ≡ Some all → limit < length all
Answers told limit (Err OutOfMemory) rose = Unit {0}
Answers told limit (Err Failed) rose = rose

-- what every call keeps: the count does not fall, and each name gives the same
pub record Kept {D : Type 0} (means : DeskMeaning D) (old new : D) : Type 0 where
  pub faults : means.faults old ≤ means.faults new
  pub holds : (name : List ℕ) → means.holds new name ≡ means.holds old name

-- each file is used as before
abbrev pub SameUses : {D : Type 0} → DeskMeaning D → D → D → Type 0
SameUses means old new = (file : means.File) → means.use_of new file ≡ means.use_of old file

-- one file is taken for a use, which the use that it had allows, and each other file is used as before
pub record TookFile {D : Type 0} (means : DeskMeaning D) (usage : FileUse) (old new : D) : Type 0 where
  pub file : means.File
  pub may : may_use usage (means.use_of old file) ≡ true
  pub used : means.use_of new file ≡ Some usage
  pub others : (other : means.File) → (other ≡ file → ⊥) → means.use_of new other ≡ means.use_of old other

-- a file is taken for a use, unless it is one that several calls may share
abbrev pub Took : {D : Type 0} → DeskMeaning D → FileUse → D → D → Type 0
Took means usage old new = TookFile means usage old new ⊎ SameUses means old new

-- what a call takes: a create a file to be written, an open one to be read, and any other call none
abbrev pub TookFor : {D : Type 0} → DeskMeaning D → DeskAct → (done : Bool) → D → D → Type 0
TookFor means (Create slot name) true old new = Took means ToWrite old new
TookFor means (Open slot name) true old new = Took means ToRead old new
TookFor means _ _ old new = SameUses means old new

-- what a load does: it answers, takes its file to be read, writes nothing and opens nothing
pub record Loaded {D : Type 0} (means : DeskMeaning D) (name : List ℕ) (limit : ℕ) (heard : Heard) (old new : D) : Type 0 where
  pub did : means.load name limit heard old new
  pub answers : Answers (means.holds old name) limit heard (CountRose (means.faults old) (means.faults new))
  pub wrote : (place : DeskPlace) → means.wrote new place ≡ means.wrote old place
  pub created : (slot : ℕ) → means.created new slot ≡ means.created old slot
  pub opened : (slot : ℕ) → means.opened new slot ≡ means.opened old slot
  pub unread : (slot : ℕ) → means.unread new slot ≡ means.unread old slot
  pub took : Took means ToRead old new
  pub kept : Kept means old new

-- some bytes more, where they are stated
abbrev pub with_more : Option (List ℕ) → List ℕ → Option (List ℕ)
with_more told more = option_map (λ bytes. bytes ++ more) told

-- whether two places are the same
abbrev pub same_place : DeskPlace → DeskPlace → Bool
same_place Spoken Spoken = true
same_place (Slot n) (Slot m) = nat_eq n m
same_place _ _ = false

-- the whole piece where the call was done, else a prefix of it
abbrev pub Part : Bool → List ℕ → List ℕ → Type 0
Part true part piece = part ≡ piece
Part false part piece = (rest : List ℕ) × (part ++ rest ≡ piece)

-- the bytes that a call may write: the piece or a prefix of it for a put, and none for any other
abbrev pub Takes : DeskAct → Bool → List ℕ → Type 0
Takes (Put place piece) done part = Part done part piece
Takes _ done part = part ≡ []

-- nothing more, where it is stated
abbrev pub with_nothing : Option (List ℕ) → Option (List ℕ)
with_nothing told = option_map (λ bytes. []) told

-- what is written at a place after a call that wrote this part
abbrev pub written_after : DeskAct → Bool → List ℕ → DeskPlace → Option (List ℕ) → Option (List ℕ)
written_after (Create slot name) done part place bytes = if done then (if same_place (Slot slot) place then with_nothing bytes else bytes) else bytes
written_after (Put to piece) done part place bytes = if same_place to place then with_more bytes part else bytes
written_after (Open slot name) done part place bytes = bytes

-- whether a slot is created after a call
abbrev pub created_after : DeskAct → Bool → ℕ → Bool → Bool
created_after (Create slot name) done other was = if done then (if nat_eq slot other then true else was) else was
created_after _ done other was = was

-- whether a slot is open after a call
abbrev pub opened_after : DeskAct → Bool → ℕ → Bool → Bool
opened_after (Open slot name) done other was = if done then (if nat_eq slot other then true else was) else was
opened_after _ done other was = was

-- what is still to be read of a slot after a call: all that the name gives where the slot was opened, also anew
abbrev pub unread_after : (List ℕ → Option (List ℕ)) → DeskAct → Bool → ℕ → Option (List ℕ) → Option (List ℕ)
unread_after holds (Open slot name) done other bytes = if done then (if nat_eq slot other then holds name else bytes) else bytes
unread_after holds _ done other bytes = bytes

-- what a call does that answers only whether it was done: it fails only where the count rose
pub record Acted {D : Type 0} (means : DeskMeaning D) (act : DeskAct) (done : Bool) (old new : D) : Type 0 where
  pub did : means.act act done old new
  pub failed : done ≡ false → CountRose (means.faults old) (means.faults new)
  pub part : List ℕ
  pub takes : Takes act done part
  pub wrote : (place : DeskPlace) → means.wrote new place ≡ written_after act done part place (means.wrote old place)
  pub created : (slot : ℕ) → means.created new slot ≡ created_after act done slot (means.created old slot)
  pub opened : (slot : ℕ) → means.opened new slot ≡ opened_after act done slot (means.opened old slot)
  pub unread : (slot : ℕ) → means.unread new slot ≡ unread_after (means.holds old) act done slot (means.unread old slot)
  pub took : TookFor means act done old new
  pub kept : Kept means old new

-- these bytes are the front of what is still to be read, and they are none exactly where it is at its end
pub record FrontOf (all bytes : List ℕ) : Type 0 where
  pub front : bytes ≡ take (length bytes) all
  pub ends : bytes ≡ [] → all ≡ []
  pub ended : all ≡ [] → bytes ≡ []

-- what a read gets, by what is stated to be still to be read: no more bytes than were asked for
abbrev pub Gets : Option (List ℕ) → (size : ℕ) → (got : Option (List ℕ)) → Type 0
Gets told size None = Unit {0}
Gets told size (Some bytes) = (length bytes ≤ size) × ((all : List ℕ) → told ≡ Some all → FrontOf all bytes)

-- what is still to be read of a slot after a read of one: all but the bytes that it got
abbrev pub unread_past : (slot : ℕ) (got : Option (List ℕ)) → ℕ → Option (List ℕ) → Option (List ℕ)
unread_past slot None other left = left
unread_past slot (Some bytes) other left = if nat_eq slot other then option_map (drop (length bytes)) left else left

-- what a read does: it gets the next bytes of its slot, writes nothing, and fails only where the count rose
pub record WasRead {D : Type 0} (means : DeskMeaning D) (slot size : ℕ) (got : Option (List ℕ)) (old new : D) : Type 0 where
  pub did : means.read slot size got old new
  pub failed : got ≡ None → CountRose (means.faults old) (means.faults new)
  pub answers : Gets (means.unread old slot) size got
  pub unread : (other : ℕ) → means.unread new other ≡ unread_past slot got other (means.unread old other)
  pub opened : (other : ℕ) → means.opened new other ≡ means.opened old other
  pub wrote : (place : DeskPlace) → means.wrote new place ≡ means.wrote old place
  pub created : (other : ℕ) → means.created new other ≡ means.created old other
  pub took : SameUses means old new
  pub kept : Kept means old new

-- what a call does
abbrev pub Does : {D : Type 0} → DeskMeaning D → DeskCall → D → D → Type 0
Does means (Load name limit heard) old new = Loaded means name limit heard old new
Does means (Did act done) old new = Acted means act done old new
Does means (Read slot size got) old new = WasRead means slot size got old new

-- these calls, in this order and no others, lead from one desk to another
abbrev pub DeskLed : {D : Type 0} → DeskMeaning D → D → List DeskCall → D → Type 0
DeskLed means d [] e = e ≡ d
DeskLed {D} means d (call ∷ calls) e = (m : D) × Does means call d m × DeskLed means m calls e
