-- The calls of `serve`: those of each record in call, and those at its end.
use Rattle.std.specs.Prelude.{◌≡◌, ◌⊎◌, ℕ, ◌+◌, ◌<◌, ◌≤◌, Bool, true, false, List, [], ◌∷◌, ◌++◌, map, length, Option, Some, None, if◌then◌else◌}
use Rattle.std.specs.List.{flat_map, AllByRecursion}
use Rattle.sof_desk.specs.Desk.{DeskAct, Create, Put, Open, Slot, Spoken, Did, Read}
use Rattle.ipc3_trace.specs.declared.entry.Entry.{Entry}
use Rattle.ipc3_trace.specs.Records.{record_bytes, records_bytes, IsEntry}
use Rattle.ipc3_trace.specs.TraceFaults.{IsFaultAt}
use Rattle.run_replay.specs.Replaying.{on_after}
use Rattle.run_serve.specs.declared.lines.Wrong.{Wrong}
use Rattle.run_serve.specs.declared.lines.Wrong.TheVariants.{Broken, Order}
use Rattle.run_serve.specs.ServeWords.{ServeNames, wrong_line, too_long_line}
use Rattle.run_serve.specs.AnyCalls.{AnyCall, AtDesk, AtDevice}
use Rattle.run_serve.specs.Reads.{requests_slot, asked, record_reads, joined_pieces, Brings, BringsMore}
use Rattle.run_serve.specs.Placed.{may_come, device_calls_of, backs_of}

-- the slot of what comes back
abbrev pub replies_slot : ℕ
replies_slot = 1

-- so many bytes of records are too many
abbrev pub too_many_bytes : ℕ
too_many_bytes = 1152921504606846976

-- ---- one record

-- a record that was served: the pieces in which it came, and what the device gave back where it is a message
pub record ServeRound : Type 0 where
  pub entry : Entry
  pub pieces : List (List ℕ)
  pub answer : Option (List ℕ)

abbrev pub doing : DeskAct → AnyCall
doing act = AtDesk (Did act true)

-- a record goes out: it is appended, and what is kept is written
abbrev pub sent_calls : Entry → List AnyCall
sent_calls e = doing (Put (Slot replies_slot) (record_bytes e)) ∷ doing (Put Spoken []) ∷ []

-- it is read, given to the device, and what comes back goes out, before anything more is read
abbrev pub given_calls : ServeRound → List AnyCall
given_calls r = map AtDesk (record_reads [] r.pieces) ++ map AtDevice (device_calls_of r.entry r.answer)

abbrev pub round_calls : ServeRound → List AnyCall
round_calls r = given_calls r ++ flat_map sent_calls (backs_of r.entry r.answer)

-- a round, over a device of this room that is on or off; a reader takes what comes back
pub record IsRound (room : ℕ) (on : Bool) (r : ServeRound) : Type 0 where
  pub is : IsEntry r.entry
  pub came : Brings [] r.pieces (record_bytes r.entry)
  pub may : may_come room on r.entry ≡ true
  pub backs : AllByRecursion IsEntry (backs_of r.entry r.answer)

-- rounds, one after another, and whether the device is on then
abbrev pub AreRounds : ℕ → Bool → List ServeRound → Bool → Type 0
AreRounds room on [] after = after ≡ on
AreRounds room on (r ∷ rs) after = IsRound room on r × AreRounds room (on_after on r.entry) rs after

abbrev pub served_entries : List ServeRound → List Entry
served_entries rs = map (λ (r : ServeRound). r.entry) rs

-- all that came back
abbrev pub backs_in : List ServeRound → List Entry
backs_in rs = flat_map (λ (r : ServeRound). backs_of r.entry r.answer) rs

-- ---- the end

-- how serving ended
pub data ServeEnd : Type 0 where
  -- the file ended, and REPLIES was let out or not: it is emptied then, where nothing came back
  Over : (out : Bool) → ServeEnd
  -- the next record is at fault, of which these pieces came, and its line was said or not
  Stopped : (pieces : List (List ℕ)) (wrong : Wrong) (said : Bool) → ServeEnd
  -- the file has too many bytes
  TooLong : (said : Bool) → ServeEnd
  -- a read failed after these pieces
  Unread : (pieces : List (List ℕ)) → ServeEnd
  -- what came back of a round was not appended, or else did not go out
  Unsent : (round : ServeRound) (appended : Bool) → ServeEnd

-- a record that was given, but of which what came back did not go out
abbrev pub unsent_round : ServeEnd → List ServeRound
unsent_round (Unsent r appended) = r ∷ []
unsent_round ending = []

-- all that were given to the device
abbrev pub given_rounds : List ServeRound → ServeEnd → List ServeRound
given_rounds rounds ending = rounds ++ unsent_round ending

-- the calls for what came back, of which the last failed
abbrev pub unsent_calls : Entry → Bool → List AnyCall
unsent_calls e false = AtDesk (Did (Put (Slot replies_slot) (record_bytes e)) false) ∷ []
unsent_calls e true = doing (Put (Slot replies_slot) (record_bytes e)) ∷ AtDesk (Did (Put Spoken []) false) ∷ []

-- the file has no more records
abbrev pub last_read : AnyCall
last_read = AtDesk (Read requests_slot 8 (Some []))

-- the last calls, where the next record stands at a place
abbrev pub ending_calls : ℕ → ServeEnd → List AnyCall
ending_calls at (Over out) = last_read ∷ AtDesk (Did (Put Spoken []) out) ∷ []
ending_calls at (Stopped pieces wrong said) = map AtDesk (record_reads [] pieces) ++ (AtDesk (Did (Put Spoken (wrong_line wrong at)) said) ∷ [])
ending_calls at (TooLong said) = AtDesk (Did (Put Spoken too_long_line) said) ∷ []
ending_calls at (Unread pieces) = map AtDesk (record_reads [] pieces) ++ (AtDesk (Read requests_slot (asked (joined_pieces pieces)) None) ∷ [])
ending_calls at (Unsent r appended) = given_calls r ++ flat_map (λ e. unsent_calls e appended) (backs_of r.entry r.answer)

-- what came of the next record is no record, or one that can't come there
abbrev pub IsWrongRecord : ℕ → Bool → List ℕ → Wrong → Type 0
IsWrongRecord room on bytes (Broken fault) = IsFaultAt bytes 0 fault
IsWrongRecord room on bytes Order = (e : Entry) × IsEntry e × (bytes ≡ record_bytes e) × (may_come room on e ≡ false)

-- an end, at a place and over a device of this room that is on or off, and the status
abbrev pub IsEnding : ℕ → ℕ → Bool → ServeEnd → ℕ → Type 0
IsEnding room at on (Over out) status = (status ≡ (if out then 0 else 3)) × (at < too_many_bytes)
IsEnding room at on (Stopped pieces wrong said) status =
    (status ≡ (if said then 2 else 3)) × (at < too_many_bytes) × ((bytes : List ℕ) × Brings [] pieces bytes × IsWrongRecord room on bytes wrong)
IsEnding room at on (TooLong said) status = (status ≡ (if said then 5 else 3)) × (too_many_bytes ≤ at)
IsEnding room at on (Unread pieces) status = (status ≡ 3) × (at < too_many_bytes) × BringsMore [] pieces (joined_pieces pieces)
IsEnding room at on (Unsent r appended) status = (status ≡ 3) × (at < too_many_bytes) × IsRound room on r × ((e : Entry) × (backs_of r.entry r.answer ≡ e ∷ []))

-- ---- the files

abbrev pub serve_opening : ServeNames → List DeskAct
serve_opening names = Open requests_slot names.requests ∷ Create replies_slot names.replies ∷ []

-- a file was not opened or not made
abbrev pub Unopened : List DeskAct → List AnyCall → Type 0
Unopened [] calls = ⊥
Unopened (act ∷ acts) calls = (calls ≡ AtDesk (Did act false) ∷ []) ⊎ ((later : List AnyCall) × (calls ≡ doing act ∷ later) × Unopened acts later)

-- ---- all

-- records from a place on, over a device of this room that is on or off: each is served, and then comes the end
pub record ServedFrom (room at : ℕ) (on : Bool) (calls : List AnyCall) (status : ℕ) : Type 0 where
  pub rounds : List ServeRound
  pub after : Bool
  pub ending : ServeEnd
  pub are : AreRounds room on rounds after
  pub ends : IsEnding room (at + length (records_bytes (served_entries rounds))) after ending status
  pub calls_are : calls ≡ flat_map round_calls rounds ++ ending_calls (at + length (records_bytes (served_entries rounds))) ending

-- The calls and the status: the files are opened, then each record is served, and then comes the end.
pub record ServesAll (room : ℕ) (names : ServeNames) (calls : List AnyCall) (status : ℕ) : Type 0 where
  pub later : List AnyCall
  pub calls_are : calls ≡ map doing (serve_opening names) ++ later
  pub served : ServedFrom room 0 false later status

abbrev pub ServedBy : ℕ → ServeNames → List AnyCall → ℕ → Type 0
ServedBy room names calls status = ((status ≡ 3) × Unopened (serve_opening names) calls) ⊎ ServesAll room names calls status
