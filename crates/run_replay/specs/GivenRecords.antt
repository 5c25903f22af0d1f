-- The result of giving records to a device.
use Rattle.std.specs.Prelude.{◌≡◌, ◌⊎◌, ℕ, ◌<◌, true, false, Bool, List, [], Option, Some, None, is_some, Result, Ok, Err}
use Rattle.sof_desk.specs.Desk.{DeskCall}
use Rattle.mbox_link.specs.Calls as calls
use Rattle.mbox_link.specs.Calls.{Meaning, Did, world}
use Rattle.ipc3_trace.specs.declared.entry.Entry.{Entry}
use Rattle.ipc3_trace.specs.declared.entry.Entry.TheVariants.{Boot, Cut, Request, Reply, Tick, Lost}
use Rattle.ipc3_trace.specs.declared.fault.TraceFault.{TraceFault}
use Rattle.ipc3_trace.specs.declared.fault.ReplayFault.{ReplayFault}
use Rattle.sof_session.specs.Lives.{Life, Bare, Turns}
use Rattle.sof_session.specs.SessionStep.{Calm}
use Rattle.sof_script.specs.Tasks.{Turn}
use Rattle.run_replay.specs.declared.replay_fault.Stopped.{Stopped}
use Rattle.run_replay.specs.declared.replay_fault.Stopped.TheVariants.{At, Device}
use Rattle.run_replay.specs.declared.replay_fault.Tally.{Tally}
use Rattle.run_replay.specs.Replaying.{record_fault, tally_of}
use Rattle.run_replay.specs.ReplayTodo.{given_todo, stopped_todo}
use Rattle.run_replay.specs.Replays.{replay_fault}
use Rattle.run_desk.specs.Todo.{Todo, DoneBy}

-- ---- one record

-- a record was given by its call, and the reply is awaited that the device gave, if any; or the device failed
abbrev pub GaveRecord : {P : Type 0} → Meaning P → Entry → P → Result (Option (List ℕ)) Stopped → P → Type 0
GaveRecord means (Boot heap) old (Ok reply) new = (reply ≡ None) × Did means (calls.Boot heap) (world old [] []) (world new [] [])
GaveRecord means Cut old (Ok reply) new = (reply ≡ None) × Did means calls.Cut (world old [] []) (world new [] [])
GaveRecord means (Request message) old (Ok reply) new = (is_some reply ≡ true) × Did means (calls.Exchange message reply) (world old [] []) (world new [] [])
GaveRecord means (Request message) old (Err Device) new = Did means (calls.Exchange message None) (world old [] []) (world new [] [])
GaveRecord means Tick old (Ok reply) new = (reply ≡ None) × Did means calls.Tick (world old [] []) (world new [] [])
GaveRecord means (Reply other) old (Ok reply) new = (reply ≡ None) × (new ≡ old)
GaveRecord means Lost old (Ok reply) new = (reply ≡ None) × (new ≡ old)
GaveRecord means e old result new = ⊥

-- a record at a place was given, or is at fault, and then nothing was done
abbrev pub WentOn : {P : Type 0} → Meaning P → Entry → ℕ → Option (List ℕ) → P → Result (Option (List ℕ)) Stopped → P → Type 0
WentOn means e at awaited old (Err (At fault)) new = (record_fault (means.most old) (is_some (means.on old)) awaited at e ≡ Some fault) × (new ≡ old)
WentOn means e at awaited old result new = (record_fault (means.most old) (is_some (means.on old)) awaited at e ≡ None) × GaveRecord means e old result new

-- each number of a tally is below
pub record IsBelow (most : ℕ) (t : Tally) : Type 0 where
  pub boots : t.boots < most
  pub messages : t.messages < most
  pub ticks : t.ticks < most

-- ---- one after another

-- what is left on the right, done, makes the whole on the left done, by turns that lead the device on
abbrev pub GivesOn : {P : Type 0} → Meaning P → Todo → Todo → P → P → Type 0
GivesOn {P} means whole left old new =
    (turns : List Turn) (calls : List DeskCall) (status : ℕ) (last : Life P) → Turns means (Bare new) turns last → DoneBy left turns calls status
    → (all : List Turn) × Turns means (Bare old) all last × DoneBy whole all calls status

-- the fault that is told, where there is one
abbrev pub fault_told : Stopped → Option ReplayFault
fault_told (At fault) = Some fault
fault_told Device = None

-- it is the first of all, over a device that has no tick pending and does nothing of its own accord
abbrev pub IsFirst : {P : Type 0} → Meaning P → List Entry → Option TraceFault → P → Option ReplayFault → P → Type 0
IsFirst means es end old told new = means.pending old ≡ 0 → Calm means old new → replay_fault (means.most old) es end ≡ told

-- all records were given, and these are as many; or this is why no more are given
abbrev pub WentThrough : {P : Type 0} → Meaning P → List Entry → Option TraceFault → P → Result Tally Stopped → P → Type 0
WentThrough means es end old (Ok tally) new =
    (tally ≡ tally_of es) × ((last : Bool → Todo) → GivesOn means (given_todo (means.most old) es end false None 0 last) (last (is_some (means.on new))) old new)
    × IsFirst means es end old None new
WentThrough means es end old (Err why) new =
    ((last : Bool → Todo) → GivesOn means (given_todo (means.most old) es end false None 0 last) (stopped_todo why) old new) × IsFirst means es end old (fault_told why) new

-- this record is at fault, found where all in front of it were given; or none is, and all were given or the device failed. Over a device
-- that does nothing of its own accord this is the first fault of all.
abbrev pub FoundFault : {P : Type 0} → Meaning P → List Entry → Option TraceFault → P → Option ReplayFault → Type 0
FoundFault {P} means es end old (Some fault) = (new : P) × WentThrough means es end old (Err (At fault)) new
FoundFault {P} means es end old None = (new : P) × (((tally : Tally) × WentThrough means es end old (Ok tally) new) ⊎ WentThrough means es end old (Err Device) new)
