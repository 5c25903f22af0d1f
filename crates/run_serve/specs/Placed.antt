-- Which record of a driver may come where, and what a device does with it.
use Rattle.std.specs.Prelude.{◌≡◌, ℕ, nat_le, Bool, true, false, not, ◌&&◌, List, [], ◌∷◌, Option, Some, None, is_some}
use Rattle.mbox_link.specs.Calls as calls
use Rattle.mbox_link.specs.Calls.{Meaning, Call, Did, world}
use Rattle.ipc3_trace.specs.declared.entry.Entry.{Entry}
use Rattle.ipc3_trace.specs.declared.entry.Entry.TheVariants as entries
use Rattle.ipc3_trace.specs.Records.{IsEntry}
use Rattle.ipc3_trace.specs.AlongCalls.{back_of}
use Rattle.run_serve.specs.declared.giving.Given.{Given}
use Rattle.run_serve.specs.declared.giving.Given.TheVariants.{Done, Reply, Lost, Misplaced}

-- a boot of a device that is off, with a heap of at most its room; a cut, a message or a tick of one that is on
abbrev pub may_come : ℕ → Bool → Entry → Bool
may_come room on (entries.Boot heap) = not on && nat_le heap room
may_come room on entries.Cut = on
may_come room on (entries.Request message) = on
may_come room on (entries.Reply reply) = false
may_come room on entries.Tick = on
may_come room on entries.Lost = false

-- the call of a record, a message's with what came back; a reply and a loss have none
abbrev pub device_calls_of : Entry → Option (List ℕ) → List Call
device_calls_of (entries.Boot heap) answer = calls.Boot heap ∷ []
device_calls_of entries.Cut answer = calls.Cut ∷ []
device_calls_of (entries.Request message) answer = calls.Exchange message answer ∷ []
device_calls_of (entries.Reply reply) answer = []
device_calls_of entries.Tick answer = calls.Tick ∷ []
device_calls_of entries.Lost answer = []

-- what comes back of a record: of a message its reply, or a loss
abbrev pub backs_of : Entry → Option (List ℕ) → List Entry
backs_of (entries.Request message) answer = back_of answer ∷ []
backs_of e answer = []

-- a call was made
abbrev pub DidCall : {P : Type 0} → Meaning P → Call → P → P → Type 0
DidCall means call old new = Did means call (world old [] []) (world new [] [])

-- a record that may come was given by its call, and a reader takes the record of the reply that came back
abbrev pub GaveByCall : {P : Type 0} → Meaning P → Entry → Given → P → P → Type 0
GaveByCall means (entries.Boot heap) Done old new = DidCall means (calls.Boot heap) old new
GaveByCall means entries.Cut Done old new = DidCall means calls.Cut old new
GaveByCall means (entries.Request message) (Reply reply) old new = IsEntry (entries.Reply reply) × DidCall means (calls.Exchange message (Some reply)) old new
GaveByCall means (entries.Request message) Lost old new = DidCall means (calls.Exchange message None) old new
GaveByCall means entries.Tick Done old new = DidCall means calls.Tick old new
GaveByCall means e given old new = ⊥

-- a record was given, or can't come there, and then nothing was done
abbrev pub WasGiven : {P : Type 0} → Meaning P → Entry → Given → P → P → Type 0
WasGiven means e Misplaced old new = (may_come (means.most old) (is_some (means.on old)) e ≡ false) × (new ≡ old)
WasGiven means e given old new = (may_come (means.most old) (is_some (means.on old)) e ≡ true) × GaveByCall means e given old new
