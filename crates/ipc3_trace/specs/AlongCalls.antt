-- The records that calls on a device leave, one call after another.
use Rattle.std.specs.Prelude.{ℕ, Bool, true, false, List, [], ◌∷◌, ◌++◌, Option, Some, None, is_some}
use Rattle.mbox_link.specs.Calls as calls
use Rattle.mbox_link.specs.Calls.{World, Meaning, Call, Led}
use Rattle.ipc3_trace.specs.declared.entry.Entry.{Entry}
use Rattle.ipc3_trace.specs.declared.entry.Entry.TheVariants.{Boot, Cut, Request, Reply, Tick, Lost}

-- what came back of an exchange
abbrev pub back_of : Option (List ℕ) → Entry
back_of (Some reply) = Reply reply
back_of None = Lost

-- the records of a call that meets a device that is on, or off
abbrev pub entries_by : Bool → Call → List Entry
entries_by on (calls.Boot heap) = Boot heap ∷ []
entries_by true calls.Cut = Cut ∷ []
entries_by false calls.Cut = []
entries_by on (calls.Exchange request answer) = Request request ∷ back_of answer ∷ []
entries_by true calls.Tick = Tick ∷ []
entries_by false calls.Tick = []

-- and of calls
abbrev pub entries_along : {D : Type 0} (means : Meaning D) (w : World D) (cs : List Call) (v : World D) → Led means w cs v → List Entry
entries_along means w [] v led = []
entries_along means w (call ∷ cs) v led = entries_by (is_some (means.on w.device)) call ++ entries_along means led.0 cs v led.2
