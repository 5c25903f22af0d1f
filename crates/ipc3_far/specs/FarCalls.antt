-- The calls on a device that a far side is compared with, where the far side failed in no message.
use Rattle.std.specs.Prelude.{◌≡◌, ◌+◌, ◌<◌, ◌^◌, false, List, [], ◌∷◌}
use Rattle.std.specs.List.{flat_map}
use Rattle.std.specs.Io.KnownBytes.{Appends, Consumes}
use Rattle.mbox_link.specs.Calls.{World, Meaning, Call, Led}
use Rattle.ipc3_trace.specs.declared.entry.Entry.{Entry}
use Rattle.ipc3_trace.specs.declared.entry.Entry.TheVariants.{Reply, Lost}
use Rattle.ipc3_trace.specs.Records.{records_bytes}
use Rattle.ipc3_trace.specs.AlongCalls.{entries_along}
use Rattle.ipc3_far.specs.FarEnds.{FarEnds}
use Rattle.ipc3_far.specs.FarDevices.{FarDevice, far, own_world}

-- they are calls on the device itself, in the same order and with the same answers
abbrev pub AgreedCalls : {P : Type 0} → Meaning P → Type 0
AgreedCalls {P} means =
    (w v : World (FarDevice P)) (calls : List Call)
    → Led (far means) w calls v → v.device.broken ≡ w.device.broken → w.device.broken + 1 < 2 ^ 64
    → Led means (own_world w) calls (own_world v)

-- ---- the bytes between both

-- a record that goes to a far side, and one that comes from it
abbrev pub to_far : Entry → List Entry
to_far (Reply reply) = []
to_far Lost = []
to_far e = e ∷ []

abbrev pub from_far : Entry → List Entry
from_far (Reply reply) = Reply reply ∷ []
from_far Lost = Lost ∷ []
from_far e = []

-- of a trace, the records that go to a far side were sent, and those that come from it were read, and nothing else
pub record WentOver (es : List Entry) (old new : FarEnds) : Type 0 where
  pub all : old.stuck ≡ false
  pub sent : Appends old.sent new.sent (records_bytes (flat_map to_far es))
  pub read : Consumes old.unread new.unread (records_bytes (flat_map from_far es))

-- so was the trace of the calls, where each record went out
abbrev pub TracedCalls : {P : Type 0} → Meaning P → Type 0
TracedCalls {P} means =
    (w v : World (FarDevice P)) (calls : List Call) (led : Led (far means) w calls v)
    → v.device.broken ≡ w.device.broken → w.device.broken + 1 < 2 ^ 64 → v.device.ends.stuck ≡ false
    → WentOver (entries_along (far means) w calls v led) w.device.ends v.device.ends
