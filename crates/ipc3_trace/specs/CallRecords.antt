-- The records of calls on a device, one after another.
use Rattle.std.specs.Prelude.{◌≡◌, ◌+◌, ◌≤◌, ℕ, true, false, List, [], ◌∷◌, ◌++◌, length, Option, Some, is_some}
use Rattle.std.specs.List.{AllByRecursion}
use Rattle.stream_law.specs.State.{FwState}
use Rattle.mbox_link.specs.Exchange.{Rose}
use Rattle.mbox_link.specs.Calls as calls
use Rattle.mbox_link.specs.Calls.{World, Meaning, Call, Did, Led}
use Rattle.mbox_link.specs.Step.{step}
use Rattle.ipc3_trace.specs.AlongCalls.{entries_along}
use Rattle.ipc3_trace.specs.Records.{IsEntry, records_bytes}
use Rattle.ipc3_trace.specs.Steps.{steps_from, AreAlike}
use Rattle.ipc3_trace.specs.Tracing.{Traced, tracer, traced}

-- A tracer to which all records of these calls fit holds them after those that it held, and a reader takes each of them.
abbrev pub HoldsRecords : {P : Type 0} → Meaning P → Type 0
HoldsRecords {P} means =
    (w v : World (Traced P)) (cs : List Call) (led : Led (tracer means) w cs v) → v.device.held.cut_short ≡ false
    → (w.device.held.cut_short ≡ false) × (v.device.held.bytes ≡ w.device.held.bytes ++ records_bytes (entries_along (tracer means) w cs v led))
    × AllByRecursion IsEntry (entries_along (tracer means) w cs v led)

-- And one that has room for all records of these calls, which a reader takes, cuts none short.
abbrev pub FitsRecords : {P : Type 0} → Meaning P → Type 0
FitsRecords {P} means =
    (w v : World (Traced P)) (cs : List Call) (led : Led (tracer means) w cs v) → w.device.held.cut_short ≡ false → AllByRecursion IsEntry (entries_along (tracer means) w cs v led)
    → length w.device.held.bytes + length (records_bytes (entries_along (tracer means) w cs v led)) ≤ 1048576 → v.device.held.cut_short ≡ false

-- The calls of a tracer are calls of its device, which leave these records.
abbrev pub TracerIsDevice : {P : Type 0} → Meaning P → Type 0
TracerIsDevice {P} means =
    (w v : World (Traced P)) (cs : List Call) (led : Led (tracer means) w cs v)
    → (inside : Led means (traced w) cs (traced v)) × (entries_along (tracer means) w cs v led ≡ entries_along means (traced w) cs (traced v) inside)

-- ---- what the records make of a device

-- A call on a device that does nothing of its own accord: an exchange meets a device that is on with no tick pending, and no count rises in
-- it.
abbrev pub IsPlain : {D : Type 0} → Meaning D → Call → World D → World D → Type 0
IsPlain means (calls.Exchange request answer) w v =
    (is_some (means.on w.device) ≡ true) × (means.pending w.device ≡ 0)
    × (Rose (means.faults w.device) (means.faults v.device) → ⊥) × (Rose (means.refusals w.device) (means.refusals v.device) → ⊥)
IsPlain means call w v = Unit {0}

abbrev pub ArePlain : {D : Type 0} (means : Meaning D) (w : World D) (cs : List Call) (v : World D) → Led means w cs v → Type 0
ArePlain means w [] v led = Unit {0}
ArePlain means w (call ∷ cs) v led = IsPlain means call w led.0 × ArePlain means led.0 cs v led.2

-- From a device and records that agree on it but for its audio, plain calls lead to where their records lead.
abbrev pub RecordsLead : {D : Type 0} → Meaning D → Type 0
RecordsLead {D} means =
    (w v : World D) (cs : List Call) (led : Led means w cs v) → ArePlain means w cs v led → (s : Option FwState) → AreAlike (means.on w.device) s
    → AreAlike (means.on v.device) (steps_from s (entries_along means w cs v led))

-- And each reply of a plain exchange is the one that the firmware gives where the records before it lead.
abbrev pub RepliesAreFirmware : {D : Type 0} → Meaning D → Type 0
RepliesAreFirmware {D} means =
    (w v : World D) (request reply : List ℕ) → Did means (calls.Exchange request (Some reply)) w v → IsPlain means (calls.Exchange request (Some reply)) w v
    → (f : FwState) → AreAlike (means.on w.device) (Some f) → reply ≡ (step f request).1
