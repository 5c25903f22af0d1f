-- What the contract of `serve` entails.
use Rattle.std.specs.Prelude.{◌≡◌, ◌⊎◌, ℕ, ◌≤◌, List, ◌∷◌, length, Option, Some, None}
use Rattle.std.specs.List.{flat_map}
use Rattle.sof_desk.specs.Desk.{DeskMeaning, DeskCall}
use Rattle.mbox_link.specs.Calls.{Meaning}
use Rattle.ipc3_trace.specs.declared.entry.Entry.{Entry}
use Rattle.ipc3_trace.specs.declared.fault.TraceFault.{TraceFault}
use Rattle.ipc3_trace.specs.Records.{records_bytes}
use Rattle.ipc3_trace.specs.WholeTraces.{IsTraceOf}
use Rattle.sof_session.specs.SessionStep.{Calm}
use Rattle.run_replay.specs.Replays.{replay_fault, ReplayVerdict}
use Rattle.run_serve.specs.declared.lines.Wrong.TheVariants.{Broken}
use Rattle.run_serve.specs.ServeWords.{ServeNames, fault_at}
use Rattle.run_serve.specs.Placed.{backs_of}
use Rattle.run_serve.specs.Serving.{ServeRound, ServeEnd, Over, Stopped, ServesAll, served_entries}
use Rattle.run_serve.specs.Served.{Serves}

-- ---- both files, merged

-- what was served, each message with what came back after it
abbrev pub merged_entries : List ServeRound → List Entry
merged_entries rounds = flat_map (λ (r : ServeRound). r.entry ∷ backs_of r.entry r.answer) rounds

-- records are a trace without a fault, and `replay` finds it right
pub record MergedRight (room : ℕ) (es : List Entry) : Type 0 where
  pub trace : IsTraceOf (records_bytes es) es None
  pub right : replay_fault room es None ≡ None
  -- a file of these bytes, at most as many as `replay` takes, replays with status 0, or the desk failed or memory was missing
  pub replays : (name bytes : List ℕ) (calls : List DeskCall) (status : ℕ) → bytes ≡ records_bytes es → length bytes ≤ 16777216 → ReplayVerdict room name bytes calls status → (status ≡ 0) ⊎ ((status ≡ 3) ⊎ (status ≡ 7))

-- so is what was served over a device that did nothing of its own accord
abbrev pub ServedReplays : {D P : Type 0} → DeskMeaning D → Meaning P → Type 0
ServedReplays {D} {P} means dsp =
    (names : ServeNames) (old new : D) (p q : P) (status : ℕ) (done : Serves means dsp names old p status new q) (all : ServesAll (dsp.most p) names done.calls status)
    → Calm dsp p q → MergedRight (dsp.most p) (merged_entries all.served.rounds)

-- ---- what the file has

-- the fault of the file at which serving ended, if one is, where the records before it have so many bytes
abbrev pub fault_of_end : ℕ → ServeEnd → Option TraceFault
fault_of_end at (Stopped pieces (Broken fault) said) = Some (fault_at at fault)
fault_of_end at ending = None

-- the file was read up to its end or its first fault
abbrev pub IsReadThrough : ServeEnd → Type 0
IsReadThrough (Over out) = Unit {0}
IsReadThrough (Stopped pieces (Broken fault) said) = Unit {0}
IsReadThrough ending = ⊥

-- then the records that were served are those of the file up to its first fault, where the desk tells its bytes
abbrev pub ServedTrace : {D P : Type 0} → DeskMeaning D → Meaning P → Type 0
ServedTrace {D} {P} means dsp =
    (names : ServeNames) (old new : D) (p q : P) (status : ℕ) (bytes : List ℕ) (done : Serves means dsp names old p status new q) (all : ServesAll (dsp.most p) names done.calls status)
    → means.holds old names.requests ≡ Some bytes → IsReadThrough all.served.ending
    → IsTraceOf bytes (served_entries all.served.rounds) (fault_of_end (length (records_bytes (served_entries all.served.rounds))) all.served.ending)
