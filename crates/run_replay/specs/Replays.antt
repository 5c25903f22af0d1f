-- What `replay` does, by the bytes of its file, over a device.
use Rattle.std.specs.Prelude.{◌≡◌, ◌⊎◌, ℕ, ◌<◌, ◌≤◌, List, [], ◌∷◌, length, map, Option, Some, None, is_some, option_map, Ok, Err, codes}
use Rattle.std.specs.Option.{option_or}
use Rattle.sof_desk.specs.declared.calls.LoadFault.TheVariants.{TooLong}
use Rattle.sof_desk.specs.Desk.{DeskMeaning, DeskCall, Load}
use Rattle.stream_law.specs.State.{FwState, view_of}
use Rattle.mbox_link.specs.Step.{step}
use Rattle.mbox_link.specs.Exchange.{Rose}
use Rattle.mbox_link.specs.Calls.{Meaning}
use Rattle.ipc3_trace.specs.declared.entry.Entry.{Entry}
use Rattle.ipc3_trace.specs.declared.entry.Entry.TheVariants.{Request}
use Rattle.ipc3_trace.specs.declared.fault.TraceFault.{TraceFault}
use Rattle.ipc3_trace.specs.declared.fault.ReplayFault.{ReplayFault}
use Rattle.ipc3_trace.specs.Steps.{step_by, steps_of}
use Rattle.ipc3_trace.specs.WholeTraces.{IsTraceOf}
use Rattle.ipc3_trace.specs.FaultLines.{replay_fault_line}
use Rattle.sof_session.specs.Lives.{Life, Bare, device_of}
use Rattle.sof_session.specs.SessionStep.{Calm}
use Rattle.sof_session.specs.Written.{raised}
use Rattle.run_desk.specs.DeskCalls.{heard_in, saying}
use Rattle.run_desk.specs.Lines.{with_newline}
use Rattle.run_words.specs.TraceForms.{replay_of}
use Rattle.run_replay.specs.Replaying.{next_place, record_fault, end_fault, tally_of, replay_lines}

-- ---- the first record at fault, where the device does nothing of its own accord

-- the reply that is awaited after a record: that of the firmware's step, where it is a message
abbrev pub reply_after : Option FwState → Entry → Option (List ℕ)
reply_after s (Request message) = option_map (λ f. (step f message).1) s
reply_after s e = None

-- of records from a place on, where those before them lead to this state
abbrev pub fault_from : ℕ → List Entry → Option TraceFault → Option FwState → Option (List ℕ) → ℕ → Option ReplayFault
fault_from room [] end s awaited at = end_fault awaited at end
fault_from room (e ∷ es) end s awaited at =
    option_or (record_fault room (is_some s) awaited at e) (fault_from room es end (step_by s e) (reply_after s e) (next_place at e))

-- of all, from a device that is off
abbrev pub replay_fault : ℕ → List Entry → Option TraceFault → Option ReplayFault
replay_fault room es end = fault_from room es end None None 0

-- ---- all

-- what is said of records without a fault, each line with its newline
abbrev pub replayed_lines : List Entry → List (List ℕ)
replayed_lines es = map with_newline (replay_lines (tally_of es) (is_some (steps_of es)))

-- The status by the file's bytes, whose cases exclude each other, and all calls on the desk: a desk that failed or want of memory; 5
-- where the file is too long; 2 where a record is at fault, and then the line for the first was said; 0 where none is, and then the four
-- lines were said.
abbrev pub ReplayVerdict : ℕ → List ℕ → List ℕ → List DeskCall → ℕ → Type 0
ReplayVerdict room name bytes calls status =
    ((status ≡ 3) ⊎ (status ≡ 7))
    ⊎ (((status ≡ 5) × (16777216 < length bytes) × (calls ≡ Load name 16777216 (Err TooLong) ∷ saying (codes "too long trace\n") ∷ []))
    ⊎ (((es : List Entry) × (end : Option TraceFault) × (fault : ReplayFault) × (status ≡ 2) × (length bytes ≤ 16777216) × IsTraceOf bytes es end × (replay_fault room es end ≡ Some fault)
    × (calls ≡ Load name 16777216 (Ok bytes) ∷ saying (replay_fault_line fault) ∷ []))
    ⊎ ((es : List Entry) × (status ≡ 0) × (length bytes ≤ 16777216) × IsTraceOf bytes es None × (replay_fault room es None ≡ None)
    × (calls ≡ Load name 16777216 (Ok bytes) ∷ map saying (replayed_lines es)))))

-- Where the words are those of `replay`.
pub record Replays {D P : Type 0} (means : DeskMeaning D) (dsp : Meaning P) (words : List (List ℕ)) (old : D) (p : P) (calls : List DeskCall) (status : ℕ) (new : D) (last : Life P) : Type 0 where
  -- the device fails only where its count of faults rose
  pub failed : (name : List ℕ) → replay_of words ≡ Some name → status ≡ 10 → Rose (dsp.faults p) (dsp.faults (device_of last))
  -- no call was made on it where the file is too long or there was no memory
  pub untouched : (name : List ℕ) → replay_of words ≡ Some name → (status ≡ 5) ⊎ (status ≡ 7) → last ≡ Bare p
  -- Over a device whose counts did not rise the status is by the file's bytes, where the desk tells them, and, whatever the desk tells,
  -- by those that the load brought.
  pub judged : (name bytes : List ℕ) → replay_of words ≡ Some name → (means.holds old name ≡ Some bytes) ⊎ (heard_in calls ≡ Ok bytes ∷ []) → Calm dsp p (device_of last)
      → ReplayVerdict (dsp.most p) name bytes calls status
  -- with status 0 the device has the view that the records make of one that is off, or is off as that is, and was booted as often as they say
  pub view : (name bytes : List ℕ) (es : List Entry) → replay_of words ≡ Some name → heard_in calls ≡ Ok bytes ∷ [] → IsTraceOf bytes es None → status ≡ 0 → Calm dsp p (device_of last)
      → option_map view_of (dsp.on (device_of last)) ≡ option_map view_of (steps_of es)
  pub boots : (name bytes : List ℕ) (es : List Entry) → replay_of words ≡ Some name → heard_in calls ≡ Ok bytes ∷ [] → IsTraceOf bytes es None → status ≡ 0
      → dsp.boots (device_of last) ≡ raised (tally_of es).boots (dsp.boots p)
