-- What a trace that is kept holds, and what its records make of a device.
use Rattle.std.specs.Prelude.{◌≡◌, ◌⊎◌, ℕ, true, List, [], ◌∷◌, ◌++◌, length, take, Some, None, Ok, option_map, if◌then◌else◌}
use Rattle.sof_desk.specs.Desk.{DeskMeaning, DeskPlace, DeskCall, Did, Put, Slot, same_place}
use Rattle.stream_law.specs.State.{view_of}
use Rattle.mbox_link.specs.Calls.{Meaning}
use Rattle.tplg_graph.specs.PlanOf.{plan_of}
use Rattle.ipc3_trace.specs.declared.entry.Entry.{Entry}
use Rattle.ipc3_trace.specs.Records.{records_bytes}
use Rattle.ipc3_trace.specs.Steps.{steps_of}
use Rattle.ipc3_trace.specs.WholeTraces.{IsTraceOf}
use Rattle.sof_script.specs.Tasks.{Turn}
use Rattle.sof_session.specs.Lives.{Life, device_of, carried_outs}
use Rattle.sof_session.specs.SessionStep.{Calm}
use Rattle.run_desk.specs.DeskCalls.{heard_in}
use Rattle.run_play.specs.Keeping.{trace_slot}
use Rattle.run_play.specs.Met.{met, met_units}
use Rattle.run_play.specs.Rounds.{rounds_of}
use Rattle.run_play.specs.Plays.{ToPlay, AreFilesTold, commands_in}

-- the bytes that calls put at a place
abbrev pub put_at : DeskPlace → List DeskCall → List ℕ
put_at place [] = []
put_at place (Did (Put to piece) true ∷ calls) = if same_place to place then piece ++ put_at place calls else put_at place calls
put_at place (call ∷ calls) = put_at place calls

-- the records that the whole run leaves
abbrev pub met_in : {room : ℕ} {words : List (List ℕ)} → ToPlay room words → List Entry
met_in play = met (plan_of play.t) play.form.heap (commands_in (rounds_of play.read.commands))

pub record TraceHolds {D P : Type 0} {room : ℕ} {words : List (List ℕ)} (means : DeskMeaning D) (dsp : Meaning P) (play : ToPlay room words) (turns : List Turn) (calls : List DeskCall) (old new : D) (status : ℕ) (last : Life P) (records : List (List Entry)) : Type 0 where
  -- the records are those that the run of the first units leaves, of as many as the turns carried out
  pub left : heard_in calls ≡ Ok play.topology ∷ Ok play.script ∷ [] → records ≡ met_units (plan_of play.t) play.form.heap (take (length (carried_outs turns)) (commands_in (rounds_of play.read.commands)))
  -- with status 0 the device has the view that those of the whole run make of one that is off, or is off as that is
  pub view : AreFilesTold (means.holds old) play ⊎ (heard_in calls ≡ Ok play.topology ∷ Ok play.script ∷ []) → status ≡ 0 → option_map view_of (dsp.on (device_of last)) ≡ option_map view_of (steps_of (met_in play))
  -- and the calls put these, and no other bytes, to the trace's slot, as a trace that a reader takes whole
  pub put : heard_in calls ≡ Ok play.topology ∷ Ok play.script ∷ [] → status ≡ 0 → (put_at (Slot trace_slot) calls ≡ records_bytes (met_in play)) × IsTraceOf (records_bytes (met_in play)) (met_in play) None
  -- the file holds them, where the desk tells the files and what was written
  pub file : AreFilesTold (means.holds old) play → status ≡ 0 → (bytes : List ℕ) → means.wrote new (Slot trace_slot) ≡ Some bytes
      → (bytes ≡ records_bytes (met_in play)) × IsTraceOf bytes (met_in play) None

-- where a trace is kept and no count of the device rose
abbrev pub TracesWhole : {D P : Type 0} → DeskMeaning D → Meaning P → List (List ℕ) → List Turn → List DeskCall → D → D → ℕ → P → Life P → List (List Entry) → Type 0
TracesWhole means dsp words turns calls old new status p last records =
    (play : ToPlay (dsp.most p) words) (name : List ℕ) → play.form.trace ≡ Some name → Calm dsp p (device_of last) → TraceHolds means dsp play turns calls old new status last records
