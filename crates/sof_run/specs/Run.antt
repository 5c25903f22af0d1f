-- What `run` does, by its words: over every desk and every device.
use Rattle.std.specs.Prelude.{◌≡◌, ℕ, List, Option, None}
use Rattle.std.specs.List.{AllByRecursion}
use Rattle.sof_desk.specs.Desk.{DeskMeaning, DeskCall, DeskLed, CountRose}
use Rattle.mbox_link.specs.Calls.{Meaning}
use Rattle.tplg_model.specs.declared.block.Topology.{Topology}
use Rattle.ipc3_trace.specs.declared.entry.Entry.{Entry}
use Rattle.sof_session.specs.Lives.{Life, Bare, Turns, device_of, Exit}
use Rattle.sof_script.specs.Tasks.{Turn}
use Rattle.sof_stress.specs.StressRun.{sent_in}
use Rattle.run_desk.specs.TopologyBytes.{BringsBytes}
use Rattle.run_words.specs.Words.{trace_named}
use Rattle.run_play.specs.Keeping.{recorded_turns, KeptRecords}
use Rattle.run_words.specs.TraceForms.{replay_of}
use Rattle.run_desk.specs.DeskCalls.{heard_in}
use Rattle.sof_run.specs.Findings.{FollowsCourse}
use Rattle.run_desk.specs.OpeningCalls.{IsOpening}
use Rattle.sof_run.specs.Ends.{IsEarly, Worded}
use Rattle.sof_run.specs.PlayVerdict.{Judged}
use Rattle.run_play.specs.Plays.{PlaysWhole}
use Rattle.run_play.specs.HeardRuns.{PlaysWhatIsHeard}
use Rattle.run_words.specs.ToolForms.{check_of, graph_file_of}
use Rattle.run_tools.specs.Checking.{count_lines}
use Rattle.run_tools.specs.Picturing.{picture_lines}
use Rattle.run_tools.specs.Checks.{Checks}
use Rattle.run_tools.specs.Compiles.{Compiles}
use Rattle.run_tools.specs.Sources.{Sources}
use Rattle.sof_run.specs.Stresses.{StressesWhole}
use Rattle.run_tools.specs.Decodes.{Decodes}
use Rattle.run_play.specs.Traces.{TracesWhole}
use Rattle.run_replay.specs.Replays.{Replays}

-- The turns on the device, each a session's step or a call, and the calls on the desk: those that the words ask for, in their order and
-- no others. Where a trace is kept, the records of each command's calls on the device stand before all else that it writes. What a load
-- brought is bytes. Status 3 comes only where the desk's count rose.
pub record Called {D P : Type 0} (source : Topology → Option (List ℕ)) (means : DeskMeaning D) (dsp : Meaning P) (words : List (List ℕ)) (old : D) (p : P) (status : ℕ) (new : D) (last : Life P) : Type 0 where
  pub turns : List Turn
  pub turned : Turns dsp (Bare p) turns last
  pub calls : List DeskCall
  pub led : DeskLed means old calls new
  pub bytes : AllByRecursion BringsBytes (heard_in calls)
  pub records : List (List Entry)
  pub kept : KeptRecords dsp (trace_named (dsp.most p) words) (Bare p) turns last turned records
  pub follows : FollowsCourse source (dsp.most p) (sent_in last) words (recorded_turns records turns) calls status
  pub failed : status ≡ 3 → CountRose (means.faults old) (means.faults new)

-- The device that is handed back: where no trace is given to it, the one that was handed in, or that of a session whose two sides agree. It
-- is the one that was handed in after every status that comes before any command, and where the desk failed at a load, a create or an
-- open.
pub record Left {P : Type 0} (dsp : Meaning P) (words : List (List ℕ)) (p q : P) (last : Life P) (calls : List DeskCall) (status : ℕ) : Type 0 where
  pub is : device_of last ≡ q
  pub exit : replay_of words ≡ None → Exit dsp p last
  pub untouched : replay_of words ≡ None → IsEarly status → last ≡ Bare p
  pub unasked : status ≡ 3 → AllByRecursion IsOpening calls → last ≡ Bare p

-- All that is said of `run`, by the text that is the source of a topology, if it has one. `run` names it; part `sources` says what it means.
pub record RunContract {D P : Type 0} (source : Topology → Option (List ℕ)) (means : DeskMeaning D) (dsp : Meaning P) (words : List (List ℕ)) (old : D) (p : P) (status : ℕ) (new : D) (q : P) : Type 0 where
  pub last : Life P
  pub called : Called source means dsp words old p status new last
  pub exit : Left dsp words p q last called.calls status
  pub worded : Worded (dsp.most p) words status
  pub judged : Judged means (dsp.most p) words old called.calls status
  pub run : PlaysWhole means dsp words old new status p last called.turns called.records
  pub heard : PlaysWhatIsHeard dsp words called.calls called.turns status p last
  pub checks : Checks means count_lines (check_of words) old (Bare p) called.calls status new last
  pub pictures : Checks means picture_lines (graph_file_of words) old (Bare p) called.calls status new last
  pub compiles : Compiles means words old (Bare p) called.calls status new last
  pub sources : Sources source means words old (Bare p) called.calls status new last
  pub stresses : StressesWhole means dsp words old new status p last called.turns
  pub traces : TracesWhole means dsp words called.turns called.calls old new status p last called.records
  pub decodes : Decodes means words old (Bare p) called.calls status new last
  pub replays : Replays means dsp words old p called.calls status new last
