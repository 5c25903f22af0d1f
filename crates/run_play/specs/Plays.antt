-- What is to be played, and the run that is played of it.
use Rattle.std.specs.Prelude.{◌≡◌, ◌⊎◌, ℕ, Bool, true, false, List, [], ◌++◌, length, map, take, Option, Some, None}
use Rattle.std.specs.List.{AllByRecursion}
use Rattle.sof_desk.specs.Desk.{DeskMeaning, Slot}
use Rattle.mbox_link.specs.Calls.{Meaning}
use Rattle.tplg_model.specs.declared.block.Topology.{Topology}
use Rattle.tplg_plan.specs.declared.plans.Plan.{Plan}
use Rattle.tplg_graph.specs.PlanOf.{plan_of}
use Rattle.sof_script.specs.Commands.{Bound, Read}
use Rattle.ipc3_trace.specs.declared.entry.Entry.{Entry}
use Rattle.sof_script.specs.declared.script.Command.{Command}
use Rattle.sof_session.specs.SessionStep.{Calm}
use Rattle.sof_session.specs.Modes.{Mode, made_at_load, made_on_use, basis_in}
use Rattle.sof_session.specs.Written.{Ground, Leg, IsRun, first_at}
use Rattle.sof_session.specs.Fills.{AreWhole, bytes_read}
use Rattle.sof_session.specs.Lives.{Life, Bare, device_of, inputs_of, reads_in}
use Rattle.sof_script.specs.Tasks.{Turn}
use Rattle.sof_session.specs.RunOver.{RunOver}
use Rattle.run_words.specs.Words.{Form, play_of}
use Rattle.run_play.specs.Keeping.{trace_slots, recorded_outs}
use Rattle.run_play.specs.Met.{met_units}
use Rattle.run_desk.specs.Bindings.{bound_files, bound_slots}
use Rattle.run_play.specs.Rounds.{Round, rounds_of}
use Rattle.run_desk.specs.Verdicts.{Fit, MakeRun}
use Rattle.run_play.specs.Pieces.{Piece, AreWritten, WroteBehind, WroteNone}

-- ---- what is to be played

-- the desk tells an input's file, of any length
abbrev pub IsGiven : (List ℕ → Option (List ℕ)) → Bound → Type 0
IsGiven holds b = b.input ≡ true → (bytes : List ℕ) × (holds b.file ≡ Some bytes)

-- what is to be played: the words have the form of `play`, `dynamic` or `trace`, and a topology and a script have at most their limits and make a run
pub record ToPlay (room : ℕ) (words : List (List ℕ)) : Type 0 where
  pub form : Form
  pub topology : List ℕ
  pub script : List ℕ
  pub t : Topology
  pub read : Read
  pub is_form : play_of room words ≡ Some form
  pub fit : Fit topology script
  pub make_run : MakeRun topology script t read

-- the desk tells the files of topology, script and inputs
abbrev pub AreFilesTold : {room : ℕ} {words : List (List ℕ)} → (List ℕ → Option (List ℕ)) → ToPlay room words → Type 0
AreFilesTold holds play = (holds play.form.topology ≡ Some play.topology) × (holds play.form.script ≡ Some play.script) × AllByRecursion (IsGiven holds) play.read.bindings

-- what its run is over: the topology's plan, the words' heap, these bytes of the inputs and the slots of the outputs
abbrev pub ground_of : {room : ℕ} {words : List (List ℕ)} → ToPlay room words → List (ℕ × List ℕ) → Ground
ground_of play whole = record { plan = plan_of play.t; heap = play.form.heap; whole = whole; slots = bound_slots (plan_of play.t) play.read.bindings }

-- the slots whose files are made: that of a trace that is kept, and those of the outputs
abbrev pub written_slots : {room : ℕ} {words : List (List ℕ)} → ToPlay room words → List ℕ
written_slots play = trace_slots play.form.trace ++ bound_slots (plan_of play.t) play.read.bindings

-- ---- what was played

-- the commands of units
abbrev pub commands_in : List Round → List Command
commands_in rounds = map (λ (round : Round). round.numbered.command) rounds

-- the records of a run are those that it leaves, unit by unit; or none, where no trace is kept
abbrev pub AreMet : Option (List ℕ) → Plan → ℕ → List Command → List (List Entry) → Type 0
AreMet None plan heap commands records = records ≡ []
AreMet (Some name) plan heap commands records = records ≡ met_units plan heap commands

-- The written run of the first units by the rules of a mode, one leg each, over the inputs' whole files. What was read of each file is a
-- front of it, and all of it where the input has ended; the run over what was read is the same, the turns made it, and device and inputs
-- stand where it leads. The pieces were written after what stood there once the files were made; where a trace is kept, the records of
-- each unit stand before its other pieces, and where no count of the device rose they are those that the run leaves.
pub record Plays {D P S A : Type 0} (means : DeskMeaning D) (dsp : Meaning P) (mode : Mode P S A) (trace : Option (List ℕ)) (g : Ground) (rounds : List Round) (old new : D) (status : ℕ) (p : P) (last : Life P) (turns : List Turn) (records : List (List Entry)) : Type 0 where
  pub legs : List (Leg S)
  pub read : List (ℕ × List ℕ)
  pub read_is : read ≡ bytes_read (reads_in turns)
  pub files : AreWhole (inputs_of last) read g.whole
  pub over : RunOver dsp mode (record g { whole = read }) (take (length legs) (commands_in rounds)) legs p turns last
  pub run : IsRun (basis_in mode g) over.doing (take (length legs) (commands_in rounds)) (first_at (basis_in mode g)) legs
  pub met : Calm dsp p (device_of last) → AreMet trace g.plan g.heap (take (length legs) (commands_in rounds)) records
  pub made : List Piece
  pub written : AreWritten rounds (recorded_outs records (map (λ (leg : Leg S). leg.out) legs)) made status
  pub wrote : WroteBehind means (trace_slots trace ++ g.slots) made old new

-- by the mode that the words ask for
abbrev pub PlaysIn : {D P : Type 0} → Bool → DeskMeaning D → Meaning P → Option (List ℕ) → Ground → List Round → D → D → ℕ → P → Life P → List Turn → List (List Entry) → Type 0
PlaysIn false means dsp trace g rounds old new status p last turns records = Plays means dsp made_at_load trace g rounds old new status p last turns records
PlaysIn true means dsp trace g rounds old new status p last turns records = Plays means dsp (made_on_use dsp) trace g rounds old new status p last turns records

-- nothing of the run was written, and the device is as it was handed in: the desk failed, or there was no memory, and then no file was
-- created
pub record Unbegun {D P : Type 0} (means : DeskMeaning D) (slots : List ℕ) (old new : D) (status : ℕ) (p : P) (last : Life P) : Type 0 where
  pub ended : (status ≡ 3) ⊎ (status ≡ 7)
  pub wrote : WroteNone means slots old new
  pub wanting : status ≡ 7 → (slot : ℕ) → means.wrote new (Slot slot) ≡ means.wrote old (Slot slot)
  pub device : last ≡ Bare p

-- what is to be played, of files that the desk tells, is played over the whole files of its inputs, or ended before it was begun
abbrev pub PlaysWhole : {D P : Type 0} → DeskMeaning D → Meaning P → List (List ℕ) → D → D → ℕ → P → Life P → List Turn → List (List Entry) → Type 0
PlaysWhole means dsp words old new status p last turns records =
    (play : ToPlay (dsp.most p) words) → AreFilesTold (means.holds old) play
    → let g = ground_of play (bound_files (plan_of play.t) (means.holds old) [] play.read.bindings) in
    PlaysIn play.form.on_use means dsp play.form.trace g (rounds_of play.read.commands) old new status p last turns records ⊎ Unbegun means (written_slots play) old new status p last
