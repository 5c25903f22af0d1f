-- The turns of a device that holds something of its calls, which is written in front of what each unit writes.
use Rattle.std.specs.Prelude.{◌≡◌, ℕ, true, List, [], Option}
use Rattle.sof_base.specs.Ports.{InputView}
use Rattle.sof_desk.specs.Desk.{DeskMeaning}
use Rattle.mbox_link.specs.Calls.{Meaning}
use Rattle.mbox_link.specs.Drained.{Drained}
use Rattle.sof_script.specs.declared.script.Command.{Command}
use Rattle.sof_session.specs.Agreement.{AreAgreed}
use Rattle.sof_session.specs.SessionView.{SessionView, seat_in, with_device}
use Rattle.sof_script.specs.Tasks.{Out, Begin, Fill, Carry, Turn, Turning}
use Rattle.ipc3_trace.specs.declared.entry.Entry.{Entry}
use Rattle.sof_session.specs.Lives.{Life, Bare, Seated, Turned, Turns, device_of, Exit}
use Rattle.run_play.specs.Keeping.{trace_slot, fronted, recorded_turns, KeptRecords}
use Rattle.run_desk.specs.Todo.{Todo, Played}

-- a session carries out a command; what its device holds then stands before what was written, and the device lets go of it
pub record KeptCarry {K : Type 0} (means : Meaning K) (holds : K → List ℕ) (empties : K → K → Type 0) (command : Command) (out : Out) (old : Life K) (seat' : SessionView K) (inputs' : List InputView) (slots' : List ℕ) : Type 0 where
  pub left : SessionView K
  pub bare : Out
  pub turned : Turned means (Carry command) bare old (Seated left inputs' slots')
  pub out_is : out ≡ fronted (holds left.link.device) bare
  pub emptied : Drained means empties left.link.device seat'.link.device
  pub rest : seat' ≡ with_device left seat'.link.device

-- a session is begun whose two sides agree, its inputs are filled, or it carries out a command
abbrev pub KeptTurn : {K : Type 0} → Meaning K → (K → List ℕ) → (K → K → Type 0) → Turning (Life K)
KeptTurn means holds empties (Begin on_use plan heap inputs slots) out (Bare dsp) new = (new ≡ Seated (seat_in on_use plan heap dsp) inputs slots) × AreAgreed means (seat_in on_use plan heap dsp)
KeptTurn means holds empties (Fill reads next) out old new = Turned means (Fill reads next) out old new
KeptTurn means holds empties (Carry command) out old (Seated seat' inputs' slots') = KeptCarry means holds empties command out old seat' inputs' slots'
KeptTurn means holds empties _ out old new = ⊥

-- what a device may hold can be written: the file is there
abbrev pub CanKeep : {D K : Type 0} → DeskMeaning D → (K → List ℕ) → D → Type 0
CanKeep {D} {K} means holds d = (k : K) → (holds k ≡ [] → ⊥) → means.created d trace_slot ≡ true

-- It was done over a device by turns of sessions, with these records in front where a trace is kept; and the device that is handed back.
pub record GaveKept {D P : Type 0} (means : DeskMeaning D) (dsp : Meaning P) (trace : Option (List ℕ)) (todo : Todo) (old : D) (p : P) (status : ℕ) (new : D) (q : P) : Type 0 where
  pub last : Life P
  pub is : device_of last ≡ q
  pub exit : Exit dsp p last
  pub turns : List Turn
  pub turned : Turns dsp (Bare p) turns last
  pub records : List (List Entry)
  pub kept : KeptRecords dsp trace (Bare p) turns last turned records
  pub played : Played means todo old (recorded_turns records turns) status new
