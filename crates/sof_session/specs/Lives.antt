-- A device before a session and in it, and the turns of a program over it.
use Rattle.std.specs.Prelude.{◌≡◌, ℕ, List, [], ◌∷◌}
use Rattle.std.specs.List.{flat_map}
use Rattle.sof_base.specs.Ports.{InputView, OutputView}
use Rattle.mbox_link.specs.Calls.{Meaning, Did, world}
use Rattle.sof_script.specs.declared.script.Command.{Command}
use Rattle.sof_session.specs.Agreement.{AreAgreed}
use Rattle.sof_session.specs.Fills.{FilledBy, next_read, input_ends}
use Rattle.sof_session.specs.SessionView.{SessionView, seat_in}
use Rattle.sof_session.specs.Modes.{SteppedBy, shown_in}
use Rattle.sof_script.specs.Tasks.{Out, Task, Begin, Fill, Carry, Give, Turn, AreTurns}
use Rattle.sof_session.specs.Written.{empty_outputs, written_in}

-- a device before a session, and in it with the inputs and the slots of the outputs
pub data Life (P : Type 0) : Type 0 where
  Bare : (dsp : P) → Life P
  Seated : (seat : SessionView P) (inputs : List InputView) (slots : List ℕ) → Life P

-- the device in a life
abbrev pub device_of : {P : Type 0} → Life P → P
device_of (Bare dsp) = dsp
device_of (Seated seat inputs slots) = seat.link.device

-- its inputs, none before a session
abbrev pub inputs_of : {P : Type 0} → Life P → List InputView
inputs_of (Bare dsp) = []
inputs_of (Seated seat inputs slots) = inputs

-- ---- turns

-- a session carries out a command: its step, from outputs to which nothing was written, over the same plan, heap and inputs
pub record Carries {P : Type 0} (means : Meaning P) (command : Command) (out : Out) (old new : SessionView P) (inputs inputs' : List InputView) (slots : List ℕ) : Type 0 where
  pub outputs : List OutputView
  pub stepped : SteppedBy means command old new (world old.link inputs (empty_outputs slots)) (world new.link inputs' outputs) out.answer
  pub shown : out.shown ≡ shown_in command old.up old.plan old.kept
  pub written : out.written ≡ written_in outputs
  pub ends : input_ends inputs' ≡ input_ends inputs
  pub plan_is : new.plan ≡ old.plan
  pub heap_is : new.heap ≡ old.heap
  pub agrees : AreAgreed means new

-- a turn: a session is begun over a bare device, has its inputs filled and stays as it is, or carries out a command; or a bare device
-- does a call, with endpoints that have no slots
abbrev pub Turned : {P : Type 0} → Meaning P → Task → Out → Life P → Life P → Type 0
Turned means (Begin on_use plan heap inputs slots) out (Bare dsp) new = new ≡ Seated (seat_in on_use plan heap dsp) inputs slots
Turned means (Fill reads next) out (Seated seat inputs slots) (Seated seat' inputs' slots') =
    (seat' ≡ seat) × (slots' ≡ slots) × FilledBy reads inputs inputs' × (next_read inputs' ≡ next)
Turned means (Carry command) out (Seated seat inputs slots) (Seated seat' inputs' slots') =
    (slots' ≡ slots) × Carries means command out seat seat' inputs inputs' slots
Turned means (Give call) out (Bare dsp) (Bare dsp') = Did means call (world dsp [] []) (world dsp' [] [])
Turned means _ out old new = ⊥

-- of sessions
abbrev pub Turns : {P : Type 0} → Meaning P → Life P → List Turn → Life P → Type 0
Turns means p turns q = AreTurns (Turned means) p turns q

-- ---- what turns read and answered

abbrev pub reads_by : Task → List (ℕ × List ℕ)
reads_by (Fill reads next) = reads
reads_by _ = []

-- all reads of turns, in their order
abbrev pub reads_in : List Turn → List (ℕ × List ℕ)
reads_in turns = flat_map (λ (turn : Turn). reads_by turn.task) turns

abbrev pub with_out : Task → Out → List Out → List Out
with_out (Carry command) out outs = out ∷ outs
with_out _ out outs = outs

-- what the turns that carried out commands answered
abbrev pub carried_outs : List Turn → List Out
carried_outs [] = []
carried_outs (turn ∷ turns) = with_out turn.task turn.out (carried_outs turns)

-- ---- the end

-- the device that is handed back is the one that was handed in, or that of a session whose two sides agree
abbrev pub Exit : {P : Type 0} → Meaning P → P → Life P → Type 0
Exit means p (Bare q) = q ≡ p
Exit means p (Seated seat inputs slots) = AreAgreed means seat
