-- The written run over a device.
use Rattle.std.specs.Prelude.{◌≡◌, ℕ, ◌<◌, ◌≤◌, List, [], ◌∷◌, map}
use Rattle.sof_base.specs.Ports.{InputView}
use Rattle.stream_law.specs.Past.{Moment}
use Rattle.stream_law.specs.Stands.{Stands}
use Rattle.mbox_link.specs.declared.fates.Fate.TheVariants.{Pass}
use Rattle.mbox_link.specs.Calls.{Meaning}
use Rattle.mbox_link.specs.Meetings.{Doing}
use Rattle.sof_script.specs.declared.script.Command.{Command}
use Rattle.sof_session.specs.SessionView.{SessionView}
use Rattle.sof_session.specs.Modes.{Mode, IsInMode, basis_in}
use Rattle.sof_session.specs.Lives.{Life, Bare, Seated, Carries, Turned, device_of, carried_outs}
use Rattle.sof_script.specs.Tasks.{Task, Carry, Turn, Out}
use Rattle.sof_session.specs.SessionStep.{Calm, known_of}
use Rattle.sof_session.specs.Written.{Ground, At, Leg, IsRun, first_at, end_of, moments_of, boots_in, raised}

-- A session of a mode is where a run is: it is over the run's plan, heap and slots, its host and link know what is known there, and its
-- device and the inputs stand where the moments so far lead.
pub record IsAt {P S A : Type 0} (means : Meaning P) (mode : Mode P S A) (g : Ground) (seat : SessionView P) (inputs : List InputView) (slots : List ℕ) (moments : List Moment) (at : At S) : Type 0 where
  pub mode_is : IsInMode mode seat
  pub plan_is : seat.plan ≡ g.plan
  pub heap_is : seat.heap ≡ g.heap
  pub slots_are : slots ≡ g.slots
  pub known_is : known_of seat.link (mode.sees seat) ≡ at.known
  pub stands : (stands : Stands (means.on seat.link.device) g.whole inputs moments) × (stands.past ≡ at.past)

abbrev pub EndsAt : {P S A : Type 0} → Meaning P → Mode P S A → Ground → Life P → List Moment → At S → Type 0
EndsAt means mode g (Bare dsp) moments at = ⊥
EndsAt means mode g (Seated seat inputs slots) moments at = IsAt means mode g seat inputs slots moments at

-- a turn whose messages met these doings of the device: at their numbers they are those of the session's step
abbrev pub TurnedBy : {P : Type 0} → Meaning P → Doing → Task → Out → Life P → Life P → Type 0
TurnedBy means doing (Carry command) out (Seated seat inputs slots) (Seated seat' inputs' slots') =
    (slots' ≡ slots)
    × ((c : Carries means command out seat seat' inputs inputs' slots) × ((number : ℕ) → seat.link.sent < number → number ≤ seat'.link.sent → doing number ≡ c.stepped.doing number))
TurnedBy means doing (Carry command) out old new = ⊥
TurnedBy means doing task out old new = Turned means task out old new

-- turns, one after another, all by the same doings
abbrev pub TurnsBy : {P : Type 0} → Meaning P → Doing → Life P → List Turn → Life P → Type 0
TurnsBy means doing p [] q = q ≡ p
TurnsBy {P} means doing p (turn ∷ turns) q = (m : Life P) × TurnedBy means doing turn.task turn.out p m × TurnsBy means doing m turns q

-- These legs are the run of these commands by the rules of a mode, by doings of the device, which are none where its counts did not rise.
-- The turns met these doings, and answered, showed and wrote what the legs have. A session is where the run ends, and its device was booted
-- as often as the moments say.
pub record RunOver {P S A : Type 0} (means : Meaning P) (mode : Mode P S A) (g : Ground) (commands : List Command) (legs : List (Leg S)) (p : P) (turns : List Turn) (last : Life P) : Type 0 where
  pub doing : Doing
  pub met : TurnsBy means doing (Bare p) turns last
  pub outs : map (λ (leg : Leg S). leg.out) legs ≡ carried_outs turns
  pub none : Calm means p (device_of last) → (number : ℕ) → doing number ≡ Pass
  pub run : IsRun (basis_in mode g) doing commands (first_at (basis_in mode g)) legs
  pub ends : EndsAt means mode g last (moments_of legs) (end_of (first_at (basis_in mode g)) legs)
  pub boots : means.boots (device_of last) ≡ raised (boots_in (moments_of legs)) (means.boots p)
