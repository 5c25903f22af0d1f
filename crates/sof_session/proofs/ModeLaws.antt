-- What written runs ask of a mode of sessions: that its commands send few messages, that what they come to goes by the doings of the
-- device at the numbers of these alone, and that what they call is counted.
use Rattle.std.proofs.Common.{◌≡◌, ℕ, ◌+◌, ◌<◌, ◌≤◌, ◌^◌, ◌-◌, None}
use Rattle.mbox_link.specs.Calls.{World, Meaning, Steady}
use Rattle.mbox_link.specs.Wire.{Wire}
use Rattle.mbox_link.specs.Meetings.{Doing, lags}
use Rattle.tplg_plan.specs.declared.plans.Plan.{Plan}
use Rattle.host_widgets.specs.declared.answers.Answer.{Answer}
use Rattle.sof_script.specs.declared.script.Command.{Command}
use Rattle.sof_script.specs.declared.script.Command.TheVariants as commands
use Rattle.sof_session.specs.Agreement.{AreAgreed}
use Rattle.sof_session.specs.Commands.{Known, is_plan, next}
use Rattle.sof_session.specs.Modes.{Mode, IsInMode, CommandDoneIn, SteppedBy, shown_in}
use Rattle.sof_session.specs.SessionView.{SessionView, seat_in}
use Rattle.sof_session.specs.SessionStep.{CallsBy, known_of}
use Rattle.sof_session.specs.Written.{boots_in, raised}
use Rattle.sof_session.proofs.InputMoves.{AllInRange}
use Rattle.sof_session.proofs.SeenMoments.{ticks_in}

pub record ModeLaws {P S A : Type 0} (means : Meaning P) (mode : Mode P S A) (plan : Plan) (heap : ℕ) : Type 1 where
  -- how many messages a command sends at most
  pub most : Command → ℕ
  pub most_few : (command : Command) → most command ≤ 1200
  pub most_tick : (ticks : ℕ) → most (commands.Tick ticks) ≡ 0
  -- what may be kept, as after the first command and each later one
  pub IsKept : S → Type 0
  pub first : IsKept (mode.rules plan heap).first
  pub kept : (seat : SessionView P) → AreAgreed means seat → IsInMode mode seat → seat.plan ≡ plan → IsKept (mode.sees seat)
  -- a session that begins is in the mode, and has what is kept first
  pub begins : (p : P) → IsInMode mode (seat_in mode.on_use plan heap p)
  pub sees_first : (p : P) → means.on p ≡ None → mode.sees (seat_in mode.on_use plan heap p) ≡ (mode.rules plan heap).first
  -- a step of a session of this mode goes by its rules
  pub stepped : (command : Command) (old new : SessionView P) (w v : World (Wire P)) (answer : Answer) (s : SteppedBy means command old new w v answer) → IsInMode mode old →
      (d : CommandDoneIn means mode command old new w v answer) × (s.doing ≡ d.done.doing)
  -- what a command shows is what the rules show
  pub shows : (command : Command) (seat : SessionView P) → IsInMode mode seat → shown_in command seat.up seat.plan seat.kept ≡ (mode.rules seat.plan seat.heap).shown (mode.sees seat) command
  -- numbers go up by no more
  pub within : (known : Known S) (doing : Doing) (command : Command) → IsKept known.kept → known.queue.sent + most command < 2 ^ 64 - 1 →
      let now = (next (mode.rules plan heap) doing known command).known in (known.queue.sent ≤ now.queue.sent) × (now.queue.sent ≤ known.queue.sent + most command)
  -- by doings that are one at these numbers a command comes to the same
  pub same : (known : Known S) (d e : Doing) (command : Command) → IsKept known.kept → known.queue.sent + most command < 2 ^ 64 - 1 →
      ((number : ℕ) → known.queue.sent < number → number ≤ (next (mode.rules plan heap) d known command).known.queue.sent → d number ≡ e number) →
      next (mode.rules plan heap) d known command ≡ next (mode.rules plan heap) e known command
  -- its calls let no count fall, and boot as often as its moments say
  pub inside : (kept kept' : S) (w v : World (Wire P)) (answer : Answer) (command : Command) (doing : Doing) → let r = mode.rules plan heap in
      CallsBy means r.acts heap doing (r.job kept command) kept' w v answer (is_plan command) (r.fault kept command) → Steady means w.device.device v.device.device
  pub boots : (kept kept' : S) (w v : World (Wire P)) (answer : Answer) (command : Command) (doing : Doing) → let r = mode.rules plan heap in
      CallsBy means r.acts heap doing (r.job kept command) kept' w v answer (is_plan command) (r.fault kept command) →
      means.boots v.device.device ≡ raised (boots_in (next r doing (known_of w.device kept) command).moments) (means.boots w.device.device)
  -- its moments are few and in range, from where few lags are planned
  pub paced : (known : Known S) (doing : Doing) (command : Command) → IsKept known.kept → lags known.queue.entries ≤ 16 →
      let moments = (next (mode.rules plan heap) doing known command).moments in AllInRange moments × (ticks_in moments ≤ 16)
