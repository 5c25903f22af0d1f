-- No count of a device falls in turns.
use Rattle.std.proofs.Common.{Bool, true, false, refl, ap, ℕ, List, [], ◌∷◌, Option, Some, None}
use Rattle.sof_base.specs.Ports.{InputView}
use Rattle.mbox_link.specs.Calls.{World, Meaning, Steady, world}
use Rattle.mbox_link.specs.Wire.{Wire}
use Rattle.mbox_link.specs.Meetings.{Doing}
use Rattle.mbox_link.proofs.Led.{Steady-by, Led-steady}
use Rattle.sof_script.specs.declared.script.Command.{Command}
use Rattle.host_widgets.specs.declared.answers.Answer.{Answer}
use Rattle.host_widgets.specs.declared.answers.HostFault.{HostFault}
use Rattle.host_widgets.specs.ActCalls.{calls_of}
use Rattle.host_widgets.specs.ActRules.{ActRules}
use Rattle.host_widgets.specs.Routines.{Job}
use Rattle.sof_session.specs.Commands.{is_plan}
use Rattle.sof_session.specs.Modes.{Mode, made_at_load, made_on_use, CommandDoneIn, DoneWith}
use Rattle.sof_session.specs.SessionView.{SessionView}
use Rattle.sof_session.specs.SessionStep.{CallsBy}
use Rattle.sof_script.specs.Tasks.{Out, Task, Begin, Fill, Carry, Give, Turn}
use Rattle.sof_session.specs.Written.{empty_outputs}
use Rattle.sof_session.specs.Lives.{Life, Bare, Seated, Turned, Turns, Carries, device_of}
use Rattle.sof_session.proofs.JobCalm.{routine-led}
use Rattle.sof_session.proofs.LinkFates.{Steady-none, Led-inside}

module _ {P : Type 0} (means : Meaning P) where
  -- ---- no count of the device falls

  -- by the calls of any rules
  calls-steady : {S A : Type 0} (rules : ActRules S A) (heap : ℕ) (doing : Doing) (job : Job S A) (kept' : S) (w v : World (Wire P)) (answer : Answer) (plans : Bool) (fault : Option HostFault) →
      CallsBy means rules heap doing job kept' w v answer plans fault → Steady means w.device.device v.device.device
  calls-steady rules heap doing job kept' w v answer true fault calls = Steady-none means w.device.device v.device.device calls.0
  calls-steady rules heap doing job kept' w v answer false (Some fault) calls = Steady-none means w.device.device v.device.device (ap (λ (x : World (Wire P)). x.device.device) calls)
  calls-steady rules heap doing job kept' w v answer false None calls =
      let j = calls.1 in
      let led = routine-led means rules heap job.routine job.from j.meetings j.begun v j.did in
      Steady-by means w.device.device j.begun.device.device v.device.device
      (Led-inside means (calls_of heap job.first) w j.begun j.first) (Led-inside means led.0 j.begun v led.1)

  done-steady : {S A : Type 0} (mode : Mode P S A) (command : Command) (old new : SessionView P) (w v : World (Wire P)) (answer : Answer) → CommandDoneIn means mode command old new w v answer → Steady means w.device.device v.device.device
  done-steady mode command old new w v answer d =
      let rules = mode.rules old.plan old.heap in
      calls-steady rules.acts old.heap d.done.doing (rules.job (mode.sees old) command) (mode.sees new) w v answer (is_plan command) (rules.fault (mode.sees old) command) d.done.calls

  stepped-steady : (doing : Doing) (up : Option (List ℕ)) (command : Command) (old new : SessionView P) (w v : World (Wire P)) (answer : Answer) → DoneWith means doing up command old new w v answer → Steady means w.device.device v.device.device
  stepped-steady doing None command old new w v answer did = done-steady made_at_load command old new w v answer did.0
  stepped-steady doing (Some up) command old new w v answer did = done-steady (made_on_use means) command old new w v answer did.0

  pub step-steady : (command : Command) (out : Out) (seat seat' : SessionView P) (inputs inputs' : List InputView) (slots : List ℕ) → Carries means command out seat seat' inputs inputs' slots → Steady means seat.link.device seat'.link.device
  step-steady command out seat seat' inputs inputs' slots c =
      stepped-steady c.stepped.doing seat.up command seat seat' (world seat.link inputs (empty_outputs slots)) (world seat'.link inputs' c.outputs) out.answer c.stepped.did

  turn-steady : (task : Task) (out : Out) (p q : Life P) → Turned means task out p q → Steady means (device_of p) (device_of q)
  turn-steady (Begin on_use plan heap inputs slots) out (Bare dsp) q step = Steady-none means dsp (device_of q) (ap device_of step)
  turn-steady (Begin on_use plan heap ins outs) out (Seated seat inputs slots) q step = absurd step
  turn-steady (Fill reads next) out (Bare dsp) q step = absurd step
  turn-steady (Fill reads next) out (Seated seat inputs slots) (Bare dsp) step = absurd step
  turn-steady (Fill reads next) out (Seated seat inputs slots) (Seated seat' inputs' slots') step = Steady-none means seat.link.device seat'.link.device (ap (λ (s : SessionView P). s.link.device) step.0)
  turn-steady (Carry command) out (Bare dsp) q step = absurd step
  turn-steady (Carry command) out (Seated seat inputs slots) (Bare dsp) step = absurd step
  turn-steady (Carry command) out (Seated seat inputs slots) (Seated seat' inputs' slots') step = step-steady command out seat seat' inputs inputs' slots step.1
  turn-steady (Give call) out (Bare dsp) (Bare dsp') step = Led-steady means (call ∷ []) (world dsp [] []) (world dsp' [] []) (world dsp' [] [], step, refl)
  turn-steady (Give call) out (Bare dsp) (Seated seat inputs slots) step = absurd step
  turn-steady (Give call) out (Seated seat inputs slots) q step = absurd step

  pub lives-steady : (turns : List Turn) (p q : Life P) → Turns means p turns q → Steady means (device_of p) (device_of q)
  lives-steady [] p q turned = Steady-none means (device_of p) (device_of q) (ap device_of turned)
  lives-steady (turn ∷ turns) p q turned =
      Steady-by means (device_of p) (device_of turned.0) (device_of q) (turn-steady turn.task turn.out p turned.0 turned.1) (lives-steady turns turned.0 q turned.2)
