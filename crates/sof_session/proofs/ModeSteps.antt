-- What the steps of a session ask of its mode, and that both modes have it.
use Rattle.std.proofs.Common.{◌≡◌, refl, sym, subst, ℕ, ◌≤◌, List, Option, Some, None, false, arith}
use Rattle.mbox_link.specs.Calls.{World, Meaning}
use Rattle.mbox_link.specs.Link.{link}
use Rattle.mbox_link.specs.Wire.{Wire}
use Rattle.host_widgets.specs.declared.answers.Answer.{Answer}
use Rattle.host_widgets.specs.Routines.{order_job}
use Rattle.host_widgets.specs.UpState.{UpState}
use Rattle.host_widgets.proofs.StandingOn.{AllStill}
use Rattle.host_dynamic.specs.UpDevices.{up_state_in}
use Rattle.sof_script.specs.declared.script.Command.{Command}
use Rattle.sof_script.specs.declared.script.Command.TheVariants as commands
use Rattle.sof_session.specs.Agreement.{AreAgreed}
use Rattle.sof_session.specs.CommandRanges.{most_sent}
use Rattle.sof_session.specs.Commands.{is_tick, order_of}
use Rattle.sof_session.specs.Modes.{Mode, IsInMode, CommandDoneIn, SteppedBy, made_at_load, made_on_use, most_sent_by, most_sent_in}
use Rattle.sof_session.specs.SessionView.{SessionView}
use Rattle.sof_session.specs.UpCommands.{up_job}
use Rattle.sof_session.proofs.Agreement.{agreed-in, with_up}
use Rattle.sof_session.proofs.FewOrders.{order-within}
use Rattle.sof_session.proofs.JobPorts.{IsStillJob}
use Rattle.sof_session.proofs.OrderFirsts.{order-first, still-first}
use Rattle.sof_session.proofs.RoutineNumbers.{SendsWithin}
use Rattle.sof_session.proofs.StillJobs.{job-still}
use Rattle.sof_session.proofs.UpFew.{up_most, up-few}
use Rattle.sof_session.proofs.UpPasses.{order-ends}

-- a command sends few messages, and none but a tick has a tick of its own
pub record ModeSteps {P S A : Type 0} (means : Meaning P) (mode : Mode P S A) (old : SessionView P) (command : Command) : Type 0 where
  pub is : IsInMode mode old
  pub sends : (mode.rules old.plan old.heap).fault (mode.sees old) command ≡ None → SendsWithin (most_sent_by old.up command) ((mode.rules old.plan old.heap).job (mode.sees old) command).routine
  pub still : is_tick command ≡ false → IsStillJob (link means) (mode.rules old.plan old.heap).acts old.heap ((mode.rules old.plan old.heap).job (mode.sees old) command)
  pub step : (new : SessionView P) (w v : World (Wire P)) (answer : Answer) → CommandDoneIn means mode command old new w v answer → SteppedBy means command old new w v answer

few-in : (up : Option (List ℕ)) → most_sent_in up ≤ 1200
few-in None = omega arith
few-in (Some up) = omega arith

pub few-by : (up : Option (List ℕ)) (command : Command) → most_sent_by up command ≤ 1200
few-by up (commands.Tick t) = omega arith
few-by up command = few-in up

load-most : (command : Command) → most_sent command ≡ most_sent_by None command
load-most (commands.Tick t) = refl
load-most command = refl

use-most : (up : List ℕ) (command : Command) → up_most command ≡ most_sent_by (Some up) command
use-most up (commands.Tick t) = refl
use-most up command = refl

module _ {P : Type 0} (means : Meaning P) (old : SessionView P) (agreed : AreAgreed means old) (command : Command) where
  pub steps-at-load : old.up ≡ None → ModeSteps means made_at_load old command
  steps-at-load none = subst (λ (up : Option (List ℕ)). ModeSteps means made_at_load (with_up old up) command) (sym none) (record {
    is = refl;
    sends = λ passes. subst (λ (n : ℕ). SendsWithin n (order_job old.plan old.kept (order_of old.plan old.kept command)).routine) (load-most command) (order-within old.plan agreed.sound command old.kept agreed.agree.record_is passes);
    still = λ own. record {
      first = subst AllStill (sym (order-first old.plan old.kept command)) (still-first old.kept.power command own);
      ends = order-ends old.plan old.kept (order_of old.plan old.kept command);
    };
    step = λ new w v answer done. record { doing = done.done.doing; did = (done, refl) };
  })

  module _ (up : List ℕ) (is : old.up ≡ Some up) where
    abbrev s : UpState
    s = up_state_in means old.kept up old.link.device

    pub steps-on-use : ModeSteps means (made_on_use means) old command
    steps-on-use = subst (λ (o : Option (List ℕ)). ModeSteps means (made_on_use means) (with_up old o) command) (sym is) (record {
      is = refl;
      sends = λ passes. subst (λ (n : ℕ). SendsWithin n (up_job old.plan old.heap s command).routine) (use-most up command) (up-few old.plan agreed.sound old.heap s (agreed-in means old (Some up) is agreed).powered.0 command passes);
      still = λ own. job-still (link means) old.plan old.heap s command own;
      step = λ new w v answer done. record { doing = done.done.doing; did = (done, refl) };
    })
