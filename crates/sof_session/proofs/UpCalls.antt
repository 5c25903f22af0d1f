-- Calls of a session that makes pipelines on use: what is kept before and after each, and what those do that send nothing.
use Rattle.std.proofs.Common.{◌≡◌, refl, sym, ap, subst, ℕ, List, [], Bool, true, false, Option, Some, None, Ok}
use Rattle.std.specs.Prelude.{if◌then◌else◌}
use Rattle.std.specs.Option.{option_map_or, option_or}
use Rattle.std.proofs.lemmas.Bool.{true≢false}
use Rattle.sof_base.specs.Ports.{Io}
use Rattle.mbox_link.specs.Calls.{World, Meaning}
use Rattle.mbox_link.specs.Link.{link}
use Rattle.tplg_plan.specs.declared.plans.Plan.{Plan}
use Rattle.tplg_plan.specs.declared.plans.ControlPlan.{ControlPlan}
use Rattle.host_widgets.specs.declared.answers.Answer.{Answer}
use Rattle.host_widgets.specs.declared.answers.HostFault.{HostFault}
use Rattle.host_widgets.specs.declared.answers.HostFault.TheVariants as faults
use Rattle.host_widgets.specs.declared.kept.Power.{Power}
use Rattle.host_widgets.specs.declared.kept.Power.TheVariants as powers
use Rattle.host_widgets.specs.ActCalls.{next_of}
use Rattle.host_widgets.specs.Host.{Outcome}
use Rattle.host_widgets.specs.Indices.{is_up}
use Rattle.host_widgets.specs.Named.{loaded_fault, off_fault}
use Rattle.host_widgets.specs.Orders.{Procedure, quiet}
use Rattle.host_widgets.specs.Routines.{JobDone, JobTested}
use Rattle.host_widgets.specs.Up.{up_view}
use Rattle.host_widgets.specs.UpState.{UpState, up_act_rules}
use Rattle.mbox_link.specs.Wire.{Wire}
use Rattle.host_ctl.specs.ControlAsks.{named_control, name_fault}
use Rattle.host_dynamic.specs.Dynamic.{plain_job, unsent, is_control_up, control_order}
use Rattle.host_dynamic.specs.UpDevices.{up_state_in, UpAgrees}
use Rattle.host_dynamic.specs.UpStates.{IsUpState}
use Rattle.host_dynamic.proofs.UpAgreeing.{IsSwitched, switched-of, done-state}
use Rattle.host_dynamic.proofs.UpOrders.{unsent-done}
use Rattle.sof_script.specs.declared.script.Command.{Command}
use Rattle.sof_script.specs.declared.script.Command.TheVariants as commands
use Rattle.sof_session.specs.Agreement.{AreAgreed}
use Rattle.sof_session.specs.SessionView.{SessionView}
use Rattle.sof_session.specs.UpCommands.{up_fault, up_job, down_fault}
use Rattle.sof_session.proofs.Agreement.{at, agreed-in, agrees-outside, with_up}
use Rattle.sof_session.proofs.UpShown.{job-keeps}

-- ---- what an order answers, whether its component is up or not

by-up : (up : Bool) (o : Procedure) (answer : Answer) → o.answer ≡ answer → (if up then o else unsent o).answer ≡ answer
by-up true o answer is = is
by-up false o answer is = is

pub control-answer : (plan : Plan) (up name : List ℕ) (o : Procedure) (answer : Answer) → o.answer ≡ answer → (control_order plan up name o).answer ≡ answer
control-answer plan up name o answer is = by-up (is_control_up plan up name) o answer is

-- ---- a session

module _ {P : Type 0} (means : Meaning P) (old : SessionView P) (are : AreAgreed means old) (up : List ℕ) (at_up : old.up ≡ Some up) where
  abbrev s : UpState
  s = up_state_in means old.kept up old.link.device

  abbrev now : AreAgreed means (with_up old (Some up))
  now = agreed-in means old (Some up) at_up are

  pub made-state : IsUpState old.plan (up_state_in (link means) old.kept up old.link)
  made-state = now.powered.0

  pub made-agrees : UpAgrees (link means) old.plan old.kept up old.link
  made-agrees = agrees-outside means old.plan (up_view old.plan old.kept up) old.kept old.link now.agree

  pub switched : IsSwitched old.kept.power (means.on old.link.device)
  switched = switched-of means old.plan old.kept up old.link.device now.agree

  -- a job by which what is up stays leaves a state
  pub state-then : (s' : UpState) (w v : World (Wire P)) (command : Command) (result : Outcome) → JobTested (link means) (up_act_rules old.plan) old.heap (up_fault old.plan s command) (up_job old.plan old.heap s command) s s' w v result → IsUpState old.plan s'
  state-then s' w v command result tested = by (up_fault old.plan s command) refl
    where
      by : (test : Option HostFault) → up_fault old.plan s command ≡ test → IsUpState old.plan s'
      by (Some fault) is = subst (IsUpState old.plan) (sym (tested.early fault is).2) made-state
      by None is =
          let j = tested.late is in
          done-state (link means) old.plan old.heap (up_job old.plan old.heap s command) s' w v result j (job-keeps old.plan are.sound old.heap s made-state next_of j.meetings command is)

  -- what is not up is not asked
  pub read-down : (name : List ℕ) → is_control_up old.plan up name ≡ false → up_fault old.plan s (commands.Read name) ≡ Some (down_fault old.kept.power)
  read-down name down = by (named_control old.plan name) old.kept.power (is_control_up old.plan up name) down down
    where
      by : (named : Option ControlPlan) (power : Power) (has : Bool) → has ≡ false → option_map_or (λ (k : ControlPlan). is_up old.plan.graph up k.comp) named true ≡ false →
          option_or (loaded_fault power (name_fault name named (off_fault power))) (if has then None else Some faults.Off) ≡ Some (down_fault power)
      by None power has is down = absurd (true≢false down)
      by (Some k) powers.Unloaded has is down = refl
      by (Some k) powers.Off has is down = refl
      by (Some k) powers.On has is down = ap (λ (b : Bool). if b then None else Some faults.Off) is

  -- a call that does nothing
  pub quiet-done : (io : Io) (answer : Answer) → JobDone (link means) (up_act_rules old.plan) old.heap (plain_job old.plan s (quiet answer)) s (at old.link io) (at old.link io) (Ok tt)
  quiet-done io answer = (unsent-done old.plan (link means) old.heap (λ now. now) (λ now. refl) old.kept up (at old.link io) made-state switched answer powers.On [] old.kept (at old.link io) (Ok tt) refl refl refl).job
