-- What the calls of a session do, and what each leaves as it was.
use Rattle.std.specs.Prelude.{◌≡◌, ℕ, ◌+◌, ◌≤◌, Bool, true, false, List, Option, Some, None, is_some, Result, Ok, Err}
use Rattle.sof_base.specs.Ports.{Io, InputView, OutputView}
use Rattle.sof_io.specs.Bound.{output_slots}
use Rattle.mbox_link.specs.Calls.{Meaning, MovesBy}
use Rattle.mbox_link.specs.declared.fates.Fate.{Fate}
use Rattle.mbox_link.specs.declared.fates.PlanFull.{PlanFull}
use Rattle.mbox_link.specs.Link.{link}
use Rattle.mbox_link.specs.Planned.{Planned, LagPlanned}
use Rattle.host_widgets.specs.declared.answers.Answer.{Answer}
use Rattle.host_widgets.specs.declared.answers.Answer.TheVariants as answers
use Rattle.host_widgets.specs.declared.answers.HostFault.{HostFault}
use Rattle.host_widgets.specs.declared.trigger.Trigger.TheVariants as triggers
use Rattle.host_pcm.specs.declared.asking.Ask.{Ask}
use Rattle.host_pcm.specs.declared.asking.Ask.TheVariants.{Opening, Preparing, Triggering, Closing}
use Rattle.host_dynamic.specs.Dynamic.{is_control_up}
use Rattle.tplg_plan.specs.declared.plans.Plan.{Plan}
use Rattle.sof_script.specs.declared.script.Command.{Command}
use Rattle.sof_script.specs.declared.script.Command.TheVariants as commands
use Rattle.sof_session.specs.Agreement.{AreAgreed}
use Rattle.sof_session.specs.Commands.{is_tick}
use Rattle.sof_session.specs.Fills.{input_ends}
use Rattle.sof_session.specs.Modes.{SteppedBy, most_sent_by}
use Rattle.sof_session.specs.SessionView.{SessionView}

-- the endpoints' bytes
abbrev pub ports : List InputView → List OutputView → Io
ports inputs outputs = record { inputs = inputs; outputs = outputs }

-- What a call leaves as it was: both sides agree before it and after it, over the same plan and heap; the outputs have the same
-- slots, the same inputs have ended, and where no tick was pending, the endpoints have the same bytes.
pub record Stays {P : Type 0} (means : Meaning P) (old new : SessionView P) (before after : Io) : Type 0 where
  pub agreed : AreAgreed means old
  pub later : AreAgreed means new
  pub plan : new.plan ≡ old.plan
  pub heap : new.heap ≡ old.heap
  pub mode : is_some new.up ≡ is_some old.up
  pub slots : output_slots after.outputs ≡ output_slots before.outputs
  pub ends : input_ends after.inputs ≡ input_ends before.inputs
  pub still : (link means).pending old.link ≡ 0 → after ≡ before

-- All that a step of a session says of a command, over the endpoints' bytes before and after it.
pub record IsStep {P : Type 0} (means : Meaning P) (command : Command) (old new : SessionView P) (before after : Io) (answer : Answer) : Type 0 where
  pub stepped : SteppedBy means command old new (record { device = old.link; io = before }) (record { device = new.link; io = after }) answer
  pub agreed : AreAgreed means new
  pub plan : new.plan ≡ old.plan
  pub heap : new.heap ≡ old.heap
  pub slots : output_slots after.outputs ≡ output_slots before.outputs
  pub ends : input_ends after.inputs ≡ input_ends before.inputs
  pub moved : MovesBy 983040 before.inputs after.inputs
  pub sent : new.link.sent ≤ old.link.sent + most_sent_by old.up command
  pub still : is_tick command ≡ false → (link means).pending old.link ≡ 0 → (after.inputs ≡ before.inputs) × (after.outputs ≡ before.outputs)

-- the command that asks this of a stream
abbrev pub asking_command : List ℕ → Ask → Command
asking_command name Opening = commands.Open name
asking_command name (Preparing params) = commands.Params name params
asking_command name (Triggering triggers.Start) = commands.Start name
asking_command name (Triggering triggers.Stop) = commands.Stop name
asking_command name (Triggering triggers.Pause) = commands.Pause name
asking_command name (Triggering triggers.Release) = commands.Release name
asking_command name Closing = commands.Close name

-- the component of a control is up, where there is one: where all pipelines are made at a load, it is
abbrev pub is_control_in : Option (List ℕ) → Plan → List ℕ → Bool
is_control_in None plan name = true
is_control_in (Some up) plan name = is_control_up plan up name

-- the answer of a call that tells something once it is done
abbrev pub told_answer : Result Answer HostFault → Answer
told_answer (Ok answer) = answer
told_answer (Err fault) = answers.Fault fault

-- the answer where a fate or a lag was planned, or where there was no room for it
abbrev pub plan_answer : Result (Unit {0}) PlanFull → Answer
plan_answer (Ok done) = answers.Done
plan_answer (Err full) = answers.PlanFull

-- what planning a fate did: the link alone changes, with no call on its device
pub record PlanRan {P : Type 0} (k : ℕ) (fate : Fate) (old new : SessionView P) (answer : Answer) : Type 0 where
  pub outcome : Result (Unit {0}) PlanFull
  pub planned : Planned k fate old.link outcome new.link
  pub kept : new.kept ≡ old.kept
  pub up : new.up ≡ old.up
  pub said : answer ≡ plan_answer outcome

-- what planning ticks before a message did: the link alone changes, with no call on its device
pub record LagRan {P : Type 0} (k ticks : ℕ) (old new : SessionView P) (answer : Answer) : Type 0 where
  pub outcome : Result (Unit {0}) PlanFull
  pub planned : LagPlanned k ticks old.link outcome new.link
  pub kept : new.kept ≡ old.kept
  pub up : new.up ≡ old.up
  pub said : answer ≡ plan_answer outcome
