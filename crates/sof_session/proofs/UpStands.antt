-- What stood stands where the written moments of a command lead that makes pipelines on use.
use Rattle.std.proofs.Common.{◌≡◌, false, true, ◌+◌, ◌<◌, ◌-◌, ◌^◌, length, None}
use Rattle.std.specs.Prelude.{is_some}
use Rattle.sof_base.specs.Ports.{Io}
use Rattle.sof_base.specs.DrainedOutputs.{drained}
use Rattle.mbox_link.specs.Calls.{Meaning}
use Rattle.mbox_link.specs.Link.{link}
use Rattle.host_widgets.specs.Host.{Outcome}
use Rattle.host_widgets.specs.Routines.{JobDone}
use Rattle.host_widgets.specs.UpState.{up_act_rules}
use Rattle.sof_script.specs.declared.script.Command.{Command}
use Rattle.sof_session.specs.Agreement.{AreAgreed}
use Rattle.sof_session.specs.Commands.{is_plan, carried}
use Rattle.sof_session.specs.Modes.{up_state_of}
use Rattle.sof_session.specs.SessionView.{SessionView}
use Rattle.sof_session.specs.SessionStep.{known_of}
use Rattle.sof_session.specs.UpCommands.{up_fault, up_job, up_rules}
use Rattle.sof_session.proofs.Agreement.{at}
use Rattle.sof_session.proofs.JobWalks.{job_doing}
use Rattle.sof_session.proofs.StagePlays.{stage-plays}
use Rattle.sof_session.proofs.UpPlainRows.{plain-row}
use Rattle.sof_session.proofs.UpStageRows.{stage-row, quiet-row}
use Rattle.sof_session.proofs.UpStandsCommands.{command-stands}
use Rattle.sof_session.proofs.Stepping.{Standing}

module _ {P : Type 0} (means : Meaning P) (old new : SessionView P) (io io' : Io) (agreed : AreAgreed means old) (some : is_some old.up ≡ true) (empty : drained io.outputs ≡ io.outputs) (command : Command) (plans : is_plan command ≡ false)
    (none : up_fault old.plan (up_state_of means old) command ≡ None) (result : Outcome)
    (j : JobDone (link means) (up_act_rules old.plan) old.heap (up_job old.plan old.heap (up_state_of means old) command) (up_state_of means new) (at old.link io) (at new.link io') result)
    (fewer : old.link.sent + length j.meetings < 2 ^ 64 - 1) where
  pub job-stands : Standing means (at old.link io) (at new.link io')
      (carried (up_rules old.plan old.heap)
      (job_doing means (up_rules old.plan old.heap) old.heap (up_job old.plan old.heap (up_state_of means old) command) (up_state_of means old) (up_state_of means new) (at old.link io) (at new.link io') result j agreed.pending agreed.fated fewer)
      (known_of old.link (up_state_of means old)) (up_job old.plan old.heap (up_state_of means old) command)).moments
  job-stands = command-stands means old new io io' agreed some empty
      (λ kept up n serving may st amid. stage-plays old.plan agreed.sound kept up n st amid serving.held may)
      (λ kept up n serving may act builds f g from to done. stage-row old.plan agreed.sound kept up n serving may from.0 to.0 from.1 to.1 f g from.2 to.2 act builds done)
      (plain-row old.plan agreed.sound) (quiet-row old.plan) command none result j fewer
