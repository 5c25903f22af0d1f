-- No job of a host that makes pipelines on use has a tick of its own, but that of a tick.
use Rattle.std.proofs.Common.{◌≡◌, sym, subst, ℕ, false}
use Rattle.mbox_link.specs.Calls.{Meaning}
use Rattle.tplg_plan.specs.declared.plans.Plan.{Plan}
use Rattle.host_widgets.specs.HostActs.{Act}
use Rattle.host_widgets.specs.Routines.{Job}
use Rattle.host_widgets.specs.UpState.{UpState, up_act_rules}
use Rattle.host_widgets.proofs.StandingOn.{AllStill}
use Rattle.sof_script.specs.declared.script.Command.{Command}
use Rattle.sof_session.specs.Commands.{is_tick}
use Rattle.sof_session.specs.UpCommands.{up_job}
use Rattle.sof_session.proofs.JobPorts.{IsStillJob}
use Rattle.sof_session.proofs.OrderFirsts.{job-first, still-first}
use Rattle.sof_session.proofs.UpPasses.{up-ends}

module _ {D : Type 0} (means : Meaning D) (plan : Plan) (heap : ℕ) where
  abbrev pub StillJob : Job UpState Act → Type 0
  StillJob job = IsStillJob means (up_act_rules plan) heap job

  pub job-still : (s : UpState) (command : Command) → is_tick command ≡ false → StillJob (up_job plan heap s command)
  job-still s command own = record {
    first = subst AllStill (sym (job-first plan heap s command)) (still-first s.kept.power command own);
    ends = up-ends plan heap s command;
  }
