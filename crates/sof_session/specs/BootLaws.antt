-- The law of boots: how often a command boots the device, in both modes.
use Rattle.std.specs.Prelude.{◌≡◌, ℕ, Option, None}
use Rattle.mbox_link.specs.Meetings.{Doing}
use Rattle.tplg_plan.specs.declared.plans.Plan.{Plan}
use Rattle.host_widgets.specs.declared.answers.HostFault.{HostFault}
use Rattle.sof_script.specs.declared.script.Command.{Command}
use Rattle.sof_script.specs.declared.script.Command.TheVariants.{Load, Resume}
use Rattle.sof_session.specs.CommandRules.{CommandRules}
use Rattle.sof_session.specs.Commands.{Known, command_rules, next}
use Rattle.sof_session.specs.UpCommands.{up_rules}
use Rattle.sof_session.specs.Written.{boots_in}

-- once for a load or a resume that passes its test, and for no other command
abbrev pub tested_boots : Command → Option HostFault → ℕ
tested_boots Load None = 1
tested_boots Resume None = 1
tested_boots command fault = 0

-- So it is by these rules, of every plan, whatever is known and whatever messages meet.
abbrev pub BootsAsTested : {S A : Type 0} → (Plan → ℕ → CommandRules S A) → Type 0
BootsAsTested {S} rules = (plan : Plan) (heap : ℕ) (doing : Doing) (known : Known S) (command : Command) →
    boots_in (next (rules plan heap) doing known command).moments ≡ tested_boots command ((rules plan heap).fault known.kept command)

-- where all pipelines are made at a load
abbrev pub LoadBoots : Type 0
LoadBoots = BootsAsTested command_rules

-- where they are made on use
abbrev pub UpBoots : Type 0
UpBoots = BootsAsTested up_rules
