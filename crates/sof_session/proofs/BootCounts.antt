-- How often a command boots the device: by its first moments alone, where its test passes.
use Rattle.std.proofs.Common.{◌≡◌, refl, sym, ap, ◌∙◌, subst, suc, true, List, [], ◌∷◌, ◌++◌, Option, Some, None, inl, inr}
use Rattle.std.proofs.lemmas.Bool.{cases_Bool}
use Rattle.stream_law.specs.Past as past
use Rattle.stream_law.specs.Past.{Moment}
use Rattle.mbox_link.specs.Meetings.{Doing, next_meeting}
use Rattle.host_widgets.specs.declared.answers.HostFault.{HostFault}
use Rattle.host_widgets.specs.Routines.{Job, not_begun, walk_routine}
use Rattle.sof_script.specs.declared.script.Command.{Command}
use Rattle.sof_script.specs.declared.script.Command.TheVariants as commands
use Rattle.sof_session.specs.BootLaws.{tested_boots, LoadBoots, UpBoots}
use Rattle.sof_session.specs.CommandRules.{CommandRules}
use Rattle.sof_session.specs.Commands.{Known, CommandResult, command_rules, is_plan, next, order_of, tested}
use Rattle.sof_session.specs.UpCommands.{up_rules}
use Rattle.sof_session.specs.Written.{boots_in}
use Rattle.sof_session.proofs.OrderFirsts.{order-first, job-first, boots-first}
use Rattle.sof_session.proofs.RoutineBoots.{none-routine}
use Rattle.sof_session.proofs.RoutineNumbers.{planned-by, tested-is}
use Rattle.sof_session.proofs.RoutinePasses.{EndsWell}
use Rattle.sof_session.proofs.RunBoots.{NoBoot}
use Rattle.sof_session.proofs.UpPasses.{order-ends, up-ends}

-- what comes after moments, and boots nothing, adds no boot
boots-front : (a b : List Moment) → NoBoot b → boots_in (a ++ b) ≡ boots_in a
boots-front [] b none = none
boots-front (past.Boot ∷ a) b none = ap suc (boots-front a b none)
boots-front (past.Cut ∷ a) b none = boots-front a b none
boots-front (past.Now view fresh ∷ a) b none = boots-front a b none
boots-front (past.Tick ∷ a) b none = boots-front a b none

-- where a test fails, no command boots
fault-boots : (command : Command) (fault : HostFault) → 0 ≡ tested_boots command (Some fault)
fault-boots commands.Load fault = refl
fault-boots commands.Resume fault = refl
fault-boots command fault = refl

-- nor one that plans
plan-boots : (command : Command) (fault : Option HostFault) → is_plan command ≡ true → 0 ≡ tested_boots command fault
plan-boots (commands.Refuse k e) fault is = refl
plan-boots (commands.Drop k) fault is = refl
plan-boots (commands.Lose k) fault is = refl
plan-boots (commands.Lag k ticks) fault is = refl
plan-boots command fault is = absurd (cc is)

-- ---- by any rules

module _ {S A : Type 0} (rules : CommandRules S A) (doing : Doing) (known : Known S) (command : Command) where
  abbrev Boots : Option HostFault → CommandResult S A → Type 0
  Boots fault c = boots_in c.moments ≡ tested_boots command fault

  job-boots : (job : Job S A) (fault : Option HostFault) → EndsWell job.routine → boots_in job.first ≡ tested_boots command None → Boots fault (tested rules doing known job fault)
  job-boots job (Some fault) ends first = fault-boots command fault
  job-boots job None ends first =
      let walked = walk_routine rules.acts (next_meeting doing) job.from known.queue job.routine in
      boots-front job.first walked.moments (none-routine rules.acts (next_meeting doing) (not_begun job.from known.queue) job.routine refl ends) ∙ first

  -- whose job has no boots but those of its first moments
  boots-as-tested : EndsWell (rules.job known.kept command).routine → boots_in (rules.job known.kept command).first ≡ tested_boots command None →
      Boots (rules.fault known.kept command) (next rules doing known command)
  boots-as-tested ends first =
      elim (cases_Bool (is_plan command)) [
        | inl is ↦
            let p = planned-by rules known command is in
            subst (Boots (rules.fault known.kept command)) (sym (p.is doing)) (plan-boots command (rules.fault known.kept command) is)
        | inr is ↦ subst (Boots (rules.fault known.kept command)) (sym (tested-is rules known doing command is)) (job-boots (rules.job known.kept command) (rules.fault known.kept command) ends first)
      ]

pub load-boots : LoadBoots
load-boots plan heap doing known command =
    boots-as-tested (command_rules plan heap) doing known command (order-ends plan known.kept (order_of plan known.kept command))
    (ap boots_in (order-first plan known.kept command) ∙ boots-first known.kept.power command)

pub up-boots : UpBoots
up-boots plan heap doing known command =
    boots-as-tested (up_rules plan heap) doing known command (up-ends plan heap known.kept command) (ap boots_in (job-first plan heap known.kept command) ∙ boots-first known.kept.kept.power command)
