-- The laws of success in the written machine: when a load, and an open that makes pipelines, are answered as done.
use Rattle.std.specs.Prelude.{◌≡◌, ◌↔◌, ℕ, zero, suc, List, [], ◌∷◌, length, None}
use Rattle.mbox_link.specs.declared.fates.Fate.TheVariants.{Pass}
use Rattle.mbox_link.specs.Meetings.{Doing, Queue, next_meeting}
use Rattle.tplg_plan.specs.declared.plans.Plan.{Plan}
use Rattle.host_widgets.specs.declared.answers.Answer.TheVariants.{Done}
use Rattle.host_widgets.specs.declared.kept.Power.TheVariants.{Unloaded, On}
use Rattle.host_widgets.specs.declared.kept.Record.{Record}
use Rattle.host_widgets.specs.ActLists.{bring_up}
use Rattle.host_widgets.specs.ActRules.{ActRules}
use Rattle.host_widgets.specs.Bringing.{Fits}
use Rattle.host_widgets.specs.HostActs.{Act}
use Rattle.host_pcm.specs.StreamCalls.{host_at}
use Rattle.host_widgets.specs.UpActs.{making_acts}
use Rattle.host_widgets.specs.UpState.{UpState, up_act_rules}
use Rattle.host_dynamic.specs.Dynamic.{lacking}
use Rattle.sof_script.specs.declared.script.Command.TheVariants as commands
use Rattle.sof_session.specs.Commands.{Known, command_rules, next}
use Rattle.sof_session.specs.UpCommands.{up_rules, up_fault, place_named}

-- the next so many messages all pass
abbrev pub PassNext : Doing → Queue → ℕ → Type 0
PassNext doing q zero = Unit {0}
PassNext doing q (suc n) = ((next_meeting doing q).0.fate ≡ Pass) × PassNext doing (next_meeting doing q).1 n

-- the firmware itself refuses none of these acts, each after those before it
abbrev pub NoneRefused : {S A : Type 0} → ActRules S A → S → List A → Type 0
NoneRefused rules kept [] = Unit {0}
NoneRefused rules kept (act ∷ acts) = (rules.own kept act ≡ None) × NoneRefused rules (rules.after act kept) acts

-- From unloaded, a load is answered as done exactly where the stated sizes fit the heap and each message that brings the plan up passes.
abbrev pub LoadSucceedsExactly : Type 0
LoadSucceedsExactly = (plan : Plan) (heap : ℕ) (doing : Doing) (known : Known Record) → known.kept.power ≡ Unloaded →
    ((next (command_rules plan heap) doing known commands.Load).answer ≡ Done) ↔ (Fits plan heap × PassNext doing known.queue (length (bring_up plan known.kept)))

-- what an open makes of pipelines
abbrev pub opening_acts : Plan → UpState → List ℕ → List Act
opening_acts plan s name = making_acts plan s.kept (lacking plan s.up (host_at plan (place_named plan name)))

-- While the power is on, an open that passes its test is answered as done exactly where each widget finds a hole, one after another, and each
-- message passes.
abbrev pub OpenSucceedsExactly : Type 0
OpenSucceedsExactly = (plan : Plan) (heap : ℕ) (doing : Doing) (known : Known UpState) (name : List ℕ) → known.kept.kept.power ≡ On → up_fault plan known.kept (commands.Open name) ≡ None →
    ((next (up_rules plan heap) doing known (commands.Open name)).answer ≡ Done)
    ↔ (NoneRefused (up_act_rules plan) known.kept (opening_acts plan known.kept name) × PassNext doing known.queue (length (opening_acts plan known.kept name)))
