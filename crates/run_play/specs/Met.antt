-- The records that a run leaves: what the host does to a device that does nothing of its own accord, and what the firmware answers.
use Rattle.std.specs.Prelude.{ℕ, List, [], ◌∷◌, ◌++◌, replicate, Bool, true, false, Option, Some, None}
use Rattle.std.specs.List.{flat_map}
use Rattle.stream_law.specs.Past as past
use Rattle.stream_law.specs.Past.{Moment}
use Rattle.stream_law.specs.State.{FwState}
use Rattle.ipc3_model.specs.Messages.{message_spelling}
use Rattle.mbox_link.specs.declared.fates.Fate.{Fate}
use Rattle.mbox_link.specs.declared.fates.Fate.TheVariants.{Pass, Refuse, Drop, Lose}
use Rattle.mbox_link.specs.CalmDevice.{calm}
use Rattle.mbox_link.specs.Meetings.{Meeting, next_meeting}
use Rattle.tplg_plan.specs.declared.plans.Plan.{Plan}
use Rattle.host_widgets.specs.declared.answers.HostFault.{HostFault}
use Rattle.host_widgets.specs.declared.kept.Record.{Record}
use Rattle.host_widgets.specs.HostActs.{Act}
use Rattle.host_widgets.specs.ActMessages.{act_message}
use Rattle.host_widgets.specs.OneAct.{act_rules}
use Rattle.host_widgets.specs.Walk.{walk}
use Rattle.host_widgets.specs.Orders.{Procedure, goes_on_after_refusal, end_by}
use Rattle.ipc3_trace.specs.declared.entry.Entry.{Entry}
use Rattle.ipc3_trace.specs.Steps.{Deed, Start, Stop, Send, Wait, recorded, steps_from}
use Rattle.sof_script.specs.declared.script.Command.{Command}
use Rattle.sof_session.specs.CommandTests.{fault_of}
use Rattle.sof_session.specs.Commands.{Known, command_rules, first_known, is_plan, next, order_of}

-- ---- the deeds of a command

-- a message reaches the device where it passes, and where its reply is lost
abbrev pub sent_deeds : Fate → List ℕ → List Deed
sent_deeds Pass message = Send message ∷ []
sent_deeds Lose message = Send message ∷ []
sent_deeds (Refuse e) message = []
sent_deeds Drop message = []

-- the ticks of its lag come before it
abbrev pub act_deeds : Plan → Act → Meeting → List Deed
act_deeds plan act m = replicate m.lag Wait ++ sent_deeds m.fate (message_spelling (act_message plan act))

-- of acts whose messages are sent, one after another
abbrev pub acts_deeds : {Q : Type 0} → Plan → (Q → Meeting × Q) → Q → List Act → List Deed
acts_deeds plan next q [] = []
acts_deeds plan next q (act ∷ acts) = act_deeds plan act (next q).0 ++ acts_deeds plan next (next q).1 acts

-- of moments before and after the acts
abbrev pub moment_deeds : ℕ → List Moment → List Deed
moment_deeds heap [] = []
moment_deeds heap (past.Boot ∷ moments) = Start heap ∷ moment_deeds heap moments
moment_deeds heap (past.Cut ∷ moments) = Stop ∷ moment_deeds heap moments
moment_deeds heap (past.Now view fresh ∷ moments) = moment_deeds heap moments
moment_deeds heap (past.Tick ∷ moments) = Wait ∷ moment_deeds heap moments

-- of an order: its first moments, those of its acts whose messages were sent, and its last moments
abbrev pub order_deeds : Plan → ℕ → Known Record → Procedure → List Deed
order_deeds plan heap known o =
    let w = walk (act_rules plan heap) (goes_on_after_refusal o.ending) (next_meeting calm) known.kept known.queue o.acts in
    moment_deeds heap o.first
    ++ (acts_deeds plan (next_meeting calm) known.queue w.sent
    ++ moment_deeds heap (end_by o.ending plan o.done known.kept w.kept w.outcome).1)

-- none where a test fails or something is planned
abbrev pub deeds_by : Plan → ℕ → Known Record → Procedure → Bool → Option HostFault → List Deed
deeds_by plan heap known o true fault = []
deeds_by plan heap known o false (Some fault) = []
deeds_by plan heap known o false None = order_deeds plan heap known o

abbrev pub command_deeds : Plan → ℕ → Known Record → Command → List Deed
command_deeds plan heap known command = deeds_by plan heap known (order_of plan known.kept command) (is_plan command) (fault_of plan known.kept command)

-- ---- the records of a run

-- the records of each unit, from what is known and the device that the records so far leave
abbrev pub met_from : Plan → ℕ → Known Record → Option FwState → List Command → List (List Entry)
met_from plan heap known s [] = []
met_from plan heap known s (command ∷ commands) =
    let records = recorded s (command_deeds plan heap known command) in
    records ∷ met_from plan heap (next (command_rules plan heap) calm known command).known (steps_from s records) commands

-- of each unit of a run
abbrev pub met_units : Plan → ℕ → List Command → List (List Entry)
met_units plan heap commands = met_from plan heap (first_known (command_rules plan heap)) None commands

-- of a whole run, one after the other
abbrev pub met : Plan → ℕ → List Command → List Entry
met plan heap commands = flat_map (λ (records : List Entry). records) (met_units plan heap commands)
