-- What a command makes of what the host and the link know, with its answer and the moments of the device.
use Rattle.std.specs.Prelude.{ℕ, ◌+◌, List, [], ◌++◌, Bool, true, false, Option, Some, None, Ok, Err}
use Rattle.std.specs.Option.{option_map_or}
use Rattle.stream_law.specs.Past.{Moment}
use Rattle.mbox_link.specs.declared.fates.Fate.TheVariants as fates
use Rattle.mbox_link.specs.declared.fates.Entry.{Entry}
use Rattle.mbox_link.specs.Meetings.{Queue, Doing, next_meeting, with_fate, with_lag, has_room, has_lag_room}
use Rattle.tplg_plan.specs.declared.plans.Plan.{Plan}
use Rattle.host_widgets.specs.declared.answers.Answer.{Answer}
use Rattle.host_widgets.specs.declared.answers.Answer.TheVariants as answers
use Rattle.host_widgets.specs.declared.answers.HostFault.{HostFault}
use Rattle.host_widgets.specs.declared.kept.Record.{Record}
use Rattle.host_widgets.specs.Kept.{first_record}
use Rattle.host_widgets.specs.Host.{Outcome}
use Rattle.host_widgets.specs.HostActs.{Act}
use Rattle.host_widgets.specs.OneAct.{act_rules}
use Rattle.host_widgets.specs.Walk.{Walked}
use Rattle.host_widgets.specs.Orders.{Procedure, quiet, loading, unloading, suspending, resuming, ticking}
use Rattle.host_widgets.specs.Routines.{Job, walk_routine, order_job}
use Rattle.host_pcm.specs.declared.asking.Ask.{Ask}
use Rattle.host_pcm.specs.StreamOrders.{stream_order}
use Rattle.host_ctl.specs.ControlOrders.{set_order, bytes_order, get_order, read_order}
use Rattle.sof_script.specs.declared.script.Command.{Command}
use Rattle.sof_script.specs.declared.script.Command.TheVariants as commands
use Rattle.sof_session.specs.CommandTests.{asking, fault_of}
use Rattle.sof_session.specs.Show.{shown_by}
use Rattle.sof_session.specs.CommandRules.{CommandRules}

-- ---- what is known

-- what the host and the link know: what the host keeps, and what messages were and will be
pub record Known (S : Type 0) : Type 0 where
  pub kept : S
  pub queue : Queue

-- before the first command nothing is loaded, sent or planned
abbrev pub first_known : {S A : Type 0} → CommandRules S A → Known S
first_known rules = record { kept = rules.first; queue = record { sent = 0; entries = [] } }

-- ---- the host that keeps its record, with all pipelines made

-- what is done where no test fails; a command that asks nothing of a stream, and is none of the others, does nothing
abbrev pub order_of : Plan → Record → Command → Procedure
order_of plan kept commands.Load = loading plan kept
order_of plan kept commands.Unload = unloading plan kept
order_of plan kept commands.Suspend = suspending plan kept
order_of plan kept commands.Resume = resuming plan kept
order_of plan kept commands.Show = quiet answers.Show
order_of plan kept (commands.Tick n) = ticking kept
order_of plan kept (commands.Set name values) = set_order plan kept name values
order_of plan kept (commands.Bytes name blob) = bytes_order plan kept name blob
order_of plan kept (commands.Get name) = get_order plan kept name
order_of plan kept (commands.Read name) = read_order plan kept name
order_of plan kept command = option_map_or (λ (asked : List ℕ × Ask). stream_order plan kept asked.0 asked.1) (asking command) (quiet answers.Done)

abbrev pub command_rules : Plan → ℕ → CommandRules Record Act
command_rules plan heap = record {
  acts = act_rules plan heap;
  first = first_record plan;
  fault = fault_of plan;
  job = λ kept command. order_job plan kept (order_of plan kept command);
  shown = λ kept command. shown_by command plan kept;
}

-- ---- by any rules

-- the result of a command: what is known after it, its answer, the moments of the device, and the acts whose messages were sent
pub record CommandResult (S A : Type 0) : Type 0 where
  pub known : Known S
  pub answer : Answer
  pub moments : List Moment
  pub sent : List A

abbrev pub came : {S A : Type 0} → Known S → Answer → CommandResult S A
came known answer = record { known = known; answer = answer; moments = []; sent = [] }

-- a command that was done has its job's answer
abbrev pub answer_by : Answer → Outcome → Answer
answer_by answer (Ok done) = answer
answer_by answer (Err fault) = answers.Fault fault

abbrev pub ended : {S A : Type 0} → Job S A → Walked S A Queue → CommandResult S A
ended job w = record {
  known = record { kept = w.kept; queue = w.queue };
  answer = answer_by job.answer w.outcome;
  moments = job.first ++ w.moments;
  sent = w.sent;
}

-- its routine is walked from what is kept after the first moments
abbrev pub carried : {S A : Type 0} → CommandRules S A → Doing → Known S → Job S A → CommandResult S A
carried rules doing known job = ended job (walk_routine rules.acts (next_meeting doing) job.from known.queue job.routine)

-- where a test fails, that is answered, and nothing is done
abbrev pub tested : {S A : Type 0} → CommandRules S A → Doing → Known S → Job S A → Option HostFault → CommandResult S A
tested rules doing known job (Some fault) = came known (answers.Fault fault)
tested rules doing known job None = carried rules doing known job

-- whether a command plans what a later message meets
abbrev pub is_plan : Command → Bool
is_plan (commands.Refuse k e) = true
is_plan (commands.Drop k) = true
is_plan (commands.Lose k) = true
is_plan (commands.Lag k ticks) = true
is_plan command = false

-- something is planned where there is room for it
abbrev pub planned_where_room : {S A : Type 0} → Known S → Bool → List Entry → CommandResult S A
planned_where_room known true entries = came (record { kept = known.kept; queue = record { sent = known.queue.sent; entries = entries } }) answers.Done
planned_where_room known false entries = came known answers.PlanFull

-- A command; the K-th message from now is planned, and a tick is one, whatever its number. The device does to messages of its
-- own accord what `doing` says.
abbrev pub next : {S A : Type 0} → CommandRules S A → Doing → Known S → Command → CommandResult S A
next rules doing known (commands.Refuse k e) =
    let n = known.queue.sent + k in planned_where_room known (has_room n known.queue.entries) (with_fate n (fates.Refuse e) known.queue.entries)
next rules doing known (commands.Drop k) =
    let n = known.queue.sent + k in planned_where_room known (has_room n known.queue.entries) (with_fate n fates.Drop known.queue.entries)
next rules doing known (commands.Lose k) =
    let n = known.queue.sent + k in planned_where_room known (has_room n known.queue.entries) (with_fate n fates.Lose known.queue.entries)
next rules doing known (commands.Lag k ticks) =
    let n = known.queue.sent + k in planned_where_room known (has_lag_room n ticks known.queue.entries) (with_lag n ticks known.queue.entries)
next rules doing known command = tested rules doing known (rules.job known.kept command) (rules.fault known.kept command)

-- whether a command itself is ticks
abbrev pub is_tick : Command → Bool
is_tick (commands.Tick n) = true
is_tick command = false
