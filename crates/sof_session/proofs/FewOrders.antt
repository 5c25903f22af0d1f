-- How many acts of a command are due at most.
use Rattle.std.proofs.Common.{◌≡◌, refl, ℕ, ◌≤◌, List, [], ◌∷◌, zip, length, Option, Some, None, arith}
use Rattle.std.specs.List.{flat_map}
use Rattle.std.proofs.lemmas.List.{length-append}
use Rattle.sof_base.specs.declared.format.Params.{Params}
use Rattle.tplg_plan.specs.declared.plans.Plan.{Plan}
use Rattle.host_widgets.specs.declared.kept.Record.{Record}
use Rattle.tplg_plan.specs.declared.plans.StreamPlan.{StreamPlan}
use Rattle.tplg_plan.specs.Sound.{IsSound}
use Rattle.host_widgets.specs.declared.kept.Found.{Found}
use Rattle.host_widgets.specs.declared.kept.Found.TheVariants.{Prepared, Running}
use Rattle.host_widgets.specs.declared.kept.StreamRec.{StreamRec}
use Rattle.host_widgets.specs.ActLists.{bring_back, bring_up, go_down, prepare_acts, prepare_by, stop_acts, stop_by}
use Rattle.host_widgets.specs.Host.{AreControls, IsRecordOf}
use Rattle.host_widgets.specs.declared.answers.HostFault.{HostFault}
use Rattle.host_widgets.specs.HostActs.{Act, Save}
use Rattle.host_widgets.specs.Orders.{Procedure}
use Rattle.host_widgets.specs.Routines.{order_job}
use Rattle.host_widgets.proofs.FewJoins.{few-acts, few-by-controls}
use Rattle.host_pcm.specs.declared.asking.Ask.{Ask}
use Rattle.host_ctl.specs.ControlOrders.{bytes_order}
use Rattle.sof_script.specs.declared.script.Command.{Command}
use Rattle.sof_script.specs.declared.script.Command.TheVariants as commands
use Rattle.sof_session.specs.CommandTests.{asking, fault_of}
use Rattle.sof_session.specs.AskedOrders.{asked_order}
use Rattle.sof_session.specs.Commands.{order_of}
use Rattle.sof_session.specs.CommandRanges.{most_sent}
use Rattle.sof_session.proofs.SentOrders.{few-sent, few-stream}
use Rattle.sof_session.proofs.ControlCalls.{sent-set, sent-get, sent-read, sent-bytes}
use Rattle.sof_session.proofs.PlanCounts.{few-streams_and_controls}
use Rattle.sof_session.proofs.RoutineNumbers.{SendsWithin}

-- ---- a suspend and a resume

few-stop : (host : ℕ) (found : Found) → length (stop_by host found) ≤ 1
few-stop host Running = omega arith
few-stop host found = omega arith

few-prepare : (host : ℕ) (found : Found) (params : Option Params) → length (prepare_by host found params) ≤ 1
few-prepare host Prepared (Some p) = omega arith
few-prepare host Prepared None = omega arith
few-prepare host Running params = omega arith
few-prepare host found params = omega arith

-- at most one act for each stream
few-each : (acts : StreamPlan × StreamRec → List Act) → ((s : StreamPlan) (r : StreamRec) → length (acts (s, r)) ≤ 1) → (ss : List StreamPlan) (rs : List StreamRec) → length (flat_map acts (zip ss rs)) ≤ length ss
few-each acts one [] rs = omega arith
few-each acts one (s ∷ ss) [] = omega arith
few-each acts one (s ∷ ss) (r ∷ rs) = omega (arith, one s r, few-each acts one ss rs, length-append (acts (s, r)) (flat_map acts (zip ss rs)))

pub few-prepares : (ss : List StreamPlan) (rs : List StreamRec) → length (flat_map prepare_acts (zip ss rs)) ≤ length ss
few-prepares ss rs = few-each prepare_acts (λ s r. few-prepare s.host r.found r.params) ss rs

few-down : (plan : Plan) (kept : Record) → IsSound plan → length (go_down plan kept) ≤ 900
few-down plan kept sound =
    let stops = few-each stop_acts (λ s r. few-stop s.host r.found) plan.streams kept.streams in
    omega (arith, few-streams_and_controls plan sound, stops, length-append (flat_map stop_acts (zip plan.streams kept.streams)) (Save ∷ []))

-- 576 messages that bring a device up but for its controls, and 4 for each control, and one for each stream
few-back : (plan : Plan) (kept : Record) → IsSound plan → AreControls plan.controls kept.controls → length (bring_back plan kept) ≤ 900
few-back plan kept sound are =
    omega (arith, few-by-controls plan kept sound are, few-streams_and_controls plan sound, sound.controls, few-prepares plan.streams kept.streams, length-append (bring_up plan kept) (flat_map prepare_acts (zip plan.streams kept.streams)))

-- ---- every command

-- the acts of an order that are due: none where a test fails
abbrev pub due : Procedure → Option HostFault → List Act
due o (Some fault) = []
due o None = o.acts

-- those of a command
abbrev pub acts_due : Plan → Record → Command → List Act
acts_due plan kept command = due (order_of plan kept command) (fault_of plan kept command)

few-asked : (plan : Plan) (kept : Record) (asked : Option (List ℕ × Ask)) → length (asked_order plan kept asked).acts ≤ 900
few-asked plan kept None = omega arith
few-asked plan kept (Some (name, ask)) = few-stream plan kept name ask

-- those of an order that has few where no test fails
few-due : (o : Procedure) (fault : Option HostFault) (most : ℕ) → (fault ≡ None → length o.acts ≤ most) → length (due o fault) ≤ most
few-due o (Some fault) most few = omega arith
few-due o None most few = few refl

-- where no test fails
pub few-tested : (plan : Plan) → IsSound plan → (command : Command) (kept : Record) → IsRecordOf plan kept → fault_of plan kept command ≡ None → length (order_of plan kept command).acts ≤ most_sent command
few-tested plan sound commands.Load kept is none = few-acts plan kept sound is.controls
few-tested plan sound commands.Unload kept is none = omega arith
few-tested plan sound commands.Show kept is none = omega arith
few-tested plan sound commands.Suspend kept is none = few-down plan kept sound
few-tested plan sound commands.Resume kept is none = few-back plan kept sound is.controls
few-tested plan sound (commands.Tick n) kept is none = omega arith
few-tested plan sound (commands.Set name values) kept is none = few-sent kept (order_of plan kept (commands.Set name values)) (sent-set plan kept name values)
few-tested plan sound (commands.Bytes name blob) kept is none = few-sent kept (bytes_order plan kept name blob) (sent-bytes plan kept name blob none)
few-tested plan sound (commands.Get name) kept is none = few-sent kept (order_of plan kept (commands.Get name)) (sent-get plan kept name)
few-tested plan sound (commands.Read name) kept is none = few-sent kept (order_of plan kept (commands.Read name)) (sent-read plan sound kept is name)
few-tested plan sound command kept is none = few-asked plan kept (asking command)

pub few-order : (plan : Plan) → IsSound plan → (command : Command) (kept : Record) → IsRecordOf plan kept → length (acts_due plan kept command) ≤ most_sent command
few-order plan sound command kept is = few-due (order_of plan kept command) (fault_of plan kept command) (most_sent command) (few-tested plan sound command kept is)

-- so its job sends few
pub order-within : (plan : Plan) → IsSound plan → (command : Command) (kept : Record) → IsRecordOf plan kept → fault_of plan kept command ≡ None → SendsWithin (most_sent command) (order_job plan kept (order_of plan kept command)).routine
order-within plan sound command kept is none = (few-tested plan sound command kept is none, λ now outcome. tt)

-- no command sends more than 900 messages
pub few-most : (command : Command) → most_sent command ≤ 900
few-most (commands.Tick n) = omega arith
few-most command = omega arith
