-- One pass over the jobs of a host that makes pipelines on use: where their lists of acts are so, all that they may send is, and each end.
use Rattle.std.proofs.Common.{◌≡◌, refl, ℕ, Bool, true, false, List, [], ◌++◌, zip, Ok, Err, inl, inr}
use Rattle.std.specs.Prelude.{if◌then◌else◌}
use Rattle.std.specs.List.{flat_map}
use Rattle.tplg_plan.specs.declared.plans.Plan.{Plan}
use Rattle.host_widgets.specs.declared.answers.HostFault.TheVariants.{Refused, LinkDown}
use Rattle.host_widgets.specs.declared.kept.Found.{Found}
use Rattle.host_widgets.specs.declared.kept.Power.{Power}
use Rattle.host_widgets.specs.declared.kept.Power.TheVariants as powers
use Rattle.host_widgets.specs.declared.kept.Record.{Record}
use Rattle.host_widgets.specs.ActLists.{close_by, prepare_acts}
use Rattle.host_widgets.specs.Host.{Outcome}
use Rattle.host_widgets.specs.HostActs.{Act}
use Rattle.host_widgets.specs.Orders.{Procedure, Ending, Plain, Loading, Resuming, Suspending, end_by}
use Rattle.host_widgets.specs.Routines.{Routine, Job, order_job}
use Rattle.host_widgets.specs.There.{There, nowhere, booted, ids_there_of}
use Rattle.host_widgets.specs.UpActs.{making_acts, unmaking_acts}
use Rattle.host_widgets.specs.UpState.{UpState, there_by, cut_off}
use Rattle.host_dynamic.specs.Dynamic.{plain_job, with_stream_shut, parting, is_control_up, unsent, after_unmaking, after_making, after_closing, after_resuming, opening_by, closing_by}
use Rattle.sof_script.specs.declared.script.Command.{Command}
use Rattle.sof_script.specs.declared.script.Command.TheVariants as commands
use Rattle.sof_session.specs.Commands.{order_of}
use Rattle.sof_session.specs.UpCommands.{up_job}
use Rattle.sof_session.proofs.OrderActs.{is_bringing}
use Rattle.sof_session.proofs.RoutinePasses.{AllOf, EndsSo, EndsWell}

pub ends-by : (ending : Ending) (plan : Plan) (done : Record → Record) (start now : Record) (o : Outcome) → EndsSo (end_by ending plan done start now o).1
ends-by Plain plan done start now (Ok passed) = inl refl
ends-by Plain plan done start now (Err LinkDown) = inr refl
ends-by Plain plan done start now (Err fault) = inl refl
ends-by Loading plan done start now (Ok passed) = inl refl
ends-by Loading plan done start now (Err fault) = inr refl
ends-by Resuming plan done start now (Ok passed) = inl refl
ends-by Resuming plan done start now (Err fault) = inr refl
ends-by Suspending plan done start now o = inr refl

-- an order, where all pipelines are made at a load
pub order-ends : (plan : Plan) (kept : Record) (o : Procedure) → EndsWell (order_job plan kept o).routine
order-ends plan kept o = (tt, λ now outcome is. (ends-by o.ending plan o.done kept now outcome, tt))

module _ (plan : Plan) (Sent : List Act → Type 0) (Keeps : There → Type 0) where
  abbrev KeptSo : UpState → Type 0
  KeptSo s = Keeps s.there

  -- what is so of lists of acts, and of what is there before any
  pub record IsAsked (heap : ℕ) (s : UpState) : Type 0 where
    pub nothing : Keeps nowhere
    pub fresh : Keeps (booted heap)
    pub none : Sent []
    pub making : (n : List ℕ) → Sent (making_acts plan s.kept n)
    pub unmaking : (ids : List ℕ) → Sent (unmaking_acts plan ids)
    pub closing : (host : ℕ) (found : Found) → Sent (close_by host found)
    pub resuming : Sent (making_acts plan s.kept s.up ++ flat_map prepare_acts (zip plan.streams s.kept.streams))

  -- a job begins with what is so, and passes
  pub record IsPassedOnUse (job : Job UpState Act) : Type 0 where
    pub from : Keeps job.from.there
    pub routine : AllOf Sent KeptSo KeptSo job.routine

  module _ (heap : ℕ) (s : UpState) (asked : IsAsked heap s) (are : Keeps s.there) where
    abbrev Passes : Routine UpState Act → Type 0
    Passes routine = AllOf Sent KeptSo KeptSo routine

    by-power : (power : Power) (t : There) → Keeps t → Keeps (there_by power t)
    by-power powers.On t is = is
    by-power power t is = asked.nothing

    cut : (now : UpState) → Keeps now.there → Keeps (cut_off now).there
    cut now is = by-power (cut_off now).kept.power now.there is

    unmaking : (done : UpState → UpState) → ((now : UpState) → Keeps now.there → Keeps (done now).there) → (now : UpState) (o : Outcome) → Keeps now.there → Passes (after_unmaking done now o)
    unmaking done leaves now (Ok passed) is = (inl refl, leaves now is)
    unmaking done leaves now (Err fault) is = (inr refl, cut (done now) (leaves now is))

    making : (host : ℕ) (n : List ℕ) (now : UpState) (o : Outcome) → Keeps now.there → Passes (after_making plan host n now o)
    making host n now (Ok passed) is = (inl refl, is)
    making host n now (Err (Refused e)) is = (asked.unmaking (ids_there_of plan n now.there), unmaking (λ (x : UpState). x) (λ x later. later))
    making host n now (Err fault) is = (inr refl, cut now is)

    opening : (power : Power) (host : ℕ) (n : List ℕ) → Passes (opening_by power plan host n s)
    opening powers.On host n = (asked.making n, making host n)
    opening power host n = (inl refl, are)

    closed : (host : ℕ) (now : UpState) (o : Outcome) → Keeps now.there → Passes (after_closing plan host now o)
    closed host now (Ok passed) is = (asked.unmaking (ids_there_of plan (parting plan host now) now.there), unmaking (with_stream_shut plan host) (λ x later. later))
    closed host now (Err (Refused e)) is = (inl refl, is)
    closed host now (Err fault) is = (inr refl, cut now is)

    closing : (power : Power) (host : ℕ) (found : Found) → Passes (closing_by power plan host found s)
    closing powers.On host found = (asked.closing host found, closed host)
    closing power host found = (inl refl, are)

    resumed : (now : UpState) (o : Outcome) → Keeps now.there → Passes (after_resuming s now o)
    resumed now (Ok passed) is = (inl refl, is)
    resumed now (Err fault) is = (inr refl, are)

    plain : (o : Procedure) → Sent o.acts → IsPassedOnUse (plain_job plan s o)
    plain o sent = record {
      from = are;
      routine = (sent, λ now outcome is. (ends-by o.ending plan o.done s.kept now.kept outcome, by-power (end_by o.ending plan o.done s.kept now.kept outcome).0.power now.there is));
    }

    -- one whose control is up, or not
    control : (o : Procedure) (up : Bool) → Sent o.acts → IsPassedOnUse (plain_job plan s (if up then o else unsent o))
    control o true sent = plain o sent
    control o false sent = plain (unsent o) asked.none

    -- by what the command's order sends, where it brings nothing up
    pub job-passed : (command : Command) → (is_bringing command ≡ false → Sent (order_of plan s.kept command).acts) → IsPassedOnUse (up_job plan heap s command)
    job-passed commands.Load order = record { from = asked.fresh; routine = (inl refl, asked.fresh) }
    job-passed commands.Unload order = record { from = are; routine = (inl refl, asked.nothing) }
    job-passed commands.Resume order = record { from = asked.fresh; routine = (asked.resuming, resumed) }
    job-passed (commands.Open name) order = record { from = are; routine = opening s.kept.power _ _ }
    job-passed (commands.Close name) order = record { from = are; routine = closing s.kept.power _ _ }
    job-passed (commands.Set name values) order = control (order_of plan s.kept (commands.Set name values)) (is_control_up plan s.up name) (order refl)
    job-passed (commands.Bytes name blob) order = control (order_of plan s.kept (commands.Bytes name blob)) (is_control_up plan s.up name) (order refl)
    job-passed command order = plain (order_of plan s.kept command) (order refl)

-- whatever is sent, each routine ends with nothing more, or with a cut
pub up-ends : (plan : Plan) (heap : ℕ) (s : UpState) (command : Command) → EndsWell (up_job plan heap s command).routine
up-ends plan heap s command =
    (job-passed plan (λ (acts : List Act). Unit {0}) (λ (t : There). Unit {0}) heap s
    (record { nothing = tt; fresh = tt; none = tt; making = λ n. tt; unmaking = λ ids. tt; closing = λ host found. tt; resuming = tt }) tt command (λ other. tt)).routine
