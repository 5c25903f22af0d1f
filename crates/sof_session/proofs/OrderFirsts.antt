-- The moments with which a command begins: those of its power alone, in both modes.
use Rattle.std.proofs.Common.{◌≡◌, refl, ◌∙◌, ℕ, ◌+◌, ◌≤◌, Bool, true, false, List, [], ◌∷◌, ◌++◌, None, arith}
use Rattle.std.specs.Prelude.{if◌then◌else◌}
use Rattle.stream_law.specs.Past.{Moment, Boot, Cut, Tick}
use Rattle.stream_law.specs.State.{View}
use Rattle.tplg_plan.specs.declared.plans.Plan.{Plan}
use Rattle.host_widgets.specs.declared.kept.Power.{Power}
use Rattle.host_widgets.specs.declared.kept.Power.TheVariants as powers
use Rattle.host_widgets.specs.declared.kept.Record.{Record}
use Rattle.host_widgets.specs.Orders.{Procedure, where_on}
use Rattle.host_widgets.specs.UpState.{UpState}
use Rattle.host_widgets.proofs.StandingOn.{AllStill}
use Rattle.host_dynamic.specs.Dynamic.{unsent, is_control_up}
use Rattle.sof_script.specs.declared.script.Command.{Command}
use Rattle.sof_script.specs.declared.script.Command.TheVariants as commands
use Rattle.sof_session.specs.BootLaws.{tested_boots}
use Rattle.sof_session.specs.CommandTests.{asking}
use Rattle.sof_session.specs.Commands.{order_of, is_tick}
use Rattle.sof_session.specs.UpCommands.{up_job}
use Rattle.sof_session.specs.Written.{boots_in}
use Rattle.sof_session.proofs.SeenMoments.{AllSeen, ticks_in}
use Rattle.sof_session.proofs.StillOrders.{set-still, bytes-still, read-still, asked-still}

abbrev pub first_by : Power → Command → List Moment
first_by power commands.Load = Boot ∷ []
first_by power commands.Resume = Boot ∷ []
first_by power commands.Unload = where_on power (Cut ∷ [])
first_by power (commands.Tick n) = where_on power (Tick ∷ [])
first_by power command = []

pub order-first : (plan : Plan) (kept : Record) (command : Command) → (order_of plan kept command).first ≡ first_by kept.power command
order-first plan kept commands.Load = refl
order-first plan kept commands.Resume = refl
order-first plan kept commands.Unload = refl
order-first plan kept (commands.Tick n) = refl
order-first plan kept commands.Suspend = refl
order-first plan kept commands.Show = refl
order-first plan kept (commands.Set name values) = (set-still plan kept name values).first
order-first plan kept (commands.Bytes name blob) = (bytes-still plan kept name blob).first
order-first plan kept (commands.Get name) = refl
order-first plan kept (commands.Read name) = (read-still plan kept name).first
order-first plan kept command = (asked-still plan kept (asking command)).first

-- those of a control are the same where its component is not up
control-first : (b : Bool) (o : Procedure) → (if b then o else unsent o).first ≡ o.first
control-first true o = refl
control-first false o = refl

pub job-first : (plan : Plan) (heap : ℕ) (s : UpState) (command : Command) → (up_job plan heap s command).first ≡ first_by s.kept.power command
job-first plan heap s commands.Load = refl
job-first plan heap s commands.Resume = refl
job-first plan heap s commands.Unload = refl
job-first plan heap s (commands.Open name) = refl
job-first plan heap s (commands.Close name) = refl
job-first plan heap s (commands.Set name values) =
    control-first (is_control_up plan s.up name) (order_of plan s.kept (commands.Set name values)) ∙ order-first plan s.kept (commands.Set name values)
job-first plan heap s (commands.Bytes name blob) =
    control-first (is_control_up plan s.up name) (order_of plan s.kept (commands.Bytes name blob)) ∙ order-first plan s.kept (commands.Bytes name blob)
job-first plan heap s command = order-first plan s.kept command

-- ---- none of them brings a view

where-seen : (Seen : View → Type 0) (power : Power) (moments : List Moment) → AllSeen Seen moments → AllSeen Seen (where_on power moments)
where-seen Seen powers.On moments all = all
where-seen Seen power moments all = tt

pub seen-first : (Seen : View → Type 0) (power : Power) (command : Command) → AllSeen Seen (first_by power command)
seen-first Seen power commands.Load = tt
seen-first Seen power commands.Resume = tt
seen-first Seen power commands.Unload = where-seen Seen power (Cut ∷ []) tt
seen-first Seen power (commands.Tick n) = where-seen Seen power (Tick ∷ []) tt
seen-first Seen power command = tt

-- ---- nor is one a tick, but that of a tick

cut-still : (power : Power) → AllStill (where_on power (Cut ∷ []))
cut-still powers.On = tt
cut-still power = tt

pub still-first : (power : Power) (command : Command) → is_tick command ≡ false → AllStill (first_by power command)
still-first power commands.Load own = tt
still-first power commands.Resume own = tt
still-first power commands.Unload own = cut-still power
still-first power (commands.Tick n) own = absurd (cc own)
still-first power command own = tt

cut-ticks : (power : Power) → ticks_in (where_on power (Cut ∷ [])) ≡ 0
cut-ticks powers.On = refl
cut-ticks power = refl

no-ticks : (power : Power) (command : Command) → is_tick command ≡ false → ticks_in (first_by power command) ≡ 0
no-ticks power commands.Load own = refl
no-ticks power commands.Resume own = refl
no-ticks power commands.Unload own = cut-ticks power
no-ticks power (commands.Tick n) own = absurd (cc own)
no-ticks power command own = refl

-- a command has at most 16 ticks where it has no more than the lags that were planned beside those of its first moments
pub few-ticks : (power : Power) (command : Command) (lags all : ℕ) → is_tick command ≡ false → lags ≤ 16 → all ≤ ticks_in (first_by power command) + lags → all ≤ 16
few-ticks power command lags all own few most = let none = no-ticks power command own in omega (arith, none, few, most)

-- and so has a tick, which sends nothing
pub tick-few : (power : Power) → ticks_in (where_on power (Tick ∷ []) ++ []) ≤ 16
tick-few powers.On = omega arith
tick-few power = omega arith

-- ---- and a load and a resume boot

cut-boots : (power : Power) → boots_in (where_on power (Cut ∷ [])) ≡ 0
cut-boots powers.On = refl
cut-boots power = refl

tick-boots : (power : Power) → boots_in (where_on power (Tick ∷ [])) ≡ 0
tick-boots powers.On = refl
tick-boots power = refl

pub boots-first : (power : Power) (command : Command) → boots_in (first_by power command) ≡ tested_boots command None
boots-first power commands.Load = refl
boots-first power commands.Resume = refl
boots-first power commands.Unload = cut-boots power
boots-first power (commands.Tick n) = tick-boots power
boots-first power command = refl
