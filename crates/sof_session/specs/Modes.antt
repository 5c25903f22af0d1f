-- The two modes of sessions: all pipelines are made at a load, or each is made when a stream that needs it is first opened.
use Rattle.std.specs.Prelude.{◌≡◌, ℕ, List, [], Bool, true, false, Option, Some, None, unwrap_or, is_some}
use Rattle.mbox_link.specs.Calls.{World, Meaning}
use Rattle.mbox_link.specs.Meetings.{Doing}
use Rattle.mbox_link.specs.Wire.{Wire}
use Rattle.tplg_plan.specs.declared.plans.Plan.{Plan}
use Rattle.host_widgets.specs.declared.answers.Answer.{Answer}
use Rattle.host_widgets.specs.declared.kept.Record.{Record}
use Rattle.host_widgets.specs.HostActs.{Act}
use Rattle.host_widgets.specs.UpState.{UpState}
use Rattle.host_dynamic.specs.UpDevices.{up_state_in}
use Rattle.sof_script.specs.declared.script.Command.{Command}
use Rattle.sof_script.specs.declared.script.Command.TheVariants as commands
use Rattle.sof_session.specs.CommandRules.{CommandRules}
use Rattle.sof_session.specs.Commands.{command_rules}
use Rattle.sof_session.specs.SessionView.{SessionView}
use Rattle.sof_session.specs.SessionStep.{CommandDone}
use Rattle.sof_session.specs.Show.{show_lines}
use Rattle.sof_session.specs.UpCommands.{up_rules, up_show_lines}
use Rattle.sof_session.specs.Written.{Basis, Ground}

-- by which rules the commands of a session go, over its plan and heap, and what of the session they go by
pub record Mode (P S A : Type 0) : Type 0 where
  pub rules : Plan → ℕ → CommandRules S A
  pub sees : SessionView P → S
  pub on_use : Bool

-- all pipelines are made at a load
abbrev pub made_at_load : {P : Type 0} → Mode P Record Act
made_at_load {P} = record { rules = command_rules; sees = λ (seat : SessionView P). seat.kept; on_use = false }

-- what a session keeps whose pipelines are made on use, with what its device has
abbrev pub up_state_of : {P : Type 0} → Meaning P → SessionView P → UpState
up_state_of means seat = up_state_in means seat.kept (unwrap_or seat.up []) seat.link.device

-- each is made on use
abbrev pub made_on_use : {P : Type 0} → Meaning P → Mode P UpState Act
made_on_use means = record { rules = up_rules; sees = up_state_of means; on_use = true }

-- a session is of a mode
abbrev pub IsInMode : {P S A : Type 0} → Mode P S A → SessionView P → Type 0
IsInMode mode seat = is_some seat.up ≡ mode.on_use

-- ---- one command

-- a command was done by the rules of this mode, and the session stays in it
pub record CommandDoneIn {P S A : Type 0} (means : Meaning P) (mode : Mode P S A) (command : Command) (old new : SessionView P) (w v : World (Wire P)) (answer : Answer) : Type 0 where
  pub done : CommandDone means (mode.rules old.plan old.heap) old.heap command (mode.sees old) (mode.sees new) w v answer
  pub stays : IsInMode mode new

-- by those of the mode in which the session was, with these doings of the device
abbrev pub DoneWith : {P : Type 0} → Meaning P → Doing → Option (List ℕ) → Command → SessionView P → SessionView P → World (Wire P) → World (Wire P) → Answer → Type 0
DoneWith means doing None command old new w v answer = (did : CommandDoneIn means made_at_load command old new w v answer) × (doing ≡ did.done.doing)
DoneWith means doing (Some up) command old new w v answer = (did : CommandDoneIn means (made_on_use means) command old new w v answer) × (doing ≡ did.done.doing)

-- a session did a command, in its mode
pub record SteppedBy {P : Type 0} (means : Meaning P) (command : Command) (old new : SessionView P) (w v : World (Wire P)) (answer : Answer) : Type 0 where
  pub doing : Doing
  pub did : DoneWith means doing old.up command old new w v answer

-- ---- show

-- the lines that say how everything stands: of all widgets and edges, or of those that are up
abbrev pub lines_in : Option (List ℕ) → Plan → Record → List (List ℕ)
lines_in None plan kept = show_lines plan kept
lines_in (Some up) plan kept = up_show_lines plan kept up

-- the lines that a command shows
abbrev pub shown_in : Command → Option (List ℕ) → Plan → Record → List (List ℕ)
shown_in commands.Show up plan kept = lines_in up plan kept
shown_in command up plan kept = []

-- ---- runs

-- what a run is written by
abbrev pub basis_in : {P S A : Type 0} → Mode P S A → Ground → Basis S A
basis_in mode g = record { rules = mode.rules g.plan g.heap; whole = g.whole; slots = g.slots }

-- ---- messages

-- the most messages that a command sends: a tick sends none, and one that makes pipelines may unmake them again
abbrev pub most_sent_in : Option (List ℕ) → ℕ
most_sent_in None = 900
most_sent_in (Some up) = 1200

abbrev pub most_sent_by : Option (List ℕ) → Command → ℕ
most_sent_by up (commands.Tick n) = 0
most_sent_by up command = most_sent_in up
