-- The law of a host that makes pipelines on use: what is there is the part of the graph that is up.
use Rattle.std.specs.Prelude.{ℕ, List}
use Rattle.std.specs.List.{AllByRecursion}
use Rattle.mbox_link.specs.Meetings.{Doing}
use Rattle.tplg_plan.specs.declared.plans.Plan.{Plan}
use Rattle.tplg_plan.specs.Sound.{IsSound}
use Rattle.host_widgets.specs.UpState.{UpState}
use Rattle.host_dynamic.specs.UpStates.{IsUpState}
use Rattle.sof_script.specs.declared.script.Command.{Command}
use Rattle.sof_session.specs.Commands.{Known, first_known, next}
use Rattle.sof_session.specs.UpCommands.{up_rules}
use Rattle.sof_session.specs.Written.{Basis, Leg, IsRun, first_at}
use Rattle.host_widgets.specs.HostActs.{Act}

-- every command keeps this
abbrev pub UpIsShown : Type 0
UpIsShown = (plan : Plan) → IsSound plan → (heap : ℕ) (doing : Doing) (known : Known UpState) (command : Command) → IsUpState plan known.kept →
    IsUpState plan (next (up_rules plan heap) doing known command).known.kept

-- and so it is before the first
abbrev pub FirstIsShown : Type 0
FirstIsShown = (plan : Plan) → IsSound plan → (heap : ℕ) → IsUpState plan (first_known (up_rules plan heap)).kept

-- so it is after each command of a run
abbrev pub RunShowsUp : Type 0
RunShowsUp = (plan : Plan) → IsSound plan → (heap : ℕ) (whole : List (ℕ × List ℕ)) (slots : List ℕ) (doing : Doing) (commands : List Command) (legs : List (Leg UpState)) →
    let b : Basis UpState Act = record { rules = up_rules plan heap; whole = whole; slots = slots } in
    IsRun b doing commands (first_at b) legs → AllByRecursion (λ (leg : Leg UpState). IsUpState plan leg.at.known.kept) legs
