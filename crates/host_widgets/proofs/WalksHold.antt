-- The law of acts, one after another, by the record so far; and what is said by whether the link failed.
use Rattle.std.proofs.Common.{◌≡◌, Bool, true, List, [], ◌∷◌, Ok, Err}
use Rattle.std.specs.List.{AllByRecursion}
use Rattle.stream_law.specs.State.{FwState}
use Rattle.tplg_plan.specs.declared.plans.Plan.{Plan}
use Rattle.host_widgets.specs.declared.answers.HostFault.TheVariants.{Refused, LinkDown}
use Rattle.host_widgets.specs.Host.{Outcome}
use Rattle.host_widgets.specs.declared.kept.Record.{Record}
use Rattle.host_widgets.specs.HostActs.{Act, after}
use Rattle.host_widgets.specs.Host.{IsRecordOf}
use Rattle.host_widgets.proofs.OneActLaws.{AreReady, IsPlain, IsTaken, plain-ready}

-- what is said where the link did not fail, and where it did
abbrev pub ByLink : Outcome → Type 0 → Type 0 → Type 0
ByLink (Ok done) Up Down = Up
ByLink (Err LinkDown) Up Down = Down
ByLink (Err (Refused e)) Up Down = Up
ByLink (Err fault) Up Down = Up

-- Each has the law of one act, by the record so far; after a refusal too, where acts go on.
abbrev pub HaveLaw : Plan → Bool → Record → List Act → Type 0
HaveLaw plan goes_on kept [] = Unit {0}
HaveLaw plan goes_on kept (act ∷ acts) =
    IsTaken plan kept act × (IsRecordOf plan (after plan act kept) → HaveLaw plan goes_on (after plan act kept) acts)
    × (goes_on ≡ true → HaveLaw plan goes_on kept acts)

-- And each finds staged what it asks, whatever was staged before the first.
pub record AreTaken (plan : Plan) (goes_on : Bool) (kept : Record) (acts : List Act) : Type 0 where
  pub each : HaveLaw plan goes_on kept acts
  pub ready : (f : FwState) → AreReady plan goes_on acts f

pub none-taken : (plan : Plan) (goes_on : Bool) (kept : Record) → AreTaken plan goes_on kept []
none-taken plan goes_on kept = record { each = tt; ready = λ f. tt }

-- acts that ask nothing of what is staged
pub plainly-taken : (plan : Plan) (goes_on : Bool) (kept : Record) (acts : List Act) → AllByRecursion IsPlain acts → HaveLaw plan goes_on kept acts → AreTaken plan goes_on kept acts
plainly-taken plan goes_on kept acts plain each = record { each = each; ready = plain-ready plan goes_on acts plain }
