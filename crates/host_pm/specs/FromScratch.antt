-- A record sent to a fresh firmware: all acts that lead from nothing to what it says.
use Rattle.std.specs.Prelude.{◌≡◌, ℕ, List, [], ◌∷◌, ◌++◌, Ok}
use Rattle.std.specs.List.{zip, flat_map}
use Rattle.stream_law.specs.State.{FwState, view_of}
use Rattle.ipc3_model.specs.Messages.{decoded, message_spelling}
use Rattle.mbox_link.specs.Step.{fresh, row_of}
use Rattle.tplg_plan.specs.declared.plans.Plan.{Plan}
use Rattle.tplg_plan.specs.declared.plans.StreamPlan.{StreamPlan}
use Rattle.host_widgets.specs.declared.kept.Found.{Found}
use Rattle.host_widgets.specs.declared.kept.Found.TheVariants.{Running, Paused}
use Rattle.host_widgets.specs.declared.kept.StreamRec.{StreamRec}
use Rattle.host_widgets.specs.declared.kept.Record.{Record}
use Rattle.host_widgets.specs.declared.trigger.Trigger.TheVariants.{Start, Pause}
use Rattle.host_widgets.specs.ActLists.{bring_back}
use Rattle.host_widgets.specs.ActMessages.{act_message}
use Rattle.tplg_plan.specs.Sound.{IsSound}
use Rattle.host_widgets.specs.Host.{IsRecordOf}
use Rattle.host_widgets.specs.Bringing.{Fits}
use Rattle.host_widgets.specs.HostActs.{Act, Trig}
use Rattle.host_widgets.specs.Keeps.{KeepsRecord}
use Rattle.host_widgets.specs.Kept.{went_down}

-- a stream that runs was started, and one that is paused was started and then paused
abbrev pub start_by : ℕ → Found → List Act
start_by host Running = Trig host Start ∷ []
start_by host Paused = Trig host Start ∷ Trig host Pause ∷ []
start_by host found = []

abbrev pub start_acts : StreamPlan × StreamRec → List Act
start_acts (s, r) = start_by s.host r.found

-- the list that brings the device up, the parameters of each stream that has some, and then the triggers, each in the plan's order
abbrev pub from_scratch : Plan → Record → List Act
from_scratch plan kept = bring_back plan (went_down kept) ++ flat_map start_acts (zip plan.streams kept.streams)

-- the firmware takes the message of each act, one after another with no tick between, and is in this state then
abbrev pub TakesActs : Plan → FwState → List Act → FwState → Type 0
TakesActs plan f [] g = g ≡ f
TakesActs plan f (act ∷ acts) g = (next : FwState) × (row_of f (decoded (message_spelling (act_message plan act))) ≡ Ok next) × TakesActs plan next acts g

-- a fresh firmware takes all that the record says, and keeps it then; so each state that keeps the record, whatever led to it, shows
-- what this one shows, and has the same pieces in its heap
pub record IsFromScratch (plan : Plan) (heap : ℕ) (kept : Record) : Type 0 where
  pub state : FwState
  pub taken : TakesActs plan (fresh heap) (from_scratch plan kept) state
  pub keeps : KeepsRecord plan heap kept state
  pub same : (g : FwState) → KeepsRecord plan heap kept g → (view_of g ≡ view_of state) × (g.heap ≡ state.heap)

-- so it is of every record of a sound plan, where the stated sizes fit
abbrev pub EachFromScratch : Type 0
EachFromScratch = (plan : Plan) (heap : ℕ) (kept : Record) → IsSound plan → IsRecordOf plan kept → Fits plan heap → IsFromScratch plan heap kept
