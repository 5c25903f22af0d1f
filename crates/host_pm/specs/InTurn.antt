-- Acts that are sent one after another, over any device: the result of each exchange, and the result of all.
use Rattle.std.specs.Prelude.{◌≡◌, ℕ, List, [], ◌∷◌, Bool, true, false, Option, Result, Ok}
use Rattle.stream_law.specs.Past.{Cut}
use Rattle.ipc3_model.specs.declared.reply.Reply.{Reply}
use Rattle.ipc3_model.specs.Messages.{message_spelling}
use Rattle.mbox_link.specs.Calls.{World, Meaning, Exchanged, Led}
use Rattle.tplg_plan.specs.declared.plans.Plan.{Plan}
use Rattle.host_widgets.specs.declared.answers.HostFault.{HostFault}
use Rattle.host_widgets.specs.declared.kept.Record.{Record}
use Rattle.host_widgets.specs.HostActs.{Act}
use Rattle.host_widgets.specs.ActLists.{go_down}
use Rattle.host_widgets.specs.ActMessages.{act_message}
use Rattle.host_widgets.specs.ActCalls.{came_to, calls_of}
use Rattle.host_widgets.specs.Kept.{went_down}
use Rattle.host_widgets.specs.Host.{Outcome, verdict}
use Rattle.host_widgets.specs.Bringing.{Sent}
use Rattle.host_widgets.specs.Walk.{goes_past, first_of}

-- one exchange of these bytes, and its result
pub record Told {D : Type 0} (means : Meaning D) (request : List ℕ) (w v : World D) (result : Outcome) : Type 0 where
  pub reply : Result Reply HostFault
  pub sent : Sent means request w v reply
  pub said : result ≡ came_to reply

-- acts go on after one with this result, or end with it
abbrev pub Behind : Bool → Outcome → (Outcome → Type 0) → Type 0 → Outcome → Type 0
Behind true one More Ends result = (rest : Outcome) × More rest × (result ≡ first_of one rest)
Behind false one More Ends result = Ends × (result ≡ one)

-- one exchange for each act, up to the first after which they do not go on, and no other call
abbrev pub InTurn : {D : Type 0} → Meaning D → Plan → Bool → List Act → World D → World D → Outcome → Type 0
InTurn means plan goes_on [] w v result = (v ≡ w) × (result ≡ Ok tt)
InTurn {D} means plan goes_on (act ∷ acts) w v result =
    (answer : Option (List ℕ)) × (mid : World D) × Exchanged means (message_spelling (act_message plan act)) answer w mid
    × Behind (goes_past goes_on (came_to (verdict answer))) (came_to (verdict answer)) (λ rest. InTurn means plan goes_on acts mid v rest) (v ≡ mid) result

-- the messages before a cut were sent, and then the device was cut, whatever their results
pub record WentDown {D : Type 0} (means : Meaning D) (plan : Plan) (heap : ℕ) (kept kept' : Record) (w v : World D) (result : Outcome) : Type 0 where
  pub sent : World D
  pub told : InTurn means plan true (go_down plan kept) w sent result
  pub record_is : kept' ≡ went_down kept
  pub cut : Led means sent (calls_of heap (Cut ∷ [])) v
