-- Messages of a call, with what a failed link leaves.
use Rattle.std.specs.Prelude.{◌≡◌, ℕ, List, [], Bool, true, false, Option, Result, Err, ◌∷◌, Ok, MatchResult}
use Rattle.ipc3_model.specs.declared.reply.Reply.{Reply}
use Rattle.mbox_link.specs.Calls.{World, Meaning, Exchanged, Led}
use Rattle.tplg_plan.specs.declared.plans.Plan.{Plan}
use Rattle.host_widgets.specs.declared.answers.HostFault.{HostFault}
use Rattle.host_widgets.specs.declared.answers.HostFault.TheVariants.{LinkDown}
use Rattle.host_widgets.specs.declared.kept.Record.{Record}
use Rattle.host_widgets.specs.HostActs.{Act}
use Rattle.host_widgets.specs.ActCalls.{came_to, calls_of}
use Rattle.host_widgets.specs.Orders.{plain_end}
use Rattle.host_widgets.specs.Host.{Outcome, verdict}
use Rattle.ipc3_model.specs.Messages.{message_spelling}
use Rattle.host_widgets.specs.ActMessages.{act_message}

-- these were sent, up to the first that did not pass, with this result
abbrev pub ActsSent : {D : Type 0} → Meaning D → Plan → List Act → World D → World D → Outcome → Type 0
ActsSent means plan [] w v result = (v ≡ w) × (result ≡ Ok tt)
ActsSent {D} means plan (act ∷ acts) w v result =
    (mid : World D) × (answer : Option (List ℕ)) × Exchanged means (message_spelling (act_message plan act)) answer w mid ×
    MatchResult (verdict answer) (λ reply. ActsSent means plan acts mid v result) (λ fault. (v ≡ mid) × (result ≡ Err fault))

-- whether the link failed
abbrev pub is_down : {T : Type 0} → Result T HostFault → Bool
is_down (Err LinkDown) = true
is_down answer = false

-- acts with this result leave the record so far; a failed link takes it down, and cuts the device
abbrev pub PlainEnd : {D : Type 0} → Meaning D → ℕ → Outcome → Record → Record → World D → World D → Type 0
PlainEnd means heap result kept kept' w v =
    let end = plain_end (λ now. now) kept result in (kept' ≡ end.0) × Led means w (calls_of heap end.1) v

-- one exchange of these bytes, with its reply
pub record Replied {D : Type 0} (means : Meaning D) (heap : ℕ) (request : List ℕ) (kept kept' : Record) (w v : World D) (result : Result Reply HostFault) : Type 0 where
  pub answer : Option (List ℕ)
  pub sent : World D
  pub exchanged : Exchanged means request answer w sent
  pub said : result ≡ verdict answer
  pub ends : PlainEnd means heap (came_to result) kept kept' sent v

-- and without it
pub record Passes {D : Type 0} (means : Meaning D) (heap : ℕ) (request : List ℕ) (kept kept' : Record) (w v : World D) (result : Outcome) : Type 0 where
  pub answer : Option (List ℕ)
  pub sent : World D
  pub exchanged : Exchanged means request answer w sent
  pub said : result ≡ came_to (verdict answer)
  pub ends : PlainEnd means heap result kept kept' sent v
