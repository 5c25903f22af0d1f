-- What a command's messages were and what they left, by their answers alone: nothing is said of what a firmware should answer.
use Rattle.std.specs.Prelude.{◌≡◌, ℕ, List, [], ◌∷◌, Option, Some, None, Ok, Err, MatchResult}
use Rattle.ipc3_model.specs.Messages.{message_spelling}
use Rattle.mbox_link.specs.Calls.{World, Meaning, Exchanged}
use Rattle.tplg_plan.specs.declared.plans.Plan.{Plan}
use Rattle.host_widgets.specs.declared.answers.HostFault.{HostFault}
use Rattle.host_widgets.specs.declared.kept.Record.{Record}
use Rattle.host_widgets.specs.ActCarried.{PlainEnd}
use Rattle.host_widgets.specs.ActMessages.{act_message}
use Rattle.host_widgets.specs.Host.{Outcome, verdict}
use Rattle.host_widgets.specs.HostActs.{Act, after}
use Rattle.host_widgets.specs.Orders.{Procedure}

-- These acts were sent by one exchange each, up to the first that did not pass, and no other call was made but a cut after a failed
-- link. One that passed leaves the record after it, and all of them the record that is done. A refusal leaves the record so far, and a
-- failed link takes that down.
abbrev pub ActsAnswered : {D : Type 0} → Meaning D → Plan → ℕ → (Record → Record) → List Act → Record → Record → World D → World D → Outcome → Type 0
ActsAnswered means plan heap done [] kept kept' w v result = (kept' ≡ done kept) × (v ≡ w) × (result ≡ Ok tt)
ActsAnswered {D} means plan heap done (act ∷ acts) kept kept' w v result =
    (mid : World D) × (answer : Option (List ℕ)) × Exchanged means (message_spelling (act_message plan act)) answer w mid ×
    MatchResult (verdict answer)
    (λ reply. ActsAnswered means plan heap done acts (after plan act kept) kept' mid v result)
    (λ fault. (result ≡ Err fault) × PlainEnd means heap (Err fault) kept kept' mid v)

-- those of an order that ends alone
abbrev pub OrderAnswered : {D : Type 0} → Meaning D → Plan → ℕ → Procedure → Record → Record → World D → World D → Outcome → Type 0
OrderAnswered means plan heap o kept kept' w v result = ActsAnswered means plan heap o.done o.acts kept kept' w v result

-- where the test tells a fault, that is answered, with nothing changed and no call made; else the order's acts were sent, and answered so
pub record TestedAnswered {D : Type 0} (means : Meaning D) (plan : Plan) (heap : ℕ) (test : Option HostFault) (o : Procedure) (kept kept' : Record) (w v : World D) (result : Outcome) : Type 0 where
  pub early : (fault : HostFault) → test ≡ Some fault → (result ≡ Err fault) × (v ≡ w) × (kept' ≡ kept)
  pub late : test ≡ None → OrderAnswered means plan heap o kept kept' w v result
