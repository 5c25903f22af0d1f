-- Acts one after another are an order that is carried out.
use Rattle.std.proofs.Common.{◌≡◌, ℕ, Bool, true, false, List, [], ◌∷◌, Ok, Err, refl, sym, subst}
use Rattle.stream_law.specs.Past.{Moment}
use Rattle.mbox_link.specs.Meetings.{Meeting}
use Rattle.mbox_link.specs.Calls.{World, Meaning, Led}
use Rattle.tplg_plan.specs.declared.plans.Plan.{Plan}
use Rattle.host_widgets.specs.declared.answers.Answer.{Answer}
use Rattle.host_widgets.specs.declared.answers.Answer.TheVariants as answers
use Rattle.host_widgets.specs.declared.answers.HostFault.{HostFault}
use Rattle.host_widgets.specs.declared.answers.HostFault.TheVariants.{NotLoaded}
use Rattle.host_widgets.specs.declared.kept.Record.{Record}
use Rattle.host_widgets.specs.HostActs.{Act, after}
use Rattle.host_widgets.specs.Host.{Outcome}
use Rattle.host_widgets.specs.OneAct.{act_rules, lag_of, outcome_by, own, performed}
use Rattle.host_widgets.specs.Walk.{Walked, walk, followed_by, goes_past}
use Rattle.host_widgets.specs.ActCalls.{ActDid, ActsDid, Onwards, next_of, calls_of}
use Rattle.host_widgets.specs.Orders.{Procedure, Carried, Ends, Plain, plain_end}
use Rattle.host_widgets.specs.ActCarried.{PlainEnd}
use Rattle.host_widgets.proofs.BuildingActs.{ends-at}

-- acts alone, and this record once all passed
abbrev pub plain : List Act → (Record → Record) → Procedure
plain acts done = record { first = []; acts = acts; ending = Plain; done = done; answer = answers.Done }

-- what a fault leaves does not hang on what all would have left
pub same-end : (done : Record → Record) (kept : Record) (fault : HostFault) → plain_end (λ now. now) kept (Err fault) ≡ plain_end done kept (Err fault)
same-end done kept NotLoaded = refl
same-end done kept fault = refl

-- an order that answers otherwise is carried out in the same way
pub answering : {D : Type 0} (means : Meaning D) (plan : Plan) (heap : ℕ) (o : Procedure) (answer : Answer) (kept kept' : Record) (w v : World D) (result : Outcome) → Carried means plan heap o kept kept' w v result →
    Carried means plan heap (record { first = o.first; acts = o.acts; ending = o.ending; done = o.done; answer = answer }) kept kept' w v result
answering means plan heap o answer kept kept' w v result x =
    record { meetings = x.meetings; begun = x.begun; sent = x.sent; first = x.first; walked = x.walked; came = x.came; ends = x.ends }

module _ {D : Type 0} (means : Meaning D) (plan : Plan) (heap : ℕ) where
  abbrev pub CarriedBy : List Act → (Record → Record) → Record → Record → World D → World D → Outcome → Type 0
  CarriedBy acts done kept kept' w v result = Carried means plan heap (plain acts done) kept kept' w v result

  -- no act
  pub no-acts : (done : Record → Record) (kept kept' : Record) (w : World D) → kept' ≡ done kept → CarriedBy [] done kept kept' w w (Ok tt)
  no-acts done kept kept' w is = record { meetings = []; begun = w; sent = w; first = refl; walked = (refl, refl); came = refl; ends = (is, refl) }

  module _ (act : Act) (acts : List Act) (done : Record → Record) (kept : Record) (w : World D) where
    -- an act of an outcome, and those after it
    module _ (m : Meeting) (ms : List Meeting) (o : Outcome) where
      abbrev Behind : World D → World D → Bool → Type 0
      Behind mid v b = Onwards b ms mid v (ActsDid means (act_rules plan heap) false (performed (act_rules plan heap) act kept (lag_of m) o).kept acts ms mid v)

      abbrev whole : Bool → Walked Record Act (List Meeting)
      whole b = followed_by act (performed (act_rules plan heap) act kept (lag_of m) o) ms b (walk (act_rules plan heap) false next_of (performed (act_rules plan heap) act kept (lag_of m) o).kept ms acts)

    abbrev Comes : Meeting → List Meeting → World D → World D → World D → Record → Outcome → Outcome → Bool → Type 0
    Comes m ms mid sent v kept' result o b = Behind m ms o mid sent b × (result ≡ (whole m ms o b).outcome) × Ends means plan heap (plain (act ∷ acts) done) kept kept' sent v (whole m ms o b)

    -- with one exchange that met this
    module _ (m : Meeting) (mid : World D) (did : ActDid means (act_rules plan heap) kept act m w mid) where
      -- one that failed ends it
      pub ends-with : (fault : HostFault) → Err fault ≡ outcome_by m.fate (own plan heap kept act) → (kept' : Record) (v : World D) → PlainEnd means heap (Err fault) kept kept' mid v → CarriedBy (act ∷ acts) done kept kept' w v (Err fault)
      ends-with fault said kept' v end =
          let here : Comes m [] mid mid v kept' (Err fault) (Err fault) false = ((refl, refl), refl, subst (λ (end : Record × List Moment). (kept' ≡ end.0) × Led means mid (calls_of heap end.1) v) (same-end done kept fault) end) in
          let there = subst (λ (o : Outcome). Comes m [] mid mid v kept' (Err fault) o (goes_past false (performed (act_rules plan heap) act kept (lag_of m) o).outcome)) said
          (subst (λ (b : Bool). Comes m [] mid mid v kept' (Err fault) (Err fault) b) (sym (ends-at fault)) here) in
          record { meetings = m ∷ []; begun = w; sent = mid; first = refl; walked = (mid, did, there.0); came = there.1; ends = there.2 }

      -- one that passed is followed by the rest
      pub goes-on : Ok tt ≡ outcome_by m.fate (own plan heap kept act) → (kept' : Record) (v : World D) (result : Outcome) → CarriedBy acts done (after plan act kept) kept' mid v result → CarriedBy (act ∷ acts) done kept kept' w v result
      goes-on said kept' v result y =
          let did_rest = subst (λ (b : World D). ActsDid means (act_rules plan heap) false (after plan act kept) acts y.meetings b y.sent) y.first y.walked in
          let here : Comes m y.meetings mid y.sent v kept' result (Ok tt) true = (did_rest, y.came, y.ends) in
          let there = subst (λ (o : Outcome). Comes m y.meetings mid y.sent v kept' result o (goes_past false (performed (act_rules plan heap) act kept (lag_of m) o).outcome)) said here in
          record { meetings = m ∷ y.meetings; begun = w; sent = y.sent; first = refl; walked = (mid, did, there.0); came = there.1; ends = there.2 }
