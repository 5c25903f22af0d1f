-- Orders that send acts where the power is on, and else nothing: those of calls on streams are so.
use Rattle.std.proofs.Common.{◌≡◌, refl, sym, subst, ℕ, ◌≤◌, false, List, [], ◌∷◌, length, Option, None, unwrap_or, arith}
use Rattle.tplg_plan.specs.declared.plans.Plan.{Plan}
use Rattle.tplg_plan.specs.Sound.{IsSound}
use Rattle.host_widgets.specs.declared.answers.Answer.{Answer}
use Rattle.host_widgets.specs.declared.answers.Answer.TheVariants.{Done}
use Rattle.host_widgets.specs.declared.answers.HostFault.{HostFault}
use Rattle.host_widgets.specs.declared.kept.Found.{Found}
use Rattle.host_widgets.specs.declared.kept.Found.TheVariants.{Closed}
use Rattle.host_widgets.specs.declared.kept.Power.{Power}
use Rattle.host_widgets.specs.declared.kept.Power.TheVariants.{Unloaded, On, Off}
use Rattle.host_widgets.specs.declared.kept.Record.{Record}
use Rattle.host_widgets.specs.Host.{IsRecordOf}
use Rattle.host_widgets.specs.Kept.{with_stream}
use Rattle.host_widgets.specs.HostActs.{Act, Prepare, Trig}
use Rattle.host_widgets.specs.ActLists.{close_by}
use Rattle.host_widgets.specs.Orders.{Procedure, sends}
use Rattle.host_widgets.proofs.WalksHold.{AreTaken}
use Rattle.host_pcm.specs.declared.asking.Ask.{Ask}
use Rattle.host_pcm.specs.declared.asking.Ask.TheVariants.{Opening, Preparing, Triggering, Closing}
use Rattle.host_pcm.specs.Asks.{stream_place, stream_at, early_fault}
use Rattle.host_pcm.specs.StreamOrders.{asking_order, stream_order}
use Rattle.host_pcm.specs.StreamCalls.{host_at, opened_stream, shut}
use Rattle.host_pcm.proofs.OrdersTaken.{asked-taken}

few-closing : (host : ℕ) (found : Found) → length (close_by host found) ≤ 900
few-closing host Closed = omega arith
few-closing host found = omega arith

pub record IsSent (kept : Record) (o : Procedure) : Type 0 where
  pub acts : List Act
  pub done : Record → Record
  pub answer : Answer
  pub is : o ≡ sends kept.power acts done answer
  pub few : length acts ≤ 900

-- a call by its test and its order: where the test tells no fault, few acts are sent, and the device takes them
pub record IsSentCall (plan : Plan) (kept : Record) (test : Option HostFault) (o : Procedure) : Type 0 where
  pub sent : test ≡ None → IsSent kept o
  pub taken : test ≡ None → AreTaken plan false kept o.acts

sent-asking : (plan : Plan) (kept : Record) (host : ℕ) (found : Found) (ask : Ask) → IsSent kept (asking_order plan kept host found ask)
sent-asking plan kept host found Opening = record { acts = []; done = with_stream plan host opened_stream; answer = Done; is = refl; few = omega arith }
sent-asking plan kept host found (Preparing p) = record { acts = Prepare host p ∷ []; done = λ now. now; answer = Done; is = refl; few = omega arith }
sent-asking plan kept host found (Triggering what) = record { acts = Trig host what ∷ []; done = λ now. now; answer = Done; is = refl; few = omega arith }
sent-asking plan kept host found Closing = record { acts = close_by host found; done = with_stream plan host shut; answer = Done; is = refl; few = few-closing host found }

pub sent-stream : (plan : Plan) (kept : Record) (name : List ℕ) (ask : Ask) → IsSent kept (stream_order plan kept name ask)
sent-stream plan kept name ask = let k = unwrap_or (stream_place plan name) 0 in sent-asking plan kept (host_at plan k) (stream_at kept k).found ask

-- such a call, in every sound plan
pub stream-call : (plan : Plan) → IsSound plan → (kept : Record) → IsRecordOf plan kept → (name : List ℕ) (ask : Ask) → IsSentCall plan kept (early_fault plan kept name ask) (stream_order plan kept name ask)
stream-call plan sound kept is name ask = record { sent = λ none. sent-stream plan kept name ask; taken = asked-taken plan sound kept is name ask }

pub sends-answer : (power : Power) (acts : List Act) (done : Record → Record) (answer : Answer) → (sends power acts done answer).answer ≡ answer
sends-answer On acts done answer = refl
sends-answer power acts done answer = refl

sends-few : (power : Power) (acts : List Act) (done : Record → Record) (answer : Answer) → length acts ≤ 900 → length (sends power acts done answer).acts ≤ 900
sends-few On acts done answer few = few
sends-few Unloaded acts done answer few = omega arith
sends-few Off acts done answer few = omega arith

-- a call on a stream answers no more than that it is done
asking-done : (plan : Plan) (kept : Record) (host : ℕ) (found : Found) (ask : Ask) → (asking_order plan kept host found ask).answer ≡ Done
asking-done plan kept host found Opening = sends-answer kept.power [] (with_stream plan host opened_stream) Done
asking-done plan kept host found (Preparing p) = sends-answer kept.power (Prepare host p ∷ []) (λ now. now) Done
asking-done plan kept host found (Triggering what) = sends-answer kept.power (Trig host what ∷ []) (λ now. now) Done
asking-done plan kept host found Closing = sends-answer kept.power (close_by host found) (with_stream plan host shut) Done

pub stream-done : (plan : Plan) (kept : Record) (name : List ℕ) (ask : Ask) → (stream_order plan kept name ask).answer ≡ Done
stream-done plan kept name ask = let k = unwrap_or (stream_place plan name) 0 in asking-done plan kept (host_at plan k) (stream_at kept k).found ask

-- at most 900
pub few-sent : (kept : Record) (o : Procedure) → IsSent kept o → length o.acts ≤ 900
few-sent kept o s = subst (λ (x : Procedure). length x.acts ≤ 900) (sym s.is) (sends-few kept.power s.acts s.done s.answer s.few)

pub few-stream : (plan : Plan) (kept : Record) (name : List ℕ) (ask : Ask) → length (stream_order plan kept name ask).acts ≤ 900
few-stream plan kept name ask = few-sent kept (stream_order plan kept name ask) (sent-stream plan kept name ask)
