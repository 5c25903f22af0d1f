-- What is done for the stream at a place, by the answers of its messages alone.
use Rattle.std.proofs.Common.{◌≡◌, refl, sym, ap, subst, ◌∙◌, ℕ, ◌<◌, true, List, [], ◌∷◌, length, set, inr, Result, Ok, Err}
use Rattle.std.specs.List.{AllByRecursion}
use Rattle.ipc3_model.specs.declared.message.Message.{Message}
use Rattle.ipc3_model.specs.declared.reply.Reply.{Reply}
use Rattle.ipc3_model.specs.Messages.{message_spelling}
use Rattle.mbox_link.specs.Calls.{World, Meaning}
use Rattle.tplg_plan.specs.declared.plans.Plan.{Plan}
use Rattle.host_widgets.specs.declared.answers.Answer.TheVariants.{Done}
use Rattle.host_widgets.specs.declared.answers.HostFault.{HostFault}
use Rattle.host_widgets.specs.declared.host_call.HostCall.{HostCall}
use Rattle.host_widgets.specs.declared.kept.Found.{Found}
use Rattle.host_widgets.specs.declared.kept.Found.TheVariants.{Closed, Open, Prepared, Running, Paused, On as Found_On}
use Rattle.host_widgets.specs.declared.kept.Power.{Power}
use Rattle.host_widgets.specs.declared.kept.Power.TheVariants.{On, Off, Unloaded}
use Rattle.host_widgets.specs.declared.kept.StreamRec.{StreamRec}
use Rattle.host_widgets.specs.declared.kept.Record.{Record}
use Rattle.host_widgets.specs.declared.trigger.Trigger.TheVariants.{Stop}
use Rattle.host_widgets.specs.ActCarried.{Passes, PlainEnd}
use Rattle.host_widgets.specs.ActLists.{close_by}
use Rattle.host_widgets.specs.ActMessages.{act_message}
use Rattle.host_widgets.specs.AnsweredOrders.{ActsAnswered, OrderAnswered}
use Rattle.host_widgets.specs.Host.{Outcome, IsRecordOf, verdict}
use Rattle.host_widgets.specs.HostActs.{Act, Trig, Free, after, triggered_stream}
use Rattle.host_widgets.specs.HostRecord.{closed}
use Rattle.host_widgets.specs.Kept.{with_stream}
use Rattle.host_widgets.specs.Orders.{sends}
use Rattle.host_widgets.specs.Sides.{IsReady, world_of}
use Rattle.host_widgets.specs.StreamStands.{takes_trigger}
use Rattle.host_widgets.proofs.AnsweredActs.{Answering, one-passed, one-failed, sends-on, sends-rest}
use Rattle.host_widgets.proofs.RecordsStay.{may, Less, record-less}
use Rattle.host_widgets.proofs.StreamAnswers.{anywhere}
use Rattle.host_pcm.specs.declared.asking.Ask.TheVariants.{Closing}
use Rattle.host_pcm.specs.Asks.{stream_at}
use Rattle.host_pcm.specs.StreamCalls.{with_stream_at, host_at, place_order, shut}
use Rattle.host_pcm.proofs.AtRest.{is_idle, close-none}
use Rattle.host_pcm.proofs.Places.{place-changed, shut-over}

module _ {D : Type 0} (means : Meaning D) (side : HostCall D) (k : ℕ) where
  abbrev plan : Plan
  plan = side.plan.now

  abbrev kept : Record
  kept = side.kept.now

  abbrev w : World D
  w = world_of side

  abbrev host : ℕ
  host = host_at plan k

  -- ---- one act, whose record changes at the place

  module _ (act : Act) (done : Record → Record) (message : Message) (says : message ≡ act_message plan act) (kept' : Record) (v : World D) (result : Outcome) (x : Passes means side.heap (message_spelling message) kept kept' w v result) where
    x' : Passes means side.heap (message_spelling (act_message plan act)) kept kept' w v result
    x' = subst (λ (m : Message). Passes means side.heap (message_spelling m) kept kept' w v result) says x

    pub passed-at : result ≡ Ok tt → (change : StreamRec → StreamRec) → with_stream_at k (change (stream_at kept k)) kept ≡ after plan act kept → done (after plan act kept) ≡ after plan act kept → (item : StreamRec) → item ≡ change (stream_at kept k) → (streams : List StreamRec) → streams ≡ set kept'.streams k item →
        ActsAnswered means plan side.heap done (act ∷ []) kept (record { power = kept'.power; streams = streams; controls = kept'.controls }) w v (Ok tt)
    passed-at is change changes again item item-is streams streams-are =
        let same = (subst (λ (o : Outcome). PlainEnd means side.heap o kept kept' x.sent v) is x.ends).0 in
        one-passed means plan side.heap act done kept kept' w v result x' is (record { power = kept'.power; streams = streams; controls = kept'.controls })
        ((λ i. record { power = (same i).power; streams = (streams-are ∙ (λ j. set (same j).streams k (item-is j))) i; controls = (same i).controls }) ∙ changes ∙ sym again)

    pub failed-at : (fault : HostFault) → result ≡ Err fault → (o : Outcome) → o ≡ Err fault → ActsAnswered means plan side.heap done (act ∷ []) kept kept' w v o
    failed-at fault failed o is = subst (λ (o : Outcome). ActsAnswered means plan side.heap done (act ∷ []) kept kept' w v o) (sym is) (one-failed means plan side.heap act done kept kept' w v result x' fault failed)

  -- ---- closing

  abbrev shuts : Record → Record
  shuts = with_stream plan host shut

  -- acts after which it is shut as it would have been
  abbrev AreBelow : List Act → Type 0
  AreBelow acts = AllByRecursion (λ (act : Act). (now : Record) → shuts (after plan act now) ≡ shuts now) acts

  below-left : (acts : List Act) → AreBelow acts → (now kept' : Record) (u v : World D) → ActsAnswered means plan side.heap shuts acts now kept' u v (Ok tt) → kept' ≡ shuts now
  below-left [] all now kept' u v (left, stays, is) = left
  below-left (act ∷ acts) all now kept' u v (mid, answer, e, more) = by (verdict answer) more (λ rest. below-left acts all.1 (after plan act now) kept' mid v rest ∙ all.0 now)
    where
      by : (r : Result Reply HostFault) → Answering means plan side.heap shuts act acts now kept' mid v (Ok tt) r → (ActsAnswered means plan side.heap shuts acts (after plan act now) kept' mid v (Ok tt) → kept' ≡ shuts now) → kept' ≡ shuts now
      by (Ok reply) rest go = go rest
      by (Err fault) (apart, end) go = absurd (cc apart)

  below-close : (found : Found) → AreBelow (close_by host found)
  below-close Closed = tt
  below-close Open = tt
  below-close Prepared = (λ now. shut-over plan host (λ r. closed) now, tt)
  below-close Running = (λ now. shut-over plan host (triggered_stream Stop) now, (λ now. shut-over plan host (λ r. closed) now, tt))
  below-close Paused = (λ now. shut-over plan host (triggered_stream Stop) now, (λ now. shut-over plan host (λ r. closed) now, tt))
  below-close Found_On = tt

  closed-left : (power : Power) (found : Found) (kept' : Record) (v : World D) → OrderAnswered means plan side.heap (sends power (close_by host found) shuts Done) kept kept' w v (Ok tt) → kept' ≡ shuts kept
  closed-left On found kept' v x = below-left (close_by host found) (below-close found) kept kept' w v x
  closed-left Off found kept' v x = x.0
  closed-left Unloaded found kept' v x = x.0

  -- once it is closed, the record is one of the plan
  pub closed-record : IsRecordOf plan kept → (kept' : Record) (v : World D) (result : Outcome) → OrderAnswered means plan side.heap (place_order plan kept k Closing) kept kept' w v result → result ≡ Ok tt → IsRecordOf plan kept'
  closed-record is kept' v result x ok =
      subst (IsRecordOf plan) (sym (closed-left kept.power (stream_at kept k).found kept' v (subst (λ (o : Outcome). OrderAnswered means plan side.heap (place_order plan kept k Closing) kept kept' w v o) ok x)))
      (record-less plan kept host (λ r. closed) is (anywhere (λ r. may closed ≡ true) (λ r. refl) host plan.streams kept.streams) (anywhere (λ r. Less closed.params r.params) (λ r. inr refl) host plan.streams kept.streams))

  -- where it has no parameters, or the power is off, nothing is sent
  pub rest-answered : IsReady means side → k < length plan.streams → (kept.power ≡ On → is_idle (stream_at kept k).found ≡ true) → (kept' : Record) → kept' ≡ with_stream_at k closed kept →
      OrderAnswered means plan side.heap (place_order plan kept k Closing) kept kept' w w (Ok tt)
  rest-answered ready within idle kept' is =
      sends-rest means plan side.heap kept.power (close_by host (stream_at kept k).found) shuts Done kept kept' w (λ on. close-none host (stream_at kept k).found (idle on)) (is ∙ place-changed plan ready.plan k within shut kept ready.record_is.streams)

  -- where the power is on, the acts are those by which such a stream is closed
  close-answered : (found : Found) (acts : List Act) → kept.power ≡ On → (stream_at kept k).found ≡ found → close_by host found ≡ acts → (kept' : Record) (v : World D) (result : Outcome) →
      ActsAnswered means plan side.heap shuts acts kept kept' w v result → OrderAnswered means plan side.heap (place_order plan kept k Closing) kept kept' w v result
  close-answered found acts on is are kept' v result x =
      sends-on means plan side.heap kept.power (close_by host (stream_at kept k).found) shuts Done kept kept' w v result on
      (subst (λ (xs : List Act). ActsAnswered means plan side.heap shuts xs kept kept' w v result) (sym (ap (close_by host) is ∙ are)) x)

  -- one that is prepared is freed
  pub free-answered : kept.power ≡ On → (stream_at kept k).found ≡ Prepared → (kept' : Record) (v : World D) (result : Outcome) →
      ActsAnswered means plan side.heap shuts (Free host ∷ []) kept kept' w v result → OrderAnswered means plan side.heap (place_order plan kept k Closing) kept kept' w v result
  free-answered on found = close-answered Prepared (Free host ∷ []) on found refl

  -- one that moves is stopped before it
  pub stops-answered : kept.power ≡ On → takes_trigger Stop (stream_at kept k).found ≡ true → (kept' : Record) (v : World D) (result : Outcome) →
      ActsAnswered means plan side.heap shuts (Trig host Stop ∷ Free host ∷ []) kept kept' w v result → OrderAnswered means plan side.heap (place_order plan kept k Closing) kept kept' w v result
  stops-answered on moves = close-answered (stream_at kept k).found (Trig host Stop ∷ Free host ∷ []) on refl (by (stream_at kept k).found moves)
    where
      by : (found : Found) → takes_trigger Stop found ≡ true → close_by host found ≡ Trig host Stop ∷ Free host ∷ []
      by Running is = refl
      by Paused is = refl
      by found is = absurd (cc is)
