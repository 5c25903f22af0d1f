-- Acts whose messages were answered are an order that is carried out, and the two sides agree after it, where the firmware answers each
-- act as the record says.
use Rattle.std.proofs.Common.{◌≡◌, refl, sym, ap, subst, ◌∙◌, ℕ, ◌-◌, true, false, List, [], ◌∷◌, Option, Some, None, Result, Ok, Err}
use Rattle.std.specs.Option.{option_map}
use Rattle.stream_law.specs.State.{FwState, View, view_of}
use Rattle.ipc3_model.specs.declared.reply.Reply.{Reply}
use Rattle.ipc3_model.specs.Meanings.{IsMessage}
use Rattle.ipc3_model.specs.Messages.{message_spelling, decoded}
use Rattle.mbox_link.specs.Calls.{World, Meaning, Exchanged}
use Rattle.mbox_link.specs.Exchange.{ticks}
use Rattle.mbox_link.specs.Step.{row, body_of}
use Rattle.tplg_plan.specs.declared.plans.Plan.{Plan}
use Rattle.host_widgets.specs.declared.answers.Answer.{Answer}
use Rattle.host_widgets.specs.declared.answers.HostFault.{HostFault}
use Rattle.host_widgets.specs.declared.answers.HostFault.TheVariants.{LinkDown}
use Rattle.host_widgets.specs.declared.kept.Power.{Power}
use Rattle.host_widgets.specs.declared.kept.Power.TheVariants.{On, Off, Unloaded}
use Rattle.host_widgets.specs.declared.kept.Record.{Record}
use Rattle.host_widgets.specs.ActCalls.{came_to}
use Rattle.host_widgets.specs.ActCarried.{PlainEnd}
use Rattle.host_widgets.specs.ActMessages.{act_message}
use Rattle.host_widgets.specs.AnsweredOrders.{ActsAnswered, OrderAnswered}
use Rattle.host_widgets.specs.Host.{Outcome, Agrees, IsRecordOf, Sides, verdict}
use Rattle.host_widgets.specs.HostActs.{Act, after}
use Rattle.host_widgets.specs.OneAct.{own, outcome_by}
use Rattle.host_widgets.specs.Orders.{Procedure, Carried, sends}
use Rattle.host_widgets.specs.ViewOf.{record_view}
use Rattle.host_widgets.proofs.AfterExchange.{Left, it-left}
use Rattle.host_widgets.proofs.ActsCome.{Did, IsAnswered, act-did, answer_by, still}
use Rattle.host_widgets.proofs.AnsweredActs.{Answering}
use Rattle.host_widgets.proofs.OneActLaws.{AreReady, IsReady, IsShown, IsTaken}
use Rattle.host_widgets.proofs.PlainOrders.{answering, ends-with, goes-on, plain}
use Rattle.host_widgets.proofs.Records.{down-record, down-rests}
use Rattle.host_widgets.proofs.ReplyErrors.{done_reply}
use Rattle.host_widgets.proofs.StandingOn.{ticks-leave}
use Rattle.host_widgets.proofs.WalksHold.{AreTaken, HaveLaw, none-taken}

-- a state whose view is known
pub state-with : (o : Option FwState) (v : View) → option_map view_of o ≡ Some v → (f : FwState) × (o ≡ Some f) × (view_of f ≡ v)
state-with None v is = absurd (cc is)
state-with (Some f) v is = (f, refl, cc is)

-- An act that is sent while the power is on: its message fits, and the reply of one that is done passes. A firmware that shows the record,
-- where the act finds staged what it asks, refuses it exactly where `own` says, with that error, and shows the record after it once it is
-- done.
pub record IsMet (plan : Plan) (heap : ℕ) (kept : Record) (act : Act) : Type 0 where
  pub on : kept.power ≡ On
  pub message : IsMessage (act_message plan act)
  pub passes : (f : FwState) → came_to (verdict (Some (done_reply (body_of f (decoded (message_spelling (act_message plan act))))))) ≡ Ok tt
  pub answers : (f : FwState) → view_of f ≡ record_view plan kept → IsReady act f → (next : FwState) × (row f (act_message plan act) ≡ answer_by (own plan heap kept act) next)
  pub power : (after plan act kept).power ≡ kept.power
  pub shown : (f f' : FwState) → view_of f ≡ record_view plan kept → IsReady act f → row f (act_message plan act) ≡ Ok f' → IsRecordOf plan (after plan act kept) × (view_of f' ≡ record_view plan (after plan act kept))

-- one that asks nothing of what is staged
pub met-by : (plan : Plan) (heap : ℕ) (kept : Record) (act : Act) → kept.power ≡ On → IsShown plan kept act → IsAnswered plan heap kept act → IsMet plan heap kept act
met-by plan heap kept act on s a = record { on = on; message = s.message; passes = a.passes; answers = λ f shows ready. a.answers f shows; power = s.power; shown = λ f f' shows ready done. s.shown f f' shows done }

-- what is so of each act, by the record so far
abbrev pub EachBy : Plan → (Record → Act → Type 0) → Record → List Act → Type 0
EachBy plan So kept [] = Unit {0}
EachBy plan So kept (act ∷ acts) = So kept act × (IsRecordOf plan (after plan act kept) → EachBy plan So (after plan act kept) acts)

abbrev pub AreMet : Plan → ℕ → Record → List Act → Type 0
AreMet plan heap kept acts = EachBy plan (IsMet plan heap) kept acts

-- the law of one act holds of each, where none goes on after a refusal
pub each-law : (plan : Plan) (acts : List Act) (kept : Record) → EachBy plan (IsTaken plan) kept acts → HaveLaw plan false kept acts
each-law plan [] kept each = tt
each-law plan (act ∷ acts) kept each = (each.0, (λ now. each-law plan acts (after plan act kept) (each.1 now)), λ on. absurd (cc on))

-- what acts leave that all passed
abbrev pub all_after : Plan → List Act → Record → Record
all_after plan [] kept = kept
all_after plan (act ∷ acts) kept = all_after plan acts (after plan act kept)

pub sends-taken : (plan : Plan) (kept : Record) (power : Power) (acts : List Act) (done : Record → Record) (answer : Answer) → AreTaken plan false kept acts → AreTaken plan false kept (sends power acts done answer).acts
sends-taken plan kept On acts done answer taken = taken
sends-taken plan kept power acts done answer taken = none-taken plan false kept

module _ {D : Type 0} (means : Meaning D) (plan : Plan) (heap : ℕ) where
  abbrev pub Both : Procedure → Record → Record → World D → World D → Outcome → Type 0
  Both o kept kept' w v result = Carried means plan heap o kept kept' w v result × Agrees means plan kept' v.device

  -- a device that shows a record of the plan agrees with it
  shows-agrees : (kept : Record) → kept.power ≡ On → IsRecordOf plan kept → (d : D) (f : FwState) → means.on d ≡ Some f → view_of f ≡ record_view plan kept → Agrees means plan kept d
  shows-agrees kept power is d f on shows = record { record_is = is; sides = subst (λ (p : Power). Sides means plan kept d p) (sym power) (ap (option_map view_of) on ∙ ap Some shows) }

  -- ---- one act

  module _ (act : Act) (acts : List Act) (done : Record → Record) (kept kept' : Record) (is : IsMet plan heap kept act) (w mid v : World D) (result : Outcome) (answer : Option (List ℕ)) (e : Exchanged means (message_spelling (act_message plan act)) answer w mid)
      (record_is : IsRecordOf plan kept) (f : FwState) (on : means.on w.device ≡ Some f) (shows : view_of f ≡ record_view plan kept) (ready : AreReady plan false (act ∷ acts) f) where
    abbrev n : ℕ
    n = means.pending w.device - means.pending mid.device

    -- the state right before the message
    abbrev now : FwState
    now = (ticks n (f, w.io)).0

    now-shows : view_of now ≡ record_view plan kept
    now-shows = still n (f, w.io) ∙ shows

    abbrev Ready : Type 0
    Ready = IsReady act now × ((f' : FwState) → row now (act_message plan act) ≡ Ok f' → AreReady plan false acts f') × (false ≡ true → AreReady plan false acts now)

    now-ready : Ready
    now-ready = ready now (ticks-leave n f w.io).staging

    did : Did means plan heap kept act w mid f on answer e
    did = let a = is.answers now now-shows now-ready.0 in act-did means plan heap kept act w mid f on answer e is.message is.passes a.0 a.1

    said : came_to (verdict answer) ≡ outcome_by did.0.fate (own plan heap kept act)
    said = ap (λ (b : Option (List ℕ)). came_to (verdict b)) (sym did.2) ∙ did.1.came

    -- what is so of the device then
    abbrev Then : Outcome → Type 0
    Then o = Left means (act_message plan act) is.message answer w mid f on e o

    then_so : Then (came_to (verdict answer))
    then_so = it-left means (act_message plan act) is.message answer w mid f on e

    abbrev Rest : Type 0
    Rest = Agrees means plan (after plan act kept) mid.device → ((g : FwState) → means.on mid.device ≡ Some g → AreReady plan false acts g) → Both (plain acts done) (after plan act kept) kept' mid v result

    -- one that passed is followed by the rest
    passed-so : came_to (verdict answer) ≡ Ok tt → Rest → Both (plain (act ∷ acts) done) kept kept' w v result
    passed-so so go =
        let t = subst Then so then_so in
        let s = is.shown now t.0 now-shows now-ready.0 t.2 in
        let rest = go (shows-agrees (after plan act kept) (is.power ∙ is.on) s.0 mid.device t.0 t.1 s.1) (λ g on_g. (let same : t.0 ≡ g = cc (sym t.1 ∙ on_g) in subst (AreReady plan false acts) same (now-ready.1 t.0 t.2))) in
        (goes-on means plan heap act acts done kept w did.0 mid did.1 (sym so ∙ said) kept' v result rest.0, rest.1)

    -- one that did not is the end
    failed-so : (fault : HostFault) → came_to (verdict answer) ≡ Err fault → PlainEnd means heap (Err fault) kept kept' mid v → Both (plain (act ∷ acts) done) kept kept' w v (Err fault)
    failed-so fault so end = (ends-with means plan heap act acts done kept w did.0 mid did.1 fault (sym so ∙ said) kept' v end, by fault end (subst Then so then_so))
      where
        by : (x : HostFault) → PlainEnd means heap (Err x) kept kept' mid v → Then (Err x) → Agrees means plan kept' v.device
        by LinkDown end up = subst (λ (y : Record). Agrees means plan y v.device) (sym end.0) record { record_is = down-record plan kept record_is; sides = (down-rests kept.streams, ap (λ (y : World D). means.on y.device) end.1.2 ∙ end.1.1.0.on) }
        by x end on_now = subst (λ (y : Record × World D). Agrees means plan y.0 y.1.device) (λ i. (sym end.0 i, sym end.1 i)) (shows-agrees kept is.on record_is mid.device now on_now now-shows)

  -- ---- all of them

  pub acts-carried : (acts : List Act) (done : Record → Record) (kept kept' : Record) (w v : World D) (result : Outcome) → AreMet plan heap kept acts → ((f : FwState) → means.on w.device ≡ Some f → AreReady plan false acts f) → Agrees means plan kept w.device →
      ((d : D) → Agrees means plan (all_after plan acts kept) d → Agrees means plan (done (all_after plan acts kept)) d) → ActsAnswered means plan heap done acts kept kept' w v result → Both (plain acts done) kept kept' w v result
  acts-carried [] done kept kept' w v result met ready agrees ends (left, stays, is) = (
    record { meetings = []; begun = w; sent = w; first = refl; walked = (refl, refl); came = is; ends = (left, stays) },
    subst (λ (y : Record × World D). Agrees means plan y.0 y.1.device) (λ i. (sym left i, sym stays i)) (ends w.device agrees),
  )
  acts-carried (act ∷ acts) done kept kept' w v result met ready agrees ends (mid, answer, e, more) =
      let s = state-with (means.on w.device) (record_view plan kept) (subst (λ (p : Power). Sides means plan kept w.device p) met.0.on agrees.sides) in
      by s.0 s.1 s.2 (verdict answer) refl more (λ now ready_now rest. acts-carried acts done (after plan act kept) kept' mid v result (met.1 now.record_is) ready_now now ends rest)
    where
      Rests : Type 0
      Rests = Agrees means plan (after plan act kept) mid.device → ((g : FwState) → means.on mid.device ≡ Some g → AreReady plan false acts g) → ActsAnswered means plan heap done acts (after plan act kept) kept' mid v result → Both (plain acts done) (after plan act kept) kept' mid v result

      by : (f : FwState) → means.on w.device ≡ Some f → view_of f ≡ record_view plan kept → (r : Result Reply HostFault) → verdict answer ≡ r → Answering means plan heap done act acts kept kept' mid v result r → Rests → Both (plain (act ∷ acts) done) kept kept' w v result
      by f on shows (Ok reply) said rest go = passed-so act acts done kept kept' met.0 w mid v result answer e agrees.record_is f on shows (ready f on) (ap came_to said) (λ now ready_now. go now ready_now rest)
      by f on shows (Err fault) said (failed, end) go =
          subst (λ (o : Outcome). Both (plain (act ∷ acts) done) kept kept' w v o) (sym failed) (failed-so act acts done kept kept' met.0 w mid v result answer e agrees.record_is f on shows (ready f on) fault (ap came_to said) end)

  -- ---- an order that sends acts where the power is on, and changes the record alone where it is off

  pub sends-carried : (power : Power) (acts : List Act) (done : Record → Record) (answer : Answer) (kept kept' : Record) (w v : World D) (result : Outcome) → (power ≡ On → AreMet plan heap kept acts) → ((f : FwState) → AreReady plan false acts f) →
      (power ≡ On → (d : D) → Agrees means plan (all_after plan acts kept) d → Agrees means plan (done (all_after plan acts kept)) d) → ((power ≡ On → ⊥) → (d : D) → Agrees means plan kept d → Agrees means plan (done kept) d) →
      Agrees means plan kept w.device → OrderAnswered means plan heap (sends power acts done answer) kept kept' w v result → Both (sends power acts done answer) kept kept' w v result
  sends-carried On acts done answer kept kept' w v result met ready ends rests agrees x =
      let b = acts-carried acts done kept kept' w v result (met refl) (λ f on. ready f) agrees (ends refl) x in (answering means plan heap (plain acts done) answer kept kept' w v result b.0, b.1)
  sends-carried Off acts done answer kept kept' w v result met ready ends rests agrees x =
      let b = acts-carried [] done kept kept' w v result tt (λ f on. tt) agrees (rests (λ e. cc e)) x in (answering means plan heap (plain [] done) answer kept kept' w v result b.0, b.1)
  sends-carried Unloaded acts done answer kept kept' w v result met ready ends rests agrees x =
      let b = acts-carried [] done kept kept' w v result tt (λ f on. tt) agrees (rests (λ e. cc e)) x in (answering means plan heap (plain [] done) answer kept kept' w v result b.0, b.1)
