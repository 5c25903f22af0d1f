-- The result of an act's exchange, where the firmware answers the act as the record says.
use Rattle.std.proofs.Common.{◌≡◌, refl, ℕ, zero, suc, ◌-◌, List, Option, Some, None, Result, Ok, Err, ℤ}
use Rattle.sof_base.specs.declared.errno.Errno.{Errno}
use Rattle.sof_base.specs.Ports.{Io}
use Rattle.stream_law.specs.State.{FwState, view_of}
use Rattle.ipc3_model.specs.Messages.{message_spelling, decoded}
use Rattle.ipc3_model.specs.Meanings.{IsMessage}
use Rattle.mbox_link.specs.Step.{row, body_of}
use Rattle.mbox_link.specs.Exchange.{ticked, ticks}
use Rattle.mbox_link.specs.Calls.{World, Meaning, Exchanged}
use Rattle.tplg_plan.specs.declared.plans.Plan.{Plan}
use Rattle.host_widgets.specs.Host.{verdict}
use Rattle.host_widgets.proofs.ReplyErrors.{done_reply}
use Rattle.host_widgets.proofs.AfterExchange.{Says, HasMet, act-met}
use Rattle.host_widgets.specs.declared.kept.Record.{Record}
use Rattle.host_widgets.specs.HostActs.{Act}
use Rattle.host_widgets.specs.ActMessages.{act_message}
use Rattle.host_widgets.specs.OneAct.{act_rules, own}
use Rattle.host_widgets.specs.ViewOf.{record_view}
use Rattle.host_widgets.specs.ActCalls.{came_to}

-- a row's answer, by what the firmware itself refuses
abbrev pub answer_by : Option Errno → FwState → Result FwState ℤ
answer_by None f = Ok f
answer_by (Some e) f = Err e.0

-- so it says what the rules say
pub answer-says : (own : Option Errno) (said : Result FwState ℤ) (next : FwState) → said ≡ answer_by own next → Says own said
answer-says None said next is = (next, is)
answer-says (Some e) said next is = (e.0, is, refl)

module _ {D : Type 0} (means : Meaning D) (plan : Plan) (heap : ℕ) (kept : Record) (act : Act) (w v : World D) (f : FwState) (on : means.on w.device ≡ Some f) (answer : Option (List ℕ))
    (exchanged : Exchanged means (message_spelling (act_message plan act)) answer w v) where
  abbrev pub Did : Type 0
  Did = HasMet means (act_rules plan heap) kept act answer w v

  -- what its message met, by what the row before it answers
  pub act-did : IsMessage (act_message plan act) → ((g : FwState) → came_to (verdict (Some (done_reply (body_of g (decoded (message_spelling (act_message plan act))))))) ≡ Ok tt) →
      (next : FwState) → row (ticks (means.pending w.device - means.pending v.device) (f, w.io)).0 (act_message plan act) ≡ answer_by (own plan heap kept act) next → Did
  act-did message passes next answered = act-met means (act_rules plan heap) kept act answer w v message f on exchanged (answer-says (own plan heap kept act) _ next answered)

-- ticks keep the view
pub still : (n : ℕ) (p : FwState × Io) → view_of (ticks n p).0 ≡ view_of p.0
still zero p = refl
still (suc n) p = still n (ticked p)

-- The other law of one act, of its answer: its message fits, the reply of one that is done passes, and a firmware that shows the
-- record refuses it exactly where `own` says, with that error.
pub record IsAnswered (plan : Plan) (heap : ℕ) (kept : Record) (act : Act) : Type 0 where
  pub message : IsMessage (act_message plan act)
  pub passes : (f : FwState) → came_to (verdict (Some (done_reply (body_of f (decoded (message_spelling (act_message plan act))))))) ≡ Ok tt
  pub answers : (f : FwState) → view_of f ≡ record_view plan kept → (next : FwState) × (row f (act_message plan act) ≡ answer_by (own plan heap kept act) next)
