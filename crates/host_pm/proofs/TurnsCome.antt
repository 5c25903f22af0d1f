-- Acts that were sent one after another to a device that shows what it should: by what their messages met, they are a walk.
use Rattle.std.proofs.Common.{◌≡◌, refl, sym, ap, subst, ◌∙◌, ℕ, ◌-◌, List, [], ◌∷◌, Bool, true, false, Option, Some, None, Ok, Err, MatchResult, Result}
use Rattle.sof_base.specs.declared.errno.Errno.{Errno}
use Rattle.stream_law.specs.State.{FwState, View, view_of}
use Rattle.ipc3_model.specs.declared.reply.Reply.{Reply}
use Rattle.ipc3_model.specs.Messages.{message_spelling, decoded}
use Rattle.ipc3_model.specs.Meanings.{IsMessage}
use Rattle.mbox_link.specs.Step.{row, body_of}
use Rattle.mbox_link.specs.Meetings.{Meeting}
use Rattle.mbox_link.specs.Calls.{World, Meaning}
use Rattle.tplg_plan.specs.declared.plans.Plan.{Plan}
use Rattle.host_widgets.specs.declared.answers.HostFault.{HostFault}
use Rattle.host_widgets.specs.declared.answers.HostFault.TheVariants.{Refused}
use Rattle.host_widgets.specs.declared.kept.Record.{Record}
use Rattle.host_widgets.specs.HostActs.{Act, after, fresh_in}
use Rattle.host_widgets.specs.ActMessages.{act_message}
use Rattle.host_widgets.specs.Host.{Outcome, verdict}
use Rattle.host_widgets.specs.OneAct.{own, outcome_by, lag_of, performed}
use Rattle.host_widgets.specs.Walk.{goes_past, first_of, followed_by, walk}
use Rattle.host_widgets.specs.ActCalls.{ActsDid, Onwards, came_to, next_of}
use Rattle.host_widgets.specs.ActCarried.{ActsSent}
use Rattle.host_widgets.proofs.ReplyErrors.{done_reply}
use Rattle.host_widgets.proofs.BuildingActs.{ends-at}
use Rattle.host_widgets.proofs.ActsCome.{answer_by}
use Rattle.host_widgets.proofs.AfterExchange.{Says, before, Left, it-left, HasMet, met-came, act-met}
use Rattle.host_widgets.proofs.StandingOn.{LeavesAll, ticks-leave}
use Rattle.host_widgets.proofs.UpWalks.{passed-free}
use Rattle.host_widgets.specs.ActRules.{ActRules}
use Rattle.host_pm.specs.InTurn.{Behind, InTurn}

-- An act on a firmware that shows one view and then another: its message fits, the reply of one that is done passes, it is refused
-- as the record says, and what was so of the state is so of the next.
pub record IsMet (plan : Plan) (heap : ℕ) (So : FwState → Type 0) (kept : Record) (shown later : View) (act : Act) : Type 0 where
  pub message : IsMessage (act_message plan act)
  pub passes : (f : FwState) → came_to (verdict (Some (done_reply (body_of f (decoded (message_spelling (act_message plan act))))))) ≡ Ok tt
  pub answers : (f : FwState) → view_of f ≡ shown → (next : FwState) × (row f (act_message plan act) ≡ answer_by (own plan heap kept act) next)
  pub shows : (f f' : FwState) → view_of f ≡ shown → row f (act_message plan act) ≡ Ok f' → view_of f' ≡ later
  pub stays : (f f' : FwState) → view_of f ≡ shown → row f (act_message plan act) ≡ Ok f' → So f → So f'

-- acts, by the record and the view so far; after a refusal too, where acts go on
abbrev pub AreMet : (plan : Plan) (heap : ℕ) (goes_on : Bool) (End : View → Type 0) (So : FwState → Type 0) → Record → View → List Act → Type 0
AreMet plan heap goes_on End So kept shown [] = End shown
AreMet plan heap goes_on End So kept shown (act ∷ acts) =
    (later : View) × IsMet plan heap So kept shown later act × AreMet plan heap goes_on End So (after plan act kept) later acts × (goes_on ≡ true → AreMet plan heap goes_on End So kept shown acts)

module _ {S : Type 0} (plan : Plan) (own : S → Act → Option Errno) (after : Act → S → S) (view : S → View) (goes_on : Bool) where
  abbrev rules : ActRules S Act
  rules = record { own = own; after = after; view = view; fresh = fresh_in plan; message = act_message plan }

  -- Acts of which the firmware says what the rules say, after ticks before each: after one that was done, and where acts go on, after a
  -- refusal.
  abbrev pub AreSaid : List Act → S → FwState → Type 0
  AreSaid [] kept f = Unit {0}
  AreSaid (act ∷ acts) kept f =
      IsMessage (act_message plan act)
      × ((g : FwState) → LeavesAll f g →
      Says (own kept act) (row g (act_message plan act))
      × (own kept act ≡ None → (h : FwState) → row g (act_message plan act) ≡ Ok h → AreSaid acts (after act kept) h)
      × (goes_on ≡ true → AreSaid acts kept g))

  module _ {D : Type 0} (means : Meaning D) where
    -- what the messages met, and what the walk makes of it
    pub record Came (kept : S) (acts : List Act) (w v : World D) (result : Outcome) : Type 0 where
      pub meetings : List Meeting
      pub did : ActsDid means rules goes_on kept acts meetings w v
      pub is : result ≡ (walk rules goes_on next_of kept meetings acts).outcome

    pub turns-come : (acts : List Act) (kept : S) (w v : World D) (result : Outcome) (f : FwState) → means.on w.device ≡ Some f → AreSaid acts kept f → InTurn means plan goes_on acts w v result → Came kept acts w v result
    turns-come [] kept w v result f on said turn = record { meetings = []; did = (refl, turn.0); is = turn.1 }
    turns-come (act ∷ acts) kept w v result f on (fits, said) (answer, mid, x, behind) =
        let r = by o refl (subst After said-is after-it) (subst (λ (p : Outcome). Behind (goes_past goes_on p) p More (v ≡ mid) result) said-is behind)
        (λ now g there so rest more. turns-come acts now mid v rest g there so more) in
        record { meetings = met.0 ∷ r.0; did = (mid, met.1, r.1); is = r.2 }
      where
        at : FwState
        at = (before means (act_message plan act) fits answer w mid f on x).0

        says : Says (own kept act) (row at (act_message plan act)) × (own kept act ≡ None → (h : FwState) → row at (act_message plan act) ≡ Ok h → AreSaid acts (after act kept) h) × (goes_on ≡ true → AreSaid acts kept at)
        says = said at (ticks-leave (means.pending w.device - means.pending mid.device) f w.io)

        met : HasMet means rules kept act answer w mid
        met = act-met means rules kept act answer w mid fits f on x says.0

        o : Outcome
        o = outcome_by met.0.fate (own kept act)

        said-is : came_to (verdict answer) ≡ o
        said-is = met-came means rules kept act answer w mid met

        More : Outcome → Type 0
        More rest = InTurn means plan goes_on acts mid v rest

        After : Outcome → Type 0
        After p = Left means (act_message plan act) fits answer w mid f on x p

        after-it : After (came_to (verdict answer))
        after-it = it-left means (act_message plan act) fits answer w mid f on x

        -- what is left to say, by the result of the act and whether acts go on after it
        Then : Outcome → Bool → Type 0
        Then p b =
            let a = performed rules act kept (lag_of met.0) p in
            (ms : List Meeting) × Onwards b ms mid v (ActsDid means rules goes_on a.kept acts ms mid v) × (result ≡ (followed_by act a ms b (walk rules goes_on next_of a.kept ms acts)).outcome)

        Goes : Type 0
        Goes = (now : S) (g : FwState) → means.on mid.device ≡ Some g → AreSaid acts now g → (rest : Outcome) → More rest → Came now acts mid v rest

        refused : (e : Errno) (b : Bool) → goes_on ≡ b → means.on mid.device ≡ Some at → Behind b (Err (Refused e)) More (v ≡ mid) result → Goes → Then (Err (Refused e)) b
        refused e true goes there (rest, more, is) go =
            let r = go kept at there (says.2 goes) rest more in
            (r.meetings, r.did, is ∙ ap (first_of (Err (Refused e))) r.is)
        refused e false goes there (none, is) go = ([], (refl, none), is)

        by : (p : Outcome) → o ≡ p → After p → Behind (goes_past goes_on p) p More (v ≡ mid) result → Goes → Then p (goes_past goes_on (performed rules act kept (lag_of met.0) p).outcome)
        by (Ok done) passed (g, there, done_so) (rest, more, is) go =
            let r = go (after act kept) g there (says.1 (passed-free met.0.fate (own kept act) passed) g done_so) rest more in
            (r.meetings, r.did, is ∙ r.is)
        by (Err (Refused e)) passed there behind go = refused e goes_on refl there behind go
        by (Err fault) passed there behind go = ([], (refl, behind.0), behind.1)

module _ {D : Type 0} (means : Meaning D) (plan : Plan) where
  -- acts in turn, up to the first that does not pass
  pub turn-sent : (acts : List Act) (w v : World D) (result : Outcome) → InTurn means plan false acts w v result → ActsSent means plan acts w v result
  turn-sent [] w v result sent = sent
  turn-sent (act ∷ acts) w v result (answer, mid, x, on) = (mid, answer, x, by (verdict answer) on (λ rest sent. turn-sent acts mid v rest sent))
    where
      by : (r : Result Reply HostFault) → Behind (goes_past false (came_to r)) (came_to r) (λ rest. InTurn means plan false acts mid v rest) (v ≡ mid) result → ((rest : Outcome) → InTurn means plan false acts mid v rest → ActsSent means plan acts mid v rest) →
          MatchResult r (λ reply. ActsSent means plan acts mid v result) (λ fault. (v ≡ mid) × (result ≡ Err fault))
      by (Ok reply) (rest, sent, is) go = subst (λ (o : Outcome). ActsSent means plan acts mid v o) (sym is) (go rest sent)
      by (Err fault) end go = subst (λ (b : Bool). Behind b (Err fault) (λ rest. InTurn means plan false acts mid v rest) (v ≡ mid) result) (ends-at fault) end
