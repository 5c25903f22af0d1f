-- What acts that were sent did to a firmware that follows them.
use Rattle.std.proofs.Common.{◌≡◌, ℕ, ◌+◌, ◌-◌, ◌≤◌, false, Bool, List, [], ◌∷◌, Option, Some, None, Result, Ok, Err, MatchResult, refl, sym, ap, subst, ◌∙◌, arith}
use Rattle.std.specs.List.{AllByRecursion}
use Rattle.sof_base.specs.declared.errno.Errno.{Errno}
use Rattle.sof_base.specs.Ports.{Io}
use Rattle.stream_law.specs.State.{FwState}
use Rattle.ipc3_model.specs.declared.reply.Reply.{Reply}
use Rattle.ipc3_model.specs.Messages.{message_spelling}
use Rattle.mbox_link.specs.Meetings.{Meeting}
use Rattle.mbox_link.specs.Step.{fresh, row, no_memory}
use Rattle.mbox_link.specs.Exchange.{ticks}
use Rattle.mbox_link.specs.Calls.{World, Meaning, Exchanged}
use Rattle.tplg_plan.specs.declared.plans.Plan.{Plan}
use Rattle.host_widgets.specs.declared.answers.HostFault.{HostFault}
use Rattle.host_widgets.specs.declared.kept.Record.{Record}
use Rattle.host_widgets.specs.HostActs.{Act}
use Rattle.host_widgets.specs.ActMessages.{act_message}
use Rattle.host_widgets.specs.ActLists.{bring_up}
use Rattle.host_widgets.specs.StateOf.{state_by}
use Rattle.host_widgets.specs.Host.{Outcome, verdict}
use Rattle.host_widgets.specs.Bringing.{Fits, BroughtUp}
use Rattle.host_widgets.specs.OneAct.{act_rules, own, outcome_by, performed as came_by, lag_of}
use Rattle.host_widgets.specs.Walk.{walk, followed_by, goes_past}
use Rattle.host_widgets.specs.ActCalls.{ActsDid, Onwards, came_to, next_of}
use Rattle.host_widgets.specs.ActCarried.{ActsSent}
use Rattle.host_widgets.specs.TestedOrders.{ActsCame}
use Rattle.host_widgets.proofs.Exchanges.{came}
use Rattle.host_widgets.proofs.SilentTicks.{at, AreInputs, ticks-still}
use Rattle.host_widgets.proofs.Effects.{effect, effects, effect-at, Follows, FollowAll}
use Rattle.host_widgets.proofs.AfterExchange.{Says, it-came, Left, it-left, HasMet, met-came, act-met}
use Rattle.host_widgets.proofs.BuildingActs.{Leaves, ends-at, walk-leaves}
use Rattle.host_widgets.proofs.UpWalks.{passed-free}

-- none of these acts is refused by the firmware itself
abbrev pub AllFree : Plan → ℕ → Record → List Act → Type 0
AllFree plan heap kept [] = Unit {0}
AllFree plan heap kept (act ∷ acts) = (own plan heap kept act ≡ None) × AllFree plan heap kept acts

module _ {D : Type 0} (means : Meaning D) (plan : Plan) (heap : ℕ) (kept : Record) where
  -- ---- one act

  module _ (act : Act) (answer : Option (List ℕ)) (w v : World D) (g : FwState) (t : ℕ) (follows : Follows plan heap kept g act) (are : AreInputs w.io.inputs) (on : means.on w.device ≡ Some (at g t)) (x : Exchanged means (message_spelling (act_message plan act)) answer w v) where
    -- the clock after the ticks before this message
    abbrev later : ℕ
    later = t + (means.pending w.device - means.pending v.device)

    ticked-so : ticks (means.pending w.device - means.pending v.device) (at g t, w.io) ≡ (at g later, w.io)
    ticked-so = ticks-still (means.pending w.device - means.pending v.device) g t w.io follows.still are

    pub same-io : v.io ≡ w.io
    same-io = (it-came means (act_message plan act) follows.message answer w v (at g t) on x).endpoints ∙ ap (λ (p : FwState × Io). p.1) ticked-so

    row-then : row (ticks (means.pending w.device - means.pending v.device) (at g t, w.io)).0 (act_message plan act) ≡ row (at g later) (act_message plan act)
    row-then = ap (λ (p : FwState × Io). row p.0 (act_message plan act)) ticked-so

    says-so : (o : Option Errno) → own plan heap kept act ≡ o → Says o (row (at g later) (act_message plan act))
    says-so None free = (effect (act_message plan act) (at g later), follows.passes free later)
    says-so (Some e) refused = (no_memory, follows.refuses e refused later, sym (follows.number e refused).0)

    pub it-did : HasMet means (act_rules plan heap) kept act answer w v
    it-did = act-met means (act_rules plan heap) kept act answer w v follows.message (at g t) on x (subst (Says (own plan heap kept act)) (sym row-then) (says-so (own plan heap kept act) refl))

    pub it-took : (reply : Reply) → verdict answer ≡ Ok reply → own plan heap kept act ≡ None → means.on v.device ≡ Some (at (effect (act_message plan act) g) later)
    it-took reply passed free =
        let l = subst (Left means (act_message plan act) follows.message answer w v (at g t) on x) (ap came_to passed) (it-left means (act_message plan act) follows.message answer w v (at g t) on x) in
        let next : effect (act_message plan act) (at g later) ≡ l.0 = cc (sym (follows.passes free later) ∙ sym row-then ∙ l.2) in
        l.1 ∙ ap Some (sym next ∙ effect-at (act_message plan act) g later)

  -- ---- acts that leave the record, one after another

  -- an act with this result, and those after it
  abbrev pub GoesOn : Act → List Act → Meeting → List Meeting → World D → World D → Outcome → Type 0
  GoesOn act acts m ms mid v o = let a = came_by (act_rules plan heap) act kept (lag_of m) o in Onwards (goes_past false a.outcome) ms mid v (ActsDid means (act_rules plan heap) false a.kept acts ms mid v)

  -- and what they all come to
  abbrev pub outcome_from : Act → List Act → Meeting → List Meeting → Outcome → Outcome
  outcome_from act acts m ms o = let a = came_by (act_rules plan heap) act kept (lag_of m) o in (followed_by act a ms (goes_past false a.outcome) (walk (act_rules plan heap) false next_of a.kept ms acts)).outcome

  -- what they met, their results, and where all passed the state that they leave
  pub record Followed (acts : List Act) (w v : World D) (g : FwState) (t : ℕ) (result : Outcome) : Type 0 where
    pub meetings : List Meeting
    pub did : ActsDid means (act_rules plan heap) false kept acts meetings w v
    pub came_so : result ≡ (walk (act_rules plan heap) false next_of kept meetings acts).outcome
    pub io : v.io ≡ w.io
    pub fewer : means.pending v.device ≤ means.pending w.device
    pub free : result ≡ Ok tt → AllFree plan heap kept acts
    pub on : result ≡ Ok tt → means.on v.device ≡ Some (at (effects plan acts g) (t + (means.pending w.device - means.pending v.device)))

  pub follow-sent : (acts : List Act) (w v : World D) (g : FwState) (t : ℕ) (result : Outcome) → AllByRecursion (Leaves plan kept) acts → FollowAll plan heap kept g acts → AreInputs w.io.inputs → means.on w.device ≡ Some (at g t) → ActsSent means plan acts w v result → Followed acts w v g t result
  follow-sent [] w v g t result all follow are on sent =
      let pending : means.pending v.device ≡ means.pending w.device = ap (λ (y : World D). means.pending y.device) sent.0 in
      record {
        meetings = [];
        did = (refl, sent.0);
        came_so = sent.1;
        io = ap (λ (y : World D). y.io) sent.0;
        fewer = omega (arith, pending);
        free = λ passed. tt;
        on = λ passed. ap (λ (y : World D). means.on y.device) sent.0 ∙ on ∙ ap (λ (n : ℕ). Some (at g n)) (let same : t ≡ t + (means.pending w.device - means.pending v.device) = omega (arith, pending) in same);
      }
  follow-sent (act ∷ acts) w v g t result all follow are on (mid, answer, x, more) =
      by (verdict answer) refl more (λ free there rest. follow-sent acts mid v (effect (act_message plan act) g) (t + (means.pending w.device - means.pending mid.device)) result all.1 (follow.1 free) (subst (λ (io : Io). AreInputs io.inputs) (sym io-stays) are) there rest)
    where
      io-stays : mid.io ≡ w.io
      io-stays = same-io act answer w mid g t follow.0 are on x

      it : HasMet means (act_rules plan heap) kept act answer w mid
      it = it-did act answer w mid g t follow.0 are on x

      came-is : came_to (verdict answer) ≡ outcome_by it.0.fate (own plan heap kept act)
      came-is = met-came means (act_rules plan heap) kept act answer w mid it

      by : (r : Result Reply HostFault) → verdict answer ≡ r → MatchResult r (λ reply. ActsSent means plan acts mid v result) (λ fault. (v ≡ mid) × (result ≡ Err fault)) →
          (own plan heap kept act ≡ None → means.on mid.device ≡ Some (at (effect (act_message plan act) g) (t + (means.pending w.device - means.pending mid.device))) → ActsSent means plan acts mid v result → Followed acts mid v (effect (act_message plan act) g) (t + (means.pending w.device - means.pending mid.device)) result) →
          Followed (act ∷ acts) w v g t result
      by (Ok reply) is rest go =
          let passed : Ok tt ≡ outcome_by it.0.fate (own plan heap kept act) = ap came_to (sym is) ∙ came-is in
          let free = passed-free it.0.fate (own plan heap kept act) (sym passed) in
          let r = go free (it-took act answer w mid g t follow.0 are on x reply is free) rest in
          let clock : (t + (means.pending w.device - means.pending mid.device)) + (means.pending mid.device - means.pending v.device) ≡ t + (means.pending w.device - means.pending v.device) = omega (arith, x.steady.pending, r.fewer) in
          record {
            meetings = it.0 ∷ r.meetings;
            did = (mid, it.1, subst (GoesOn act acts it.0 r.meetings mid v) passed (subst (λ (now : Record). ActsDid means (act_rules plan heap) false now acts r.meetings mid v) (sym all.0) r.did));
            came_so = subst (λ (o : Outcome). result ≡ outcome_from act acts it.0 r.meetings o) passed (subst (λ (now : Record). result ≡ (walk (act_rules plan heap) false next_of now r.meetings acts).outcome) (sym all.0) r.came_so);
            io = r.io ∙ io-stays;
            fewer = omega (arith, x.steady.pending, r.fewer);
            free = λ done. (free, r.free done);
            on = λ done. r.on done ∙ ap (λ (n : ℕ). Some (at (effects plan acts (effect (act_message plan act) g)) n)) clock;
          }
      by (Err fault) is end go =
          let failed : Err fault ≡ outcome_by it.0.fate (own plan heap kept act) = ap came_to (sym is) ∙ came-is in
          record {
            meetings = it.0 ∷ [];
            did = (mid, it.1, subst (GoesOn act acts it.0 [] mid v) failed (subst (λ (b : Bool). Onwards b [] mid v (ActsDid means (act_rules plan heap) false kept acts [] mid v)) (sym (ends-at fault)) (refl, end.0)));
            came_so = subst (λ (o : Outcome). result ≡ outcome_from act acts it.0 [] o) failed (subst (λ (b : Bool). result ≡ (followed_by act (came_by (act_rules plan heap) act kept (lag_of it.0) (Err fault)) [] b (walk (act_rules plan heap) false next_of kept [] acts)).outcome) (sym (ends-at fault)) end.1);
            io = ap (λ (y : World D). y.io) end.0 ∙ io-stays;
            fewer = omega (arith, x.steady.pending, ap (λ (y : World D). means.pending y.device) end.0);
            free = λ done. absurd (let no : Err fault ≡ Ok tt = sym end.1 ∙ done in cc no);
            on = λ done. absurd (let no : Err fault ≡ Ok tt = sym end.1 ∙ done in cc no);
          }

-- ---- the list that brings a device up

-- a fresh firmware follows the list, to a state in which the plan stands
pub record Brings (plan : Plan) (heap : ℕ) (kept : Record) : Type 0 where
  pub follow : FollowAll plan heap kept (fresh heap) (bring_up plan kept)
  pub fits : AllFree plan heap kept (bring_up plan kept) → Fits plan heap
  pub state : AllFree plan heap kept (bring_up plan kept) → effects plan (bring_up plan kept) (fresh heap) ≡ state_by plan kept heap 0

module _ {D : Type 0} (means : Meaning D) (plan : Plan) (heap : ℕ) (kept : Record) (w v : World D) (brings : Brings plan heap kept) (leaves : AllByRecursion (Leaves plan kept) (bring_up plan kept)) (are : AreInputs w.io.inputs) (on : means.on w.device ≡ Some (fresh heap)) (result : Outcome) (sent : ActsSent means plan (bring_up plan kept) w v result) where
  followed : Followed means plan heap kept (bring_up plan kept) w v (fresh heap) 0 result
  followed = follow-sent means plan heap kept (bring_up plan kept) w v (fresh heap) 0 result leaves brings.follow are on sent

  pub list-came : ActsCame means plan heap false (bring_up plan kept) kept kept w v result
  list-came = record { meetings = followed.meetings; did = followed.did; came = followed.came_so; left = sym (walk-leaves plan kept heap (bring_up plan kept) followed.meetings leaves) }

  pub list-io : v.io ≡ w.io
  list-io = followed.io

  by : (o : Outcome) → result ≡ o → BroughtUp means plan heap kept w.device o v.device
  by (Ok done) is =
      let fall = means.pending w.device - means.pending v.device in
      let clock : 0 + fall ≡ fall = omega arith in
      followed.on is ∙ ap (λ (n : ℕ). Some (at (effects plan (bring_up plan kept) (fresh heap)) n)) clock ∙ ap (λ (g : FwState). Some (at g fall)) (brings.state (followed.free is))
  by (Err fault) is = tt

  pub list-leaves : BroughtUp means plan heap kept w.device result v.device
  list-leaves = by result refl
