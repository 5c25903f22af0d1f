-- Acts by their answers alone: one of them, lists one after another, and the orders of calls.
use Rattle.std.proofs.Common.{◌≡◌, refl, sym, ap, subst, ◌∙◌, ℕ, List, [], ◌∷◌, ◌++◌, Option, None, Result, Ok, Err}
use Rattle.std.specs.Prelude.{MatchResult}
use Rattle.ipc3_model.specs.declared.reply.Reply.{Reply}
use Rattle.ipc3_model.specs.Messages.{message_spelling}
use Rattle.mbox_link.specs.Calls.{World, Meaning}
use Rattle.tplg_plan.specs.declared.plans.Plan.{Plan}
use Rattle.host_widgets.specs.declared.answers.Answer.{Answer}
use Rattle.host_widgets.specs.declared.answers.HostFault.{HostFault}
use Rattle.host_widgets.specs.declared.kept.Power.{Power}
use Rattle.host_widgets.specs.declared.kept.Power.TheVariants.{Unloaded, On, Off}
use Rattle.host_widgets.specs.declared.kept.Record.{Record}
use Rattle.host_widgets.specs.ActCalls.{came_to}
use Rattle.host_widgets.specs.ActCarried.{ActsSent, Passes, PlainEnd}
use Rattle.host_widgets.specs.ActMessages.{act_message}
use Rattle.host_widgets.specs.AnsweredOrders.{ActsAnswered, OrderAnswered, TestedAnswered}
use Rattle.host_widgets.specs.Host.{Outcome, verdict}
use Rattle.host_widgets.specs.HostActs.{Act, after}
use Rattle.host_widgets.specs.Orders.{Procedure, sends}

module _ {D : Type 0} (means : Meaning D) (plan : Plan) (heap : ℕ) where
  -- what follows an answer
  abbrev pub Answering : (Record → Record) → Act → List Act → Record → Record → World D → World D → Outcome → Result Reply HostFault → Type 0
  Answering done act acts kept kept' mid v result r = MatchResult r
      (λ reply. ActsAnswered means plan heap done acts (after plan act kept) kept' mid v result)
      (λ fault. (result ≡ Err fault) × PlainEnd means heap (Err fault) kept kept' mid v)

  abbrev Sending : List Act → World D → World D → Outcome → Result Reply HostFault → Type 0
  Sending acts mid v result r = MatchResult r (λ reply. ActsSent means plan acts mid v result) (λ fault. (v ≡ mid) × (result ≡ Err fault))

  -- acts after which no more is done to the record
  abbrev pub Passing : List Act → Record → Record → World D → World D → Outcome → Type 0
  Passing acts kept kept' w v result = ActsAnswered means plan heap (λ now. now) acts kept kept' w v result

  -- ---- one act

  module _ (act : Act) (done : Record → Record) (kept now : Record) (w v : World D) (result : Outcome) (x : Passes means heap (message_spelling (act_message plan act)) kept now w v result) where
    pub one-passed : result ≡ Ok tt → (kept' : Record) → kept' ≡ done (after plan act kept) → ActsAnswered means plan heap done (act ∷ []) kept kept' w v (Ok tt)
    one-passed is kept' left = (x.sent, x.answer, x.exchanged, by (verdict x.answer) (sym x.said ∙ is))
      where
        ends : PlainEnd means heap (Ok tt) kept now x.sent v
        ends = subst (λ (o : Outcome). PlainEnd means heap o kept now x.sent v) is x.ends

        by : (r : Result Reply HostFault) → came_to r ≡ Ok tt → Answering done act [] kept kept' x.sent v (Ok tt) r
        by (Ok reply) same = (left, ends.1, refl)
        by (Err fault) same = absurd (cc same)

    pub one-failed : (fault : HostFault) → result ≡ Err fault → ActsAnswered means plan heap done (act ∷ []) kept now w v (Err fault)
    one-failed fault is = (x.sent, x.answer, x.exchanged, by (verdict x.answer) (sym x.said ∙ is))
      where
        ends : PlainEnd means heap (Err fault) kept now x.sent v
        ends = subst (λ (o : Outcome). PlainEnd means heap o kept now x.sent v) is x.ends

        by : (r : Result Reply HostFault) → came_to r ≡ Err fault → Answering done act [] kept now x.sent v (Err fault) r
        by (Ok reply) same = absurd (cc same)
        by (Err f) same = let one : f ≡ fault = cc same in (ap (λ (y : HostFault). Err y) (sym one), subst (λ (y : HostFault). PlainEnd means heap (Err y) kept now x.sent v) (sym one) ends)

  -- what one act that passed left
  pub one-left : (act : Act) (kept kept' : Record) (w v : World D) → Passing (act ∷ []) kept kept' w v (Ok tt) → kept' ≡ after plan act kept
  one-left act kept kept' w v (mid, answer, e, more) = by (verdict answer) more
    where
      by : (r : Result Reply HostFault) → Answering (λ now. now) act [] kept kept' mid v (Ok tt) r → kept' ≡ after plan act kept
      by (Ok reply) last = last.0
      by (Err fault) (apart, end) = absurd (cc apart)

  -- ---- lists

  -- acts that all passed, and those after them
  pub answered-then : (xs ys : List Act) (done : Record → Record) (kept k1 kept' : Record) (w m v : World D) (result : Outcome) → Passing xs kept k1 w m (Ok tt) → ActsAnswered means plan heap done ys k1 kept' m v result →
      ActsAnswered means plan heap done (xs ++ ys) kept kept' w v result
  answered-then [] ys done kept k1 kept' w m v result (left, stays, is) rest = subst (λ (y : Record × World D). ActsAnswered means plan heap done ys y.0 kept' y.1 v result) (λ i. (left i, stays i)) rest
  answered-then (x ∷ xs) ys done kept k1 kept' w m v result (mid, answer, e, more) rest =
      (mid, answer, e, by (verdict answer) more (λ first. answered-then xs ys done (after plan x kept) k1 kept' mid m v result first rest))
    where
      by : (r : Result Reply HostFault) → Answering (λ now. now) x xs kept k1 mid m (Ok tt) r → (Passing xs (after plan x kept) k1 mid m (Ok tt) → ActsAnswered means plan heap done (xs ++ ys) (after plan x kept) kept' mid v result) →
          Answering done x (xs ++ ys) kept kept' mid v result r
      by (Ok reply) first go = go first
      by (Err fault) (apart, end) go = absurd (cc apart)

  -- acts of which one did not pass are the end
  pub answered-failed : (xs ys : List Act) (done : Record → Record) (kept kept' : Record) (w v : World D) (fault : HostFault) → Passing xs kept kept' w v (Err fault) → ActsAnswered means plan heap done (xs ++ ys) kept kept' w v (Err fault)
  answered-failed [] ys done kept kept' w v fault (left, stays, is) = absurd (cc is)
  answered-failed (x ∷ xs) ys done kept kept' w v fault (mid, answer, e, more) =
      (mid, answer, e, by (verdict answer) more (λ first. answered-failed xs ys done (after plan x kept) kept' mid v fault first))
    where
      by : (r : Result Reply HostFault) → Answering (λ now. now) x xs kept kept' mid v (Err fault) r → (Passing xs (after plan x kept) kept' mid v (Err fault) → ActsAnswered means plan heap done (xs ++ ys) (after plan x kept) kept' mid v (Err fault)) →
          Answering done x (xs ++ ys) kept kept' mid v (Err fault) r
      by (Ok reply) first go = go first
      by (Err f) end go = end

  -- acts that all passed were sent
  pub answered-sent : (acts : List Act) (done : Record → Record) (kept kept' : Record) (w v : World D) → ActsAnswered means plan heap done acts kept kept' w v (Ok tt) → ActsSent means plan acts w v (Ok tt)
  answered-sent [] done kept kept' w v (left, stays, is) = (stays, is)
  answered-sent (x ∷ xs) done kept kept' w v (mid, answer, e, more) = (mid, answer, e, by (verdict answer) more (λ first. answered-sent xs done (after plan x kept) kept' mid v first))
    where
      by : (r : Result Reply HostFault) → Answering done x xs kept kept' mid v (Ok tt) r → (ActsAnswered means plan heap done xs (after plan x kept) kept' mid v (Ok tt) → ActsSent means plan xs mid v (Ok tt)) → Sending xs mid v (Ok tt) r
      by (Ok reply) first go = go first
      by (Err fault) (apart, end) go = absurd (cc apart)

  -- ---- orders

  -- where the power is on, acts are sent
  pub sends-on : (power : Power) (acts : List Act) (done : Record → Record) (answer : Answer) (kept kept' : Record) (w v : World D) (result : Outcome) → power ≡ On → ActsAnswered means plan heap done acts kept kept' w v result →
      OrderAnswered means plan heap (sends power acts done answer) kept kept' w v result
  sends-on power acts done answer kept kept' w v result on x = subst (λ (p : Power). OrderAnswered means plan heap (sends p acts done answer) kept kept' w v result) (sym on) x

  -- where there are none, or the power is off, the record alone changes
  pub sends-rest : (power : Power) (acts : List Act) (done : Record → Record) (answer : Answer) (kept kept' : Record) (w : World D) → (power ≡ On → acts ≡ []) → kept' ≡ done kept → OrderAnswered means plan heap (sends power acts done answer) kept kept' w w (Ok tt)
  sends-rest On acts done answer kept kept' w none is = subst (λ (xs : List Act). ActsAnswered means plan heap done xs kept kept' w w (Ok tt)) (sym (none refl)) (is, refl, refl)
  sends-rest Off acts done answer kept kept' w none is = (is, refl, refl)
  sends-rest Unloaded acts done answer kept kept' w none is = (is, refl, refl)

  -- ---- by a test

  pub late-answered : (test : Option HostFault) (o : Procedure) (kept kept' : Record) (w v : World D) (result : Outcome) → test ≡ None → OrderAnswered means plan heap o kept kept' w v result → TestedAnswered means plan heap test o kept kept' w v result
  late-answered test o kept kept' w v result none x = record { early = λ f e. absurd (cc (sym none ∙ e)); late = λ is. x }
