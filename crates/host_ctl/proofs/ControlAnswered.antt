-- What is done with the control at a place, by the answers of its messages alone.
use Rattle.std.proofs.Common.{◌≡◌, refl, sym, ap, subst, ◌∙◌, ℕ, suc, ◌+◌, ◌-◌, ◌<◌, ◌≤◌, List, [], ◌∷◌, length, Some, Result, Ok, Err, arith}
use Rattle.std.specs.Prelude.{MatchResult}
use Rattle.ipc3_model.specs.declared.message.Message.{Message}
use Rattle.ipc3_model.specs.declared.message.Message.TheVariants.{GetValue}
use Rattle.ipc3_model.specs.declared.reply.Reply.{Reply}
use Rattle.ipc3_model.specs.Messages.{message_spelling}
use Rattle.mbox_link.specs.BlobParts.{parts}
use Rattle.mbox_link.specs.Calls.{World, Meaning}
use Rattle.tplg_plan.specs.declared.plans.Plan.{Plan}
use Rattle.tplg_plan.specs.declared.plans.ControlPlan.{ControlPlan}
use Rattle.tplg_plan.specs.declared.plans.ControlKind.{ControlKind}
use Rattle.tplg_plan.specs.declared.plans.ControlKind.TheVariants.{Blob}
use Rattle.host_widgets.specs.declared.answers.Answer.TheVariants.{Done}
use Rattle.host_widgets.specs.declared.answers.HostFault.{HostFault}
use Rattle.host_widgets.specs.declared.host_call.HostCall.{HostCall}
use Rattle.host_widgets.specs.declared.kept.Power.TheVariants.{On}
use Rattle.host_widgets.specs.declared.kept.ControlRec.{ControlRec}
use Rattle.host_widgets.specs.declared.kept.Record.{Record}
use Rattle.host_widgets.specs.ActCalls.{came_to}
use Rattle.host_widgets.specs.ActCarried.{ActsSent, Passes, PlainEnd, Replied}
use Rattle.host_widgets.specs.ActLists.{part_acts}
use Rattle.host_widgets.specs.ActMessages.{act_message, set_message}
use Rattle.host_widgets.specs.AnsweredOrders.{ActsAnswered, OrderAnswered}
use Rattle.host_widgets.specs.Host.{Outcome, IsRecordOf, verdict}
use Rattle.host_widgets.specs.HostActs.{Act, Put, Ask, after, with_values, with_blob}
use Rattle.host_widgets.specs.Kept.{with_control}
use Rattle.host_widgets.specs.Orders.{Procedure, sends}
use Rattle.host_widgets.specs.Sides.{IsReady, world_of}
use Rattle.host_widgets.proofs.AnsweredActs.{Answering, Passing, answered-failed, answered-then, one-failed, one-passed, sends-on, sends-rest}
use Rattle.host_widgets.proofs.OneMessage.{passes}
use Rattle.host_ctl.specs.ControlAnswers.{MaySet, MayInstall, PartsPass, value_command}
use Rattle.host_ctl.specs.ControlOrders.{ask_acts, bytes_order_at, control_answer, put_order}
use Rattle.host_ctl.specs.ControlPlaces.{control_here, record_here, with_values_at, with_blob_here}
use Rattle.host_widgets.proofs.ActSteps.{EachBy, all_after}
use Rattle.host_ctl.proofs.BlobCalls.{part-record, parts-each}
use Rattle.host_ctl.proofs.ControlParts.{asks_from}
use Rattle.host_ctl.proofs.ControlsTaken.{puts, asks}
use Rattle.host_ctl.proofs.ControlsThere.{blob-changed, control-twice, place-changed}

-- ---- parts that are asked for, one after another

-- of n parts the first ones were asked for: what comes after them decides what all come to
pub record AskedAhead {D : Type 0} (means : Meaning D) (plan : Plan) (heap comp n : ℕ) (kept : Record) (w m : World D) (j : ℕ) : Type 0 where
  pub all : (kept' : Record) (v : World D) (result : Outcome) → Passing means plan heap (asks_from comp j (n - j)) kept kept' m v result → Passing means plan heap (asks_from comp 0 n) kept kept' w v result

module _ {D : Type 0} (means : Meaning D) (plan : Plan) (heap comp n : ℕ) (kept : Record) where
  pub asked-none : (w : World D) → AskedAhead means plan heap comp n kept w w 0
  asked-none w = record { all = λ kept' v result x. subst (λ (m : ℕ). Passing means plan heap (asks_from comp 0 m) kept kept' w v result) (let same : n - 0 ≡ n = omega arith in same) x }

  pub asked-all : (w m : World D) (j : ℕ) → n ≤ j → AskedAhead means plan heap comp n kept w m j → Passing means plan heap (asks_from comp 0 n) kept kept w m (Ok tt)
  asked-all w m j past so = so.all kept m (Ok tt) (subst (λ (rest : ℕ). Passing means plan heap (asks_from comp j rest) kept kept m m (Ok tt)) (let none : 0 ≡ n - j = omega (arith, past) in none) (refl, refl, refl))

  next-is : (j : ℕ) → j < n → Ask comp j ∷ asks_from comp (j + 1) (n - (j + 1)) ≡ asks_from comp j (n - j)
  next-is j few = ap (asks_from comp j) (let more : suc (n - (j + 1)) ≡ n - j = omega (arith, few) in more)

  -- one part more was asked for
  pub asked-more : (w m v : World D) (j : ℕ) → j < n → AskedAhead means plan heap comp n kept w m j → Passing means plan heap (Ask comp j ∷ []) kept kept m v (Ok tt) → AskedAhead means plan heap comp n kept w v (j + 1)
  asked-more w m v j few so one = record {
    all = λ kept' u result rest. so.all kept' u result
        (subst (λ (acts : List Act). Passing means plan heap acts kept kept' m u result) (next-is j few) (answered-then means plan heap (Ask comp j ∷ []) (asks_from comp (j + 1) (n - (j + 1))) (λ now. now) kept kept kept' m v u result one rest));
  }

  -- one was refused or lost
  pub asked-ends : (w m v : World D) (j : ℕ) → j < n → AskedAhead means plan heap comp n kept w m j → (kept' : Record) (fault : HostFault) → Passing means plan heap (Ask comp j ∷ []) kept kept' m v (Err fault) → (o : Outcome) → o ≡ Err fault → Passing means plan heap (asks_from comp 0 n) kept kept' w v o
  asked-ends w m v j few so kept' fault one o failed = subst (λ (o : Outcome). Passing means plan heap (asks_from comp 0 n) kept kept' w v o) (sym failed) (so.all kept' v (Err fault)
      (subst (λ (acts : List Act). Passing means plan heap acts kept kept' m v (Err fault)) (next-is j few) (answered-failed means plan heap (Ask comp j ∷ []) (asks_from comp (j + 1) (n - (j + 1))) (λ now. now) kept kept' m v fault one)))

-- ---- at a place

module _ {D : Type 0} (means : Meaning D) (side : HostCall D) (ready : IsReady means side) (i : ℕ) (low : i < length side.plan.now.controls) where
  abbrev plan : Plan
  plan = side.plan.now

  abbrev kept : Record
  kept = side.kept.now

  abbrev w : World D
  w = world_of side

  abbrev k : ControlPlan
  k = control_here plan i

  abbrev r : ControlRec
  r = record_here kept i

  abbrev Comes : Procedure → Record → World D → Outcome → Type 0
  Comes o kept' v result = OrderAnswered means plan side.heap o kept kept' w v result

  -- ---- values

  abbrev puts_all : List ℕ → Record → Record
  puts_all values = with_control plan k.comp (with_values values)

  module _ (values : List ℕ) (may : MaySet k.kind values) (message : Message) (comp : ControlPlan) (message-is : message ≡ set_message comp.comp values comp.kind) (comp-is : comp ≡ k) (kept' : Record) (v : World D) (result : Outcome) (x : Passes means side.heap (message_spelling message) kept kept' w v result) where
    put' : Passes means side.heap (message_spelling (act_message plan (Put k.comp values))) kept kept' w v result
    put' = subst (λ (m : Message). Passes means side.heap (message_spelling m) kept kept' w v result) (message-is ∙ ap (λ (y : ControlPlan). set_message y.comp values y.kind) comp-is ∙ sym (puts plan ready.plan kept ready.record_is i low values may)) x

    -- nothing but the reply came so far
    pub put-stays : result ≡ Ok tt → kept' ≡ kept
    put-stays ok = (subst (λ (o : Outcome). PlainEnd means side.heap o kept kept' x.sent v) ok x.ends).0

    pub put-passed : result ≡ Ok tt → (kept'' : Record) → kept'' ≡ with_values_at i values kept' → ActsAnswered means plan side.heap (puts_all values) (Put k.comp values ∷ []) kept kept'' w v (Ok tt)
    put-passed ok kept'' now = one-passed means plan side.heap (Put k.comp values) (puts_all values) kept kept' w v result put' ok kept''
        (now ∙ ap (with_values_at i values) (put-stays ok) ∙ place-changed plan ready.plan kept ready.record_is i low values ∙ sym (control-twice plan k.comp (with_values values) (λ r. refl) kept))

    pub put-failed : (fault : HostFault) → result ≡ Err fault → (o : Outcome) → o ≡ Err fault → ActsAnswered means plan side.heap (puts_all values) (Put k.comp values ∷ []) kept kept' w v o
    put-failed fault failed o is = subst (λ (o : Outcome). ActsAnswered means plan side.heap (puts_all values) (Put k.comp values ∷ []) kept kept' w v o) (sym is) (one-failed means plan side.heap (Put k.comp values) (puts_all values) kept kept' w v result put' fault failed)

  pub put-answered : (values : List ℕ) (kept' : Record) (v : World D) (result : Outcome) → kept.power ≡ On → ActsAnswered means plan side.heap (puts_all values) (Put k.comp values ∷ []) kept kept' w v result → Comes (put_order plan kept k.comp values) kept' v result
  put-answered values kept' v result on x = sends-on means plan side.heap kept.power (Put k.comp values ∷ []) (puts_all values) Done kept kept' w v result on x

  -- where the power is off, the record alone changes
  pub put-rests : (values : List ℕ) → (kept.power ≡ On → ⊥) → (kept' : Record) → kept' ≡ with_values_at i values kept → Comes (put_order plan kept k.comp values) kept' w (Ok tt)
  put-rests values off kept' now = sends-rest means plan side.heap kept.power (Put k.comp values ∷ []) (puts_all values) Done kept kept' w (λ on. absurd (off on)) (now ∙ place-changed plan ready.plan kept ready.record_is i low values)

  -- ---- one that asks

  pub value-asks : (command : ℕ) → value_command k.kind ≡ Some command → (comp : ControlPlan) → comp ≡ k → GetValue comp.comp command ≡ act_message plan (Ask k.comp 0)
  value-asks command at comp comp-is = ap (λ (y : ControlPlan). GetValue y.comp command) comp-is ∙ sym (asks plan ready.plan kept ready.record_is i low command at)

  module _ (j : ℕ) (message : Message) (says : message ≡ act_message plan (Ask k.comp j)) (m v : World D) (kept' : Record) (result : Result Reply HostFault) (h : Replied means side.heap (message_spelling message) kept kept' m v result) where
    ask' : Passes means side.heap (message_spelling (act_message plan (Ask k.comp j))) kept kept' m v (came_to result)
    ask' = passes means side.heap (message_spelling (act_message plan (Ask k.comp j))) kept m kept' v result (came_to result) (subst (λ (y : Message). Replied means side.heap (message_spelling y) kept kept' m v result) says h) refl

    pub ask-stays : (reply : Reply) → result ≡ Ok reply → kept' ≡ kept
    ask-stays reply ok = (subst (λ (y : Result Reply HostFault). PlainEnd means side.heap (came_to y) kept kept' h.sent v) ok h.ends).0

    pub ask-passed : (reply : Reply) → result ≡ Ok reply → (now : Record) → now ≡ kept → Passing means plan side.heap (Ask k.comp j ∷ []) kept now m v (Ok tt)
    ask-passed reply ok = one-passed means plan side.heap (Ask k.comp j) (λ now. now) kept kept' m v (came_to result) ask' (ap came_to ok)

    pub ask-failed : (fault : HostFault) → result ≡ Err fault → (o : Outcome) → o ≡ Err fault → Passing means plan side.heap (Ask k.comp j ∷ []) kept kept' m v o
    ask-failed fault failed o is = subst (λ (o : Outcome). Passing means plan side.heap (Ask k.comp j ∷ []) kept kept' m v o) (sym is) (one-failed means plan side.heap (Ask k.comp j) (λ now. now) kept kept' m v (came_to result) ask' fault (ap came_to failed))

  -- what was asked answers the call, by the control's kind
  abbrev Reads : ControlKind → Record → World D → Outcome → Type 0
  Reads q kept' v result = Comes (sends kept.power (ask_acts k.comp q r) (λ now. now) (control_answer k.kind r)) kept' v result

  pub value-answered : (command : ℕ) → value_command k.kind ≡ Some command → (kept' : Record) (v : World D) (result : Outcome) → kept.power ≡ On → Passing means plan side.heap (Ask k.comp 0 ∷ []) kept kept' w v result → Reads k.kind kept' v result
  value-answered command at kept' v result on x = by k.kind at
    where
      by : (q : ControlKind) → value_command q ≡ Some command → Reads q kept' v result
      by (Blob most initial) at = absurd (cc at)
      by q at = sends-on means plan side.heap kept.power (Ask k.comp 0 ∷ []) (λ now. now) (control_answer k.kind r) kept kept' w v result on x

  pub parts-answered : (most : ℕ) (initial : List ℕ) → k.kind ≡ Blob most initial → kept.power ≡ On → (kept' : Record) (v : World D) (result : Outcome) → Passing means plan side.heap (asks_from k.comp 0 (parts r.blob)) kept kept' w v result → Reads k.kind kept' v result
  parts-answered most initial kind on kept' v result x =
      sends-on means plan side.heap kept.power (ask_acts k.comp k.kind r) (λ now. now) (control_answer k.kind r) kept kept' w v result on
      (subst (λ (q : ControlKind). Passing means plan side.heap (ask_acts k.comp q r) kept kept' w v result) (sym kind) x)

  -- ---- a blob

  module _ (blob : List ℕ) (may : MayInstall k.kind blob) where
    abbrev installs : Record → Record
    installs = with_control plan k.comp (with_blob blob)

    -- each part is sent with this record
    abbrev IsSent : Record → Act → Type 0
    IsSent now act = (now ≡ kept) × IsRecordOf plan (after plan act now)

    module _ (kept' : Record) (sent v : World D) where
      -- what is left, by the result of all
      abbrev LeftSo : Outcome → Type 0
      LeftSo (Ok done) = (kept' ≡ installs kept) × (v ≡ sent)
      LeftSo (Err fault) = PlainEnd means side.heap (Err fault) kept kept' sent v

      sent-answered : (acts : List Act) (now : Record) (u : World D) (result : Outcome) → EachBy plan IsSent now acts → all_after plan acts now ≡ installs kept → ActsSent means plan acts u sent result → LeftSo result → ActsAnswered means plan side.heap installs acts now kept' u v result
      sent-answered [] now u result each all (stays, passed) left =
          let l = subst LeftSo passed left in (l.0 ∙ sym (control-twice plan k.comp (with_blob blob) (λ r. refl) kept) ∙ ap installs (sym all), l.1 ∙ stays, passed)
      sent-answered (act ∷ acts) now u result each all (mid, answer, e, more) left =
          (mid, answer, e, by (verdict answer) more (λ rest. sent-answered acts (after plan act now) mid result (each.1 each.0.1) all rest left))
        where
          by : (y : Result Reply HostFault) → MatchResult y (λ reply. ActsSent means plan acts mid sent result) (λ fault. (sent ≡ mid) × (result ≡ Err fault)) →
              (ActsSent means plan acts mid sent result → ActsAnswered means plan side.heap installs acts (after plan act now) kept' mid v result) → Answering means plan side.heap installs act acts now kept' mid v result y
          by (Ok reply) rest go = go rest
          by (Err fault) (same, failed) go = (failed, subst (λ (p : World D × Record). PlainEnd means side.heap (Err fault) p.1 kept' p.0 v) (λ t. (same t, sym each.0.0 t)) (subst LeftSo failed left))

    module _ (mid : Record) (v : World D) (result : Outcome) (comp : ControlPlan) (comp-is : comp ≡ k) (given : PartsPass means plan side.heap comp.comp blob kept mid w v result) where
      x : PartsPass means plan side.heap k.comp blob kept mid w v result
      x = subst (λ (y : ControlPlan). PartsPass means plan side.heap y.comp blob kept mid w v result) comp-is given

      ends-so : (o : Outcome) → result ≡ o → PlainEnd means side.heap o kept mid x.sent v
      ends-so o is = subst (λ (o : Outcome). PlainEnd means side.heap o kept mid x.sent v) is x.ends

      pub parts-stay : result ≡ Ok tt → mid ≡ kept
      parts-stay ok = (ends-so (Ok tt) ok).0

      parts-came : kept.power ≡ On → (kept' : Record) (o : Outcome) → result ≡ o → LeftSo kept' x.sent v o → Comes (bytes_order_at plan kept k.comp blob) kept' v o
      parts-came on kept' o is left =
          let parts = parts-each plan ready.plan kept ready.record_is i low blob may IsSent (λ j few. (refl, part-record plan ready.plan kept ready.record_is i low blob may j)) in
          sends-on means plan side.heap kept.power (part_acts k.comp blob) installs Done kept kept' w v o on
          (sent-answered kept' x.sent v (part_acts k.comp blob) kept w o parts.0 parts.1 (subst (λ (o : Outcome). ActsSent means plan (part_acts k.comp blob) w x.sent o) is x.parts) left)

      pub parts-passed : kept.power ≡ On → result ≡ Ok tt → (kept' : Record) → kept' ≡ with_blob_here i blob mid → Comes (bytes_order_at plan kept k.comp blob) kept' v (Ok tt)
      parts-passed on ok kept' so =
          parts-came on kept' (Ok tt) ok (so ∙ ap (with_blob_here i blob) (parts-stay ok) ∙ blob-changed plan ready.plan kept ready.record_is i low blob, (ends-so (Ok tt) ok).1)

      pub parts-failed : kept.power ≡ On → (fault : HostFault) → result ≡ Err fault → (o : Outcome) → o ≡ Err fault → Comes (bytes_order_at plan kept k.comp blob) mid v o
      parts-failed on fault failed o is = subst (λ (o : Outcome). Comes (bytes_order_at plan kept k.comp blob) mid v o) (sym is) (parts-came on mid (Err fault) failed (ends-so (Err fault) failed))

    -- where the power is off, the record alone changes
    pub parts-rest : (kept.power ≡ On → ⊥) → (kept' : Record) → kept' ≡ with_blob_here i blob kept → Comes (bytes_order_at plan kept k.comp blob) kept' w (Ok tt)
    parts-rest off kept' now = sends-rest means plan side.heap kept.power (part_acts k.comp blob) installs Done kept kept' w (λ on. absurd (off on)) (now ∙ blob-changed plan ready.plan kept ready.record_is i low blob)
