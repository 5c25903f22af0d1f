-- The orders of calls on the control at a place, as they are carried out.
use Rattle.std.proofs.Common.{◌≡◌, refl, sym, ap, subst, ◌∙◌, ℕ, ◌<◌, false, List, [], ◌∷◌, length, Option, Some, None, Ok, unwrap_or}
use Rattle.std.specs.Option.{option_and_then}
use Rattle.mbox_link.specs.Calls.{World, Meaning}
use Rattle.tplg_plan.specs.declared.plans.Plan.{Plan}
use Rattle.tplg_plan.specs.declared.plans.ControlPlan.{ControlPlan}
use Rattle.tplg_plan.specs.Sound.{IsSound}
use Rattle.host_widgets.specs.declared.answers.Answer.{Answer}
use Rattle.host_widgets.specs.declared.answers.Answer.TheVariants.{Done}
use Rattle.host_widgets.specs.declared.answers.HostFault.{HostFault}
use Rattle.host_widgets.specs.declared.kept.Power.{Power}
use Rattle.host_widgets.specs.declared.kept.Power.TheVariants.{On}
use Rattle.host_widgets.specs.declared.kept.Record.{Record}
use Rattle.host_widgets.specs.declared.kept.ControlRec.{ControlRec}
use Rattle.host_widgets.specs.AnsweredOrders.{OrderAnswered}
use Rattle.host_widgets.specs.Kept.{control_at, with_control}
use Rattle.host_widgets.specs.HostActs.{Act, Put, with_values}
use Rattle.host_widgets.specs.Host.{Outcome, Agrees, IsRecordOf}
use Rattle.host_widgets.specs.Orders.{Carried, Procedure, quiet, sends}
use Rattle.host_widgets.specs.TestedOrders.{Tested}
use Rattle.host_widgets.proofs.OneActLaws.{plain-ready}
use Rattle.host_widgets.proofs.PlainOrders.{answering, no-acts, plain}
use Rattle.host_ctl.specs.ControlAsks.{bytes_fault, channels_of, installing_fault, named_control, read_fault, set_fault, setting_fault, spread}
use Rattle.host_ctl.specs.ControlOrders.{setting_order, set_order, installing_order, bytes_order, ask_acts, control_answer, reading_order, read_order, named_at}
use Rattle.host_ctl.specs.ControlPlaces.{control_here, control_place, record_here}
use Rattle.host_widgets.proofs.ActSteps.{Both, met-by, sends-carried}
use Rattle.host_ctl.proofs.BlobCalls.{bytes-carried}
use Rattle.host_ctl.proofs.BlobTests.{installable-here}
use Rattle.host_ctl.proofs.ControlParts.{asks-met, asks-plain}
use Rattle.host_ctl.proofs.ControlTests.{loaded, place-low, settable-here, tested-late}
use Rattle.host_ctl.proofs.ControlsTaken.{put-comes, put-shown, set-all}
use Rattle.host_ctl.proofs.ControlsThere.{at-here, control-twice, named-here}
use Rattle.host_ctl.proofs.PutStands.{off-agrees, put-record}

pub sends-answer : (power : Power) (acts : List Act) (done : Record → Record) (answer : Answer) → (sends power acts done answer).answer ≡ answer
sends-answer On acts done answer = refl
sends-answer power acts done answer = refl

pub sends-done : (power : Power) (acts : List Act) (done : Record → Record) (answer : Answer) → (sends power acts done answer).done ≡ done
sends-done On acts done answer = refl
sends-done power acts done answer = refl

-- an order without acts, by its answer
pub quiet-carried : {D : Type 0} (means : Meaning D) (plan : Plan) (heap : ℕ) (answer : Answer) (kept : Record) (w : World D) → Carried means plan heap (quiet answer) kept kept w w (Ok tt)
quiet-carried means plan heap answer kept w = answering means plan heap (plain [] (λ now. now)) answer kept kept w w (Ok tt) (no-acts means plan heap (λ now. now) kept kept w refl)

-- ---- the control of a name

module _ (plan : Plan) (sound : IsSound plan) (kept : Record) (is : IsRecordOf plan kept) (name : List ℕ) (i : ℕ) (at : control_place plan name ≡ Some i) where
  abbrev k : ControlPlan
  k = control_here plan i

  abbrev r : ControlRec
  r = record_here kept i

  low : i < length plan.controls
  low = place-low plan name i at

  named : named_control plan name ≡ Some k
  named = named-here plan sound kept is i low name at

  pub set-named : (values : List ℕ) → setting_order plan kept values (Some k) ≡ set_order plan kept name values
  set-named values = ap (setting_order plan kept values) (sym named)

  pub bytes-named : (blob : List ℕ) → installing_order plan kept blob (Some k) ≡ bytes_order plan kept name blob
  bytes-named blob = ap (installing_order plan kept blob) (sym named)

  pub at-named : named_at plan kept name ≡ Some (k, r)
  at-named = ap (option_and_then (λ (x : ControlPlan). control_at plan kept x.comp)) named ∙ at-here plan sound kept is i low

  pub read-named : reading_order kept (Some (k, r)) ≡ read_order plan kept name
  read-named = ap (reading_order kept) (sym at-named)

  -- ---- where the two sides agree and no test fails, what was answered was carried out

  module _ {D : Type 0} (means : Meaning D) (heap : ℕ) (w : World D) (agrees : Agrees means plan kept w.device) (kept' : Record) (v : World D) (result : Outcome) where
    abbrev Answered : Procedure → Type 0
    Answered o = OrderAnswered means plan heap o kept kept' w v result

    abbrev Ended : Option HostFault → Procedure → Type 0
    Ended test o = Tested means plan heap test o kept kept' w v result × Agrees means plan kept' v.device

    ended : (test : Option HostFault) (o p : Procedure) → o ≡ p → test ≡ None → (Answered o → Both means plan heap o kept kept' w v result) → Answered p → Ended test p
    ended test o p same none go x =
        let both = subst (λ (y : Procedure). Both means plan heap y kept kept' w v result) same (go (subst Answered (sym same) x)) in
        (tested-late means plan heap test p kept w kept' v result none both.0, both.1)

    pub set-ended : (values : List ℕ) → set_fault plan kept name values ≡ None → Answered (set_order plan kept name values) → Ended (set_fault plan kept name values) (set_order plan kept name values)
    set-ended values none =
        let may = (settable-here plan sound kept is name i at values none).may in
        let all = spread (unwrap_or (channels_of k.kind) 0) values in
        let puts_all = with_control plan k.comp (with_values all) in
        ended (set_fault plan kept name values) (setting_order plan kept values (Some k)) (set_order plan kept name values) (set-named values) none
        (sends-carried means plan heap kept.power (Put k.comp all ∷ []) puts_all Done kept kept' w v result
        (λ on. (met-by plan heap kept (Put k.comp all) on (put-shown plan sound kept is i low all may) (put-comes plan sound kept is i low all may heap), λ now. tt)) (plain-ready plan false (Put k.comp all ∷ []) (tt, tt))
        (λ on d. subst (λ (y : Record). Agrees means plan y d) (sym (control-twice plan k.comp (with_values all) (λ c. refl) kept)))
        (λ off. off-agrees means plan kept k.comp (with_values all) (loaded kept.power (setting_fault name values (named_control plan name)) none).0 off (put-record plan kept k.comp (with_values all) (λ c. refl) is (set-all plan sound kept is i low all may))) agrees)

    pub bytes-ended : (blob : List ℕ) → bytes_fault plan kept name blob ≡ None → Answered (bytes_order plan kept name blob) → Ended (bytes_fault plan kept name blob) (bytes_order plan kept name blob)
    bytes-ended blob none =
        ended (bytes_fault plan kept name blob) (installing_order plan kept blob (Some k)) (bytes_order plan kept name blob) (bytes-named blob) none
        (bytes-carried plan sound kept is i low blob (installable-here plan sound kept is name i at blob none) means heap w (loaded kept.power (installing_fault name blob (named_control plan name)) none).0 agrees kept' v result)

    pub read-ended : read_fault plan kept name ≡ None → Answered (read_order plan kept name) → Ended (read_fault plan kept name) (read_order plan kept name)
    read-ended none =
        let acts = ask_acts k.comp k.kind r in
        ended (read_fault plan kept name) (reading_order kept (Some (k, r))) (read_order plan kept name) read-named none
        (sends-carried means plan heap kept.power acts (λ now. now) (control_answer k.kind r) kept kept' w v result (asks-met plan sound kept is i low heap) (plain-ready plan false acts (asks-plain k.comp k.kind r)) (λ on d a. a) (λ off d a. a) agrees)
