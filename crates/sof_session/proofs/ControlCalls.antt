-- Calls on controls as calls that send acts: values or a blob that are set, read from the record, or asked of the firmware.
use Rattle.std.proofs.Common.{◌≡◌, refl, sym, ap, subst, ◌∙◌, ℕ, ◌≤◌, false, List, [], ◌∷◌, length, Option, Some, None, Result, Ok, Err, unwrap_or, arith}
use Rattle.std.specs.Prelude.{IfOk}
use Rattle.std.specs.Option.{option_and_then}
use Rattle.std.proofs.lemmas.List.{length-map}
use Rattle.tplg_plan.specs.declared.plans.Plan.{Plan}
use Rattle.tplg_plan.specs.declared.plans.ControlPlan.{ControlPlan}
use Rattle.tplg_plan.specs.declared.plans.ControlKind.{ControlKind}
use Rattle.tplg_plan.specs.declared.plans.ControlKind.TheVariants.{Blob}
use Rattle.host_widgets.specs.declared.answers.Answer.{Answer}
use Rattle.host_widgets.specs.declared.answers.Answer.TheVariants.{Done}
use Rattle.host_widgets.specs.declared.answers.HostFault.{HostFault}
use Rattle.host_widgets.specs.declared.kept.Power.{Power}
use Rattle.host_widgets.specs.declared.kept.Power.TheVariants.{Unloaded}
use Rattle.host_widgets.specs.declared.kept.Record.{Record}
use Rattle.host_widgets.specs.declared.kept.ControlRec.{ControlRec}
use Rattle.mbox_link.specs.BlobParts.{part_numbers}
use Rattle.tplg_plan.specs.Sound.{IsSound}
use Rattle.host_widgets.specs.Host.{IsRecordOf}
use Rattle.host_widgets.specs.ActLists.{part_acts}
use Rattle.host_widgets.specs.HostActs.{Put, Part, Ask, with_values, with_blob}
use Rattle.host_widgets.specs.Kept.{control_at, with_control}
use Rattle.host_widgets.specs.Named.{is_named}
use Rattle.host_widgets.specs.Orders.{quiet, sends}
use Rattle.host_widgets.proofs.ControlLists.{Takes, takes-by}
use Rattle.host_widgets.proofs.WalksHold.{none-taken}
use Rattle.host_ctl.specs.ControlAsks.{channels_of, spread, named_control, set_fault, installing_fault, bytes_fault, get_fault, read_fault}
use Rattle.host_ctl.specs.ControlOrders.{setting_order, set_order, installing_order, bytes_order, control_told, named_at, get_order, control_answer, ask_acts, reading_order, read_order}
use Rattle.host_ctl.specs.ControlAnswers.{MayInstall, outcome_of}
use Rattle.host_ctl.specs.ControlPlaces.{control_place, control_here, record_here}
use Rattle.host_ctl.proofs.ControlTests.{loaded, place-low}
use Rattle.host_ctl.proofs.ControlsThere.{live, at-here, was-here, named-here, lost-here}
use Rattle.host_ctl.proofs.BlobTaken.{bytes-taken}
use Rattle.host_ctl.proofs.BlobTests.{installable}
use Rattle.host_ctl.proofs.OrdersTaken.{set-taken, read-taken}
use Rattle.sof_session.specs.Commands.{answer_by}
use Rattle.sof_session.specs.SessionCalls.{told_answer}
use Rattle.sof_session.proofs.PartCounts.{few-numbers, few-kept}
use Rattle.sof_session.proofs.SentOrders.{IsSent, IsSentCall, sends-answer}

-- ---- their orders send few acts, or none

-- an order without acts sends none, whatever the power
quiet-sends : (power : Power) (answer : Answer) → quiet answer ≡ sends power [] (λ now. now) answer
quiet-sends Unloaded answer = refl
quiet-sends power answer = refl

sent-quiet : (kept : Record) (answer : Answer) → IsSent kept (quiet answer)
sent-quiet kept answer = record { acts = []; done = λ now. now; answer = answer; is = quiet-sends kept.power answer; few = omega arith }

sent-setting : (plan : Plan) (kept : Record) (values : List ℕ) (o : Option ControlPlan) → IsSent kept (setting_order plan kept values o)
sent-setting plan kept values None = sent-quiet kept Done
sent-setting plan kept values (Some k) =
    let all = spread (unwrap_or (channels_of k.kind) 0) values in
    record { acts = Put k.comp all ∷ []; done = with_control plan k.comp (with_values all); answer = Done; is = refl; few = omega arith }

pub sent-set : (plan : Plan) (kept : Record) (name values : List ℕ) → IsSent kept (set_order plan kept name values)
sent-set plan kept name values = sent-setting plan kept values (named_control plan name)

pub sent-get : (plan : Plan) (kept : Record) (name : List ℕ) → IsSent kept (get_order plan kept name)
sent-get plan kept name = sent-quiet kept (control_told (named_at plan kept name))

-- bytes that may be installed have few parts
few-installed : (kind : ControlKind) (blob : List ℕ) → MayInstall kind blob → length (part_numbers blob) ≤ 4
few-installed (Blob most initial) blob may = few-numbers blob may.1
few-installed kind blob may = absurd may

sent-installing : (plan : Plan) (kept : Record) (name blob : List ℕ) (o : Option ControlPlan) → installing_fault name blob o ≡ None → IsSent kept (installing_order plan kept blob o)
sent-installing plan kept name blob None none = sent-quiet kept Done
sent-installing plan kept name blob (Some k) none = record {
  acts = part_acts k.comp blob;
  done = with_control plan k.comp (with_blob blob);
  answer = Done;
  is = refl;
  few = omega (arith, few-installed k.kind blob (installable name k.kind blob none), length-map (part_numbers blob) (Part k.comp blob));
}

pub sent-bytes : (plan : Plan) (kept : Record) (name blob : List ℕ) → bytes_fault plan kept name blob ≡ None → IsSent kept (bytes_order plan kept name blob)
sent-bytes plan kept name blob none =
    sent-installing plan kept name blob (named_control plan name) (loaded kept.power (installing_fault name blob (named_control plan name)) none).1

few-asks : (comp : ℕ) (kind : ControlKind) (c : ControlRec) → Takes kind c → length (ask_acts comp kind c) ≤ 900
few-asks comp (Blob most initial) c takes = omega (arith, few-kept c.blob takes, length-map (part_numbers c.blob) (Ask comp))
few-asks comp kind c takes = omega arith

sent-asks : (kept : Record) (k : ControlPlan) (c : ControlRec) → Takes k.kind c → IsSent kept (reading_order kept (Some (k, c)))
sent-asks kept k c takes = record { acts = ask_acts k.comp k.kind c; done = λ now. now; answer = control_answer k.kind c; is = refl; few = few-asks k.comp k.kind c takes }

pub sent-read : (plan : Plan) → IsSound plan → (kept : Record) → IsRecordOf plan kept → (name : List ℕ) → IsSent kept (read_order plan kept name)
sent-read plan sound kept is name = by (control_place plan name) refl
  where
    by : (place : Option ℕ) → control_place plan name ≡ place → IsSent kept (read_order plan kept name)
    by None at =
        let lost : named_control plan name ≡ None = lost-here (λ k. is_named plan name k.comp) plan.controls at in
        subst (λ (o : Option ControlPlan). IsSent kept (reading_order kept (option_and_then (λ (x : ControlPlan). control_at plan kept x.comp) o))) (sym lost) (sent-quiet kept Done)
    by (Some i) at =
        let low = place-low plan name i at in
        let k = control_here plan i in
        let r = record_here kept i in
        let there : named_at plan kept name ≡ Some (k, r) = ap (option_and_then (λ (x : ControlPlan). control_at plan kept x.comp)) (named-here plan sound kept is i low name at) ∙ at-here plan sound kept is i low in
        let on = live plan sound kept is i low in
        subst (λ (o : Option (ControlPlan × ControlRec)). IsSent kept (reading_order kept o)) (sym there)
        (sent-asks kept k r (takes-by k.kind on.comp.kind r on.kind (was-here plan sound kept is i low)))

-- ---- the calls

module _ (plan : Plan) (sound : IsSound plan) (kept : Record) (is : IsRecordOf plan kept) (name : List ℕ) where
  pub set-call : (values : List ℕ) → IsSentCall plan kept (set_fault plan kept name values) (set_order plan kept name values)
  set-call values = record { sent = λ none. sent-set plan kept name values; taken = set-taken plan sound kept is name values }

  pub bytes-call : (blob : List ℕ) → IsSentCall plan kept (bytes_fault plan kept name blob) (bytes_order plan kept name blob)
  bytes-call blob = record { sent = sent-bytes plan kept name blob; taken = bytes-taken plan sound kept is name blob }

  pub get-call : IsSentCall plan kept (get_fault plan kept name) (get_order plan kept name)
  get-call = record { sent = λ none. sent-get plan kept name; taken = λ none. none-taken plan false kept }

  pub read-call : IsSentCall plan kept (read_fault plan kept name) (read_order plan kept name)
  read-call = record { sent = λ none. sent-read plan sound kept is name; taken = read-taken plan sound kept is name }

-- ---- what they answer once they are done

setting-answers : (plan : Plan) (kept : Record) (values : List ℕ) (o : Option ControlPlan) → (setting_order plan kept values o).answer ≡ Done
setting-answers plan kept values None = refl
setting-answers plan kept values (Some k) =
    let all = spread (unwrap_or (channels_of k.kind) 0) values in
    sends-answer kept.power (Put k.comp all ∷ []) (with_control plan k.comp (with_values all)) Done

pub set-answers : (plan : Plan) (kept : Record) (name values : List ℕ) → (set_order plan kept name values).answer ≡ Done
set-answers plan kept name values = setting-answers plan kept values (named_control plan name)

pub told-answers : (asked : Result Answer HostFault) (answer : Answer) → IfOk asked (λ a. a ≡ answer) → told_answer asked ≡ answer_by answer (outcome_of asked)
told-answers (Ok a) answer is = is
told-answers (Err fault) answer is = refl

installing-answers : (plan : Plan) (kept : Record) (blob : List ℕ) (o : Option ControlPlan) → (installing_order plan kept blob o).answer ≡ Done
installing-answers plan kept blob None = refl
installing-answers plan kept blob (Some k) = sends-answer kept.power (part_acts k.comp blob) (with_control plan k.comp (with_blob blob)) Done

pub bytes-answers : (plan : Plan) (kept : Record) (name blob : List ℕ) → (bytes_order plan kept name blob).answer ≡ Done
bytes-answers plan kept name blob = installing-answers plan kept blob (named_control plan name)
