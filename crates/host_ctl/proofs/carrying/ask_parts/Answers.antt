use Rattle.std.proofs.Common.{◌≡◌, ◌<◌, ℕ, List, length, true, subst, sym, ap, ◌∙◌}
use Rattle.std.specs.Prelude.{IfOk}
use Rattle.mbox_link.specs.BlobParts.{parts}
use Rattle.tplg_plan.specs.Ranges.{is_initial}
use Rattle.tplg_plan.specs.declared.plans.ControlKind.{ControlKind}
use Rattle.host_widgets.specs.declared.answers.Answer.TheVariants.{Bytes}
use Rattle.host_widgets.specs.declared.kept.ControlRec.{ControlRec}
use Rattle.host_widgets.specs.Host.{Outcome}
use Rattle.host_ctl.specs.ControlAnswers.{HasSet}
use Rattle.host_ctl.specs.ControlOrders.{control_answer}
use Rattle.host_ctl.specs.ControlPlaces.{control_here, record_here}
use Rattle.host_ctl.proofs.ControlCalls.{place-record}
use Rattle.host_ctl.proofs.ControlParts.{blob-kind, initial-here}
use Rattle.host_ctl.proofs.ControlsThere.{within}
use Rattle.host_ctl.proofs.carrying.ask_parts.Goals as goal

pub bounds-items-place : goal.bounds-items-place
bounds-items-place g c =
    subst (λ (rs : List ControlRec). c.args.place < length rs) (sym c.items.ensures) (within c.args.side.now.plan.now c.requires.ready.plan c.args.side.now.kept.now c.requires.ready.record_is c.args.place c.requires.place)

pub parts_of-count-requires : goal.parts_of-count-requires
parts_of-count-requires g c =
    let plan = c.args.side.now.plan.now in
    let kept = c.args.side.now.kept.now in
    let is = c.requires.ready.record_is in
    let i = c.args.place in
    let kind = blob-kind (control_here plan i).kind c.requires.kind in
    let there = within plan c.requires.ready.plan kept is i c.requires.place in
    let same = ap (λ (r : ControlRec). r.blob) (place-record kept.controls i there c.items.result.now _ c.items.ensures) in
    subst (λ (blob : List ℕ). is_initial blob ≡ true) (sym (c.items-2.ensures.value ∙ same)) (initial-here plan c.requires.ready.plan kept is i c.requires.place kind.0 kind.1 kind.2)

pub ask_all-requires-clause-count : goal.ask_all-requires-clause-count
ask_all-requires-clause-count g c =
    let plan = c.args.side.now.plan.now in
    let kept = c.args.side.now.kept.now in
    let i = c.args.place in
    let there = within plan c.requires.ready.plan kept c.requires.ready.record_is i c.requires.place in
    let same = ap (λ (r : ControlRec). r.blob) (place-record kept.controls i there c.items.result.now _ c.items.ensures) in
    c.parts_of-count.ensures ∙ ap parts (c.items-2.ensures.value ∙ same)

pub returns-clause-told : goal.returns-clause-told
returns-clause-told g c set =
    let plan = c.args.side.now.plan.now in
    let kept = c.args.side.now.kept.now in
    let i = c.args.place in
    let kind = blob-kind (control_here plan i).kind c.requires.kind in
    let told = subst (λ (o : Outcome). IfOk o (λ done. (c.ask_all.new.told.items ≡ (record_here kept i).blob) × HasSet g.P.Dsp.means plan kept (control_here plan i).comp c.ask_all.new.side.dsp.now)) c.in_ok-ask_all.was (c.ask_all.ensures.told set) in
    (c.bytes_answer.ensures ∙ ap Bytes told.0 ∙ ap (λ (q : ControlKind). control_answer q (record_here kept i)) (sym kind.2), told.1)
