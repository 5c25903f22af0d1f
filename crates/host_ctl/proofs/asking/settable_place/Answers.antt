use Rattle.std.proofs.Common.{Some, sym, ap, ◌∙◌}
use Rattle.tplg_plan.specs.declared.plans.ControlPlan.{ControlPlan}
use Rattle.host_widgets.specs.declared.answers.HostFault.TheVariants.{NoSuch}
use Rattle.host_ctl.specs.ControlAsks.{channels_of, kind_fault, values_fault}
use Rattle.host_ctl.specs.ControlPlaces.{control_here}
use Rattle.host_ctl.proofs.ControlCalls.{place-control}
use Rattle.host_ctl.proofs.ControlTests.{place-low, set-goes}
use Rattle.host_ctl.proofs.asking.settable_place.Goals as goal

pub returns-in_default-clause-fault : goal.returns-in_default-clause-fault
returns-in_default-clause-fault c =
    let plan = c.args.plan.now in
    let name = c.args.name.now in
    let i = c.in_ok-place.place in
    let here = place-control plan i (place-low plan name i c.in_ok-place.ensures.place) c.items.result.now _ c.items.ensures in
    let none = ap (λ (k : ControlPlan). channels_of k.kind) (sym here) ∙ sym c.channels_of.ensures ∙ c.in_default.is in
    set-goes plan c.args.kept.now name c.args.values.now i c.in_ok-place.ensures.none c.in_ok-place.ensures.place ∙ ap (λ o. kind_fault name (control_here plan i).kind o c.args.values.now) none
    ∙ ap (λ n. Some (NoSuch n)) (sym c.copied.ensures)

pub returns-in-Some-values_fault-clause-fault : goal.returns-in-Some-values_fault-clause-fault
returns-in-Some-values_fault-clause-fault c =
    let plan = c.args.plan.now in
    let name = c.args.name.now in
    let i = c.in_ok-place.place in
    let here = place-control plan i (place-low plan name i c.in_ok-place.ensures.place) c.items.result.now _ c.items.ensures in
    let some = ap (λ (k : ControlPlan). channels_of k.kind) (sym here) ∙ sym c.channels_of.ensures ∙ c.in-Some.is in
    set-goes plan c.args.kept.now name c.args.values.now i c.in_ok-place.ensures.none c.in_ok-place.ensures.place ∙ ap (λ o. kind_fault name (control_here plan i).kind o c.args.values.now) some
    ∙ ap (λ (k : ControlPlan). values_fault k.kind c.in-Some.channels c.args.values.now) (sym here) ∙ sym c.values_fault.ensures ∙ c.in-Some-values_fault.is

pub returns-in-None-clause-none : goal.returns-in-None-clause-none
returns-in-None-clause-none c =
    let plan = c.args.plan.now in
    let name = c.args.name.now in
    let i = c.in_ok-place.place in
    let here = place-control plan i (place-low plan name i c.in_ok-place.ensures.place) c.items.result.now _ c.items.ensures in
    let some = ap (λ (k : ControlPlan). channels_of k.kind) (sym here) ∙ sym c.channels_of.ensures ∙ c.in-Some.is in
    set-goes plan c.args.kept.now name c.args.values.now i c.in_ok-place.ensures.none c.in_ok-place.ensures.place ∙ ap (λ o. kind_fault name (control_here plan i).kind o c.args.values.now) some
    ∙ ap (λ (k : ControlPlan). values_fault k.kind c.in-Some.channels c.args.values.now) (sym here) ∙ sym c.values_fault.ensures ∙ c.in-None.is
