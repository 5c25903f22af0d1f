use Rattle.std.proofs.Common.{sym, ap, ◌∙◌}
use Rattle.tplg_plan.specs.declared.plans.ControlPlan.{ControlPlan}
use Rattle.host_ctl.specs.ControlAsks.{bytes_fault_by}
use Rattle.host_ctl.proofs.BlobTests.{bytes-go}
use Rattle.host_ctl.proofs.ControlCalls.{place-control}
use Rattle.host_ctl.proofs.ControlTests.{place-low}
use Rattle.host_ctl.proofs.asking.installable_place.Goals as goal

pub returns-in-Some-clause-fault : goal.returns-in-Some-clause-fault
returns-in-Some-clause-fault c =
    let plan = c.args.plan.now in
    let name = c.args.name.now in
    let i = c.in_ok-place.place in
    let here = place-control plan i (place-low plan name i c.in_ok-place.ensures.place) c.items.result.now _ c.items.ensures in
    bytes-go plan c.args.kept.now name c.args.bytes.now i c.in_ok-place.ensures.none c.in_ok-place.ensures.place
    ∙ ap (λ (k : ControlPlan). bytes_fault_by name c.args.bytes.now k.kind) (sym here) ∙ sym c.bytes_fault.ensures ∙ c.in-Some.is

pub returns-in-None-clause-none : goal.returns-in-None-clause-none
returns-in-None-clause-none c =
    let plan = c.args.plan.now in
    let name = c.args.name.now in
    let i = c.in_ok-place.place in
    let here = place-control plan i (place-low plan name i c.in_ok-place.ensures.place) c.items.result.now _ c.items.ensures in
    bytes-go plan c.args.kept.now name c.args.bytes.now i c.in_ok-place.ensures.none c.in_ok-place.ensures.place
    ∙ ap (λ (k : ControlPlan). bytes_fault_by name c.args.bytes.now k.kind) (sym here) ∙ sym c.bytes_fault.ensures ∙ c.in-None.is
