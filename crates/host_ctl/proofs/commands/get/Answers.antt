use Rattle.std.proofs.Common.{◌<◌, List, length, Ok, subst, sym, ap, ◌∙◌}
use Rattle.mbox_link.specs.Calls.{world}
use Rattle.host_widgets.specs.declared.kept.ControlRec.{ControlRec}
use Rattle.host_ctl.specs.ControlAsks.{get_fault}
use Rattle.host_ctl.specs.ControlOrders.{get_order, named_at, control_told, told_by}
use Rattle.host_ctl.proofs.ControlsThere.{within}
use Rattle.host_ctl.proofs.ControlCalls.{place-control, place-record}
use Rattle.host_ctl.proofs.ControlOrdered.{at-named, quiet-carried}
use Rattle.host_ctl.proofs.ControlTests.{tested-late, place-low}
use Rattle.host_ctl.proofs.commands.get.Goals as goal

pub bounds-items-place-2 : goal.bounds-items-place-2
bounds-items-place-2 g c =
    let i = c.in_ok-place.place in
    subst (λ (rs : List ControlRec). i < length rs) (sym c.items-2.ensures)
    (within c.args.plan.now c.requires.plan c.args.kept.now c.requires.kept i (place-low c.args.plan.now c.args.name.now i c.in_ok-place.ensures.place))

pub returns-clause-asked : goal.returns-clause-asked
returns-clause-asked g c =
    let means = g.P.Dsp.means in
    let plan = c.args.plan.now in
    let kept = c.args.kept.now in
    let name = c.args.name.now in
    let w = world c.args.dsp.now c.args.io.now c.args.out.now in
    tested-late means plan c.args.heap (get_fault plan kept name) (get_order plan kept name) kept w kept w (Ok tt) c.in_ok-place.ensures.none (quiet-carried means plan c.args.heap (control_told (named_at plan kept name)) kept w)

pub returns-clause-answered : goal.returns-clause-answered
returns-clause-answered g c =
    let plan = c.args.plan.now in
    let kept = c.args.kept.now in
    let name = c.args.name.now in
    let i = c.in_ok-place.place in
    let at = c.in_ok-place.ensures.place in
    let low = place-low plan name i at in
    let there = within plan c.requires.plan kept c.requires.kept i low in
    let here = c.index-items-place.is ∙ place-control plan i low c.items.result.now c.index-items-place.result c.items.ensures in
    let kept_here = c.index-items-place-2.is ∙ place-record kept.controls i there c.items-2.result.now c.index-items-place-2.result c.items-2.ensures in
    c.told.ensures ∙ (λ j. told_by (here j).kind (kept_here j)) ∙ ap control_told (sym (at-named plan c.requires.plan kept c.requires.kept name i at))
