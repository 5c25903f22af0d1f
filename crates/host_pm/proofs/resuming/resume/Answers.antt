use Rattle.std.proofs.Common.{Err, refl, ap, rules, subst}
use Rattle.host_widgets.specs.Sides.{world_of}
use Rattle.mbox_link.specs.Calls.{World, world}
use Rattle.host_widgets.specs.declared.answers.HostFault.TheVariants.{NotLoaded, State}
use Rattle.host_widgets.specs.declared.kept.Found.TheVariants.{On}
use Rattle.host_widgets.specs.declared.kept.Record.{Record}
use Rattle.host_widgets.specs.Orders.{resuming}
use Rattle.host_widgets.specs.TestedOrders.{Tested}
use Rattle.host_widgets.proofs.LoadOrders.{told-early, done-late}
use Rattle.host_pm.specs.PowerTests.{resume_fault}
use Rattle.host_pm.proofs.resuming.resume.Goals as goal

pub returns-in-Unloaded-clause-carried : goal.returns-in-Unloaded-clause-carried
returns-in-Unloaded-clause-carried g c =
    let plan = c.args.plan.now in
    let kept = c.args.kept.now in
    let w = world c.args.dsp.now c.args.io.now c.args.out.now in
    told-early g.P.Dsp.means plan c.args.heap (resume_fault kept.power) (resuming plan kept) kept kept w w (Err NotLoaded) NotLoaded (ap resume_fault c.in-Unloaded.is) refl refl refl

pub returns-in-On-clause-carried : goal.returns-in-On-clause-carried
returns-in-On-clause-carried g c =
    let plan = c.args.plan.now in
    let kept = c.args.kept.now in
    let w = world c.args.dsp.now c.args.io.now c.args.out.now in
    told-early g.P.Dsp.means plan c.args.heap (resume_fault kept.power) (resuming plan kept) kept kept w w (Err (State On)) (State On) (ap resume_fault c.in-On.is) refl refl refl

pub returns-in-Off-clause-carried : goal.returns-in-Off-clause-carried
returns-in-Off-clause-carried g c =
    let plan = c.args.plan.now in
    let kept = c.args.kept.now in
    let w = world c.args.dsp.now c.args.io.now c.args.out.now in
    let v = world_of c.power_up.new.side in
    subst (λ (e : Record × World g.row.P.Denot). Tested g.P.Dsp.means plan c.args.heap (resume_fault kept.power) (resuming plan kept) kept e.0 w e.1 c.power_up.result) (search rules)
    (done-late g.P.Dsp.means plan c.args.heap (resume_fault kept.power) (resuming plan kept) kept c.power_up.new.side.kept.now w v c.power_up.result (ap resume_fault c.in-Off.is) c.power_up.ensures.carried)
