use Rattle.std.proofs.Common.{Ok, Err, refl, sym, ap, subst}
use Rattle.mbox_link.specs.Calls.{world}
use Rattle.host_widgets.specs.declared.kept.Power.{Power}
use Rattle.host_widgets.specs.declared.answers.HostFault.TheVariants.{NotLoaded}
use Rattle.host_widgets.specs.Host.{Sides}
use Rattle.host_widgets.specs.Orders.{Carried, unload_fault, unloading}
use Rattle.host_widgets.proofs.Records.{unloaded-agrees}
use Rattle.host_widgets.proofs.LoadOrders.{unloading_at, unload-on, unload-off, told-early, done-late}
use Rattle.host_widgets.proofs.unloading.unload.Goals as goal

pub returns-in-On-clause-agree : goal.returns-in-On-clause-agree
returns-in-On-clause-agree g c =
    unloaded-agrees g.P.Dsp.means c.args.plan.now c.forget.new.kept c.cut.new.self c.forget.ensures c.cut.ensures.on

pub returns-in-Off-clause-agree : goal.returns-in-Off-clause-agree
returns-in-Off-clause-agree g c =
    let sides = subst (λ (p : Power). Sides g.P.Dsp.means c.args.plan.now c.args.kept.now c.args.dsp.now p) c.in-Off.is c.requires.agree.sides in
    unloaded-agrees g.P.Dsp.means c.args.plan.now c.forget-in-Off.new.kept c.args.dsp.now c.forget-in-Off.ensures sides.1

pub returns-in-Unloaded-clause-carried : goal.returns-in-Unloaded-clause-carried
returns-in-Unloaded-clause-carried g c =
    let plan = c.args.plan.now in
    let kept = c.args.kept.now in
    let w = world c.args.dsp.now c.args.io.now c.args.out.now in
    told-early g.P.Dsp.means plan c.args.heap (unload_fault kept.power) (unloading plan kept) kept kept w w (Err NotLoaded) NotLoaded (ap unload_fault c.in-Unloaded.is) refl refl refl

pub returns-in-On-clause-carried : goal.returns-in-On-clause-carried
returns-in-On-clause-carried g c =
    let means = g.P.Dsp.means in
    let plan = c.args.plan.now in
    let kept = c.args.kept.now in
    let w = world c.args.dsp.now c.args.io.now c.args.out.now in
    let v = world c.cut.new.self c.args.io.now c.args.out.now in
    done-late means plan c.args.heap (unload_fault kept.power) (unloading plan kept) kept c.forget.new.kept w v (Ok tt) (ap unload_fault c.in-On.is)
    (subst (λ (p : Power). Carried means plan c.args.heap (unloading_at plan p) kept c.forget.new.kept w v (Ok tt)) (sym c.in-On.is) (unload-on means plan c.args.heap kept c.forget.new.kept w v c.forget.ensures (c.cut.ensures, refl)))

pub returns-in-Off-clause-carried : goal.returns-in-Off-clause-carried
returns-in-Off-clause-carried g c =
    let means = g.P.Dsp.means in
    let plan = c.args.plan.now in
    let kept = c.args.kept.now in
    let w = world c.args.dsp.now c.args.io.now c.args.out.now in
    done-late means plan c.args.heap (unload_fault kept.power) (unloading plan kept) kept c.forget-in-Off.new.kept w w (Ok tt) (ap unload_fault c.in-Off.is)
    (subst (λ (p : Power). Carried means plan c.args.heap (unloading_at plan p) kept c.forget-in-Off.new.kept w w (Ok tt)) (sym c.in-Off.is) (unload-off means plan c.args.heap kept c.forget-in-Off.new.kept w w c.forget-in-Off.ensures refl))
