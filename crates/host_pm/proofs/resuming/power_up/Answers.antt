use Rattle.std.proofs.Common.{refl, ap, ◌∙◌, ℕ, ◌-◌, ◌%◌, ◌^◌}
use Rattle.host_widgets.specs.Sides.{world_of}
use Rattle.mbox_link.specs.Calls.{world}
use Rattle.host_widgets.specs.declared.kept.Power.TheVariants.{On}
use Rattle.host_widgets.specs.Kept.{with_power}
use Rattle.host_pm.proofs.PowerOrders.{resume-passed, resume-failed, resumed-agrees, rests-off, off-agrees}
use Rattle.host_pm.proofs.resuming.power_up.Goals as goal

pub bring_back-requires-clause-rests : goal.bring_back-requires-clause-rests
bring_back-requires-clause-rests g c = rests-off g.P.Dsp.means c.args.side.now.plan.now c.args.side.now.heap c.args.side.now.kept.now c.args.side.now.dsp.now c.requires.agree c.requires.power

pub returns-in-Err-clause-carried : goal.returns-in-Err-clause-carried
returns-in-Err-clause-carried g c =
    let w = world_of c.args.side.now in
    let m = world c.boot.new.self c.args.side.now.io.now c.args.side.now.out.now in
    let n = world_of c.bring_back.new.side in
    let v = world c.cut.new.self c.bring_back.new.side.io.now c.bring_back.new.side.out.now in
    resume-failed g.P.Dsp.means c.args.side.now.plan.now c.args.side.now.heap c.args.side.now.kept.now c.bring_back.new.side.kept.now c.bring_back.new.side.kept.now w m n _ (c.boot.ensures, refl) c.in-Err.ensures.acts _ refl v (c.cut.ensures, refl) c.in-Err.ensures.kept

pub returns-in-Err-clause-agree : goal.returns-in-Err-clause-agree
returns-in-Err-clause-agree g c =
    off-agrees g.P.Dsp.means c.args.side.now.plan.now c.args.side.now.heap c.args.side.now.kept.now c.bring_back.new.side.kept.now c.args.side.now.dsp.now c.cut.new.self c.requires.agree c.requires.power c.in-Err.ensures.kept c.cut.ensures.on

pub returns-clause-carried : goal.returns-clause-carried
returns-clause-carried g c =
    let w = world_of c.args.side.now in
    let m = world c.boot.new.self c.args.side.now.io.now c.args.side.now.out.now in
    let n = world_of c.bring_back.new.side in
    resume-passed g.P.Dsp.means c.args.side.now.plan.now c.args.side.now.heap c.args.side.now.kept.now (with_power On c.bring_back.new.side.kept.now) c.bring_back.new.side.kept.now w m n _ (c.boot.ensures, refl) c.in_default.ensures.acts refl refl

pub returns-clause-agree : goal.returns-clause-agree
returns-clause-agree g c =
    resumed-agrees g.P.Dsp.means c.args.side.now.plan.now c.args.side.now.heap c.args.side.now.kept.now c.bring_back.new.side.kept.now c.requires.agree.record_is c.in_default.ensures.kept c.bring_back.new.side.dsp.now (c.in_default.ensures.shows refl)

-- a boot puts no tick
pub returns-clause-left : goal.returns-clause-left
returns-clause-left g c ok =
    let means = g.P.Dsp.means in
    let r = c.in_default.ensures.left refl in
    let clock = ap (λ (n : ℕ). (n - means.pending c.bring_back.new.side.dsp.now) % 2 ^ 32) c.boot.ensures.quiet.pending in
    record { state = r.state; on = r.on; keeps = r.keeps; clock = r.clock ∙ clock; rings = r.rings }
