use Rattle.std.proofs.Common.{refl, subst}
use Rattle.host_widgets.specs.Sides.{world_of}
use Rattle.mbox_link.specs.Calls.{world}
use Rattle.host_widgets.specs.declared.kept.Power.{Power}
use Rattle.host_widgets.specs.Host.{Sides}
use Rattle.host_widgets.specs.ViewOf.{record_view}
use Rattle.host_widgets.proofs.ActSteps.{state-with}
use Rattle.host_pm.proofs.PowerOrders.{went-down}
use Rattle.host_pm.proofs.suspending.go_down.Goals as goal

pub send_down-sent-requires-clause-on : goal.send_down-sent-requires-clause-on
send_down-sent-requires-clause-on g c = c.requires.ready.on c.requires.power

pub returns-clause-down : goal.returns-clause-down
returns-clause-down g c = record {
  sent = world c.send_down-sent.new.dsp c.send_down-sent.new.io c.send_down-sent.new.out;
  told = c.send_down-sent.ensures;
  record_is = c.link_down.ensures.kept;
  cut = (world c.link_down.new.dsp c.link_down.new.io c.link_down.new.out, c.link_down.ensures.calls, refl);
}

pub returns-clause-carried : goal.returns-clause-carried
returns-clause-carried g c agrees =
    let means = g.P.Dsp.means in
    let plan = c.args.side.now.plan.now in
    let kept = c.args.side.now.kept.now in
    let s = state-with (means.on c.args.side.now.dsp.now) (record_view plan kept) (subst (λ (x : Power). Sides means plan kept c.args.side.now.dsp.now x) c.requires.power agrees.sides) in
    let w = world_of c.args.side.now in
    let sent = world c.send_down-sent.new.dsp c.send_down-sent.new.io c.send_down-sent.new.out in
    let v = world c.link_down.new.dsp c.link_down.new.io c.link_down.new.out in
    went-down means plan c.args.side.now.heap c.requires.ready.plan kept c.link_down.new.kept c.requires.ready.record_is w sent v c.send_down-sent.result s.0 s.1 s.2 c.send_down-sent.ensures c.link_down.ensures.calls c.link_down.ensures.kept

pub returns-clause-agree : goal.returns-clause-agree
returns-clause-agree g c = c.link_down.ensures.agree c.requires.ready.record_is
