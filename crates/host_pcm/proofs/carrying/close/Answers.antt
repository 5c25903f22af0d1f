use Rattle.std.proofs.Common.{◌≡◌, true, refl}
use Rattle.host_widgets.specs.Sides.{world_of}
use Rattle.host_widgets.specs.declared.kept.Power.TheVariants.{On}
use Rattle.host_pcm.specs.Asks.{stream_at}
use Rattle.host_pcm.proofs.AnsweredCalls.{closed-record, rest-answered}
use Rattle.host_pcm.proofs.AsksCarried.{close-carried}
use Rattle.host_pcm.proofs.AtRest.{is_idle, idle-while-off}
use Rattle.host_pcm.proofs.carrying.close.Goals as goal

pub returns-in-On-clause-record_is : goal.returns-in-On-clause-record_is
returns-in-On-clause-record_is g c =
    closed-record g.P.Dsp.means c.args.side.now c.args.place c.requires.ready.record_is c.close_on.new.side.kept.now (world_of c.close_on.new.side) c.close_on.result c.close_on.ensures.answered

pub returns-in-On-clause-agree : goal.returns-in-On-clause-agree
returns-in-On-clause-agree g c = λ agrees.
    close-carried g.P.Dsp.means c.args.side.now.plan.now c.requires.ready.plan c.args.place c.requires.place c.args.side.now.kept.now c.requires.loaded c.args.side.now.heap (world_of c.args.side.now) agrees c.close_on.new.side.kept.now (world_of c.close_on.new.side) c.close_on.result c.close_on.ensures.answered

pub returns-in-Unloaded : goal.returns-in-Unloaded
returns-in-Unloaded g c =
    let kept = c.args.side.now.kept.now in
    let idle : kept.power ≡ On → is_idle (stream_at kept c.args.place).found ≡ true = λ on. idle-while-off kept.power c.requires.loaded c.in-Unloaded.is on in
    let answered = rest-answered g.P.Dsp.means c.args.side.now c.args.place c.requires.ready c.requires.place idle c.shut.new.kept c.shut.ensures in
    record {
      answered = answered;
      agree = λ agrees. close-carried g.P.Dsp.means c.args.side.now.plan.now c.requires.ready.plan c.args.place c.requires.place kept c.requires.loaded c.args.side.now.heap (world_of c.args.side.now) agrees c.shut.new.kept (world_of c.args.side.now) _ answered;
      record_is = λ ok. closed-record g.P.Dsp.means c.args.side.now c.args.place c.requires.ready.record_is c.shut.new.kept (world_of c.args.side.now) _ answered ok;
      same = record { plan = refl; heap = refl; kept = refl; dsp = refl; io = refl; out = refl };
    }
