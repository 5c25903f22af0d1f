use Rattle.std.proofs.Common.{◌≡◌, true, List, get_or, sym, ap, ◌∙◌}
use Rattle.host_widgets.specs.Sides.{world_of}
use Rattle.host_widgets.specs.declared.kept.StreamRec.{StreamRec}
use Rattle.host_widgets.specs.HostRecord.{closed}
use Rattle.host_pcm.specs.Asks.{stream_at}
use Rattle.host_pcm.proofs.AtRest.{is_idle, idle-from}
use Rattle.host_pcm.proofs.AnsweredCalls.{free-answered, rest-answered}
use Rattle.host_pcm.proofs.carrying.close_on.Goals as goal

pub returns-in-Closed-clause-answered : goal.returns-in-Closed-clause-answered
returns-in-Closed-clause-answered g c =
    let kept = c.args.side.now.kept.now in
    let idle : is_idle (stream_at kept c.args.place).found ≡ true = ap (λ (rs : List StreamRec). is_idle (get_or rs c.args.place closed).found) (sym c.items.ensures) ∙ idle-from _ c.in-Closed.is in
    rest-answered g.P.Dsp.means c.args.side.now c.args.place c.requires.ready c.requires.place (λ on. idle) c.shut.new.kept c.shut.ensures

pub returns-in-Prepared-clause-answered : goal.returns-in-Prepared-clause-answered
returns-in-Prepared-clause-answered g c =
    let found = ap (λ (rs : List StreamRec). (get_or rs c.args.place closed).found) (sym c.items.ensures) ∙ c.in-Prepared.is in
    free-answered g.P.Dsp.means c.args.side.now c.args.place c.requires.power found c.free.new.side.kept.now (world_of c.free.new.side) c.free.result c.free.ensures.answered
