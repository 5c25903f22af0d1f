use Rattle.std.proofs.Common.{sym, refl, ◌∙◌}
use Rattle.host_widgets.specs.Sides.{world_of}
use Rattle.host_ctl.proofs.ControlAnswered.{put-answered, put-rests}
use Rattle.host_ctl.proofs.ControlsThere.{within}
use Rattle.host_ctl.proofs.ControlTests.{is-off}
use Rattle.host_ctl.proofs.carrying.set.Goals as goal

pub returns-in-On-clause-answered : goal.returns-in-On-clause-answered
returns-in-On-clause-answered g c =
    put-answered g.P.Dsp.means c.args.side.now c.requires.ready c.args.place c.requires.place c.args.values.now c.put.new.side.kept.now (world_of c.put.new.side) c.put.result c.in-On.is c.put.ensures.answered

pub keep-requires : goal.keep-requires
keep-requires g c = within c.args.side.now.plan.now c.requires.ready.plan c.args.side.now.kept.now c.requires.ready.record_is c.args.place c.requires.place

pub returns-in-Unloaded : goal.returns-in-Unloaded
returns-in-Unloaded g c =
    let off = is-off c.args.side.now.kept.now.power c.requires.loaded c.in-Unloaded.is in
    record {
      answered = put-rests g.P.Dsp.means c.args.side.now c.requires.ready c.args.place c.requires.place c.args.values.now (λ on. cc (sym off ∙ on)) c.keep.new.kept c.keep.ensures;
      same = record { plan = refl; heap = refl; kept = refl; dsp = refl; io = refl; out = refl };
    }
