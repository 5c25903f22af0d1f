use Rattle.std.proofs.Common.{◌<◌, length, subst, sym}
use Rattle.host_widgets.specs.Sides.{world_of}
use Rattle.host_widgets.specs.declared.kept.Record.{Record}
use Rattle.host_widgets.proofs.PartFacts.{blob-long}
use Rattle.host_widgets.proofs.Walks.{handed_on}
use Rattle.host_ctl.proofs.BlobCalls.{a-blob}
use Rattle.host_ctl.proofs.ControlAnswered.{parts-failed, parts-passed, parts-stay}
use Rattle.host_ctl.proofs.ControlCalls.{place-control}
use Rattle.host_ctl.proofs.ControlsThere.{within}
use Rattle.host_ctl.proofs.carrying.install.Goals as goal

pub pass_parts-requires-clause-blob : goal.pass_parts-requires-clause-blob
pass_parts-requires-clause-blob g c = a-blob c.args.side.now.plan.now c.requires.ready.plan c.args.side.now.kept.now c.requires.ready.record_is c.args.place c.requires.place c.args.blob.now c.requires.blob

pub pass_parts-requires-clause-on : goal.pass_parts-requires-clause-on
pass_parts-requires-clause-on g c = c.requires.ready.on c.requires.power

pub returns-in_err-pass_parts : goal.returns-in_err-pass_parts
returns-in_err-pass_parts g c =
    let comp = place-control c.args.side.now.plan.now c.args.place c.requires.place c.items.result.now c.index-items-place.result c.items.ensures in
    record {
      answered = parts-failed g.P.Dsp.means c.args.side.now c.requires.ready c.args.place c.requires.place c.args.blob.now c.requires.blob c.pass_parts.new.side.kept.now (world_of c.pass_parts.new.side) c.pass_parts.result _ comp c.pass_parts.ensures.passes c.requires.power
          c.in_err-pass_parts.field-0.0 c.in_err-pass_parts.was _ (handed_on c.from_residual.result c.in_err-pass_parts.field-0.0 c.from_residual.ensures);
      same = c.pass_parts.ensures.same;
    }

pub keep_blob-requires : goal.keep_blob-requires
keep_blob-requires g c =
    let plan = c.args.side.now.plan.now in
    let kept = c.args.side.now.kept.now in
    let comp = place-control c.args.side.now.plan.now c.args.place c.requires.place c.items.result.now c.index-items-place.result c.items.ensures in
    let stays = parts-stay g.P.Dsp.means c.args.side.now c.requires.ready c.args.place c.requires.place c.args.blob.now c.requires.blob c.pass_parts.new.side.kept.now (world_of c.pass_parts.new.side) c.pass_parts.result _ comp c.pass_parts.ensures.passes c.in_ok-pass_parts.was in
    record {
      place = subst (λ (now : Record). c.args.place < length now.controls) (sym stays) (within plan c.requires.ready.plan kept c.requires.ready.record_is c.args.place c.requires.place);
      few = (blob-long c.args.blob.now (a-blob plan c.requires.ready.plan kept c.requires.ready.record_is c.args.place c.requires.place c.args.blob.now c.requires.blob)).1;
    }

pub returns : goal.returns
returns g c =
    let comp = place-control c.args.side.now.plan.now c.args.place c.requires.place c.items.result.now c.index-items-place.result c.items.ensures in
    let same = c.pass_parts.ensures.same in
    record {
      answered = parts-passed g.P.Dsp.means c.args.side.now c.requires.ready c.args.place c.requires.place c.args.blob.now c.requires.blob c.pass_parts.new.side.kept.now (world_of c.pass_parts.new.side) c.pass_parts.result _ comp c.pass_parts.ensures.passes c.requires.power c.in_ok-pass_parts.was c.keep_blob.new.kept c.keep_blob.ensures;
      same = record { plan = same.plan; heap = same.heap; kept = same.kept; dsp = same.dsp; io = same.io; out = same.out };
    }
