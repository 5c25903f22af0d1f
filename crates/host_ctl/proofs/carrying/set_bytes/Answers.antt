use Rattle.std.proofs.Common.{sym, refl, ◌∙◌}
use Rattle.host_widgets.proofs.PartFacts.{blob-long}
use Rattle.host_ctl.proofs.BlobCalls.{a-blob}
use Rattle.host_ctl.proofs.ControlAnswered.{parts-rest}
use Rattle.host_ctl.proofs.ControlsThere.{within}
use Rattle.host_ctl.proofs.ControlTests.{is-off}
use Rattle.host_ctl.proofs.carrying.set_bytes.Goals as goal

pub keep_blob-requires-clause-place : goal.keep_blob-requires-clause-place
keep_blob-requires-clause-place g c = within c.args.side.now.plan.now c.requires.ready.plan c.args.side.now.kept.now c.requires.ready.record_is c.args.place c.requires.place

pub keep_blob-requires-clause-few : goal.keep_blob-requires-clause-few
keep_blob-requires-clause-few g c =
    (blob-long c.args.blob.now (a-blob c.args.side.now.plan.now c.requires.ready.plan c.args.side.now.kept.now c.requires.ready.record_is c.args.place c.requires.place c.args.blob.now c.requires.blob)).1

pub returns-in-Unloaded : goal.returns-in-Unloaded
returns-in-Unloaded g c =
    let off = is-off c.args.side.now.kept.now.power c.requires.loaded c.in-Unloaded.is in
    record {
      answered = parts-rest g.P.Dsp.means c.args.side.now c.requires.ready c.args.place c.requires.place c.args.blob.now c.requires.blob (λ on. cc (sym off ∙ on)) c.keep_blob.new.kept c.keep_blob.ensures;
      same = record { plan = refl; heap = refl; kept = refl; dsp = refl; io = refl; out = refl };
    }
