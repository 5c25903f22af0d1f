use Rattle.std.proofs.Common.{refl, subst, sym, ap, ◌∙◌}
use Rattle.host_widgets.specs.declared.answers.Answer.TheVariants.{Done}
use Rattle.host_widgets.specs.declared.kept.Record.{Record}
use Rattle.host_widgets.specs.ActLists.{part_acts}
use Rattle.host_widgets.specs.Host.{IsRecordOf}
use Rattle.host_widgets.specs.HostActs.{with_blob}
use Rattle.host_widgets.specs.Kept.{with_control}
use Rattle.host_widgets.specs.Orders.{Procedure}
use Rattle.host_widgets.proofs.PartFacts.{blob-long}
use Rattle.host_ctl.specs.ControlPlaces.{control_here}
use Rattle.host_ctl.proofs.BlobCalls.{a-blob, now-record}
use Rattle.host_ctl.proofs.BlobTests.{installable-here}
use Rattle.host_ctl.proofs.ControlsThere.{blob-changed, within}
use Rattle.host_ctl.proofs.ControlOrdered.{bytes-named, sends-done}
use Rattle.host_ctl.proofs.ControlTests.{place-low}
use Rattle.host_ctl.proofs.commands.keep_bytes.Goals as goal

pub keep_blob-requires : goal.keep_blob-requires
keep_blob-requires c =
    let low = place-low c.args.plan.now c.args.name.now c.in_ok-place.place c.in_ok-place.ensures.place in
    record {
      place = within c.args.plan.now c.requires.plan c.args.kept.now c.requires.kept c.in_ok-place.place low;
      few = (blob-long c.args.blob.now (a-blob c.args.plan.now c.requires.plan c.args.kept.now c.requires.kept c.in_ok-place.place low c.args.blob.now (installable-here c.args.plan.now c.requires.plan c.args.kept.now c.requires.kept c.args.name.now c.in_ok-place.place c.in_ok-place.ensures.place c.args.blob.now c.in_ok-place.ensures.none))).1;
    }

pub returns : goal.returns
returns c =
    let plan = c.args.plan.now in
    let kept = c.args.kept.now in
    let name = c.args.name.now in
    let sound = c.requires.plan in
    let is = c.requires.kept in
    let i = c.in_ok-place.place in
    let at = c.in_ok-place.ensures.place in
    let low = place-low plan name i at in
    let k = control_here plan i in
    let may = installable-here plan sound kept is name i at c.args.blob.now c.in_ok-place.ensures.none in
    record {
      kept = record {
        early = λ f e. absurd (cc (sym c.in_ok-place.ensures.none ∙ e));
        late = λ none. (
          refl,
          c.keep_blob.ensures ∙ blob-changed plan sound kept is i low c.args.blob.now
              ∙ ap (λ (f : Record → Record). f kept) (sym (sends-done kept.power (part_acts k.comp c.args.blob.now) (with_control plan k.comp (with_blob c.args.blob.now)) Done))
              ∙ ap (λ (o : Procedure). o.done kept) (bytes-named plan sound kept is name i at c.args.blob.now),
        );
      };
      record_is = subst (IsRecordOf plan) (sym (c.keep_blob.ensures ∙ blob-changed plan sound kept is i low c.args.blob.now)) (now-record plan sound kept is i low c.args.blob.now may);
    }
