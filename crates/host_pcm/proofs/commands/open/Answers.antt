use Rattle.std.proofs.Common.{Ok, refl}
use Rattle.mbox_link.specs.Calls.{world}
use Rattle.host_pcm.specs.declared.asking.Ask.TheVariants.{Opening}
use Rattle.host_pcm.proofs.HostTests.{found_place}
use Rattle.host_pcm.proofs.AsksCarried.{asked-carried, opened-answered, opened-asked}
use Rattle.host_pcm.proofs.commands.open.Goals as goal

pub returns : goal.returns
returns g c =
    let means = g.P.Dsp.means in
    let plan = c.args.plan.now in
    let kept = c.args.kept.now in
    let name = c.args.name.now in
    let heap = c.args.heap in
    let w = world c.args.dsp.now c.args.io.now c.args.out.now in
    let k = c.in_ok-place.place in
    let at = found_place plan kept name Opening c.tested.result k c.tested.ensures.place c.tested.ensures.none c.in_ok-place.was in
    record {
      asked = opened-asked plan kept name Opening k at means heap w c.requires.plan c.requires.kept.streams c.open.new.kept c.open.ensures refl;
      agree = λ agrees. (asked-carried plan kept name Opening k at means heap w c.requires.plan agrees c.open.new.kept w (Ok tt) (opened-answered plan kept name Opening k at means heap w c.requires.plan c.requires.kept.streams c.open.new.kept c.open.ensures refl)).1;
    }
