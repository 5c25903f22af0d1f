use Rattle.std.proofs.Common.{Ok, subst, rules}
use Rattle.mbox_link.specs.Calls.{World, world}
use Rattle.host_widgets.specs.AnsweredOrders.{TestedAnswered}
use Rattle.host_widgets.specs.Host.{Agrees}
use Rattle.host_widgets.specs.Sides.{world_of}
use Rattle.host_widgets.specs.declared.kept.Record.{Record}
use Rattle.host_pcm.specs.declared.asking.Ask.TheVariants.{Closing}
use Rattle.host_pcm.specs.Asks.{early_fault}
use Rattle.host_pcm.specs.StreamCalls.{Asked}
use Rattle.host_pcm.specs.StreamOrders.{stream_order}
use Rattle.host_pcm.proofs.HostTests.{found_place}
use Rattle.host_pcm.proofs.AsksCarried.{answered-asked, asked-carried, opened-answered, prepared-answered, triggered-answered}
use Rattle.host_pcm.proofs.commands.ask.Goals as goal

pub returns-in-Opening : goal.returns-in-Opening
returns-in-Opening g c =
    let means = g.P.Dsp.means in
    let plan = c.args.plan.now in
    let kept = c.args.kept.now in
    let name = c.args.name.now in
    let heap = c.args.heap in
    let w = world c.args.dsp.now c.args.io.now c.args.out.now in
    let k = c.in_ok-place.place in
    let at = found_place plan kept name c.args.ask c.tested.result k c.tested.ensures.place c.tested.ensures.none c.in_ok-place.was in
    let x = opened-answered plan kept name c.args.ask k at means heap w c.requires.plan c.requires.kept.streams c.open.new.kept c.open.ensures c.in-Opening.is in
    record {
      answered = x;
      asked = λ agrees. (asked-carried plan kept name c.args.ask k at means heap w c.requires.plan agrees c.open.new.kept w (Ok tt) x).0;
      agree = λ agrees. (asked-carried plan kept name c.args.ask k at means heap w c.requires.plan agrees c.open.new.kept w (Ok tt) x).1;
    }

pub returns-in-Preparing : goal.returns-in-Preparing
returns-in-Preparing g c =
    let means = g.P.Dsp.means in
    let plan = c.args.plan.now in
    let kept = c.args.kept.now in
    let name = c.args.name.now in
    let heap = c.args.heap in
    let w = world c.args.dsp.now c.args.io.now c.args.out.now in
    let k = c.in_ok-place.place in
    let at = found_place plan kept name c.args.ask c.tested.result k c.tested.ensures.place c.tested.ensures.none c.in_ok-place.was in
    let now = c.prepare.new.side.kept.now in
    let v = world_of c.prepare.new.side in
    let x = prepared-answered plan kept name c.args.ask k at means heap w c.in-Preparing.p c.in-Preparing.is now v c.prepare.result c.prepare.ensures.answered in
    record {
      answered = subst (λ (e : Record × World g.row.P.Denot). TestedAnswered means plan heap (early_fault plan kept name c.args.ask) (stream_order plan kept name c.args.ask) kept e.0 w e.1 c.prepare.result) (search rules) x;
      asked = λ agrees. subst (λ (e : Record × World g.row.P.Denot). Asked means plan heap name c.args.ask kept e.0 w e.1 c.prepare.result) (search rules) (asked-carried plan kept name c.args.ask k at means heap w c.requires.plan agrees now v c.prepare.result x).0;
      agree = λ agrees. subst (λ (e : Record × g.row.P.Denot). Agrees means plan e.0 e.1) (search rules) (asked-carried plan kept name c.args.ask k at means heap w c.requires.plan agrees now v c.prepare.result x).1;
    }

pub returns-in-Triggering : goal.returns-in-Triggering
returns-in-Triggering g c =
    let means = g.P.Dsp.means in
    let plan = c.args.plan.now in
    let kept = c.args.kept.now in
    let name = c.args.name.now in
    let heap = c.args.heap in
    let w = world c.args.dsp.now c.args.io.now c.args.out.now in
    let k = c.in_ok-place.place in
    let at = found_place plan kept name c.args.ask c.tested.result k c.tested.ensures.place c.tested.ensures.none c.in_ok-place.was in
    let now = c.trigger.new.side.kept.now in
    let v = world_of c.trigger.new.side in
    let x = triggered-answered plan kept name c.args.ask k at means heap w c.in-Triggering.what c.in-Triggering.is now v c.trigger.result c.trigger.ensures.answered in
    record {
      answered = subst (λ (e : Record × World g.row.P.Denot). TestedAnswered means plan heap (early_fault plan kept name c.args.ask) (stream_order plan kept name c.args.ask) kept e.0 w e.1 c.trigger.result) (search rules) x;
      asked = λ agrees. subst (λ (e : Record × World g.row.P.Denot). Asked means plan heap name c.args.ask kept e.0 w e.1 c.trigger.result) (search rules) (asked-carried plan kept name c.args.ask k at means heap w c.requires.plan agrees now v c.trigger.result x).0;
      agree = λ agrees. subst (λ (e : Record × g.row.P.Denot). Agrees means plan e.0 e.1) (search rules) (asked-carried plan kept name c.args.ask k at means heap w c.requires.plan agrees now v c.trigger.result x).1;
    }

pub returns-in-Closing : goal.returns-in-Closing
returns-in-Closing g c =
    let means = g.P.Dsp.means in
    let plan = c.args.plan.now in
    let kept = c.args.kept.now in
    let name = c.args.name.now in
    let heap = c.args.heap in
    let w = world c.args.dsp.now c.args.io.now c.args.out.now in
    let k = c.in_ok-place.place in
    let at = found_place plan kept name c.args.ask c.tested.result k c.tested.ensures.place c.tested.ensures.none c.in_ok-place.was in
    let now = c.close.new.side.kept.now in
    let v = world_of c.close.new.side in
    let x = answered-asked plan kept name c.args.ask k at means heap w Closing c.in-Closing.is now v c.close.result c.close.ensures.answered in
    record {
      answered = subst (λ (e : Record × World g.row.P.Denot). TestedAnswered means plan heap (early_fault plan kept name c.args.ask) (stream_order plan kept name c.args.ask) kept e.0 w e.1 c.close.result) (search rules) x;
      asked = λ agrees. subst (λ (e : Record × World g.row.P.Denot). Asked means plan heap name c.args.ask kept e.0 w e.1 c.close.result) (search rules) (asked-carried plan kept name c.args.ask k at means heap w c.requires.plan agrees now v c.close.result x).0;
      agree = λ agrees. subst (λ (e : Record × g.row.P.Denot). Agrees means plan e.0 e.1) (search rules) (asked-carried plan kept name c.args.ask k at means heap w c.requires.plan agrees now v c.close.result x).1;
    }
