use Rattle.std.proofs.Common.{◌∙◌, refl, sym, subst}
use Rattle.host_widgets.specs.Sides.{world_of}
use Rattle.mbox_link.specs.Calls.{world}
use Rattle.host_widgets.specs.declared.kept.Power.TheVariants.{Unloaded, On}
use Rattle.host_widgets.specs.declared.kept.Record.{Record}
use Rattle.host_widgets.specs.Kept.{with_power}
use Rattle.host_widgets.specs.Host.{AreControls}
use Rattle.host_widgets.proofs.Records.{closed-record}
use Rattle.host_widgets.proofs.LoadOrders.{load-passed, load-failed}
use Rattle.host_widgets.proofs.loading.power_up.Goals as goal

pub bring_up-requires-clause-controls : goal.bring_up-requires-clause-controls
bring_up-requires-clause-controls g c =
    subst (λ (r : Record). AreControls c.args.side.now.plan.now.controls r.controls) (sym c.requires.kept) (closed-record Unloaded c.args.side.now.plan.now).controls

pub returns-in-Err-clause-carried : goal.returns-in-Err-clause-carried
returns-in-Err-clause-carried g c =
    let kept = c.args.side.now.kept.now in
    let w = world_of c.args.side.now in
    let m = world c.boot.new.self c.args.side.now.io.now c.args.side.now.out.now in
    let n = world c.bring_up.new.dsp c.bring_up.new.io c.bring_up.new.out in
    let v = world c.cut.new.self c.bring_up.new.io c.bring_up.new.out in
    load-failed g.P.Dsp.means c.args.side.now.plan.now c.args.side.now.heap kept c.bring_up.new.kept c.bring_up.new.kept w m n _ (c.boot.ensures, refl) c.in-Err.ensures.acts _ refl v (c.cut.ensures, refl)
    (c.in-Err.ensures.kept ∙ c.requires.kept)

pub returns-clause-carried : goal.returns-clause-carried
returns-clause-carried g c =
    let kept = c.args.side.now.kept.now in
    let w = world_of c.args.side.now in
    let m = world c.boot.new.self c.args.side.now.io.now c.args.side.now.out.now in
    let n = world c.bring_up.new.dsp c.bring_up.new.io c.bring_up.new.out in
    load-passed g.P.Dsp.means c.args.side.now.plan.now c.args.side.now.heap kept (with_power On c.bring_up.new.kept) c.bring_up.new.kept w m n _ (c.boot.ensures, refl) c.in_default.ensures.acts refl refl
