use Rattle.std.proofs.Common.{◌≡◌, Err, refl, sym, ap, ◌∙◌, rules, subst}
use Rattle.host_widgets.specs.Sides.{world_of}
use Rattle.mbox_link.specs.Calls.{World, world}
use Rattle.host_widgets.specs.declared.answers.HostFault.{HostFault}
use Rattle.host_widgets.specs.declared.answers.HostFault.TheVariants.{NotLoaded, Off}
use Rattle.host_widgets.specs.declared.kept.Record.{Record}
use Rattle.host_widgets.specs.Host.{Agrees}
use Rattle.host_widgets.specs.Orders.{suspending}
use Rattle.host_widgets.specs.TestedOrders.{Tested}
use Rattle.host_widgets.proofs.LoadOrders.{told-early, done-late}
use Rattle.host_pm.specs.InTurn.{WentDown}
use Rattle.host_pm.specs.PowerTests.{suspend_fault}
use Rattle.host_pm.proofs.suspending.suspend.Goals as goal

pub returns-in-Unloaded : goal.returns-in-Unloaded
returns-in-Unloaded g c =
    let plan = c.args.plan.now in
    let kept = c.args.kept.now in
    let w = world c.args.dsp.now c.args.io.now c.args.out.now in
    record {
      early = λ f e. (let same : NotLoaded ≡ f = cc (sym (ap suspend_fault c.in-Unloaded.is) ∙ e) in ap (λ (x : HostFault). Err x) same, refl, refl);
      down = λ none. absurd (cc (sym (ap suspend_fault c.in-Unloaded.is) ∙ none));
      carried = λ agrees. told-early g.P.Dsp.means plan c.args.heap (suspend_fault kept.power) (suspending plan kept) kept kept w w (Err NotLoaded) NotLoaded (ap suspend_fault c.in-Unloaded.is) refl refl refl;
      agree = λ agrees. agrees;
    }

pub returns-in-Off : goal.returns-in-Off
returns-in-Off g c =
    let plan = c.args.plan.now in
    let kept = c.args.kept.now in
    let w = world c.args.dsp.now c.args.io.now c.args.out.now in
    record {
      early = λ f e. (let same : Off ≡ f = cc (sym (ap suspend_fault c.in-Off.is) ∙ e) in ap (λ (x : HostFault). Err x) same, refl, refl);
      down = λ none. absurd (cc (sym (ap suspend_fault c.in-Off.is) ∙ none));
      carried = λ agrees. told-early g.P.Dsp.means plan c.args.heap (suspend_fault kept.power) (suspending plan kept) kept kept w w (Err Off) Off (ap suspend_fault c.in-Off.is) refl refl refl;
      agree = λ agrees. agrees;
    }

pub returns-in-On : goal.returns-in-On
returns-in-On g c =
    let w = world c.args.dsp.now c.args.io.now c.args.out.now in
    let plan = c.args.plan.now in
    let kept = c.args.kept.now in
    let v = world_of c.go_down.new.side in
    record {
      early = λ f e. absurd (cc (sym e ∙ ap suspend_fault c.in-On.is));
      down = λ none. subst (λ (e : Record × World g.row.P.Denot). WentDown g.P.Dsp.means c.args.plan.now c.args.heap c.args.kept.now e.0 w e.1 c.go_down.result) (search rules) c.go_down.ensures.down;
      carried = λ agrees. (subst (λ (e : Record × World g.row.P.Denot). Tested g.P.Dsp.means plan c.args.heap (suspend_fault kept.power) (suspending plan kept) kept e.0 w e.1 c.go_down.result) (search rules)
          (done-late g.P.Dsp.means plan c.args.heap (suspend_fault kept.power) (suspending plan kept) kept c.go_down.new.side.kept.now w v c.go_down.result (ap suspend_fault c.in-On.is) (c.go_down.ensures.carried agrees)));
      agree = λ agrees. (subst (λ (e : Record × g.row.P.Denot). Agrees g.P.Dsp.means c.args.plan.now e.0 e.1) (search rules) c.go_down.ensures.agree
          );
    }
