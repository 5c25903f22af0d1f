use Rattle.std.proofs.Common.{◌≡◌, ℕ, List, unwrap_or, subst, sym, ap, ◌∙◌, rules}
use Rattle.mbox_link.specs.Calls.{World, world}
use Rattle.host_widgets.specs.Sides.{world_of}
use Rattle.tplg_plan.specs.declared.plans.ControlPlan.{ControlPlan}
use Rattle.host_widgets.specs.declared.kept.Record.{Record}
use Rattle.host_widgets.specs.AnsweredOrders.{OrderAnswered, TestedAnswered}
use Rattle.host_widgets.specs.Host.{Agrees}
use Rattle.host_widgets.specs.Orders.{Procedure}
use Rattle.host_widgets.specs.TestedOrders.{Tested}
use Rattle.host_widgets.proofs.AnsweredActs.{late-answered}
use Rattle.host_ctl.specs.ControlAsks.{channels_of, spread, set_fault}
use Rattle.host_ctl.specs.ControlOrders.{put_order, set_order}
use Rattle.host_ctl.specs.ControlAnswers.{MaySet}
use Rattle.host_ctl.specs.ControlPlaces.{control_here}
use Rattle.host_ctl.proofs.ControlCalls.{place-control}
use Rattle.host_ctl.proofs.ControlOrdered.{set-ended, set-named}
use Rattle.host_ctl.proofs.ControlTests.{place-low, settable-here}
use Rattle.host_ctl.proofs.commands.set.Goals as goal

pub all_values-all-requires-clause-values : goal.all_values-all-requires-clause-values
all_values-all-requires-clause-values g c = (settable-here c.args.plan.now c.requires.plan c.args.kept.now c.requires.kept c.args.name.now c.in_ok-place.place c.in_ok-place.ensures.place c.args.values.now c.in_ok-place.ensures.none).values_few

pub set-requires-clause-values : goal.set-requires-clause-values
set-requires-clause-values g c =
    let plan = c.args.plan.now in
    let name = c.args.name.now in
    let i = c.in_ok-place.place in
    let at = c.in_ok-place.ensures.place in
    let k = control_here plan i in
    let all : c.all_values-all.result ≡ spread (unwrap_or (channels_of k.kind) 0) c.args.values.now = c.all_values-all.ensures ∙ ap (λ (x : ControlPlan). spread (unwrap_or (channels_of x.kind) 0) c.args.values.now) (place-control plan i (place-low plan name i at) c.items.result.now _ c.items.ensures) in
    subst (λ (vs : List ℕ). MaySet k.kind vs) (sym all) (settable-here c.args.plan.now c.requires.plan c.args.kept.now c.requires.kept c.args.name.now c.in_ok-place.place c.in_ok-place.ensures.place c.args.values.now c.in_ok-place.ensures.none).may

pub returns : goal.returns
returns g c =
    let means = g.P.Dsp.means in
    let plan = c.args.plan.now in
    let heap = c.args.heap in
    let kept = c.args.kept.now in
    let name = c.args.name.now in
    let w = world c.args.dsp.now c.args.io.now c.args.out.now in
    let i = c.in_ok-place.place in
    let at = c.in_ok-place.ensures.place in
    let k = control_here plan i in
    let all : c.all_values-all.result ≡ spread (unwrap_or (channels_of k.kind) 0) c.args.values.now = c.all_values-all.ensures ∙ ap (λ (x : ControlPlan). spread (unwrap_or (channels_of x.kind) 0) c.args.values.now) (place-control plan i (place-low plan name i at) c.items.result.now _ c.items.ensures) in
    let fault = set_fault plan kept name c.args.values.now in
    let order = set_order plan kept name c.args.values.now in
    let same = ap (put_order plan kept k.comp) all ∙ set-named plan c.requires.plan kept c.requires.kept name i at c.args.values.now in
    let now = c.set.new.side.kept.now in
    let v = world_of c.set.new.side in
    let none = c.in_ok-place.ensures.none in
    let x = subst (λ (o : Procedure). OrderAnswered means plan heap o kept now w v c.set.result) same c.set.ensures.answered in
    record {
      answered = subst (λ (e : Record × World g.row.P.Denot). TestedAnswered means plan heap fault order kept e.0 w e.1 c.set.result) (search rules) (late-answered means plan heap fault order kept now w v c.set.result none x);
      asked = λ agrees. subst (λ (e : Record × World g.row.P.Denot). Tested means plan heap fault order kept e.0 w e.1 c.set.result) (search rules) (set-ended plan c.requires.plan kept c.requires.kept name i at means heap w agrees now v c.set.result c.args.values.now none x).0;
      agree = λ agrees. subst (λ (e : Record × g.row.P.Denot). Agrees means plan e.0 e.1) (search rules) (set-ended plan c.requires.plan kept c.requires.kept name i at means heap w agrees now v c.set.result c.args.values.now none x).1;
    }
