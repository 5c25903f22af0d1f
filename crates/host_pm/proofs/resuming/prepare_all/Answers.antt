use Rattle.std.proofs.Common.{◌≡◌, ◌<◌, ◌≤◌, ◌∙◌, ◌+◌, List, [], Ok, false, zip, length, refl, sym, ap, subst, append-nil, arith, if◌then◌else◌}
use Rattle.std.specs.List.{flat_map}
use Rattle.mbox_link.specs.Calls.{world}
use Rattle.tplg_plan.specs.declared.plans.StreamPlan.{StreamPlan}
use Rattle.host_widgets.specs.Acts.{direction_of}
use Rattle.host_widgets.specs.ActLists.{prepare_acts}
use Rattle.host_widgets.specs.HostActs.{Act}
use Rattle.host_widgets.specs.Host.{Outcome}
use Rattle.host_widgets.specs.Walk.{goes_past}
use Rattle.host_widgets.proofs.Walks.{handed_on}
use Rattle.host_widgets.proofs.PlannedStreams.{place-goes, place-stream}
use Rattle.host_pm.specs.InTurn.{InTurn}
use Rattle.host_pm.proofs.Loops.{SoFar, at-first, none-ahead, one-more, one-ends, few-prepares}
use Rattle.host_pm.proofs.resuming.prepare_all.Goals as goal
use Rattle.host_widgets.proofs.BuildingActs.{ends-at}

pub loop-place-init : goal.loop-place-init
loop-place-init g c = at-first g.P.Dsp.means c.args.plan.now false prepare_acts [] c.args.kept.now (world c.args.dsp.now c.args.io.now c.args.out.now) (c.requires.on, c.requires.room)

pub prepare-requires-clause-on : goal.prepare-requires-clause-on
prepare-requires-clause-on g c = c.loop-place.invariant.ready.0

pub prepare-requires-clause-room : goal.prepare-requires-clause-room
prepare-requires-clause-room g c = c.loop-place.invariant.ready.1

pub prepare-requires-clause-goes : goal.prepare-requires-clause-goes
prepare-requires-clause-goes g c =
    let plan = c.args.plan.now in
    let i = c.loop-place.place in
    let s = c.index-items-place.result in
    let low : i < length plan.streams = omega (arith, c.loop-place-test.true, ap length c.items-count.ensures) in
    subst (λ (x : StreamPlan). direction_of plan x.host ≡ (if x.capture then 1 else 0)) (sym (c.index-items-place.is ∙ place-stream plan i low c.items.result.now s c.items.ensures)) (place-goes plan c.requires.plan i low)

pub returns-in_err-prepare : goal.returns-in_err-prepare
returns-in_err-prepare g c =
    let means = g.P.Dsp.means in
    let plan = c.args.plan.now in
    let kept = c.args.kept.now in
    let i = c.loop-place.place in
    let s = c.index-items-place.result in
    let w = world c.args.dsp.now c.args.io.now c.args.out.now in
    let m = world c.loop-place.dsp c.loop-place.io c.loop-place.out in
    let v = world c.prepare.new.dsp c.prepare.new.io c.prepare.new.out in
    let fault = c.in_err-prepare.field-0.0 in
    let low : i < length plan.streams = omega (arith, c.loop-place-test.true, ap length c.items-count.ensures) in
    let whole = one-ends means plan false prepare_acts [] kept (λ p. few-prepares means plan false p.0.host p.1.found p.1.params) c.requires.streams i low c.items.result.now c.items.ensures s s c.index-items-place.is
    c.items-in-loop-place.result.now c.items-in-loop-place.ensures _ _ refl w m v (Ok tt) c.loop-place.invariant c.prepare.result c.prepare.ensures (ap (goes_past false) c.in_err-prepare.was ∙ ends-at fault) in
    subst (λ (p : List Act × Outcome). InTurn means plan false p.0 w v p.1) (λ j. (append-nil (flat_map prepare_acts (zip plan.streams kept.streams)) j, (c.in_err-prepare.was ∙ sym (handed_on c.from_residual.result fault c.from_residual.ensures)) j)) whole

pub loop-place-preserved : goal.loop-place-preserved
loop-place-preserved g c =
    let means = g.P.Dsp.means in
    let plan = c.args.plan.now in
    let kept = c.args.kept.now in
    let i = c.loop-place.place in
    let s = c.index-items-place.result in
    let w = world c.args.dsp.now c.args.io.now c.args.out.now in
    let m = world c.loop-place.dsp c.loop-place.io c.loop-place.out in
    let v = world c.prepare.new.dsp c.prepare.new.io c.prepare.new.out in
    let low : i < length plan.streams = omega (arith, c.loop-place-test.true, ap length c.items-count.ensures) in
    subst (λ (o : Outcome). SoFar means plan false prepare_acts [] kept (i + 1) w v o) c.in_ok-prepare.was
    (one-more means plan false prepare_acts [] kept (λ p. few-prepares means plan false p.0.host p.1.found p.1.params) c.requires.streams i low c.items.result.now c.items.ensures s s c.index-items-place.is
    c.items-in-loop-place.result.now c.items-in-loop-place.ensures _ _ refl w m v (Ok tt) c.loop-place.invariant c.prepare.result c.prepare.ensures (ap (goes_past false) c.in_ok-prepare.was))

pub returns : goal.returns
returns g c =
    let means = g.P.Dsp.means in
    let plan = c.args.plan.now in
    let kept = c.args.kept.now in
    let i = c.loop-place.place in
    let w = world c.args.dsp.now c.args.io.now c.args.out.now in
    let v = world c.loop-place.dsp c.loop-place.io c.loop-place.out in
    let past : length plan.streams ≤ i = omega (arith, c.loop-place-test.false, ap length c.items-count.ensures) in
    let done = none-ahead means plan false prepare_acts [] kept (λ p. few-prepares means plan false p.0.host p.1.found p.1.params) c.requires.streams i past in
    subst (λ (acts : List Act). InTurn means plan false acts w v (Ok tt)) (append-nil (flat_map prepare_acts (zip plan.streams kept.streams)))
    (c.loop-place.invariant.ahead v (Ok tt) (subst (λ (acts : List Act). InTurn means plan false acts v v (Ok tt)) (sym done) (refl, refl)))
