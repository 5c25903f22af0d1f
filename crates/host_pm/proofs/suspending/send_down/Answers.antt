use Rattle.std.proofs.Common.{◌<◌, ◌≤◌, ◌+◌, ◌∙◌, List, [], ◌∷◌, true, length, refl, sym, ap, subst, arith}
use Rattle.mbox_link.specs.Calls.{world}
use Rattle.host_widgets.specs.ActLists.{stop_acts, go_down}
use Rattle.host_widgets.specs.HostActs.{Act, Save}
use Rattle.host_widgets.specs.Host.{Outcome}
use Rattle.host_pm.specs.InTurn.{InTurn}
use Rattle.host_pm.proofs.Loops.{SoFar, at-first, none-ahead, one-more, one-ends, few-stops}
use Rattle.host_pm.proofs.suspending.send_down.Goals as goal

pub loop-place-init : goal.loop-place-init
loop-place-init g c = at-first g.P.Dsp.means c.args.plan.now true stop_acts (Save ∷ []) c.args.kept.now (world c.args.dsp.now c.args.io.now c.args.out.now) (c.requires.on, c.requires.room)

pub stop-stopped-requires-clause-on : goal.stop-stopped-requires-clause-on
stop-stopped-requires-clause-on g c = c.loop-place.invariant.ready.0

pub stop-stopped-requires-clause-room : goal.stop-stopped-requires-clause-room
stop-stopped-requires-clause-room g c = c.loop-place.invariant.ready.1

pub returns-then-not-goes : goal.returns-then-not-goes
returns-then-not-goes g c =
    let means = g.P.Dsp.means in
    let plan = c.args.plan.now in
    let kept = c.args.kept.now in
    let i = c.loop-place.place in
    let w = world c.args.dsp.now c.args.io.now c.args.out.now in
    let m = world c.loop-place.dsp c.loop-place.io c.loop-place.out in
    let v = world c.stop-stopped.new.dsp c.stop-stopped.new.io c.stop-stopped.new.out in
    let low : i < length plan.streams = omega (arith, c.loop-place-test.true, ap length c.items-count.ensures) in
    subst (λ (o : Outcome). InTurn means plan true (go_down plan kept) w v o) (sym c.first_of-told.ensures)
    (one-ends means plan true stop_acts (Save ∷ []) kept (λ p. few-stops means plan true p.0.host p.1.found) c.requires.streams i low c.items.result.now c.items.ensures _ _ refl
    c.items-in-loop-place.result.now c.items-in-loop-place.ensures _ _ refl w m v c.loop-place.so_far c.loop-place.invariant c.stop-stopped.result c.stop-stopped.ensures (sym c.goes_on-goes.ensures ∙ c.if-not-goes.true))

pub loop-place-preserved : goal.loop-place-preserved
loop-place-preserved g c =
    let means = g.P.Dsp.means in
    let plan = c.args.plan.now in
    let kept = c.args.kept.now in
    let i = c.loop-place.place in
    let w = world c.args.dsp.now c.args.io.now c.args.out.now in
    let m = world c.loop-place.dsp c.loop-place.io c.loop-place.out in
    let v = world c.stop-stopped.new.dsp c.stop-stopped.new.io c.stop-stopped.new.out in
    let low : i < length plan.streams = omega (arith, c.loop-place-test.true, ap length c.items-count.ensures) in
    subst (λ (o : Outcome). SoFar means plan true stop_acts (Save ∷ []) kept (i + 1) w v o) (sym c.first_of-told.ensures)
    (one-more means plan true stop_acts (Save ∷ []) kept (λ p. few-stops means plan true p.0.host p.1.found) c.requires.streams i low c.items.result.now c.items.ensures _ _ refl
    c.items-in-loop-place.result.now c.items-in-loop-place.ensures _ _ refl w m v c.loop-place.so_far c.loop-place.invariant c.stop-stopped.result c.stop-stopped.ensures (sym c.goes_on-goes.ensures ∙ c.if-not-goes.false))

pub save-saved-requires-clause-on : goal.save-saved-requires-clause-on
save-saved-requires-clause-on g c = c.loop-place.invariant.ready.0

pub save-saved-requires-clause-room : goal.save-saved-requires-clause-room
save-saved-requires-clause-room g c = c.loop-place.invariant.ready.1

pub returns : goal.returns
returns g c =
    let means = g.P.Dsp.means in
    let plan = c.args.plan.now in
    let kept = c.args.kept.now in
    let i = c.loop-place.place in
    let w = world c.args.dsp.now c.args.io.now c.args.out.now in
    let m = world c.loop-place.dsp c.loop-place.io c.loop-place.out in
    let v = world c.save-saved.new.dsp c.save-saved.new.io c.save-saved.new.out in
    let past : length plan.streams ≤ i = omega (arith, c.loop-place-test.false, ap length c.items-count.ensures) in
    let done = none-ahead means plan true stop_acts (Save ∷ []) kept (λ p. few-stops means plan true p.0.host p.1.found) c.requires.streams i past in
    subst (λ (o : Outcome). InTurn means plan true (go_down plan kept) w v o) (sym c.first_of.ensures)
    (c.loop-place.invariant.ahead v c.save-saved.result (subst (λ (acts : List Act). InTurn means plan true acts m v c.save-saved.result) (sym done) c.save-saved.ensures))
