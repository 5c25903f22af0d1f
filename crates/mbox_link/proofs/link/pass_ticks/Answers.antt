use Rattle.std.proofs.Common.{◌≡◌, ℕ, ◌+◌, ◌*◌, replicate, refl, subst, arith}
use Rattle.mbox_link.specs.Calls.{world, Tick, Led}
use Rattle.mbox_link.proofs.Led.{Led-tick}
use Rattle.mbox_link.proofs.ManyTicks.{ticks-did, ticks-up}
use Rattle.mbox_link.proofs.Rooms.{HasRoom-less}
use Rattle.mbox_link.proofs.link.pass_ticks.Goals as goal

pub loop-init : goal.loop-init
loop-init g c = refl

pub tick-requires : goal.tick-requires
tick-requires g c =
    let means = g.P.Dsp.means in
    let w = world c.args.dsp.now c.args.io.now c.args.out.now in
    let m = world c.loop.dsp c.loop.io c.loop.out in
    let n = c.loop.counter in
    record {
      room = (ticks-did means n w m c.loop.invariant).room 61440
          (HasRoom-less c.args.out.now (61440 * (c.args.ticks + means.pending c.args.dsp.now)) (61440 * n + 61440) (omega (arith, c.loop-test.true)) c.requires.room);
    }

pub loop-preserved : goal.loop-preserved
loop-preserved g c =
    let w = world c.args.dsp.now c.args.io.now c.args.out.now in
    let m = world c.loop.dsp c.loop.io c.loop.out in
    let v = world c.tick.new.self c.tick.new.io c.tick.new.out in
    Led-tick g.P.Dsp.means c.loop.counter w m v c.loop.invariant c.tick.ensures

pub returns : goal.returns
returns g c =
    let means = g.P.Dsp.means in
    let w = world c.args.dsp.now c.args.io.now c.args.out.now in
    let v = world c.loop.dsp c.loop.io c.loop.out in
    let n = c.args.ticks in
    let all : c.loop.counter ≡ n = omega arith in
    let led = subst (λ (k : ℕ). Led means w (replicate k Tick) v) all c.loop.invariant in
    let did = ticks-did means n w v led in
    let same = did.quiet.pending in
    record {
      came = led;
      on = ticks-up means n w v led c.requires.on;
      room = did.room (61440 * means.pending c.loop.dsp)
          (HasRoom-less c.args.out.now (61440 * (n + means.pending c.args.dsp.now)) (61440 * n + 61440 * means.pending c.loop.dsp) (omega (arith, same)) c.requires.room);
    }
