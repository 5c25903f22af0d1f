use Rattle.std.proofs.Common.{◌≡◌, sym, ap, ◌∙◌, ◌+◌, ◌*◌, ◌/◌, arith}
use Rattle.stream_law.specs.Gain.{gain_above}
use Rattle.tplg_plan.proofs.Gains.{above-zero, above-suc, above-most}
use Rattle.tplg_plan.proofs.volume_gain.gain_above.Goals as goal

pub loop-init : goal.loop-init
loop-init c = above-zero

pub overflow_cast-gain-in-loop : goal.overflow_cast-gain-in-loop
overflow_cast-gain-in-loop c =
    let next : c.loop.gain * 69419 / 65536 ≡ gain_above (c.loop.counter + 1) = ap (λ g. g * 69419 / 65536) c.loop.invariant ∙ sym (above-suc c.loop.counter) in
    omega (arith, next, above-most (c.loop.counter + 1) (omega (arith, c.requires, c.loop-test.true)))

pub loop-preserved : goal.loop-preserved
loop-preserved c = ap (λ g. g * 69419 / 65536) c.loop.invariant ∙ sym (above-suc c.loop.counter)
