use Rattle.std.proofs.Common.{sym, ap, ◌∙◌, ◌*◌, ◌/◌, arith}
use Rattle.tplg_plan.proofs.Gains.{below-zero, below-suc}
use Rattle.tplg_plan.proofs.volume_gain.gain_below.Goals as goal

pub loop-init : goal.loop-init
loop-init c = record { value = below-zero; most = omega arith }

pub loop-preserved : goal.loop-preserved
loop-preserved c = record {
  value = ap (λ g. g * 61870 / 65536) c.loop.invariant.value ∙ sym (below-suc c.loop.counter);
  most = let m = c.loop.invariant.most in omega (arith, m);
}
