use Rattle.std.proofs.Common.{ℕ, List, map, length, ℤ, pos, Bor, arith}
use Rattle.std.proofs.lemmas.List.FromFn.{fill_by_all}
use Rattle.sof_base.specs.Samples.{sat}
use Rattle.sof_base.specs.Equations.{exact_sum}
use Rattle.fw_mixer.proofs.mixing.mix_parts.Goals as goal

pub returns : goal.returns
returns c =
    let n : ℕ = length c.args.y.now in let so = c.loop-i.invariant in
    fill_by_all (λ k. sat 32 (exact_sum k (map (λ (part : Bor (List ℤ)). part.now) c.args.parts.now))) c.loop-i.y n (pos 0) so.long
    (λ k low. so.made k (omega (arith, low, c.loop-i-test.false, c.loop-i.auto.i-end)))
