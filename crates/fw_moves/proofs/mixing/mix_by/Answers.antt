use Rattle.std.proofs.Common.{map, length, pos, arith}
use Rattle.std.proofs.lemmas.List.FromFn.{fill_by_all}
use Rattle.sof_base.specs.Samples.{sat}
use Rattle.sof_base.specs.Equations.{exact_sum}
use Rattle.fw_moves.specs.Moving.{samples_in}
use Rattle.fw_moves.proofs.mixing.mix_by.Goals as goal

pub returns-clause-samples : goal.returns-clause-samples
returns-clause-samples g c =
    let so = c.loop-done.invariant in
    fill_by_all (λ k. sat 32 (exact_sum k (map (samples_in c.args.buffers.now c.args.n) c.args.looked.now))) c.loop-done.samples (length c.args.samples.now) (pos 0) so.long
    (λ k low. so.made k (omega (arith, low, so.long, c.loop-done-test.false)))
