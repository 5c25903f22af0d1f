use Rattle.std.proofs.Common.{◌∙◌, ◌*ℤ◌, rules, w32, FitsSigned}
use Rattle.std.proofs.lemmas.Int.{to_z-of_z}
use Rattle.sof_base.specs.Samples.{sat, rounded}
use Rattle.eq_biquad.proofs.arithmetic.scaled.Goals as goal

pub returns-else-gain-eq16384 : goal.returns-else-gain-eq16384
returns-else-gain-eq16384 c =
    let fit : FitsSigned w32 c.rescaled.result = search rules in
    to_z-of_z w32 c.rescaled.result fit ∙ c.rescaled.ensures
    ∙ (λ i. sat 32 (rounded c.args.bits (to_z-of_z w32 c.args.w c.ranges.w i *ℤ to_z-of_z w32 c.args.gain c.ranges.gain i)))
