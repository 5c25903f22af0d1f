use Rattle.std.proofs.Common.{◌∙◌, ◌*ℤ◌, rules, w32, FitsSigned}
use Rattle.std.proofs.lemmas.Int.{to_z-of_z}
use Rattle.sof_base.specs.Samples.{sat, rounded}
use Rattle.eq_biquad.proofs.stages.output.Goals as goal

pub returns : goal.returns
returns c =
    let fit : FitsSigned w32 c.rescaled.result = search rules in
    let gain : FitsSigned w32 c.args.section.gain = search rules in
    to_z-of_z w32 c.rescaled.result fit ∙ c.rescaled.ensures
    ∙ (λ i. sat 32 (rounded (c.bits_of.ensures.value i) (to_z-of_z w32 c.args.w c.ranges.w i *ℤ to_z-of_z w32 c.args.section.gain gain i)))
