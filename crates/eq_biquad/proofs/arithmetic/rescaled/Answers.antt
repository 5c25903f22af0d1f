use Rattle.std.proofs.Common.{ap, ◌∙◌, pos, ◌+ℤ◌, ◌*ℤ◌, ◌-◌, ◌^◌, rules, w32, FitsSigned}
use Rattle.std.specs.Int.{int_div_euclid}
use Rattle.std.proofs.lemmas.Int.{to_z-of_z}
use Rattle.sof_base.specs.Samples.{sat}
use Rattle.eq_biquad.proofs.ArithLaws.{out-is}
use Rattle.eq_biquad.proofs.arithmetic.rescaled.Goals as goal

pub returns : goal.returns
returns c =
    let fit : FitsSigned w32 c.sat32.result = search rules in
    to_z-of_z w32 c.sat32.result fit ∙ c.sat32.ensures
    ∙ ap (sat 32) (out-is c.times.result c.half.result c.args.bits (2 ^ (c.args.bits - 1)) c.times.ensures.within c.half.ensures.value c.half.ensures.within)
    ∙ ap (λ z. sat 32 (int_div_euclid (z +ℤ pos (2 ^ (c.args.bits - 1))) (pos (2 ^ c.args.bits))))
    (c.times.ensures.value ∙ (λ i. to_z-of_z w32 c.args.w c.ranges.w i *ℤ to_z-of_z w32 c.args.gain c.ranges.gain i))
