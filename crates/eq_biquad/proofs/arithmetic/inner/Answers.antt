use Rattle.std.proofs.Common.{ap, ◌∙◌, pos, ◌+ℤ◌, ◌*ℤ◌, rules, w32, FitsSigned}
use Rattle.std.specs.Int.{int_div_euclid}
use Rattle.std.proofs.lemmas.Int.{to_z-of_z}
use Rattle.sof_base.specs.Samples.{sat}
use Rattle.eq_biquad.proofs.ArithLaws.{inner-fits, inner-is}
use Rattle.eq_biquad.proofs.arithmetic.inner.Goals as goal

pub overflow_cast-sum : goal.overflow_cast-sum
overflow_cast-sum c = inner-fits c.times.result c.from.result c.args.first c.from.ensures c.times.ensures.within c.requires

pub returns : goal.returns
returns c =
    let fit : FitsSigned w32 c.sat32.result = search rules in
    let coefficient : FitsSigned w32 c.args.section.b0 = search rules in
    to_z-of_z w32 c.sat32.result fit ∙ c.sat32.ensures
    ∙ ap (sat 32) (inner-is c.times.result c.from.result c.args.first c.from.ensures c.times.ensures.within c.requires)
    ∙ ap (λ z. sat 32 (int_div_euclid ((z +ℤ c.args.first) +ℤ pos 536870912) (pos 1073741824)))
    (c.times.ensures.value ∙ (λ i. to_z-of_z w32 c.args.section.b0 coefficient i *ℤ to_z-of_z w32 c.args.x c.ranges.x i))
