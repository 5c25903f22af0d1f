use Rattle.std.proofs.Common.{arith}
use Rattle.eq_biquad.proofs.passing.sections_found.Goals as goal

pub returns-in-Some-clause-sections : goal.returns-in-Some-clause-sections
returns-in-Some-clause-sections c = c.in-Some.ensures.sections

pub returns-in-Some-clause-within : goal.returns-in-Some-clause-within
returns-in-Some-clause-within c = c.in-Some.ensures.within

pub returns-clause-sections : goal.returns-clause-sections
returns-clause-sections c = c.in_default.ensures.sections

pub returns-clause-within : goal.returns-clause-within
returns-clause-within c = record { few = omega arith; bytes = omega arith; shifts = λ s lt. absurd (omega (arith, lt)) }
