use Rattle.std.proofs.Common.{refl, sym, subst, ◌+◌, ℤ, rules, w32, FitsSigned}
use Rattle.sof_base.specs.Samples.{sample_of}
use Rattle.eq_biquad.specs.Pairs.{BothAre}
use Rattle.eq_biquad.proofs.PairNumbers.{coefficients-again}
use Rattle.eq_biquad.proofs.side_by_side.samples_at.Goals as goal

pub returns-clause-samples : goal.returns-clause-samples
returns-clause-samples c =
    let one : ℤ = sample_of c.args.samples.now c.args.place in let other : ℤ = sample_of c.args.samples.now (c.args.place + 1) in
    let fit : FitsSigned w32 one = search rules in let fit_other : FitsSigned w32 other = search rules in
    coefficients-again c.both.result one other c.both.ensures fit fit_other

pub returns-clause-fit : goal.returns-clause-fit
returns-clause-fit c =
    let one : ℤ = sample_of c.args.samples.now c.args.place in let other : ℤ = sample_of c.args.samples.now (c.args.place + 1) in
    let fit : FitsSigned w32 one = search rules in let fit_other : FitsSigned w32 other = search rules in
    subst (BothAre (FitsSigned w32)) (sym (coefficients-again c.both.result one other c.both.ensures fit fit_other)) (refl, (fit, fit_other))
