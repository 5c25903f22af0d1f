use Rattle.std.proofs.Common.{subst, ◌<◌, length, get_or, arith, rules, pos, w32, FitsSigned}
use Rattle.std.specs.List.{AllByRecursion}
use Rattle.std.proofs.lemmas.List.{take_all}
use Rattle.fw_mixer.proofs.SumLaws.{fits-more}
use Rattle.fw_mixer.proofs.mixing.are_samples.Goals as goal

pub loop-sample-preserved : goal.loop-sample-preserved
loop-sample-preserved c =
    let x = c.args.x.now in let i = c.loop-sample.sample-index in
    let below : i < length x = omega arith in
    let fit : FitsSigned w32 (get_or x i (pos 0)) = search rules in
    fits-more x i below c.loop-sample.invariant fit

pub returns : goal.returns
returns c = subst (AllByRecursion (FitsSigned w32)) (take_all c.loop-sample.sample-index c.args.x.now (omega arith)) c.loop-sample.invariant
