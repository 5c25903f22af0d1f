use Rattle.std.proofs.Common.{take, w32, FitsSigned}
use Rattle.std.specs.List.{AllByRecursion}
use Rattle.fw_mixer.proofs.mixing.are_samples.Given as goal

abbrev pub invariant-loop-sample : goal.invariant-loop-sample
invariant-loop-sample l = AllByRecursion (FitsSigned w32) (take l.sample-index l.x)
