use Rattle.std.proofs.Common.{length, ◌-◌}
use Rattle.tplg_model.proofs.ArrayListLaws.{SoFar}
use Rattle.tplg_tokens.proofs.reading.each_array.Given as goal

abbrev pub invariant-loop-used : goal.invariant-loop-used
invariant-loop-used l = SoFar l.bytes l.arrays l.used

abbrev pub decreases-loop-used : goal.decreases-loop-used
decreases-loop-used l = length l.bytes - l.used
