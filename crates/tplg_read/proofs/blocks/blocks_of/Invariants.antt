use Rattle.std.proofs.Common.{length, ◌-◌}
use Rattle.tplg_model.specs.Reading.{blocks_of}
use Rattle.tplg_model.proofs.FileLaws.{SoFar}
use Rattle.tplg_read.proofs.blocks.blocks_of.Given as goal

abbrev pub invariant-loop-used : goal.invariant-loop-used
invariant-loop-used l = SoFar l.bytes l.blocks l.used (blocks_of l.bytes)

abbrev pub decreases-loop-used : goal.decreases-loop-used
decreases-loop-used l = length l.bytes - l.used
