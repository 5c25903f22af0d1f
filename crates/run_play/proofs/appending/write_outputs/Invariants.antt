use Rattle.std.proofs.Common.{◌-◌, drop, length}
use Rattle.run_play.specs.Opening.{SameFiles}
use Rattle.run_play.proofs.Flushing.{Left}
use Rattle.run_play.proofs.appending.write_outputs.Given as goal

-- the outputs that are left, written, make all written
abbrev pub invariant-loop-place : goal.invariant-loop-place
invariant-loop-place g l =
    record {
      so_far : Left g.D.Desk.means l.outputs (drop l.place l.outputs) l.fn.desk l.desk;
      same : SameFiles g.D.Desk.means l.fn.desk l.desk;
    }

abbrev pub decreases-loop-place : goal.decreases-loop-place
decreases-loop-place g l = length l.outputs - l.place
