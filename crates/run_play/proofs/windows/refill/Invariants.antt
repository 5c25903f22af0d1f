use Rattle.std.proofs.Common.{◌≡◌, length}
use Rattle.sof_io.specs.Takes.{input_slots}
use Rattle.run_play.specs.Opening.{SameFiles}
use Rattle.run_play.proofs.Wanted.{lacking}
use Rattle.run_play.proofs.Refills.{ReadsOn}
use Rattle.run_play.proofs.windows.refill.Given as goal

-- what is left to be read, read, makes all read
abbrev pub invariant-loop-slot : goal.invariant-loop-slot
invariant-loop-slot g l =
    let means = g.D.Desk.means in
    record {
      so_far : ReadsOn means l.fn.inputs l.inputs l.fn.desk l.desk;
      slots : input_slots l.inputs ≡ input_slots l.fn.inputs;
      same : SameFiles means l.fn.desk l.desk;
      room : length l.buffer ≡ 65536;
    }

abbrev pub decreases-loop-slot : goal.decreases-loop-slot
decreases-loop-slot g l = lacking l.inputs
