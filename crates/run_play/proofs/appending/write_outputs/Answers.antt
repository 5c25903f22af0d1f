use Rattle.std.proofs.Common.{◌∙◌}
use Rattle.run_play.proofs.Flushing.{created_at, left_on, left_off}
use Rattle.run_play.proofs.Refills.{same_then}
use Rattle.run_play.proofs.appending.write_outputs.Goals as goal

pub write_output-requires : goal.write_output-requires
write_output-requires g c some =
    c.loop-place.invariant.same.created c.at-slot.result.0
    ∙ created_at g.D.Desk.means c.args.outputs.now c.loop-place.place (record { slot = c.at-slot.result.0; bytes = c.at-slot.result.1.now }) c.args.desk.now c.requires c.at-slot.ensures

pub returns-then-not-write_output-clause-phase : goal.returns-then-not-write_output-clause-phase
returns-then-not-write_output-clause-phase g c =
    left_off g.D.Desk.means c.args.outputs.now c.loop-place.place c.at-slot.result.0 c.at-slot.result.1.now c.at-slot.ensures _ _ _ c.loop-place.invariant.so_far (rw c.if-not-write_output.true at c.write_output.ensures.phase)

pub loop-place-preserved : goal.loop-place-preserved
loop-place-preserved g c =
    record {
      so_far = left_on g.D.Desk.means c.args.outputs.now c.loop-place.place c.at-slot.result.0 c.at-slot.result.1.now c.at-slot.ensures _ _ _ c.loop-place.invariant.so_far (rw c.if-not-write_output.false at c.write_output.ensures.phase);
      same = same_then g.D.Desk.means _ _ _ c.loop-place.invariant.same c.write_output.ensures.same;
    }
