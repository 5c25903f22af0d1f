use Rattle.std.proofs.Common.{true, false}
use Rattle.sof_session.specs.Written.{written_in}
use Rattle.run_play.specs.Keeping.{trace_slot}
use Rattle.run_play.proofs.Flushing.{flushed_first, flush_failed}
use Rattle.run_play.proofs.Openings.{created_same}
use Rattle.run_play.proofs.Refills.{same_then}
use Rattle.run_play.proofs.keeping.write_pieces.Goals as goal

pub write_outputs-requires : goal.write_outputs-requires
write_outputs-requires g c = created_same g.D.Desk.means _ _ _ c.write_output.ensures.same.created c.requires.created

pub returns-then-not-write_output-clause-phase : goal.returns-then-not-write_output-clause-phase
returns-then-not-write_output-clause-phase g c =
    flush_failed g.D.Desk.means trace_slot c.args.held.now (written_in c.args.outputs.now) _ c.args.desk.now _ (rw c.if-not-write_output.true at c.write_output.ensures.phase)

pub returns-clause-phase : goal.returns-clause-phase
returns-clause-phase g c =
    flushed_first g.D.Desk.means trace_slot c.args.held.now (written_in c.args.outputs.now) _ _ _ c.write_outputs.result (rw c.if-not-write_output.false at c.write_output.ensures.phase) c.write_outputs.ensures.phase

pub returns-clause-same : goal.returns-clause-same
returns-clause-same g c = same_then g.D.Desk.means _ _ _ c.write_output.ensures.same c.write_outputs.ensures.same
