use Rattle.std.proofs.Common.{◌≡◌, ◌≤◌, ◌*◌, drop}
use Rattle.sof_base.specs.DrainedOutputs.{drained}
use Rattle.sof_io.specs.Bound.{output_slots}
use Rattle.sof_session.specs.Lives.{Seated}
use Rattle.run_desk.specs.Todo.{LeadsOn}
use Rattle.run_play.specs.KeptTurns.{KeptTurn, CanKeep}
use Rattle.run_play.specs.Play.{commands_todo}
use Rattle.run_play.specs.Opening.{HaveFiles}
use Rattle.run_play.proofs.carry.do_commands.Given as goal

-- the commands that are left, done, make all done
abbrev pub invariant-loop-numbered : goal.invariant-loop-numbered
invariant-loop-numbered g l =
    let means = g.D.Desk.means in
    record {
      plan : l.session.plan ≡ l.fn.session.plan;
      files : HaveFiles means l.inputs l.outputs l.desk;
      keeps : CanKeep means g.K.TraceBuffer.holds l.desk;
      empty : drained l.outputs ≡ l.outputs;
      sent : l.session.link.sent ≤ 1200 * l.numbered-index;
      so_far : LeadsOn means (KeptTurn g.K.Dsp.means g.K.TraceBuffer.holds g.K.Drain.empties) (commands_todo l.commands) (commands_todo (drop l.numbered-index l.commands))
          l.fn.desk (Seated l.fn.session l.fn.inputs (output_slots l.fn.outputs)) l.desk (Seated l.session l.inputs (output_slots l.outputs));
    }
