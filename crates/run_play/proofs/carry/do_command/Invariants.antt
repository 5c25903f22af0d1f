use Rattle.std.proofs.Common.{◌≡◌, ◌≤◌, ◌-◌}
use Rattle.sof_base.specs.DrainedOutputs.{drained}
use Rattle.sof_io.specs.Bound.{output_slots}
use Rattle.sof_session.specs.Lives.{Seated}
use Rattle.run_desk.specs.Todo.{LeadsOn}
use Rattle.run_play.specs.KeptTurns.{KeptTurn, CanKeep}
use Rattle.sof_script.specs.Ticks.{earlier}
use Rattle.run_play.specs.Rounds.{command_rounds}
use Rattle.run_play.specs.Play.{rounds_todo, rounds_after}
use Rattle.run_play.specs.Opening.{HaveFiles}
use Rattle.run_play.proofs.carry.do_command.Given as goal

-- the units that are left, done, make all done
abbrev pub invariant-loop : goal.invariant-loop
invariant-loop g l =
    let means = g.D.Desk.means in
    record {
      plan : l.session.plan ≡ l.fn.session.plan;
      sent : l.session.link.sent ≤ l.fn.session.link.sent;
      files : HaveFiles means l.inputs l.outputs l.desk;
      keeps : CanKeep means g.K.TraceBuffer.holds l.desk;
      empty : drained l.outputs ≡ l.outputs;
      so_far : LeadsOn means (KeptTurn g.K.Dsp.means g.K.TraceBuffer.holds g.K.Drain.empties) (rounds_todo (command_rounds l.numbered)) (rounds_todo (rounds_after (earlier l.numbered.command - l.counter) l.numbered))
          l.fn.desk (Seated l.fn.session l.fn.inputs (output_slots l.fn.outputs)) l.desk (Seated l.session l.inputs (output_slots l.outputs));
    }
