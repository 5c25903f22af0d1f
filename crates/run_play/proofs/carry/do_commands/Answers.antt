use Rattle.std.proofs.Common.{◌≤◌, length, sym, subst, ◌∙◌, arith}
use Rattle.std.proofs.lemmas.List.{drop_all}
use Rattle.sof_io.specs.Bound.{output_slots}
use Rattle.tplg_plan.specs.Sound.{IsSound}
use Rattle.sof_session.specs.Lives.{Seated}
use Rattle.run_play.specs.Rounds.{command_rounds}
use Rattle.run_desk.specs.Todo.{Phase}
use Rattle.run_play.specs.KeptTurns.{KeptTurn}
use Rattle.run_play.specs.Play.{rounds_todo}
use Rattle.run_play.proofs.Commands.{commands_on, commands_off}
use Rattle.run_play.proofs.carry.do_commands.Goals as goal

pub returns-then-not-do_command : goal.returns-then-not-do_command
returns-then-not-do_command g c =
    let means = g.D.Desk.means in
    let by = KeptTurn g.K.Dsp.means g.K.TraceBuffer.holds g.K.Drain.empties in
    let phase = subst (λ n. Phase means by (rounds_todo (command_rounds n)) c.do_command.result c.loop-numbered.desk (Seated c.loop-numbered.session c.loop-numbered.inputs (output_slots c.loop-numbered.outputs)) c.do_command.new.desk (Seated c.do_command.new.session c.do_command.new.inputs (output_slots c.do_command.new.outputs))) c.numbered-item.is c.do_command.ensures.phase in
    commands_off means by c.args.commands.now c.loop-numbered.numbered-index _ _ _ _ _ _ _ c.loop-numbered-test.true c.loop-numbered.invariant.so_far (rw c.if-not-do_command.true at phase)

pub loop-numbered-preserved : goal.loop-numbered-preserved
loop-numbered-preserved g c =
    let means = g.D.Desk.means in
    let by = KeptTurn g.K.Dsp.means g.K.TraceBuffer.holds g.K.Drain.empties in
    let phase = subst (λ n. Phase means by (rounds_todo (command_rounds n)) c.do_command.result c.loop-numbered.desk (Seated c.loop-numbered.session c.loop-numbered.inputs (output_slots c.loop-numbered.outputs)) c.do_command.new.desk (Seated c.do_command.new.session c.do_command.new.inputs (output_slots c.do_command.new.outputs))) c.numbered-item.is c.do_command.ensures.phase in
    record {
      plan = c.do_command.ensures.plan ∙ c.loop-numbered.invariant.plan;
      files = c.do_command.ensures.files;
      keeps = c.do_command.ensures.keeps;
      empty = c.do_command.ensures.empty;
      sent = omega (arith, c.do_command.ensures.sent, c.loop-numbered.invariant.sent);
      so_far = commands_on means by c.args.commands.now c.loop-numbered.numbered-index _ _ _ _ _ _ _ c.loop-numbered-test.true c.loop-numbered.invariant.so_far (rw c.if-not-do_command.false at phase);
    }

pub returns : goal.returns
returns g c =
    let past : length c.args.commands.now ≤ c.loop-numbered.numbered-index = c.loop-numbered-test.false in
    rw drop_all at c.loop-numbered.invariant.so_far

pub do_command-requires-clause-plan : goal.do_command-requires-clause-plan
do_command-requires-clause-plan g c = subst IsSound (sym c.loop-numbered.invariant.plan) c.requires.plan
