use Rattle.std.proofs.Common.{false, ap, ◌∙◌}
use Rattle.sof_io.specs.Bound.{output_slots}
use Rattle.sof_io.proofs.OutputLaws.{slots-drained, drained-drained}
use Rattle.host_widgets.specs.declared.answers.Answer.TheVariants.{Done}
use Rattle.sof_session.specs.Modes.{shown_in}
use Rattle.sof_session.specs.Written.{with_bytes, written_in}
use Rattle.run_play.specs.Keeping.{trace_slot}
use Rattle.run_play.specs.KeptTurns.{KeptTurn}
use Rattle.run_play.specs.Rounds.{Round}
use Rattle.run_play.specs.Play.{unit_todo}
use Rattle.run_play.proofs.Commands.{earlier_said, same_slots, kept_on}
use Rattle.run_play.proofs.Kept.{keeps-same}
use Rattle.run_play.proofs.Openings.{files_moved}
use Rattle.run_play.proofs.UnreadBytes.{slots-ends}
use Rattle.run_play.proofs.carry.do_earlier_tick.Goals as goal

pub returns-clause-phase : goal.returns-clause-phase
returns-clause-phase g c numbered n is =
    let means = g.D.Desk.means in
    let device = g.K.Dsp.means in
    let holds = g.K.TraceBuffer.holds in
    let empties = g.K.Drain.empties in
    let round : Round = record { numbered = numbered; last = false } in
    let left = c.tick.new.self in
    let slots = ap output_slots c.write_unit.ensures.empty ∙ slots-drained c.tick.new.out ∙ c.tick.ensures.slots in
    let shown = shown_in numbered.command c.args.session.now.up c.args.session.now.plan c.args.session.now.kept in
    same_slots means (KeptTurn device holds empties) (unit_todo round) c.write_unit.result _ _ _ _ _ (output_slots c.args.outputs.now) (output_slots c.write_unit.new.outputs) slots
    (earlier_said means (KeptTurn device holds empties) numbered Done shown (with_bytes trace_slot (holds left.link.device) (written_in c.tick.new.out)) c.write_unit.result _ _ _ _
    (kept_on device holds empties numbered.command c.args.session.now left c.write_unit.new.session c.args.inputs.now c.tick.new.io c.args.outputs.now c.tick.new.out Done c.requires.empty (rw is (c.tick.ensures.stepped n)) c.tick.ensures.ends c.tick.ensures.plan c.tick.ensures.heap c.tick.ensures.agreed
    c.write_unit.ensures.emptied c.write_unit.ensures.rest)
    c.write_unit.ensures.phase)

pub returns-clause-files : goal.returns-clause-files
returns-clause-files g c =
    files_moved g.D.Desk.means c.args.inputs.now c.tick.new.io c.args.outputs.now c.write_unit.new.outputs _ _ (slots-ends c.tick.new.io c.args.inputs.now c.tick.ensures.ends)
    (ap output_slots c.write_unit.ensures.empty ∙ slots-drained c.tick.new.out ∙ c.tick.ensures.slots) c.write_unit.ensures.same c.requires.files

pub returns-clause-keeps : goal.returns-clause-keeps
returns-clause-keeps g c = keeps-same g.D.Desk.means g.K.TraceBuffer.holds c.args.desk.now c.write_unit.new.desk c.write_unit.ensures.same c.requires.keeps

pub returns-clause-empty : goal.returns-clause-empty
returns-clause-empty g c = rw c.write_unit.ensures.empty (drained-drained c.tick.new.out)

pub returns-clause-plan : goal.returns-clause-plan
returns-clause-plan g c = ap (λ s. s.plan) c.write_unit.ensures.rest ∙ c.tick.ensures.plan

pub returns-clause-sent : goal.returns-clause-sent
returns-clause-sent g c = ap (λ s. s.link.sent) c.write_unit.ensures.rest ∙ c.tick.ensures.sent
