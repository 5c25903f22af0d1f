use Rattle.std.proofs.Common.{List, ◌∷◌, ℕ, true, false, sym, subst, ap, ◌∙◌}
use Rattle.sof_io.specs.Bound.{output_slots}
use Rattle.sof_io.proofs.OutputLaws.{slots-drained, drained-drained}
use Rattle.tplg_plan.specs.Sound.{IsSound}
use Rattle.sof_script.specs.Text.{answer_line}
use Rattle.sof_session.specs.Modes.{shown_in}
use Rattle.sof_session.specs.Written.{with_bytes, written_in}
use Rattle.run_play.specs.Keeping.{trace_slot}
use Rattle.run_play.specs.KeptTurns.{KeptTurn}
use Rattle.run_play.specs.Rounds.{Round}
use Rattle.run_desk.specs.Todo.{DeskPhase}
use Rattle.run_play.specs.Play.{unit_todo}
use Rattle.run_desk.specs.LinesTodo.{lines_todo}
use Rattle.run_play.proofs.Commands.{round_said, round_cut, same_slots, shown_same, show_stays, kept_on}
use Rattle.run_play.proofs.Kept.{keeps-same}
use Rattle.run_play.proofs.Openings.{files_moved}
use Rattle.run_play.proofs.Refills.{same_then}
use Rattle.run_play.proofs.UnreadBytes.{slots-ends}
use Rattle.run_play.proofs.carry.do_round.Goals as goal

-- the plan and the record stay where the device lets go
pub say_lines-requires : goal.say_lines-requires
say_lines-requires g c = record { plan = subst IsSound (sym (ap (λ s. s.plan) c.write_unit.ensures.rest ∙ c.step-answer.ensures.plan)) c.requires.plan }

pub returns-then-write_unit-clause-phase : goal.returns-then-write_unit-clause-phase
returns-then-write_unit-clause-phase g c =
    let means = g.D.Desk.means in
    let device = g.K.Dsp.means in
    let holds = g.K.TraceBuffer.holds in
    let empties = g.K.Drain.empties in
    let numbered = c.args.numbered.now in
    let round : Round = record { numbered = numbered; last = true } in
    let left = c.step-answer.new.self in
    let written = with_bytes trace_slot (holds left.link.device) (written_in c.step-answer.new.out) in
    let shown = shown_in numbered.command c.args.session.now.up c.args.session.now.plan c.args.session.now.kept in
    let slots = ap output_slots c.write_unit.ensures.empty ∙ slots-drained c.step-answer.new.out ∙ c.step-answer.ensures.slots in
    let plan = ap (λ s. s.plan) c.write_unit.ensures.rest ∙ c.step-answer.ensures.plan in
    let kept = ap (λ s. s.kept) c.write_unit.ensures.rest in
    let up = ap (λ s. s.up) c.write_unit.ensures.rest in
    let same = shown_same numbered.command c.args.session.now.up c.write_unit.new.session.up c.args.session.now.plan c.write_unit.new.session.plan c.args.session.now.kept c.write_unit.new.session.kept plan
    (λ shows. let stays = show_stays device numbered.command c.args.session.now left _ _ _ c.step-answer.ensures.stepped shows in (kept ∙ stays.0, up ∙ stays.1)) in
    let said = subst (λ (xs : List (List ℕ)). DeskPhase means (lines_todo xs) c.say_lines.result c.write_unit.new.desk c.say_lines.new.desk) (ap (λ (xs : List (List ℕ)). answer_line numbered.line c.step-answer.result ∷ xs) same) c.say_lines.ensures.phase in
    same_slots means (KeptTurn device holds empties) (unit_todo round) c.say_lines.result _ _ _ _ _ (output_slots c.args.outputs.now) (output_slots c.write_unit.new.outputs) slots
    (round_said means (KeptTurn device holds empties) round c.step-answer.result shown written c.say_lines.result _ _ _ _ _
    (kept_on device holds empties _ _ _ _ _ _ _ _ _ c.requires.empty c.step-answer.ensures.stepped c.step-answer.ensures.ends c.step-answer.ensures.plan c.step-answer.ensures.heap c.step-answer.ensures.agreed c.write_unit.ensures.emptied c.write_unit.ensures.rest)
    (rw c.if-write_unit.true at c.write_unit.ensures.phase) said)

pub returns-else-write_unit-clause-phase : goal.returns-else-write_unit-clause-phase
returns-else-write_unit-clause-phase g c =
    let means = g.D.Desk.means in
    let device = g.K.Dsp.means in
    let holds = g.K.TraceBuffer.holds in
    let empties = g.K.Drain.empties in
    let numbered = c.args.numbered.now in
    let round : Round = record { numbered = numbered; last = true } in
    let left = c.step-answer.new.self in
    let written = with_bytes trace_slot (holds left.link.device) (written_in c.step-answer.new.out) in
    let slots = ap output_slots c.write_unit.ensures.empty ∙ slots-drained c.step-answer.new.out ∙ c.step-answer.ensures.slots in
    same_slots means (KeptTurn device holds empties) (unit_todo round) false _ _ _ _ _ (output_slots c.args.outputs.now) (output_slots c.write_unit.new.outputs) slots
    (round_cut means (KeptTurn device holds empties) round c.step-answer.result (shown_in numbered.command c.args.session.now.up c.args.session.now.plan c.args.session.now.kept) written _ _ _ _
    (kept_on device holds empties _ _ _ _ _ _ _ _ _ c.requires.empty c.step-answer.ensures.stepped c.step-answer.ensures.ends c.step-answer.ensures.plan c.step-answer.ensures.heap c.step-answer.ensures.agreed c.write_unit.ensures.emptied c.write_unit.ensures.rest)
    (rw c.if-write_unit.false at c.write_unit.ensures.phase))

pub returns-then-write_unit-clause-files : goal.returns-then-write_unit-clause-files
returns-then-write_unit-clause-files g c =
    files_moved g.D.Desk.means c.args.inputs.now c.step-answer.new.io c.args.outputs.now c.write_unit.new.outputs _ _ (slots-ends c.step-answer.new.io c.args.inputs.now c.step-answer.ensures.ends)
    (ap output_slots c.write_unit.ensures.empty ∙ slots-drained c.step-answer.new.out ∙ c.step-answer.ensures.slots)
    (same_then g.D.Desk.means _ _ _ c.write_unit.ensures.same c.say_lines.ensures.same) c.requires.files

pub returns-else-write_unit-clause-files : goal.returns-else-write_unit-clause-files
returns-else-write_unit-clause-files g c =
    files_moved g.D.Desk.means c.args.inputs.now c.step-answer.new.io c.args.outputs.now c.write_unit.new.outputs _ _ (slots-ends c.step-answer.new.io c.args.inputs.now c.step-answer.ensures.ends)
    (ap output_slots c.write_unit.ensures.empty ∙ slots-drained c.step-answer.new.out ∙ c.step-answer.ensures.slots) c.write_unit.ensures.same c.requires.files

pub returns-then-write_unit-clause-keeps : goal.returns-then-write_unit-clause-keeps
returns-then-write_unit-clause-keeps g c = keeps-same g.D.Desk.means g.K.TraceBuffer.holds c.args.desk.now c.say_lines.new.desk (same_then g.D.Desk.means _ _ _ c.write_unit.ensures.same c.say_lines.ensures.same) c.requires.keeps

pub returns-else-write_unit-clause-keeps : goal.returns-else-write_unit-clause-keeps
returns-else-write_unit-clause-keeps g c = keeps-same g.D.Desk.means g.K.TraceBuffer.holds c.args.desk.now c.write_unit.new.desk c.write_unit.ensures.same c.requires.keeps

pub returns-then-write_unit-clause-empty : goal.returns-then-write_unit-clause-empty
returns-then-write_unit-clause-empty g c = rw c.write_unit.ensures.empty (drained-drained c.step-answer.new.out)

pub returns-else-write_unit-clause-empty : goal.returns-else-write_unit-clause-empty
returns-else-write_unit-clause-empty g c = rw c.write_unit.ensures.empty (drained-drained c.step-answer.new.out)

pub returns-then-write_unit-clause-plan : goal.returns-then-write_unit-clause-plan
returns-then-write_unit-clause-plan g c = ap (λ s. s.plan) c.write_unit.ensures.rest ∙ c.step-answer.ensures.plan

pub returns-else-write_unit-clause-plan : goal.returns-else-write_unit-clause-plan
returns-else-write_unit-clause-plan g c = ap (λ s. s.plan) c.write_unit.ensures.rest ∙ c.step-answer.ensures.plan

pub returns-then-write_unit-clause-sent : goal.returns-then-write_unit-clause-sent
returns-then-write_unit-clause-sent g c = rw (ap (λ s. s.link.sent) c.write_unit.ensures.rest) c.step-answer.ensures.sent

pub returns-else-write_unit-clause-sent : goal.returns-else-write_unit-clause-sent
returns-else-write_unit-clause-sent g c = rw (ap (λ s. s.link.sent) c.write_unit.ensures.rest) c.step-answer.ensures.sent
