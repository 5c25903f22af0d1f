use Rattle.std.proofs.Common.{true, sym, ◌∙◌}
use Rattle.sof_script.specs.Text.{answer_line}
use Rattle.sof_session.specs.Modes.{shown_in}
use Rattle.run_play.proofs.Commands.{line_failed, line_said, shown_none, shown_all}
use Rattle.run_play.proofs.carry.say_lines.Goals as goal

pub returns-then-not-is_ok-clause-phase : goal.returns-then-not-is_ok-clause-phase
returns-then-not-is_ok-clause-phase g c =
    let numbered = c.args.numbered.now in
    line_failed g.D.Desk.means (answer_line numbered.line c.args.answer.now) (shown_in numbered.command c.args.session.now.up c.args.session.now.plan c.args.session.now.kept) _ _
    (rw (sym c.is_ok.ensures.value ∙ c.if-not-is_ok.true, c.bytes.ensures ∙ c.write_line.ensures) at c.say.ensures)

pub returns-then-shows-clause-phase : goal.returns-then-shows-clause-phase
returns-then-shows-clause-phase g c =
    let means = g.D.Desk.means in
    let numbered = c.args.numbered.now in
    line_said means (answer_line numbered.line c.args.answer.now) (shown_in numbered.command c.args.session.now.up c.args.session.now.plan c.args.session.now.kept) c.say_shown.result _ _ _
    (rw (sym c.is_ok.ensures.value ∙ c.if-not-is_ok.false, c.bytes.ensures ∙ c.write_line.ensures) at c.say.ensures)
    (shown_all means c.args.session.now.up c.args.session.now.plan c.args.session.now.kept numbered.command c.say_shown.result _ _ (sym c.shows.ensures ∙ c.if-shows.true) c.say_shown.ensures.phase)

pub returns-else-shows-clause-phase : goal.returns-else-shows-clause-phase
returns-else-shows-clause-phase g c =
    let means = g.D.Desk.means in
    let numbered = c.args.numbered.now in
    line_said means (answer_line numbered.line c.args.answer.now) (shown_in numbered.command c.args.session.now.up c.args.session.now.plan c.args.session.now.kept) true _ _ _
    (rw (sym c.is_ok.ensures.value ∙ c.if-not-is_ok.false, c.bytes.ensures ∙ c.write_line.ensures) at c.say.ensures)
    (shown_none means c.args.session.now.up c.args.session.now.plan c.args.session.now.kept numbered.command _ (sym c.shows.ensures ∙ c.if-shows.false))
