use Rattle.std.proofs.Common.{sym, ◌∙◌, arith}
use Rattle.sof_desk.specs.Desk.{Spoken}
use Rattle.sof_session.specs.Modes.{lines_in}
use Rattle.run_play.proofs.FewLines.{line_within, few_lines}
use Rattle.run_play.proofs.Commands.{leads_on, leads_off, leads_all}
use Rattle.run_play.proofs.Refills.{same_then, same_put}
use Rattle.run_play.proofs.carry.say_shown.Goals as goal

pub returns-then-not-is_ok : goal.returns-then-not-is_ok
returns-then-not-is_ok g c =
    let lines = lines_in c.args.session.now.up c.args.session.now.plan c.args.session.now.kept in
    record {
      phase = leads_off g.D.Desk.means lines c.loop-line.k c.show_line.new.line _ _ _ (rw c.loop-line-test.true at c.show_line.ensures.line) c.loop-line.invariant.so_far
          (rw (sym c.is_ok.ensures.value ∙ c.if-not-is_ok.true, c.bytes.ensures ∙ c.say.ensures.said) at c.say-in-loop-line.ensures);
      same = same_then g.D.Desk.means _ _ _ c.loop-line.invariant.same (same_put g.D.Desk.means Spoken _ _ _ _ c.say-in-loop-line.ensures);
    }

pub loop-line-preserved : goal.loop-line-preserved
loop-line-preserved g c =
    let lines = lines_in c.args.session.now.up c.args.session.now.plan c.args.session.now.kept in
    record {
      so_far = leads_on g.D.Desk.means lines c.loop-line.k c.show_line.new.line _ _ _ (rw c.loop-line-test.true at c.show_line.ensures.line) c.loop-line.invariant.so_far
          (rw (sym c.is_ok.ensures.value ∙ c.if-not-is_ok.false, c.bytes.ensures ∙ c.say.ensures.said) at c.say-in-loop-line.ensures);
      same = same_then g.D.Desk.means _ _ _ c.loop-line.invariant.same (same_put g.D.Desk.means Spoken _ _ _ _ c.say-in-loop-line.ensures);
    }

pub returns : goal.returns
returns g c =
    let lines = lines_in c.args.session.now.up c.args.session.now.plan c.args.session.now.kept in
    record {
      phase = leads_all g.D.Desk.means lines c.loop-line.k c.show_line.new.line _ _ (rw c.loop-line-test.false at c.show_line.ensures.line) c.loop-line.invariant.so_far;
      same = c.loop-line.invariant.same;
    }

pub overflow_add-k : goal.overflow_add-k
overflow_add-k g c =
    let plan = c.args.session.now.plan in
    let kept = c.args.session.now.kept in
    omega (arith, line_within (lines_in c.args.session.now.up plan kept) c.loop-line.k c.show_line.new.line (rw c.loop-line-test.true at c.show_line.ensures.line), few_lines plan c.requires kept c.args.session.now.up)

pub loop-line-smaller : goal.loop-line-smaller
loop-line-smaller g c =
    let plan = c.args.session.now.plan in
    let kept = c.args.session.now.kept in
    omega (arith, line_within (lines_in c.args.session.now.up plan kept) c.loop-line.k c.show_line.new.line (rw c.loop-line-test.true at c.show_line.ensures.line))
