use Rattle.std.proofs.Common.{true, false, sym, ◌∙◌}
use Rattle.run_desk.proofs.Steps.{says}
use Rattle.run_desk.proofs.files.stop.Goals as goal

pub returns-then-is_ok : goal.returns-then-is_ok
returns-then-is_ok g c =
    says g.D.Desk.means c.args.line.now c.args.status true c.args.desk.now c.say.new.self
    (rw (sym c.is_ok.ensures.value ∙ c.if-is_ok.true) at c.say.ensures)

pub returns-else-is_ok : goal.returns-else-is_ok
returns-else-is_ok g c =
    says g.D.Desk.means c.args.line.now c.args.status false c.args.desk.now c.say.new.self
    (rw (sym c.is_ok.ensures.value ∙ c.if-is_ok.false) at c.say.ensures)
