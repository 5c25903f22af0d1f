use Rattle.run_desk.proofs.Steps.{free_off}
use Rattle.run_desk.proofs.ending.fail_no_memory.Goals as goal

pub returns-clause-said : goal.returns-clause-said
returns-clause-said g c = λ next. free_off g.D.Desk.means next _ _ _ c.stop_for.ensures
