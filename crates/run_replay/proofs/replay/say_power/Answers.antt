use Rattle.std.proofs.Common.{codes, is_ok}
use Rattle.sof_desk.specs.Desk.{Put, Spoken}
use Rattle.run_desk.proofs.Steps.{do_phase}
use Rattle.run_replay.proofs.replay.say_power.Goals as goal

pub returns-then-on : goal.returns-then-on
returns-then-on g c = rw c.if-on.true (do_phase g.D.Desk.means (Put Spoken (codes "power on\n")) (is_ok c.say.result) _ _ c.say.ensures)

pub returns-else-on : goal.returns-else-on
returns-else-on g c = rw c.if-on.false (do_phase g.D.Desk.means (Put Spoken (codes "power off\n")) (is_ok c.say-else-on.result) _ _ c.say-else-on.ensures)
