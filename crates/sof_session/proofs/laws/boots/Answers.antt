use Rattle.sof_session.proofs.BootCounts.{load-boots, up-boots}
use Rattle.sof_session.proofs.laws.boots.Goals as goal

pub returns-clause-at_load : goal.returns-clause-at_load
returns-clause-at_load c = load-boots

pub returns-clause-on_use : goal.returns-clause-on_use
returns-clause-on_use c = up-boots
