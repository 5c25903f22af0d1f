use Rattle.sof_session.proofs.LoadSuccesses.{load-exactly, open-exactly}
use Rattle.sof_session.proofs.laws.successes.Goals as goal

pub returns-clause-load : goal.returns-clause-load
returns-clause-load c = load-exactly

pub returns-clause-open : goal.returns-clause-open
returns-clause-open c = open-exactly
