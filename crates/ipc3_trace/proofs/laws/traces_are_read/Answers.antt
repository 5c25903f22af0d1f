use Rattle.ipc3_trace.proofs.WholeLaws.{one-trace, has-trace, stands-again, written-stand}
use Rattle.ipc3_trace.proofs.laws.traces_are_read.Goals as goal

pub returns-clause-one : goal.returns-clause-one
returns-clause-one c = one-trace

pub returns-clause-read : goal.returns-clause-read
returns-clause-read c = has-trace

pub returns-clause-again : goal.returns-clause-again
returns-clause-again c = stands-again

pub returns-clause-written : goal.returns-clause-written
returns-clause-written c = written-stand
