use Rattle.sof_session.proofs.FaultSteps.{refused-is, lost-is, closed-is, dropped-is}
use Rattle.sof_session.proofs.laws.fault_rows.Goals as goal

pub returns-clause-refused : goal.returns-clause-refused
returns-clause-refused c = refused-is

pub returns-clause-lost : goal.returns-clause-lost
returns-clause-lost c = lost-is

pub returns-clause-closed : goal.returns-clause-closed
returns-clause-closed c = closed-is

pub returns-clause-dropped : goal.returns-clause-dropped
returns-clause-dropped c = dropped-is
