use Rattle.row_laws.proofs.BootKept.{boot-kept}
use Rattle.row_laws.proofs.RowKept.{row-kept, step-kept}
use Rattle.row_laws.proofs.TickKept.{tick-kept}
use Rattle.row_laws.proofs.laws.state_laws.Goals as goal

pub returns-clause-row : goal.returns-clause-row
returns-clause-row c = row-kept

pub returns-clause-step : goal.returns-clause-step
returns-clause-step c f request bytes kept = step-kept f request bytes (λ m is. (c.messages_are_decoded.ensures.carried request m bytes).0 is) kept

pub returns-clause-boot : goal.returns-clause-boot
returns-clause-boot c = boot-kept

pub returns-clause-tick : goal.returns-clause-tick
returns-clause-tick c = tick-kept
