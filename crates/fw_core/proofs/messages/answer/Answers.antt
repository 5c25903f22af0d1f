use Rattle.std.proofs.Common.{subst, Ok}
use Rattle.std.specs.Prelude.{IfOk}
use Rattle.ipc3_model.specs.Meanings.{IsAllowed}
use Rattle.row_laws.specs.RowLaws.{HasBytes}
use Rattle.fw_core.proofs.messages.answer.Goals as goal

pub handle-requires-clause-allowed : goal.handle-requires-clause-allowed
handle-requires-clause-allowed c = (subst (λ d. IfOk d (λ m. IsAllowed m × HasBytes m)) c.in-Ok.is c.requires.message).0

pub handle-requires-clause-bytes : goal.handle-requires-clause-bytes
handle-requires-clause-bytes c = (subst (λ d. IfOk d (λ m. IsAllowed m × HasBytes m)) c.in-Ok.is c.requires.message).1
