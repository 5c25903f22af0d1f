use Rattle.ipc3_model.specs.Messages.{decoded}
use Rattle.row_reasons.proofs.Refused.{refusals-told}
use Rattle.row_reasons.proofs.laws.refusals_are_errors.Goals as goal

pub returns : goal.returns
returns c = λ f request. refusals-told f (decoded request)
