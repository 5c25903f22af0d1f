-- Refusals by the reasons of rows.
use Rattle.std.proofs.Common.{◌≡◌, ◌∙◌, refl, Option, Some, None, Result, Ok, Err}
use Rattle.std.specs.Prelude.{option_map}
use Rattle.stream_law.specs.State.{FwState}
use Rattle.ipc3_model.specs.declared.message.Message.{Message}
use Rattle.ipc3_model.specs.declared.fault.CodecFault.{CodecFault}
use Rattle.mbox_link.specs.Step.{row_of}
use Rattle.row_reasons.specs.Errors.{errno_of}
use Rattle.row_reasons.specs.Reasons.{reason}
use Rattle.row_reasons.specs.ReasonLaws.{error_of}
use Rattle.row_reasons.specs.declared.reasons.Reason.{Reason}
use Rattle.row_reasons.proofs.RowTold.{reasons-told}
use Rattle.row_reasons.specs.Refusals.{refusal_of, refusal_errno}
use Rattle.row_reasons.specs.declared.refusals.Refusal.TheVariants.{Refused}

errno-refused : (r : Option Reason) → option_map refusal_errno (option_map Refused r) ≡ option_map errno_of r
errno-refused None = refl
errno-refused (Some r) = refl

pub refusals-told : (f : FwState) (d : Result Message CodecFault) → option_map refusal_errno (refusal_of f d) ≡ error_of (row_of f d)
refusals-told f (Ok m) = errno-refused (reason f m) ∙ reasons-told f m
refusals-told f (Err fault) = refl
