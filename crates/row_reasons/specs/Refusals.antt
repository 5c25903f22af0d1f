-- Why bytes are refused.
use Rattle.std.specs.Prelude.{◌≡◌, ℕ, ℤ, List, Option, Some, Result, Ok, Err, option_map}
use Rattle.stream_law.specs.State.{FwState}
use Rattle.ipc3_model.specs.declared.message.Message.{Message}
use Rattle.ipc3_model.specs.declared.fault.CodecFault.{CodecFault}
use Rattle.ipc3_model.specs.Messages.{decoded}
use Rattle.mbox_link.specs.ErrorNumbers.{invalid}
use Rattle.mbox_link.specs.Step.{row_of}
use Rattle.row_reasons.specs.Errors.{errno_of}
use Rattle.row_reasons.specs.Reasons.{reason}
use Rattle.row_reasons.specs.ReasonLaws.{error_of}
use Rattle.row_reasons.specs.declared.refusals.Refusal.{Refusal}
use Rattle.row_reasons.specs.declared.refusals.Refusal.TheVariants.{Broken, Refused}

-- the fault of bytes that are no message, or the reason of the message that they are
abbrev pub refusal_of : FwState → Result Message CodecFault → Option Refusal
refusal_of f (Ok m) = option_map Refused (reason f m)
refusal_of f (Err fault) = Some (Broken fault)

abbrev pub refusal_errno : Refusal → ℤ
refusal_errno (Broken fault) = invalid
refusal_errno (Refused r) = errno_of r

-- The row of bytes answers an error exactly if there is a refusal, and it is the refusal's.
abbrev pub RefusalsAreErrors : Type 0
RefusalsAreErrors = (f : FwState) (request : List ℕ) → option_map refusal_errno (refusal_of f (decoded request)) ≡ error_of (row_of f (decoded request))
