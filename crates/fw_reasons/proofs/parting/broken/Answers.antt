use Rattle.std.proofs.Common.{sym, ap, ◌∙◌, Option, Some}
use Rattle.std.specs.Prelude.{option_map}
use Rattle.sof_base.specs.BlobFaults.{BlobFault}
use Rattle.eq_blob.specs.declared.fault.EqFault.{EqFault}
use Rattle.row_reasons.specs.Reasons.{fault_of}
use Rattle.row_reasons.specs.declared.reasons.Reason.{Reason}
use Rattle.row_reasons.specs.declared.reasons.Reason.TheVariants as why
use Rattle.fw_reasons.proofs.PartUnits.{named-said}
use Rattle.fw_reasons.proofs.parting.broken.Goals as goal

pub returns-in-Ok : goal.returns-in-Ok
returns-in-Ok c = ap (λ (o : Option BlobFault). option_map (λ fault. why.NoBlob c.args.id (fault_of fault)) o) c.in-Ok.ensures.fault

pub returns-in-Err : goal.returns-in-Err
returns-in-Err c =
    ap (λ (fault : EqFault). let o : Option Reason = Some (why.NoBlob c.args.id fault) in o) (sym (named-said c.in-Err.fault))
    ∙ ap (λ (o : Option BlobFault). option_map (λ fault. why.NoBlob c.args.id (fault_of fault)) o) c.in-Err.ensures.fault
