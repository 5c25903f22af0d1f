use Rattle.std.proofs.Common.{ap, ◌∙◌, arith, Ok}
use Rattle.ipc3_trace.specs.declared.entry.Next.TheVariants.{End, One}
use Rattle.ipc3_trace.specs.RecordsAt.{IsRecordAt}
use Rattle.ipc3_trace.proofs.WholeLaws.{end-first, end-more, end-none, end-fault, next-within}
use Rattle.ipc3_trace.proofs.reading.first_fault.Goals as goal

pub records-init : goal.records-init
records-init c = record { within = omega arith; left = end-first c.args.bytes.now (λ i. omega (arith, c.type_inv.bytes i)) }

pub records-preserved : goal.records-preserved
records-preserved c =
    let bytes = c.args.bytes.now in
    let stands : IsRecordAt bytes c.records.at c.in-Ok-One._entry c.in-Ok-One.next = (c.record_at.ensures.told (One c.in-Ok-One._entry c.in-Ok-One.next)).0 (c.in-Ok-One.is ∙ ap Ok c.in-Ok-One.field-0-is) in
    record {
      within = (next-within bytes c.records.at c.in-Ok-One._entry c.in-Ok-One.next c.records.invariant.within stands).1;
      left = end-more bytes c.records.at c.in-Ok-One._entry c.in-Ok-One.next _ c.records.invariant.left stands;
    }

pub records-smaller : goal.records-smaller
records-smaller c =
    let bytes = c.args.bytes.now in
    let stands : IsRecordAt bytes c.records.at c.in-Ok-One._entry c.in-Ok-One.next = (c.record_at.ensures.told (One c.in-Ok-One._entry c.in-Ok-One.next)).0 (c.in-Ok-One.is ∙ ap Ok c.in-Ok-One.field-0-is) in
    let place = next-within bytes c.records.at c.in-Ok-One._entry c.in-Ok-One.next c.records.invariant.within stands in
    omega (arith, place.0, place.1)

pub returns-in-Ok-End : goal.returns-in-Ok-End
returns-in-Ok-End c = end-none c.args.bytes.now c.records.at _ c.records.invariant.left ((c.record_at.ensures.told End).0 (c.in-Ok-End.is ∙ ap Ok c.in-Ok-End.field-0-is))

pub returns-in-Err : goal.returns-in-Err
returns-in-Err c = end-fault c.args.bytes.now c.records.at _ c.in-Err.fault c.records.invariant.left c.records.invariant.within ((c.record_at.ensures.fault c.in-Err.fault).0 c.in-Err.is)
