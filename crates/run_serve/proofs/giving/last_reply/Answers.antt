use Rattle.std.proofs.Common.{ap, ◌∙◌, arith, Ok}
use Rattle.ipc3_trace.specs.declared.entry.Next.TheVariants.{One}
use Rattle.ipc3_trace.specs.RecordsAt.{IsRecordAt}
use Rattle.ipc3_trace.proofs.WholeLaws.{next-within}
use Rattle.run_serve.proofs.giving.last_reply.Goals as goal

pub records-preserved-in-Reply : goal.records-preserved-in-Reply
records-preserved-in-Reply g c =
    let bytes = c.args.bytes.now in
    let stands : IsRecordAt bytes c.records.at c.in-Ok-One.entry c.in-Ok-One.next = (c.record_at.ensures.told (One c.in-Ok-One.entry c.in-Ok-One.next)).0 (c.in-Ok-One.is ∙ ap Ok c.in-Ok-One.field-0-is) in
    record { within = (next-within bytes c.records.at c.in-Ok-One.entry c.in-Ok-One.next c.records.invariant.within stands).1; inputs = c.give.ensures.inputs; outputs = c.give.ensures.outputs }

pub records-smaller-in-Reply : goal.records-smaller-in-Reply
records-smaller-in-Reply g c =
    let bytes = c.args.bytes.now in
    let stands : IsRecordAt bytes c.records.at c.in-Ok-One.entry c.in-Ok-One.next = (c.record_at.ensures.told (One c.in-Ok-One.entry c.in-Ok-One.next)).0 (c.in-Ok-One.is ∙ ap Ok c.in-Ok-One.field-0-is) in
    let place = next-within bytes c.records.at c.in-Ok-One.entry c.in-Ok-One.next c.records.invariant.within stands in
    omega (arith, place.0, place.1)

pub records-preserved-in-Lost : goal.records-preserved-in-Lost
records-preserved-in-Lost g c =
    let bytes = c.args.bytes.now in
    let stands : IsRecordAt bytes c.records.at c.in-Ok-One.entry c.in-Ok-One.next = (c.record_at.ensures.told (One c.in-Ok-One.entry c.in-Ok-One.next)).0 (c.in-Ok-One.is ∙ ap Ok c.in-Ok-One.field-0-is) in
    record { within = (next-within bytes c.records.at c.in-Ok-One.entry c.in-Ok-One.next c.records.invariant.within stands).1; inputs = c.give.ensures.inputs; outputs = c.give.ensures.outputs }

pub records-smaller-in-Lost : goal.records-smaller-in-Lost
records-smaller-in-Lost g c =
    let bytes = c.args.bytes.now in
    let stands : IsRecordAt bytes c.records.at c.in-Ok-One.entry c.in-Ok-One.next = (c.record_at.ensures.told (One c.in-Ok-One.entry c.in-Ok-One.next)).0 (c.in-Ok-One.is ∙ ap Ok c.in-Ok-One.field-0-is) in
    let place = next-within bytes c.records.at c.in-Ok-One.entry c.in-Ok-One.next c.records.invariant.within stands in
    omega (arith, place.0, place.1)

pub records-preserved : goal.records-preserved
records-preserved g c =
    let bytes = c.args.bytes.now in
    let stands : IsRecordAt bytes c.records.at c.in-Ok-One.entry c.in-Ok-One.next = (c.record_at.ensures.told (One c.in-Ok-One.entry c.in-Ok-One.next)).0 (c.in-Ok-One.is ∙ ap Ok c.in-Ok-One.field-0-is) in
    record { within = (next-within bytes c.records.at c.in-Ok-One.entry c.in-Ok-One.next c.records.invariant.within stands).1; inputs = c.give.ensures.inputs; outputs = c.give.ensures.outputs }

pub records-smaller : goal.records-smaller
records-smaller g c =
    let bytes = c.args.bytes.now in
    let stands : IsRecordAt bytes c.records.at c.in-Ok-One.entry c.in-Ok-One.next = (c.record_at.ensures.told (One c.in-Ok-One.entry c.in-Ok-One.next)).0 (c.in-Ok-One.is ∙ ap Ok c.in-Ok-One.field-0-is) in
    let place = next-within bytes c.records.at c.in-Ok-One.entry c.in-Ok-One.next c.records.invariant.within stands in
    omega (arith, place.0, place.1)
