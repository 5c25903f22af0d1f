use Rattle.std.proofs.Common.{ap, ◌∙◌, arith, Ok}
use Rattle.ipc3_trace.specs.declared.entry.Next.TheVariants.{End, One}
use Rattle.ipc3_trace.specs.RecordsAt.{IsRecordAt}
use Rattle.ipc3_trace.proofs.WholeLaws.{next-within}
use Rattle.run_tools.proofs.DecodePhases.{left-first, left-more, left-failed, left-done, left-stopped}
use Rattle.run_tools.proofs.decode.say_records.Goals as goal

pub records-init : goal.records-init
records-init g c = record {
  within = omega arith;
  left = left-first g.D.Desk.means c.args.bytes.now c.args.desk.now (λ i. omega (arith, c.type_inv.bytes i));
}

pub records-preserved : goal.records-preserved
records-preserved g c =
    let bytes = c.args.bytes.now in
    let next = c.in-Ok-One.next in
    let entry = c.in-Ok-One.entry in
    let stands : IsRecordAt bytes c.records.at entry next = (c.record_at.ensures.told (One entry next)).0 (c.in-Ok-One.is ∙ ap Ok c.in-Ok-One.field-0-is) in
    record {
      within = (next-within bytes c.records.at entry next c.records.invariant.within stands).1;
      left = left-more g.D.Desk.means bytes c.records.at next entry c.args.desk.now c.records.desk c.say_record.new.desk c.records.invariant.left stands (rw c.if-not-say_record.false at c.say_record.ensures);
    }

pub records-smaller : goal.records-smaller
records-smaller g c =
    let bytes = c.args.bytes.now in
    let stands : IsRecordAt bytes c.records.at c.in-Ok-One.entry c.in-Ok-One.next = (c.record_at.ensures.told (One c.in-Ok-One.entry c.in-Ok-One.next)).0 (c.in-Ok-One.is ∙ ap Ok c.in-Ok-One.field-0-is) in
    let place = next-within bytes c.records.at c.in-Ok-One.entry c.in-Ok-One.next c.records.invariant.within stands in
    omega (arith, place.0, place.1)

pub returns-then-not-say_record : goal.returns-then-not-say_record
returns-then-not-say_record g c =
    let bytes = c.args.bytes.now in
    let stands : IsRecordAt bytes c.records.at c.in-Ok-One.entry c.in-Ok-One.next = (c.record_at.ensures.told (One c.in-Ok-One.entry c.in-Ok-One.next)).0 (c.in-Ok-One.is ∙ ap Ok c.in-Ok-One.field-0-is) in
    left-failed g.D.Desk.means bytes c.records.at c.in-Ok-One.next c.in-Ok-One.entry c.args.desk.now c.records.desk c.say_record.new.desk c.records.invariant.left stands (rw c.if-not-say_record.true at c.say_record.ensures)

pub returns-in-Ok-End : goal.returns-in-Ok-End
returns-in-Ok-End g c =
    let bytes = c.args.bytes.now in
    let here = (c.record_at.ensures.told End).0 (c.in-Ok-End.is ∙ ap Ok c.in-Ok-End.field-0-is) in
    left-done g.D.Desk.means bytes c.records.at c.args.desk.now c.records.desk c.records.invariant.left here

pub returns-in-Err : goal.returns-in-Err
returns-in-Err g c =
    let bytes = c.args.bytes.now in
    left-stopped g.D.Desk.means bytes c.records.at c.stop_at.result c.in-Err.fault c.args.desk.now c.records.desk c.stop_at.new.desk c.records.invariant.left c.records.invariant.within
    ((c.record_at.ensures.fault c.in-Err.fault).0 c.in-Err.is) c.stop_at.ensures
