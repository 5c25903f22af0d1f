use Rattle.std.proofs.Common.{◌≡◌, ◌∙◌, length, Ok, ap, sym}
use Rattle.std.proofs.lemmas.List.{nil_from_length}
use Rattle.ipc3_trace.specs.declared.entry.Next.TheVariants.{End, One}
use Rattle.ipc3_trace.specs.RecordsAt.{IsRecordAt}
use Rattle.ipc3_trace.proofs.HeadLaws.{whole-record}
use Rattle.ipc3_far.proofs.talk.answer_of.Goals as goal

pub answer_in-requires-clause-whole : goal.answer_in-requires-clause-whole
answer_in-requires-clause-whole c =
    let entry = c.in-Ok-One.entry in
    let next = c.in-Ok-One._next in
    let stands : IsRecordAt c.args.bytes.now 0 entry next = (c.record_at.ensures.told (One entry next)).0 (c.in-Ok-One.is ∙ ap Ok c.in-Ok-One.field-0-is) in
    whole-record c.args.bytes.now entry next c.requires.whole stands

pub returns-in-Ok-End : goal.returns-in-Ok-End
returns-in-Ok-End c =
    let over : 0 ≡ length c.args.bytes.now = (c.record_at.ensures.told End).0 (c.in-Ok-End.is ∙ ap Ok c.in-Ok-End.field-0-is) in
    nil_from_length c.args.bytes.now (sym over)
