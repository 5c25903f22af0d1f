use Rattle.std.proofs.Common.{◌≡◌, ◌≤◌, ◌∙◌, true, false, length, take, Ok, inr, ap, sym, subst, arith}
use Rattle.std.proofs.lemmas.List.{nil_from_length, length-take-le}
use Rattle.ipc3_trace.specs.declared.entry.Next.TheVariants.{End, One}
use Rattle.ipc3_trace.specs.RecordsAt.{IsRecordAt}
use Rattle.ipc3_trace.specs.Records.{record_bytes}
use Rattle.ipc3_trace.specs.TraceFaults.{IsFaultAt}
use Rattle.run_serve.specs.declared.lines.Wrong.TheVariants.{Broken, Order}
use Rattle.run_serve.specs.declared.serving.Halt.TheVariants.{Wrong}
use Rattle.run_serve.specs.declared.giving.Given.TheVariants.{Misplaced}
use Rattle.run_serve.specs.Placed.{WasGiven}
use Rattle.run_serve.specs.Reads.{WasBrought, WasUnread}
use Rattle.run_serve.specs.Sent.{AllWentOut, backs_by}
use Rattle.run_serve.specs.Halted.{HaltedAt}
use Rattle.run_serve.proofs.ReadLaws.{same-then}
use Rattle.run_serve.proofs.WholeRecords.{one-record}
use Rattle.run_serve.proofs.GivenCalls.{WasCalled, was-called}
use Rattle.run_serve.proofs.Rounds.{round_of, is-round, is-served, is-unsent, is-unread, is-over, is-wrong}
use Rattle.run_serve.proofs.serving.serve_record.Goals as goal

-- a read failed
pub returns-in_default-clause-did : goal.returns-in_default-clause-did
returns-in_default-clause-did g c =
    let unread : WasUnread g.D.Desk.means c.args.desk.now c.read_record.new.desk = rw c.in_default.is at c.read_record.ensures.brought in
    is-unread g.D.Desk.means g.P.Dsp.means c.read_record.new.bytes c.args.desk.now c.read_record.new.desk c.args.dsp.now unread

-- the file ended
pub returns-in-Ok-End-clause-did : goal.returns-in-Ok-End-clause-did
returns-in-Ok-End-clause-did g c =
    let bytes = take c.in-Ok.there c.read_record.new.bytes in
    let over : 0 ≡ length bytes = (c.record_at.ensures.told End).0 (c.in-Ok-End.is ∙ ap Ok c.in-Ok-End.field-0-is) in
    is-over g.D.Desk.means g.P.Dsp.means bytes c.args.desk.now c.read_record.new.desk c.args.dsp.now c.in-Ok.ensures.brought (nil_from_length bytes (sym over))

-- what came is no record
pub returns-in-Err-clause-did : goal.returns-in-Err-clause-did
returns-in-Err-clause-did g c =
    let there = c.in-Ok.there in
    let within : there ≤ length c.read_record.new.bytes = omega (arith, c.in-Ok.ensures.within) in
    let fault : IsFaultAt (take there c.read_record.new.bytes) 0 c.in-Err.fault = (c.record_at.ensures.fault c.in-Err.fault).0 c.in-Err.is in
    is-wrong g.D.Desk.means g.P.Dsp.means c.read_record.new.bytes there (Broken c.in-Err.fault) c.args.desk.now c.read_record.new.desk c.args.dsp.now within c.in-Ok.ensures.brought fault

-- it is one that can't come there
pub returns-in-Misplaced-clause-did : goal.returns-in-Misplaced-clause-did
returns-in-Misplaced-clause-did g c =
    let means = g.D.Desk.means in
    let dsp = g.P.Dsp.means in
    let there = c.in-Ok.there in
    let bytes = take there c.read_record.new.bytes in
    let entry = c.in-Ok-One.entry in
    let within : there ≤ length c.read_record.new.bytes = omega (arith, c.in-Ok.ensures.within) in
    let brought : WasBrought means bytes c.args.desk.now c.read_record.new.desk = c.in-Ok.ensures.brought in
    let stands : IsRecordAt bytes 0 entry c.in-Ok-One._next = (c.record_at.ensures.told (One entry c.in-Ok-One._next)).0 (c.in-Ok-One.is ∙ ap Ok c.in-Ok-One.field-0-is) in
    let same : bytes ≡ record_bytes entry = one-record brought.0 bytes entry c.in-Ok-One._next brought.1 stands in
    let gave : WasGiven dsp entry Misplaced c.args.dsp.now c.give-given.new.dsp = rw c.in-Misplaced.is at c.give-given.ensures.gave in
    subst (λ q. HaltedAt means dsp c.read_record.new.bytes (Wrong there Order) c.args.desk.now c.args.dsp.now c.read_record.new.desk q) (sym gave.1)
    (is-wrong means dsp c.read_record.new.bytes there Order c.args.desk.now c.read_record.new.desk c.args.dsp.now within brought (entry, stands.is, same, gave.0))

-- it was given, and what came back went out
pub returns-in-Ok-answer : goal.returns-in-Ok-answer
returns-in-Ok-answer g c =
    let means = g.D.Desk.means in
    let dsp = g.P.Dsp.means in
    let there = c.in-Ok.there in
    let bytes = take there c.read_record.new.bytes in
    let entry = c.in-Ok-One.entry in
    let given = c.give-given.result in
    let d = c.args.desk.now in
    let m = c.read_record.new.desk in
    let e = c.answer.new.desk in
    let p = c.args.dsp.now in
    let q = c.give-given.new.dsp in
    let within : there ≤ length c.read_record.new.bytes = omega (arith, c.in-Ok.ensures.within) in
    let brought : WasBrought means bytes d m = c.in-Ok.ensures.brought in
    let stands : IsRecordAt bytes 0 entry c.in-Ok-One._next = (c.record_at.ensures.told (One entry c.in-Ok-One._next)).0 (c.in-Ok-One.is ∙ ap Ok c.in-Ok-One.field-0-is) in
    let same : bytes ≡ record_bytes entry = one-record brought.0 bytes entry c.in-Ok-One._next brought.1 stands in
    let called : WasCalled means dsp entry given p q = was-called means dsp entry given p q c.in_default-given.not-Misplaced c.give-given.ensures.gave in
    let went : AllWentOut means (backs_by given) true m e = c.in-Ok-answer.ensures.out in
    let size : there ≡ length (record_bytes entry) = sym (length-take-le there c.read_record.new.bytes within) ∙ ap length same in
    record {
      did = inr (
        round_of entry brought.0 given,
        is-round means dsp entry brought.0 given d m e p q brought.2 called bytes same stands.is brought.1,
        size,
        is-served means dsp entry brought.0 given d m e p q brought.2 called (backs_by given) called.backs went,
      );
      within = c.in-Ok.ensures.within;
      inputs = c.give-given.ensures.inputs;
      outputs = c.give-given.ensures.outputs;
      same = same-then means d m e c.in-Ok.ensures.same c.in-Ok-answer.ensures.same;
    }

-- or did not
pub returns-in-Err-answer : goal.returns-in-Err-answer
returns-in-Err-answer g c =
    let means = g.D.Desk.means in
    let dsp = g.P.Dsp.means in
    let there = c.in-Ok.there in
    let bytes = take there c.read_record.new.bytes in
    let entry = c.in-Ok-One.entry in
    let given = c.give-given.result in
    let d = c.args.desk.now in
    let m = c.read_record.new.desk in
    let e = c.answer.new.desk in
    let p = c.args.dsp.now in
    let q = c.give-given.new.dsp in
    let brought : WasBrought means bytes d m = c.in-Ok.ensures.brought in
    let stands : IsRecordAt bytes 0 entry c.in-Ok-One._next = (c.record_at.ensures.told (One entry c.in-Ok-One._next)).0 (c.in-Ok-One.is ∙ ap Ok c.in-Ok-One.field-0-is) in
    let same : bytes ≡ record_bytes entry = one-record brought.0 bytes entry c.in-Ok-One._next brought.1 stands in
    let called : WasCalled means dsp entry given p q = was-called means dsp entry given p q c.in_default-given.not-Misplaced c.give-given.ensures.gave in
    let went : AllWentOut means (backs_by given) false m e = c.in-Err-answer.ensures.out in
    record {
      did = is-unsent means dsp entry brought.0 given d m e p q brought.2 called c.read_record.new.bytes (backs_by given)
          (is-round means dsp entry brought.0 given d m e p q brought.2 called bytes same stands.is brought.1) called.backs went;
      within = tt;
      inputs = c.give-given.ensures.inputs;
      outputs = c.give-given.ensures.outputs;
      same = same-then means d m e c.in-Ok.ensures.same c.in-Err-answer.ensures.same;
    }
