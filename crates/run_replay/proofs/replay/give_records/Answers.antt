use Rattle.std.proofs.Common.{◌≡◌, refl, sym, ap, ◌∙◌, arith, rules, Ok, Err}
use Rattle.ipc3_trace.specs.declared.entry.Next.TheVariants.{End, One}
use Rattle.ipc3_trace.specs.RecordsAt.{IsRecordAt}
use Rattle.ipc3_trace.proofs.WholeLaws.{next-within}
use Rattle.run_replay.proofs.ReplayPhases.{give-first, give-more, give-stopped, give-broken, give-wanting, give-done, tallied-within, some-awaited, none-awaited}
use Rattle.run_replay.proofs.replay.give_records.Goals as goal

pub records-init : goal.records-init
records-init g c = record {
  within = omega arith;
  left = give-first g.P.Dsp.means c.args.bytes.now c.args.dsp.now (λ i. omega (arith, c.type_inv.bytes i)) c.requires.off;
  boots = omega arith;
  messages = omega arith;
  ticks = omega arith;
  inputs = c.requires.inputs;
  outputs = c.requires.outputs;
}

pub give_record-requires-clause-few : goal.give_record-requires-clause-few
give_record-requires-clause-few g c =
    let bytes = c.args.bytes.now in
    let stands : IsRecordAt bytes c.records.at c.in-Ok-One.entry c.in-Ok-One.next = (c.record_at.ensures.told (One c.in-Ok-One.entry c.in-Ok-One.next)).0 (c.in-Ok-One.is ∙ ap Ok c.in-Ok-One.field-0-is) in
    let place = next-within bytes c.records.at c.in-Ok-One.entry c.in-Ok-One.next c.records.invariant.within stands in
    record {
      boots = omega (arith, place.0, c.records.invariant.boots);
      messages = omega (arith, place.0, c.records.invariant.messages);
      ticks = omega (arith, place.0, c.records.invariant.ticks);
    }

pub records-preserved : goal.records-preserved
records-preserved g c =
    let bytes = c.args.bytes.now in
    let next = c.in-Ok-One.next in
    let entry = c.in-Ok-One.entry in
    let stands : IsRecordAt bytes c.records.at entry next = (c.record_at.ensures.told (One entry next)).0 (c.in-Ok-One.is ∙ ap Ok c.in-Ok-One.field-0-is) in
    let place = next-within bytes c.records.at entry next c.records.invariant.within stands in
    let told = rw c.in_ok-awaited-in-Ok-One.was at c.give_record.ensures.tally in
    let tally = told refl in
    let counts = tallied-within entry c.records.tally c.records.at next place.0 c.records.invariant.boots c.records.invariant.messages c.records.invariant.ticks in
    record {
      within = place.1;
      left = give-more g.P.Dsp.means bytes c.records.at c.records.awaited c.records.tally c.args.dsp.now c.records.dsp c.records.invariant.left next entry _ _ c.give_record.new.dsp stands (rw c.in_ok-awaited-in-Ok-One.was at c.give_record.ensures.went) tally;
      boots = rw tally counts.0;
      messages = rw tally counts.1;
      ticks = rw tally counts.2;
      inputs = c.give_record.ensures.inputs;
      outputs = c.give_record.ensures.outputs;
    }

pub records-smaller : goal.records-smaller
records-smaller g c =
    let bytes = c.args.bytes.now in
    let stands : IsRecordAt bytes c.records.at c.in-Ok-One.entry c.in-Ok-One.next = (c.record_at.ensures.told (One c.in-Ok-One.entry c.in-Ok-One.next)).0 (c.in-Ok-One.is ∙ ap Ok c.in-Ok-One.field-0-is) in
    let place = next-within bytes c.records.at c.in-Ok-One.entry c.in-Ok-One.next c.records.invariant.within stands in
    omega (arith, place.0, place.1)

pub returns-in_err-awaited-in-Ok-One : goal.returns-in_err-awaited-in-Ok-One
returns-in_err-awaited-in-Ok-One g c =
    let bytes = c.args.bytes.now in
    let stands : IsRecordAt bytes c.records.at c.in-Ok-One.entry c.in-Ok-One.next = (c.record_at.ensures.told (One c.in-Ok-One.entry c.in-Ok-One.next)).0 (c.in-Ok-One.is ∙ ap Ok c.in-Ok-One.field-0-is) in
    let out : c.from_residual.result ≡ Err c.in_err-awaited-in-Ok-One.field-0.0 = search rules in
    rw out
    (give-stopped g.P.Dsp.means bytes c.records.at c.records.awaited c.records.tally c.args.dsp.now c.records.dsp c.records.invariant.left c.in-Ok-One.next c.in-Ok-One.entry c.in_err-awaited-in-Ok-One.field-0.0 c.give_record.new.dsp stands
    (rw c.in_err-awaited-in-Ok-One.was at c.give_record.ensures.went))

-- a reply is still awaited
pub returns-then-is_some : goal.returns-then-is_some
returns-then-is_some g c =
    let bytes = c.args.bytes.now in
    let here = (c.record_at.ensures.told End).0 (c.in-Ok-End.is ∙ ap Ok c.in-Ok-End.field-0-is) in
    let reply = some-awaited c.records.awaited (sym (rw c.if-is_some.true at c.is_some.ensures)) in
    give-wanting g.P.Dsp.means bytes c.records.at c.records.awaited c.records.tally c.args.dsp.now c.records.dsp c.records.invariant.left reply.0 reply.1 here

pub returns-in-Ok-End : goal.returns-in-Ok-End
returns-in-Ok-End g c =
    let bytes = c.args.bytes.now in
    let here = (c.record_at.ensures.told End).0 (c.in-Ok-End.is ∙ ap Ok c.in-Ok-End.field-0-is) in
    let none = none-awaited c.records.awaited (sym (rw c.if-is_some.false at c.is_some.ensures)) in
    give-done g.P.Dsp.means bytes c.records.at c.records.awaited c.records.tally c.args.dsp.now c.records.dsp c.records.invariant.left none here

pub returns-in-Err : goal.returns-in-Err
returns-in-Err g c =
    let bytes = c.args.bytes.now in
    give-broken g.P.Dsp.means bytes c.records.at c.records.awaited c.records.tally c.args.dsp.now c.records.dsp c.records.invariant.left c.in-Err.fault c.records.invariant.within
    ((c.record_at.ensures.fault c.in-Err.fault).0 c.in-Err.is)
