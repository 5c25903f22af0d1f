use Rattle.std.proofs.Common.{◌≤◌, ◌∙◌, arith}
use Rattle.run_serve.specs.declared.serving.Halt.TheVariants.{Wrong, Desk}
use Rattle.run_serve.specs.Reads.{requests_slot}
use Rattle.run_serve.specs.Serving.{replies_slot}
use Rattle.run_serve.specs.Halted.{ServedOne, HaltedAt}
use Rattle.run_serve.proofs.ServedRecords.{on-halted, on-wrong, on-long, left-more, left-over}
use Rattle.run_serve.proofs.serving.serve_records.Goals as goal

-- the file ended
pub returns-in-Ok-eq0 : goal.returns-in-Ok-eq0
returns-in-Ok-eq0 g c =
    let means = g.D.Desk.means in
    let dsp = g.P.Dsp.means in
    let did : ServedOne means dsp 0 c.records.desk c.records.dsp c.serve_record.new.desk c.serve_record.new.dsp = rw c.in-Ok-eq0.field-0-test at c.in-Ok-eq0.ensures.did in
    rw c.end_with.ensures
    (left-over means dsp c.args.desk.now c.args.dsp.now c.records.at c.end_all.result c.records.desk c.records.dsp c.serve_record.new.desk c.serve_record.new.dsp c.end_all.new.desk c.records.invariant.left c.records-test.true did c.end_all.ensures)

pub records-preserved : goal.records-preserved
records-preserved g c =
    let some : 1 ≤ c.in-Ok.size = omega (arith, c.in-Ok.size-test.1) in
    record {
      opened = c.in-Ok.ensures.same.opened requests_slot ∙ c.records.invariant.opened;
      created = c.in-Ok.ensures.same.created replies_slot ∙ c.records.invariant.created;
      inputs = c.in-Ok.ensures.inputs;
      outputs = c.in-Ok.ensures.outputs;
      counted = omega (arith, c.records.invariant.counted, some);
      few = omega (arith, c.records-test.true, c.in-Ok.ensures.within);
      left = left-more g.D.Desk.means g.P.Dsp.means c.args.desk.now c.args.dsp.now c.records.at c.in-Ok.size c.records.desk c.records.dsp c.serve_record.new.desk c.serve_record.new.dsp c.records.invariant.left c.in-Ok.ensures.did c.in-Ok.size-test.1;
    }

-- a record is at fault
pub returns-in-Err-Wrong : goal.returns-in-Err-Wrong
returns-in-Err-Wrong g c =
    let means = g.D.Desk.means in
    let dsp = g.P.Dsp.means in
    let halted : HaltedAt means dsp c.serve_record.new.bytes (Wrong c.in-Err-Wrong.there c.in-Err-Wrong.wrong) c.records.desk c.records.dsp c.serve_record.new.desk c.serve_record.new.dsp = rw c.in-Err-Wrong.field-0-is at c.in-Err-Wrong.ensures.did in
    c.records.invariant.left c.stop_at.result c.stop_at.new.desk c.serve_record.new.dsp
    (on-wrong means dsp c.records.at c.stop_at.result c.in-Err-Wrong.there c.serve_record.new.bytes c.in-Err-Wrong.wrong c.records.desk c.records.dsp c.serve_record.new.desk c.serve_record.new.dsp c.stop_at.new.desk c.records-test.true halted c.stop_at.ensures)

-- the desk failed
pub returns-in-Err-Desk : goal.returns-in-Err-Desk
returns-in-Err-Desk g c =
    let means = g.D.Desk.means in
    let dsp = g.P.Dsp.means in
    let halted : HaltedAt means dsp c.serve_record.new.bytes Desk c.records.desk c.records.dsp c.serve_record.new.desk c.serve_record.new.dsp = rw c.in-Err-Desk.field-0-is at c.in-Err-Desk.ensures.did in
    rw c.end_with-in-Err-Desk.ensures
    (c.records.invariant.left 3 c.serve_record.new.desk c.serve_record.new.dsp
    (on-halted means dsp c.records.at c.serve_record.new.bytes c.records.desk c.records.dsp c.serve_record.new.desk c.serve_record.new.dsp c.records-test.true halted))

-- there are too many bytes
pub returns : goal.returns
returns g c =
    rw c.end_with-2.ensures
    (c.records.invariant.left c.stop.result c.stop.new.desk c.records.dsp (on-long g.D.Desk.means g.P.Dsp.means c.records.at c.stop.result c.records.desk c.records.dsp c.stop.new.desk c.records-test.false c.stop.ensures))
