use Rattle.std.proofs.Common.{is_ok}
use Rattle.tplg_plan.specs.HeapNeed.{need_on}
use Rattle.run_tools.specs.Checking.{counts_on, count_lines}
use Rattle.run_tools.proofs.CheckPhases.{counted, halted}
use Rattle.run_tools.proofs.check.do_check.Goals as goal

pub returns-in-Err : goal.returns-in-Err
returns-in-Err g c = c.in-Err.ensures _

pub returns-in-Ok-checked : goal.returns-in-Ok-checked
returns-in-Ok-checked g c =
    let plan = c.in-Ok-checked.plan in
    let right = rw c.deref.ensures.value at c.in-Ok-checked.ensures in
    rw (c.status_of.ensures, c.is_ok.ensures.value)
    (counted g.D.Desk.means c.args.name.now c.in-Ok.bytes.items c.args.desk.now c.fetch.new.desk c.say_counts.new.desk c.in-Ok.ensures.0 c.in-Ok.ensures.1
    right.1.0 (counts_on plan (need_on plan.graph)) (is_ok c.say_counts.result) right.1.1 right.1.2 c.say_counts.ensures)

pub returns : goal.returns
returns g c =
    halted g.D.Desk.means count_lines c.args.name.now c.in-Ok.bytes.items c.args.desk.now c.fetch.new.desk c.stop_for.new.desk c.in-Ok.ensures.0 c.in-Ok.ensures.1
    c.in-Err-checked.halt _ (rw c.deref.ensures.value at c.in-Err-checked.ensures) c.stop_for.ensures
