use Rattle.run_tools.specs.Picturing.{picture_lines}
use Rattle.run_tools.proofs.CheckPhases.{told, halted}
use Rattle.run_tools.proofs.graph.do_graph.Goals as goal

pub returns-in-Err : goal.returns-in-Err
returns-in-Err g c = c.in-Err.ensures _

pub returns-in-Ok-pictured : goal.returns-in-Ok-pictured
returns-in-Ok-pictured g c =
    let right = rw c.deref.ensures.value at c.in-Ok-pictured.ensures in
    rw c.status_of.ensures
    (told g.D.Desk.means picture_lines c.args.name.now c.in-Ok.bytes.items c.args.desk.now c.fetch.new.desk c.say_all.new.desk c.in-Ok.ensures.0 c.in-Ok.ensures.1
    right.0 c.in-Ok-pictured.lines c.say_all.result right.1 right.2 (rw c.items.ensures at c.say_all.ensures))

pub returns : goal.returns
returns g c =
    halted g.D.Desk.means picture_lines c.args.name.now c.in-Ok.bytes.items c.args.desk.now c.fetch.new.desk c.stop_for.new.desk c.in-Ok.ensures.0 c.in-Ok.ensures.1
    c.in-Err-pictured.halt _ (rw c.deref.ensures.value at c.in-Err-pictured.ensures) c.stop_for.ensures
