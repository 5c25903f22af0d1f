use Rattle.std.proofs.Common.{◌≤◌, length}
use Rattle.std.proofs.lemmas.List.{drop_all}
use Rattle.run_tools.proofs.CheckPhases.{said_on, said_off}
use Rattle.run_tools.proofs.graph.say_all.Goals as goal

pub returns-then-not-say_line : goal.returns-then-not-say_line
returns-then-not-say_line g c =
    said_off g.D.Desk.means c.args.lines.now c.loop-line.line-index c.line-item.result c.loop-line-test.true c.line-item.is _ _ _ c.loop-line.invariant
    (rw c.if-not-say_line.true at c.say_line.ensures)

pub loop-line-preserved : goal.loop-line-preserved
loop-line-preserved g c =
    said_on g.D.Desk.means c.args.lines.now c.loop-line.line-index c.line-item.result c.loop-line-test.true c.line-item.is _ _ _ c.loop-line.invariant
    (rw c.if-not-say_line.false at c.say_line.ensures)

pub returns : goal.returns
returns g c =
    let past : length c.args.lines.now ≤ c.loop-line.line-index = c.loop-line-test.false in
    rw drop_all at c.loop-line.invariant
