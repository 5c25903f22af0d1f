use Rattle.std.proofs.Common.{drop}
use Rattle.run_tools.proofs.CheckPhases.{Unsaid}
use Rattle.run_tools.proofs.graph.say_all.Given as goal

-- the lines that are left, said, make all said
abbrev pub invariant-loop-line : goal.invariant-loop-line
invariant-loop-line g l = Unsaid g.D.Desk.means l.lines (drop l.line-index l.lines) l.fn.desk l.desk
