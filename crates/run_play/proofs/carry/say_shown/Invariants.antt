use Rattle.std.proofs.Common.{◌-◌, drop, length}
use Rattle.sof_session.specs.Modes.{lines_in}
use Rattle.run_play.specs.Opening.{SameFiles}
use Rattle.run_play.proofs.Commands.{Leads}
use Rattle.run_play.proofs.carry.say_shown.Given as goal

-- the lines that are left, said, make all said
abbrev pub invariant-loop-line : goal.invariant-loop-line
invariant-loop-line g l =
    let lines = lines_in l.session.up l.session.plan l.session.kept in
    record {
      so_far : Leads g.D.Desk.means lines (drop l.k lines) l.fn.desk l.desk;
      same : SameFiles g.D.Desk.means l.fn.desk l.desk;
    }

abbrev pub decreases-loop-line : goal.decreases-loop-line
decreases-loop-line g l = length (lines_in l.session.up l.session.plan l.session.kept) - l.k
