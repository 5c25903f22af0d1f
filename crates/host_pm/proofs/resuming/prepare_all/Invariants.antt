use Rattle.std.proofs.Common.{false, [], Ok}
use Rattle.mbox_link.specs.Calls.{world}
use Rattle.host_widgets.specs.ActLists.{prepare_acts}
use Rattle.host_pm.proofs.Loops.{SoFar}
use Rattle.host_pm.proofs.resuming.prepare_all.Given as goal

-- so far all passed
abbrev pub invariant-loop-place : goal.invariant-loop-place
invariant-loop-place g l =
    SoFar g.P.Dsp.means l.plan false prepare_acts [] l.kept l.place (world l.fn.dsp l.fn.io l.fn.out) (world l.dsp l.io l.out) (Ok tt)
