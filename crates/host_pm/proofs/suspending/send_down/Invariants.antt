use Rattle.std.proofs.Common.{true, [], ◌∷◌}
use Rattle.mbox_link.specs.Calls.{world}
use Rattle.host_widgets.specs.ActLists.{stop_acts}
use Rattle.host_widgets.specs.HostActs.{Save}
use Rattle.host_pm.proofs.Loops.{SoFar}
use Rattle.host_pm.proofs.suspending.send_down.Given as goal

-- what is still to come decides the result of all
abbrev pub invariant-loop-place : goal.invariant-loop-place
invariant-loop-place g l =
    SoFar g.P.Dsp.means l.plan true stop_acts (Save ∷ []) l.kept l.place (world l.fn.dsp l.fn.io l.fn.out) (world l.dsp l.io l.out) l.so_far
