use Rattle.std.proofs.Common.{take}
use Rattle.std.specs.List.{flat_map}
use Rattle.mbox_link.specs.Calls.{world}
use Rattle.host_widgets.specs.Kept.{controls_of}
use Rattle.host_widgets.specs.ActCarried.{ActsSent}
use Rattle.host_widgets.proofs.Walks.{passing}
use Rattle.host_widgets.specs.Groups.{put_acts_of}
use Rattle.host_widgets.proofs.lists.put_controls.Given as goal

-- so far each control of these was set
abbrev pub invariant-loop-place : goal.invariant-loop-place
invariant-loop-place g l =
    ActsSent g.P.Dsp.means l.plan (flat_map (put_acts_of l.plan l.indices) (take l.place (controls_of l.plan l.kept))) (world l.fn.dsp l.fn.io l.fn.out) (world l.dsp l.io l.out) passing
