use Rattle.std.proofs.Common.{map, take}
use Rattle.mbox_link.specs.Calls.{world}
use Rattle.host_widgets.proofs.Walks.{passing}
use Rattle.host_widgets.specs.UpActs.{unmade_order}
use Rattle.host_dynamic.proofs.lists.unmake.Given as goal
use Rattle.host_widgets.specs.HostActs.{Unmake}
use Rattle.host_widgets.specs.MadeLists.{ActsPassed}

-- so far each was unmade
abbrev pub invariant-loop-id : goal.invariant-loop-id
invariant-loop-id g l =
    ActsPassed g.P.Dsp.means l.plan (map Unmake (take l.id-index (unmade_order l.plan.graph l.made))) (map Unmake (take l.id-index (unmade_order l.plan.graph l.made))) (world l.fn.dsp l.fn.io l.fn.out) (world l.dsp l.io l.out) passing
