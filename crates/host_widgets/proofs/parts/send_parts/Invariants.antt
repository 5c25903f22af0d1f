use Rattle.std.proofs.Common.{take}
use Rattle.mbox_link.specs.Calls.{world}
use Rattle.tplg_plan.specs.declared.plans.Plan.{Plan}
use Rattle.host_widgets.specs.ActLists.{part_acts}
use Rattle.host_widgets.specs.ActCarried.{ActsSent}
use Rattle.host_widgets.proofs.Walks.{passing}
use Rattle.host_widgets.proofs.parts.send_parts.Given as goal

-- so far each part was sent
abbrev pub invariant-loop-index : goal.invariant-loop-index
invariant-loop-index g l =
    (plan : Plan) → ActsSent g.P.Dsp.means plan (take l.index (part_acts l.comp l.blob)) (world l.fn.dsp l.fn.io l.fn.out) (world l.dsp l.io l.out) passing
