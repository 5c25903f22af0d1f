use Rattle.std.proofs.Common.{take}
use Rattle.std.specs.List.{flat_map}
use Rattle.mbox_link.specs.Calls.{world}
use Rattle.host_widgets.specs.ActCarried.{ActsSent}
use Rattle.host_widgets.specs.Groups.{finish_acts_of}
use Rattle.host_widgets.proofs.Walks.{passing}
use Rattle.host_widgets.proofs.lists.finish_pipes.Given as goal

-- so far each pipeline of these is complete
abbrev pub invariant-loop-pipe : goal.invariant-loop-pipe
invariant-loop-pipe g l = ActsSent g.P.Dsp.means l.plan (flat_map (finish_acts_of l.indices) (take l.pipe-index l.plan.graph.pipes)) (world l.fn.dsp l.fn.io l.fn.out) (world l.dsp l.io l.out) passing
