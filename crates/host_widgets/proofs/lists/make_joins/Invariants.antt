use Rattle.std.proofs.Common.{take, map}
use Rattle.mbox_link.specs.Calls.{world}
use Rattle.host_widgets.specs.HostActs.{Join}
use Rattle.host_widgets.specs.ActCarried.{ActsSent}
use Rattle.host_widgets.proofs.Walks.{passing}
use Rattle.host_widgets.proofs.lists.make_joins.Given as goal

-- so far each join was made
abbrev pub invariant-loop-join : goal.invariant-loop-join
invariant-loop-join g l = ActsSent g.P.Dsp.means l.plan (take l.join-index (map (λ j. Join j.source j.sink) l.joins)) (world l.fn.dsp l.fn.io l.fn.out) (world l.dsp l.io l.out) passing
