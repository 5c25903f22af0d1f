use Rattle.std.proofs.Common.{◌≡◌, ◌++◌, map, take}
use Rattle.mbox_link.specs.Calls.{world}
use Rattle.host_widgets.specs.HostActs.{Make}
use Rattle.host_widgets.specs.MadeLists.{ActsPassed}
use Rattle.host_widgets.proofs.Walks.{passing}
use Rattle.host_widgets.proofs.lists.make_widgets.Given as goal

-- so far each widget was made, and is listed
abbrev pub invariant-loop-id : goal.invariant-loop-id
invariant-loop-id g l = record {
  sent : ActsPassed g.P.Dsp.means l.plan (map Make (take l.id-index l.ids)) (map Make (take l.id-index l.ids)) (world l.fn.dsp l.fn.io l.fn.out) (world l.dsp l.io l.out) passing;
  made : l.made.items ≡ l.fn.made.items ++ take l.id-index l.ids;
}
