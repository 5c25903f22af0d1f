use Rattle.std.proofs.Common.{true}
use Rattle.mbox_link.specs.Calls.{world}
use Rattle.host_widgets.specs.HostActs.{Save}
use Rattle.host_pm.proofs.Turns.{turn-one}
use Rattle.host_pm.proofs.suspending.save.Goals as goal

pub returns : goal.returns
returns g c =
    turn-one g.P.Dsp.means c.args.plan.now true Save (world c.args.dsp.now c.args.io.now c.args.out.now) (world c.tell.new.dsp c.tell.new.io c.tell.new.out) c.tell.result c.tell.ensures
