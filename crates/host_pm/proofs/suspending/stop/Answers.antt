use Rattle.std.proofs.Common.{⊎_elim, subst, sym, true}
use Rattle.ipc3_model.specs.declared.message.Message.{Message}
use Rattle.ipc3_model.specs.Messages.{message_spelling}
use Rattle.mbox_link.specs.Calls.{world}
use Rattle.host_widgets.specs.declared.kept.Found.{Found}
use Rattle.host_widgets.specs.declared.trigger.Trigger.TheVariants.{Stop}
use Rattle.host_widgets.specs.HostActs.{Trig}
use Rattle.host_widgets.specs.ActLists.{stop_by}
use Rattle.host_pm.specs.InTurn.{InTurn, Told}
use Rattle.host_pm.proofs.Turns.{turn-one}
use Rattle.host_pm.proofs.suspending.stop.Goals as goal

pub returns-in-Running : goal.returns-in-Running
returns-in-Running g c =
    let means = g.P.Dsp.means in
    let plan = c.args.plan.now in
    let w = world c.args.dsp.now c.args.io.now c.args.out.now in
    let v = world c.tell.new.dsp c.tell.new.io c.tell.new.out in
    let told = subst (λ (m : Message). Told means (message_spelling m) w v c.tell.result) c.message.ensures c.tell.ensures in
    let one = turn-one means plan true (Trig c.args.host Stop) w v c.tell.result told in
    ⊎_elim
    (λ is. subst (λ (f : Found). InTurn means plan true (stop_by c.args.host f) w v c.tell.result) (sym is) one)
    (λ is. subst (λ (f : Found). InTurn means plan true (stop_by c.args.host f) w v c.tell.result) (sym is) one)
    c.in-Running.is
