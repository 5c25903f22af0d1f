use Rattle.std.proofs.Common.{ℕ, Option, false, subst, sym, ◌∙◌}
use Rattle.sof_base.specs.declared.format.Params.{Params}
use Rattle.ipc3_model.specs.declared.message.Message.TheVariants.{PcmParams}
use Rattle.ipc3_model.specs.Messages.{message_spelling}
use Rattle.mbox_link.specs.Calls.{world}
use Rattle.host_widgets.specs.declared.kept.Found.{Found}
use Rattle.host_widgets.specs.HostActs.{Prepare}
use Rattle.host_widgets.specs.ActLists.{prepare_by}
use Rattle.host_pm.specs.InTurn.{InTurn, Told}
use Rattle.host_pm.proofs.Turns.{turn-one}
use Rattle.host_pm.proofs.resuming.prepare.Goals as goal

pub returns : goal.returns
returns g c =
    let means = g.P.Dsp.means in
    let plan = c.args.plan.now in
    let host = c.args.stream.now.host in
    let params = c.in-Prepared-Some.params in
    let w = world c.args.dsp.now c.args.io.now c.args.out.now in
    let v = world c.tell.new.dsp c.tell.new.io c.tell.new.out in
    let told = subst (λ (d : ℕ). Told means (message_spelling (PcmParams host d params)) w v c.tell.result) (c.direction.ensures ∙ sym c.requires.goes) c.tell.ensures in
    subst (λ (x : Found × Option Params). InTurn means plan false (prepare_by host x.0 x.1) w v c.tell.result) (λ i. (sym c.in-Prepared-Some.is-0 i, sym c.in-Prepared-Some.is-1 i))
    (turn-one means plan false (Prepare host params) w v c.tell.result told)
