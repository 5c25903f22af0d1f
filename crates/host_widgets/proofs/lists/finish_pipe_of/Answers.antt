use Rattle.std.proofs.Common.{refl, sym, subst, ◌∙◌, [], ◌∷◌, Bool, cond, Result, Ok, Err}
use Rattle.stream_law.specs.Order.{is_among}
use Rattle.ipc3_model.specs.declared.reply.Reply.{Reply}
use Rattle.ipc3_model.specs.Messages.{message_spelling}
use Rattle.mbox_link.specs.Calls.{world}
use Rattle.host_widgets.specs.declared.answers.HostFault.{HostFault}
use Rattle.host_widgets.specs.ActCarried.{ActsSent}
use Rattle.host_widgets.specs.ActMessages.{act_message}
use Rattle.host_widgets.specs.Bringing.{Sent}
use Rattle.host_widgets.specs.Host.{Outcome}
use Rattle.host_widgets.specs.HostActs.{Act, Finish}
use Rattle.host_widgets.proofs.Walks.{passing, failing, sent-one, handed_on}
use Rattle.host_widgets.proofs.lists.finish_pipe_of.Goals as goal

pub returns-then-not-has : goal.returns-then-not-has
returns-then-not-has g c =
    subst (λ (b : Bool). ActsSent g.P.Dsp.means c.args.plan.now (cond b (Finish c.args.pipe.now.id ∷ []) []) (world c.args.dsp.now c.args.io.now c.args.out.now) (world c.args.dsp.now c.args.io.now c.args.out.now) passing) (sym (sym c.has.ensures ∙ c.if-not-has.true)) (refl, refl)

pub returns-in_err-send : goal.returns-in_err-send
returns-in_err-send g c =
    let means = g.P.Dsp.means in let plan = c.args.plan.now in let act : Act = Finish c.args.pipe.now.id in
    let w = world c.args.dsp.now c.args.io.now c.args.out.now in let v = world c.send.new.dsp c.send.new.io c.send.new.out in
    let fault = c.in_err-send.field-0.0 in
    let failed = subst (λ (r : Result Reply HostFault). Sent means (message_spelling (act_message plan act)) w v r) c.in_err-send.was c.send.ensures in
    subst (λ (r : Outcome). ActsSent means plan (cond (is_among c.args.indices.now c.args.pipe.now.index) (act ∷ []) []) w v r) (sym (handed_on c.from_residual.result fault c.from_residual.ensures))
    (subst (λ (b : Bool). ActsSent means plan (cond b (act ∷ []) []) w v (failing fault)) (sym (sym c.has.ensures ∙ c.if-not-has.false)) (sent-one means plan act (Err fault) w v failed))

pub returns : goal.returns
returns g c =
    let means = g.P.Dsp.means in let plan = c.args.plan.now in let act : Act = Finish c.args.pipe.now.id in
    let w = world c.args.dsp.now c.args.io.now c.args.out.now in let v = world c.send.new.dsp c.send.new.io c.send.new.out in
    let passed = subst (λ (r : Result Reply HostFault). Sent means (message_spelling (act_message plan act)) w v r) c.in_ok-send.was c.send.ensures in
    subst (λ (b : Bool). ActsSent means plan (cond b (act ∷ []) []) w v passing) (sym (sym c.has.ensures ∙ c.if-not-has.false)) (sent-one means plan act (Ok c.in_ok-send.field-0) w v passed)
