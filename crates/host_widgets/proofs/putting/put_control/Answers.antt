use Rattle.std.proofs.Common.{◌≡◌, List, Result, Ok, Err, subst, sym, ap, ◌∙◌}
use Rattle.ipc3_model.specs.declared.message.Message.{Message}
use Rattle.ipc3_model.specs.declared.reply.Reply.{Reply}
use Rattle.ipc3_model.specs.Messages.{message_spelling}
use Rattle.mbox_link.specs.Calls.{world}
use Rattle.host_widgets.specs.declared.answers.HostFault.{HostFault}
use Rattle.host_widgets.specs.HostActs.{Act, Put}
use Rattle.host_widgets.specs.ActLists.{part_acts, control_acts}
use Rattle.host_widgets.specs.ActMessages.{act_message}
use Rattle.host_widgets.specs.Host.{Outcome}
use Rattle.host_widgets.specs.Bringing.{Sent}
use Rattle.host_widgets.specs.ActCarried.{ActsSent}
use Rattle.host_widgets.proofs.Walks.{passing, failing, sent-one, handed_on}
use Rattle.host_widgets.proofs.FirstSettings.{put-acts, put-message, blob-acts}
use Rattle.host_widgets.proofs.putting.put_control.Goals as goal

pub returns-in_err-send-in_default : goal.returns-in_err-send-in_default
returns-in_err-send-in_default g c =
    let means = g.P.Dsp.means in
    let plan = c.args.plan.now in
    let control = c.args.control.now in
    let kept = c.args.kept.now in
    let w = world c.args.dsp.now c.args.io.now c.args.out.now in
    let v = world c.send.new.dsp c.send.new.io c.send.new.out in
    let fault = c.in_err-send-in_default.field-0.0 in
    let message : c.set_message-setting.result ≡ act_message plan (Put control.comp kept.values) = c.set_message-setting.ensures ∙ put-message plan control kept.values c.requires.first in
    let sent = subst (λ (m : Message). Sent means (message_spelling m) w v c.send.result) message c.send.ensures in
    let failed = subst (λ (r : Result Reply HostFault). Sent means (message_spelling (act_message plan (Put control.comp kept.values))) w v r) c.in_err-send-in_default.was sent in
    subst (λ (r : Outcome). ActsSent means plan (control_acts (control, kept)) w v r) (sym (handed_on c.from_residual.result fault c.from_residual.ensures))
    (subst (λ (acts : List Act). ActsSent means plan acts w v (failing fault)) (sym (put-acts control kept c.in_default.not-Blob)) (sent-one means plan (Put control.comp kept.values) (Err fault) w v failed))

pub returns-in_ok-send-in_default : goal.returns-in_ok-send-in_default
returns-in_ok-send-in_default g c =
    let means = g.P.Dsp.means in
    let plan = c.args.plan.now in
    let control = c.args.control.now in
    let kept = c.args.kept.now in
    let w = world c.args.dsp.now c.args.io.now c.args.out.now in
    let v = world c.send.new.dsp c.send.new.io c.send.new.out in
    let message : c.set_message-setting.result ≡ act_message plan (Put control.comp kept.values) = c.set_message-setting.ensures ∙ put-message plan control kept.values c.requires.first in
    let sent = subst (λ (m : Message). Sent means (message_spelling m) w v c.send.result) message c.send.ensures in
    let passed = subst (λ (r : Result Reply HostFault). Sent means (message_spelling (act_message plan (Put control.comp kept.values))) w v r) c.in_ok-send-in_default.was sent in
    subst (λ (acts : List Act). ActsSent means plan acts w v passing) (sym (put-acts control kept c.in_default.not-Blob)) (sent-one means plan (Put control.comp kept.values) (Ok c.in_ok-send-in_default.field-0) w v passed)

pub returns-else-is_empty : goal.returns-else-is_empty
returns-else-is_empty g c =
    let plan = c.args.plan.now in
    let control = c.args.control.now in
    let kept = c.args.kept.now in
    let w = world c.args.dsp.now c.args.io.now c.args.out.now in
    let v = world c.send_parts.new.dsp c.send_parts.new.io c.send_parts.new.out in
    let same : part_acts control.comp c.items-blob.result.now ≡ control_acts (control, kept) = ap (part_acts control.comp) c.items-blob.ensures.value ∙ sym (blob-acts control kept _ _ c.in-Blob.is) in
    subst (λ (acts : List Act). ActsSent g.P.Dsp.means plan acts w v c.send_parts.result) same (c.send_parts.ensures plan)
