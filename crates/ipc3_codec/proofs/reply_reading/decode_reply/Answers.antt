use Rattle.std.proofs.Common.{◌∙◌, arith}
use Rattle.ipc3_codec.proofs.ReplyReading.{framed_reply-is}
use Rattle.ipc3_model.proofs.ReplyLaws.{decoded_reply_only, decoded_reply_fault_only, if_decoded_reply, if_reply_fault}
use Rattle.ipc3_codec.proofs.reply_reading.decode_reply.Goals as goal

pub returns-clause-exact : goal.returns-clause-exact
returns-clause-exact c = c.framed_reply.ensures ∙ framed_reply-is c.args.bytes.now

pub returns-clause-found : goal.returns-clause-found
returns-clause-found c =
    let b = c.args.bytes.now in
    if_decoded_reply b c.framed_reply.result (λ i. omega (arith, c.type_inv.bytes i)) (c.framed_reply.ensures ∙ framed_reply-is b)

pub returns-clause-only : goal.returns-clause-only
returns-clause-only c =
    let b = c.args.bytes.now in
    λ r is means. c.framed_reply.ensures ∙ framed_reply-is b ∙ decoded_reply_only b r is means

pub returns-clause-fault : goal.returns-clause-fault
returns-clause-fault c =
    let b = c.args.bytes.now in
    if_reply_fault b c.framed_reply.result (c.framed_reply.ensures ∙ framed_reply-is b)

pub returns-clause-fault_only : goal.returns-clause-fault_only
returns-clause-fault_only c =
    let b = c.args.bytes.now in
    λ f is. c.framed_reply.ensures ∙ framed_reply-is b ∙ decoded_reply_fault_only b f is
