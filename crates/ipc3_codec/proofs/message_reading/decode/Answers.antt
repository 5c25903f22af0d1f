use Rattle.std.proofs.Common.{◌∙◌, arith}
use Rattle.ipc3_codec.proofs.FirstFault.{framed_message-is}
use Rattle.ipc3_model.proofs.Carrying.{decoded_only, decoded_fault_only, if_decoded, if_fault}
use Rattle.ipc3_codec.proofs.message_reading.decode.Goals as goal

pub returns-clause-exact : goal.returns-clause-exact
returns-clause-exact c = c.framed_message.ensures ∙ framed_message-is c.args.bytes.now

pub returns-clause-found : goal.returns-clause-found
returns-clause-found c =
    let b = c.args.bytes.now in
    if_decoded b c.framed_message.result (λ i. omega (arith, c.type_inv.bytes i)) (c.framed_message.ensures ∙ framed_message-is b)

pub returns-clause-only : goal.returns-clause-only
returns-clause-only c =
    let b = c.args.bytes.now in
    λ m is means. c.framed_message.ensures ∙ framed_message-is b ∙ decoded_only b m is means

pub returns-clause-fault : goal.returns-clause-fault
returns-clause-fault c =
    let b = c.args.bytes.now in
    if_fault b c.framed_message.result (c.framed_message.ensures ∙ framed_message-is b)

pub returns-clause-fault_only : goal.returns-clause-fault_only
returns-clause-fault_only c =
    let b = c.args.bytes.now in
    λ f is. c.framed_message.ensures ∙ framed_message-is b ∙ decoded_fault_only b f is
