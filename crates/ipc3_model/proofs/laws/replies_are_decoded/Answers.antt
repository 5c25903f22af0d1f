use Rattle.ipc3_model.proofs.ReplyLaws.{decoded_reply_found, decoded_reply_only, decoded_reply_fault, decoded_reply_fault_only}
use Rattle.ipc3_model.proofs.Spelled.{one_reply, decoded_reply-spelling, length-reply_spelling, reply-least, reply-most}
use Rattle.ipc3_model.proofs.laws.replies_are_decoded.Goals as goal

pub returns-clause-carried : goal.returns-clause-carried
returns-clause-carried c = λ b r bytes. (decoded_reply_found b r bytes, λ h. decoded_reply_only b r h.0 h.1)

pub returns-clause-one : goal.returns-clause-one
returns-clause-one c = one_reply

pub returns-clause-faults : goal.returns-clause-faults
returns-clause-faults c = λ b f. (decoded_reply_fault b f, decoded_reply_fault_only b f)

pub returns-clause-again : goal.returns-clause-again
returns-clause-again c = decoded_reply-spelling

pub returns-clause-long : goal.returns-clause-long
returns-clause-long c = length-reply_spelling

pub returns-clause-least : goal.returns-clause-least
returns-clause-least c = reply-least

pub returns-clause-most : goal.returns-clause-most
returns-clause-most c = reply-most
