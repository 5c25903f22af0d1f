use Rattle.ipc3_model.proofs.Carrying.{decoded_found, decoded_only, decoded_fault, decoded_fault_only}
use Rattle.ipc3_model.proofs.Spelled.{one_message, decoded-spelling, length-spelling, size-least, size-most}
use Rattle.ipc3_model.proofs.laws.messages_are_decoded.Goals as goal

pub returns-clause-carried : goal.returns-clause-carried
returns-clause-carried c = λ b m bytes. (decoded_found b m bytes, λ h. decoded_only b m h.0 h.1)

pub returns-clause-one : goal.returns-clause-one
returns-clause-one c = one_message

pub returns-clause-faults : goal.returns-clause-faults
returns-clause-faults c = λ b f. (decoded_fault b f, decoded_fault_only b f)

pub returns-clause-again : goal.returns-clause-again
returns-clause-again c = decoded-spelling

pub returns-clause-long : goal.returns-clause-long
returns-clause-long c = length-spelling

pub returns-clause-least : goal.returns-clause-least
returns-clause-least c = size-least

pub returns-clause-most : goal.returns-clause-most
returns-clause-most c = size-most
