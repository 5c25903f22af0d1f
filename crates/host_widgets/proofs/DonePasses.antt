-- A reply with error 0 passes.
use Rattle.std.proofs.Common.{◌≡◌, refl, ap, cond, Some, Result, Ok, Err, ℤ}
use Rattle.ipc3_model.specs.declared.fault.CodecFault.{CodecFault}
use Rattle.ipc3_model.specs.declared.reply.Body.{Body}
use Rattle.ipc3_model.specs.declared.reply.Reply.{Reply}
use Rattle.ipc3_model.specs.Replies.{decoded_reply}
use Rattle.host_widgets.specs.declared.answers.HostFault.TheVariants.{Refused}
use Rattle.host_widgets.specs.ActCalls.{came_to}
use Rattle.host_widgets.specs.Host.{verdict, judged, errno, is_negative}
use Rattle.host_widgets.proofs.ReplyErrors.{done_reply, read-zero}

-- whatever its body
pub done-passes : (said : Body) → came_to (verdict (Some (done_reply said))) ≡ Ok tt
done-passes said = by (decoded_reply (done_reply said)) refl
  where
    by : (d : Result Reply CodecFault) → decoded_reply (done_reply said) ≡ d → came_to (judged d) ≡ Ok tt
    by (Ok reply) is = ap (λ (e : ℤ). came_to (cond (is_negative e) (Err (Refused (errno reply.error))) (Ok reply))) (read-zero said reply is)
    by (Err fault) is = refl
