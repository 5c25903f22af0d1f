-- What the firmware answers is a reply: its error is 0, or one of the negative numbers.
use Rattle.std.proofs.Common.{◌≡◌, ℕ, ◌<◌, ◌^◌, Bool, true, false, cond, ℤ, pos, negsuc, List, [], Option, Some, None, Result, Ok, Err, refl, sym, ap, ◌∙◌, arith, append-nil}
use Rattle.std.specs.Prelude.{IfErr}
use Rattle.std.specs.Int.{w32, cast_signed}
use Rattle.std.proofs.Math.Facts.{sfits_lit}
use Rattle.std.specs.Int.RustNames.{FitsSigned}
use Rattle.ipc3_model.specs.declared.reply.Reply.{Reply}
use Rattle.ipc3_model.specs.declared.reply.Body.{Body}
use Rattle.ipc3_model.specs.declared.reply.Body.TheVariants.{Nothing, Values, Part}
use Rattle.ipc3_model.specs.Messages.{faultless}
use Rattle.ipc3_model.specs.Replies.{decoded_reply, reply_fault, reply_of, reply_spelling}
use Rattle.ipc3_model.proofs.Spelled.{decoded_reply-spelling}
use Rattle.sof_base.specs.Slots.{slots_cells, slot_cells, word_at}
use Rattle.stream_law.specs.declared.graph.Pipe.{Pipe}
use Rattle.stream_law.specs.declared.graph.Setting.{Setting}
use Rattle.stream_law.specs.State.{FwState}
use Rattle.ipc3_model.specs.declared.message.Message.{Message}
use Rattle.ipc3_model.specs.declared.message.Message.TheVariants.{PipeFree, PipeComplete, CtxSave, SetValue}
use Rattle.ipc3_model.specs.declared.fault.CodecFault.{CodecFault}
use Rattle.mbox_link.specs.Step.{error_reply, no_memory, busy, no_device, invalid, row, row_of, complete_pipe, free_pipe, value_set}

-- a reply without a body
abbrev pub reply_with : ℤ → Reply
reply_with error = record { error = error; body = Nothing }

-- a reply's error is read from its bytes
pub decoded-error : (e : ℤ) → FitsSigned w32 e → decoded_reply (error_reply e) ≡ Ok (reply_with e)
decoded-error e is = ap decoded_reply (sym (append-nil (error_reply e))) ∙ decoded_reply-spelling (reply_with e) [] (is, tt)

pub zero-fits : FitsSigned w32 (pos 0)
zero-fits = sfits_lit tt

pub negative-fits : (code : ℕ) → code < 2 ^ 31 → FitsSigned w32 (negsuc code)
negative-fits code small = record { sfits = small }

-- ---- a reply with error 0, whatever its body

abbrev pub done_reply : Body → List ℕ
done_reply body = reply_spelling (record { error = pos 0; body = body })

word-zero : (body : Body) → cast_signed w32 (word_at (done_reply body) 8) ≡ pos 0
unfolding slots_cells slot_cells word_at
word-zero Nothing = refl
word-zero (Values values) = refl
word-zero (Part part) = refl

what-reads : (fault : Option CodecFault) (r reply : Reply) → faultless fault r ≡ Ok reply → r ≡ reply
what-reads None r reply is = cc is
what-reads (Some f) r reply is = absurd (cc is)

-- where it is read at all, its error is 0
pub read-zero : (body : Body) (reply : Reply) → decoded_reply (done_reply body) ≡ Ok reply → reply.error ≡ pos 0
unfolding decoded_reply
read-zero body reply is =
    let b = done_reply body in
    ap (λ (r : Reply). r.error) (sym (what-reads (reply_fault b) (reply_of b) reply is)) ∙ word-zero body

-- ---- the firmware's own error numbers

-- an error number: -1 - code
pub record IsErrorNumber (e : ℤ) : Type 0 where
  pub code : ℕ
  pub small : code < 2 ^ 31
  pub is : e ≡ negsuc code

abbrev number : (code : ℕ) → code < 2 ^ 31 → IsErrorNumber (negsuc code)
number code small = record { code = code; small = small; is = refl }

-- a refusal has such a number
record HasNumber (r : Result FwState ℤ) : Type 0 where
  number : IfErr r IsErrorNumber

-- a test, and what follows it
tested : (b : Bool) (r s : Result FwState ℤ) → HasNumber r → HasNumber s → HasNumber (cond b r s)
tested true r s first rest = first
tested false r s first rest = rest

passes : (f : FwState) → HasNumber (Ok f)
passes f = record { number = tt }

is_busy : HasNumber (Err busy)
is_busy = record { number = number 15 (omega arith) }

is_no_memory : HasNumber (Err no_memory)
is_no_memory = record { number = number 11 (omega arith) }

is_no_device : HasNumber (Err no_device)
is_no_device = record { number = number 18 (omega arith) }

is_invalid : HasNumber (Err invalid)
is_invalid = record { number = number 21 (omega arith) }

ruleset numbers = (tested, passes, is_busy, is_no_memory, is_no_device, is_invalid)

complete_numbers : (f : FwState) (id : ℕ) (o : Option Pipe) → HasNumber (complete_pipe f id o)
complete_numbers f id None = is_invalid
complete_numbers f id (Some p) = search numbers

free_numbers : (f : FwState) (id : ℕ) (o : Option Pipe) → HasNumber (free_pipe f id o)
free_numbers f id None = is_invalid
free_numbers f id (Some p) = search numbers

set_numbers : (f : FwState) (id : ℕ) (o : Option Setting) → HasNumber (value_set f id o)
set_numbers f id None = is_invalid
set_numbers f id (Some setting) = search numbers

row_numbers : (f : FwState) (m : Message) → HasNumber (row f m)
row_numbers f (PipeComplete id) = search (numbers, complete_numbers)
row_numbers f CtxSave = passes f
row_numbers f (PipeFree id) = search (numbers, free_numbers)
row_numbers f (SetValue id command values) = search (numbers, set_numbers)
row_numbers f m = search numbers

-- every refusal of the firmware is an error number
pub row_of_numbers : (f : FwState) (r : Result Message CodecFault) → IfErr (row_of f r) IsErrorNumber
row_of_numbers f (Ok m) = (row_numbers f m).number
row_of_numbers f (Err fault) = is_invalid.number
