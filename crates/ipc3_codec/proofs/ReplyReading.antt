-- Reading word by word gives the reply, or the first fault.
use Rattle.std.proofs.Common.{◌≡◌, ℕ, Bool, true, false, cond, eqb, List, [], ◌∷◌, ◌++◌, length, Option, Some, Result, Ok, Err, refl, ◌∙◌}
use Rattle.std.specs.Prelude.{nat_lt, not}
use Rattle.std.specs.Int.{w32, cast_signed}
use Rattle.std.specs.List.{find}
use Rattle.sof_base.specs.Slots.{word_at}
use Rattle.ipc3_model.specs.declared.control_kind.ControlKind.{ControlKind}
use Rattle.ipc3_model.specs.declared.control_kind.ControlKind.TheVariants as kinds
use Rattle.ipc3_model.specs.declared.reply.Reply.{Reply}
use Rattle.ipc3_model.specs.declared.reply.Body.{Body}
use Rattle.ipc3_model.specs.declared.reply.Body.TheVariants as bodies
use Rattle.ipc3_model.specs.declared.fault.CodecFault.{CodecFault}
use Rattle.ipc3_model.specs.declared.fault.CodecFault.TheVariants.{Short, SizeWord, Command}
use Rattle.ipc3_model.specs.Places.{Place, any_words, word_of, is_bad, field_fault}
use Rattle.ipc3_model.specs.ControlWords.{control_rest_places, payload_places, values_in, part_in}
use Rattle.ipc3_model.specs.Messages.{is_sized, faultless}
use Rattle.ipc3_model.specs.Replies.{is_body_type, body_kind, body_places, reply_places, reply_fault, body_with, reply_of, decoded_reply}
use Rattle.ipc3_codec.specs.Reading.{◌>>=◌, framed, read_as, type_in, kind_in, control_in, part_read, values_read, payload_in, body_in, framed_reply_in}
use Rattle.ipc3_codec.proofs.WordByWord.{read_as-is, then_read}
use Rattle.ipc3_codec.proofs.FirstFault.{last_read, control_at, control_is, part_is, values_is}
use Rattle.ipc3_model.proofs.ReplyLaws.{behind}

abbrev type_places : List ℕ → List Place
type_places b = any_words 8 2 ++ word_of b 16 is_body_type ∷ []

kind_is : (b : List ℕ) → kind_in b ≡ read_as b (type_places b) (body_kind b)
unfolding kind_in type_in
kind_is b = refl

payload_is : (b : List ℕ) (t : Bool) → payload_in b (cond t kinds.SetData kinds.SetValue) ≡ read_as b (payload_places b (cond t kinds.SetData kinds.SetValue)) (body_with b (cond t kinds.SetData kinds.SetValue))
unfolding payload_in
payload_is b true = last_read b (part_read b) (payload_places b kinds.SetData) (part_in b) (bodies.Part (part_in b)) _ (part_is b) refl
payload_is b false = last_read b (values_read b) (payload_places b kinds.SetValue) (values_in b) (bodies.Values (values_in b)) _ (values_is b) refl

some_body : (b : List ℕ) → (kind_in b >>= λ kind. control_in b kind >>= λ _. payload_in b kind) ≡ read_as b (body_places b (body_kind b)) (body_with b (body_kind b))
some_body b =
    let kind = body_kind b in
    let q1 : List Place = payload_places b kind in
    let q2 : List Place = control_rest_places b kind ++ q1 in
    let y = body_with b kind in
    then_read b (kind_in b) (type_places b) q2 kind y (λ (kind : ControlKind). control_in b kind >>= λ _. payload_in b kind) (kind_is b)
    (then_read b (control_in b kind) (control_rest_places b kind) q1 (control_at b) y (λ _. payload_in b kind) (control_is b kind) (payload_is b (eqb (word_at b 16) 5)))

whole_body : (b : List ℕ) (t : Bool) (r : Result Body CodecFault) (places : List Place) (body : Body) → r ≡ read_as b places body → cond t (Ok bodies.Nothing) r ≡ read_as b (cond t [] places) (cond t bodies.Nothing body)
whole_body b true r places body e = refl
whole_body b false r places body e = e

body_is : (b : List ℕ) → (body_in b >>= λ body. Ok (record { error = cast_signed w32 (word_at b 8); body = body })) ≡ faultless (field_fault (find (is_bad b) (reply_places b))) (reply_of b)
unfolding body_in
body_is b =
    last_read b _ (reply_places b) (reply_of b).body (reply_of b) (λ (body : Body). Ok (record { error = cast_signed w32 (word_at b 8); body = body })) (whole_body b (eqb (word_at b 0) 12) _ (body_places b (body_kind b)) (body_with b (body_kind b)) (some_body b)) refl
    ∙ read_as-is b (reply_places b) (reply_of b)

command_is : (b : List ℕ) (t : Bool) (r : Result Reply CodecFault) (fault : Option CodecFault) (x : Reply) (f : CodecFault) → r ≡ faultless fault x → cond t r (Err f) ≡ faultless (cond (not t) (Some f) fault) x
command_is b true r fault x f e = e
command_is b false r fault x f e = refl

-- a header's faults, and those after it
behind_header : {A : Type 0} (short sized : Bool) (b : List ℕ) (f : List ℕ → Result A CodecFault) (fault : Option CodecFault) (m : A) → f b ≡ faultless fault m → (cond short (Err Short) (cond (not sized) (Err SizeWord) (Ok b)) >>= f) ≡ faultless (cond short (Some Short) (cond (not sized) (Some SizeWord) fault)) m
behind_header true sized b f fault m e = refl
behind_header false false b f fault m e = refl
behind_header false true b f fault m e = e

pub framed_reply-is : (b : List ℕ) → framed_reply_in b ≡ decoded_reply b
unfolding framed decoded_reply reply_fault
framed_reply-is b =
    behind_header (nat_lt (length b) 12) (is_sized 12 b) b
    (λ (frame : List ℕ). cond (eqb (word_at frame 4) 0x10000000) (body_in frame >>= λ body. Ok (record { error = cast_signed w32 (word_at frame 8); body = body })) (Err (Command (word_at frame 4))))
    (behind b) (reply_of b)
    (command_is b (eqb (word_at b 4) 0x10000000) _ (field_fault (find (is_bad b) (reply_places b))) (reply_of b) (Command (word_at b 4)) (body_is b))
