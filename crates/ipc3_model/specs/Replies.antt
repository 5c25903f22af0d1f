-- The firmware's replies, after SOF's IPC3 (ABI 3). All places are in bytes from 0.
use Rattle.std.specs.Prelude.{ℕ, ℤ, ◌+◌, ◌*◌, Bool, not, ◌||◌, List, [], ◌∷◌, ◌++◌, length, Option, Some, Result, find, nat_lt, ◌==◌, if◌then◌else◌}
use Rattle.std.specs.Int.{w32, cast_unsigned, cast_signed}
use Rattle.sof_base.specs.Cells.{written}
use Rattle.sof_base.specs.Slots.{Slot, Word, Size, slots_cells, word_at}
use Rattle.ipc3_model.specs.declared.control_kind.ControlKind.{ControlKind}
use Rattle.ipc3_model.specs.declared.control_kind.ControlKind.TheVariants as kinds
use Rattle.ipc3_model.specs.declared.command.TheConstants.{REPLY}
use Rattle.ipc3_model.specs.declared.control_kind.TheConstants.{VALUE_CHAN_SET, DATA_SET, CTRL_BINARY}
use Rattle.ipc3_model.specs.declared.reply.Body.{Body}
use Rattle.ipc3_model.specs.declared.reply.Body.TheVariants.{Nothing, Values, Part}
use Rattle.ipc3_model.specs.declared.reply.Reply.{Reply}
use Rattle.ipc3_model.specs.declared.fault.CodecFault.{CodecFault}
use Rattle.ipc3_model.specs.declared.fault.CodecFault.TheVariants.{Short, SizeWord, Command}
use Rattle.ipc3_model.specs.Places.{Place, any_words, word_of, is_bad, field_fault}
use Rattle.ipc3_model.specs.ControlWords.{control_slots, value_slots, part_slots, control_rest_places, payload_places, values_in, part_in}
use Rattle.ipc3_model.specs.Messages.{is_sized, faultless}

-- how many bytes a reply needs: 12, or a ctrl_data and what stands after it
abbrev pub reply_size : Body → ℕ
reply_size Nothing = 12
reply_size (Values values) = 92 + 8 * length values
reply_size (Part part) = 124 + length part.bytes

-- its size word: 12 says that there is no body
abbrev pub size_slot : Body → Slot
size_slot Nothing = Word 12
size_slot (Values values) = Size (reply_size (Values values))
size_slot (Part part) = Size (reply_size (Part part))

-- the words from the error on: no comp_id and no index, cmd 0 with values and BINARY with a part
abbrev pub body_words : Slot → Body → List Slot
body_words error Nothing = error ∷ []
body_words error (Values values) =
    control_slots error (Size 0) kinds.SetValue (Size 0) (Word (length values)) (Size 0) (Size 0) ++ value_slots 0 values
body_words error (Part part) =
    control_slots error (Size 0) kinds.SetData (Word CTRL_BINARY) (Word (length part.bytes)) (Word part.remaining) (Word part.index) ++ part_slots part

-- all words of a reply: its size, the reply command, the error in two's complement, and what its body has
abbrev pub reply_slots : Reply → List Slot
reply_slots r = size_slot r.body ∷ Word REPLY ∷ body_words (Word (cast_unsigned w32 r.error)) r.body

-- the bytes that are answered
abbrev pub reply_spelling : Reply → List ℕ
reply_spelling r = written (slots_cells (reply_slots r))

-- the types of bodies: VALUE_CHAN_SET, DATA_SET
abbrev pub is_body_type : ℕ → Bool
is_body_type n = n == VALUE_CHAN_SET || n == DATA_SET

-- what a body is, by its type
abbrev pub body_kind : List ℕ → ControlKind
body_kind b = if word_at b 16 == DATA_SET then kinds.SetData else kinds.SetValue

-- after its header a reply with a body is a ctrl_data
abbrev pub body_places : List ℕ → ControlKind → List Place
body_places b kind = any_words 8 2 ++ word_of b 16 is_body_type ∷ (control_rest_places b kind ++ payload_places b kind)

abbrev pub reply_places : List ℕ → List Place
reply_places b = if word_at b 0 == 12 then [] else body_places b (body_kind b)

-- the first fault of bytes, where they are no reply
unfoldable pub reply_fault : List ℕ → Option CodecFault
reply_fault b =
    if nat_lt (length b) 12 then Some Short
    else if not (is_sized 12 b) then Some SizeWord
    else if not (word_at b 4 == REPLY) then Some (Command (word_at b 4))
    else field_fault (find (is_bad b) (reply_places b))

-- the body of a type
abbrev pub body_with : List ℕ → ControlKind → Body
body_with b kinds.SetData = Part (part_in b)
body_with b _ = Values (values_in b)

-- the reply that the words of bytes are
abbrev pub reply_of : List ℕ → Reply
reply_of b = record { error = cast_signed w32 (word_at b 8); body = if word_at b 0 == 12 then Nothing else body_with b (body_kind b) }

-- bytes as a reply: their first fault, or the reply that they carry
unfoldable pub decoded_reply : List ℕ → Result Reply CodecFault
decoded_reply b = faultless (reply_fault b) (reply_of b)
