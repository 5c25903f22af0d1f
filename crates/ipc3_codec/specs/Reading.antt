-- What each step of the decoder answers, word by word. No public clause rests on this: it is proved to be what `Messages` and `Replies` say.
use Rattle.std.specs.Prelude.{ℕ, ◌+◌, ◌*◌, List, [], ◌∷◌, ◌++◌, Option, Some, None, Result, Ok, Err, length, not, nat_lt, ◌==◌, if◌then◌else◌}
use Rattle.std.specs.Int.{w32, cast_signed}
use Rattle.sof_base.specs.Slots.{word_at, half_at, part}
use Rattle.sof_base.specs.declared.format.Format.{Format}
use Rattle.sof_base.specs.declared.part.Part.{Part}
use Rattle.ipc3_model.specs.declared.command.CommandWord.{CommandWord}
use Rattle.ipc3_model.specs.declared.command.CommandWord.TheVariants as commands
use Rattle.ipc3_model.specs.declared.component_type.CompType.{CompType}
use Rattle.ipc3_model.specs.declared.control_kind.ControlKind.{ControlKind}
use Rattle.ipc3_model.specs.declared.control_kind.ControlKind.TheVariants as kinds
use Rattle.ipc3_model.specs.declared.command.TheConstants.{REPLY}
use Rattle.ipc3_model.specs.declared.control_kind.TheConstants.{DATA_SET}
use Rattle.ipc3_model.specs.declared.message.Message.{Message}
use Rattle.ipc3_model.specs.declared.message.Message.TheVariants.{CompNew, CtxSave, SetValue, GetValue, SetData, GetData, PcmParams}
use Rattle.ipc3_model.specs.declared.message.CompWords.{CompWords}
use Rattle.ipc3_codec.specs.declared.component_reading.Config.{Config}
use Rattle.ipc3_codec.specs.declared.control_reading.Control.{Control}
use Rattle.ipc3_codec.specs.declared.stream_reading.Stream.{Stream}
use Rattle.ipc3_model.specs.declared.fault.CodecFault.{CodecFault}
use Rattle.ipc3_model.specs.declared.fault.CodecFault.TheVariants.{Short, SizeWord, Command, Field}
use Rattle.ipc3_model.specs.declared.reply.Body.{Body}
use Rattle.ipc3_model.specs.declared.reply.Body.TheVariants as bodies
use Rattle.ipc3_model.specs.declared.reply.Reply.{Reply}
use Rattle.ipc3_model.specs.Allowed.{is_direction, is_frame_format, is_channels, is_format_of}
use Rattle.ipc3_model.specs.Commands.{command_numbered}
use Rattle.ipc3_model.specs.ComponentTypes.{type_numbered}
use Rattle.ipc3_model.specs.Places.{Place, any_bytes, any_word, any_words, any_run, word_of, half_of, is_bad}
use Rattle.ipc3_model.specs.StreamWords.{format_of_word}
use Rattle.ipc3_model.specs.ControlWords.{type_of, takes_command, takes_count, takes_remaining, value_places, values_in}
use Rattle.ipc3_model.specs.Messages.{is_sized, kind_places, comp_words, places_of, message_of}
use Rattle.ipc3_model.specs.Replies.{is_body_type}

infixl 10 ◌>>=◌
-- what follows a step that may fail
abbrev pub ◌>>=◌ : {A B : Type 0} → Result A CodecFault → (A → Result B CodecFault) → Result B CodecFault
(Ok x) >>= f = f x
(Err e) >>= f = Err e

-- bytes that have a header of this size
unfoldable pub framed : ℕ → List ℕ → Result (List ℕ) CodecFault
framed header b =
    if nat_lt (length b) header then Err Short
    else if not (is_sized header b) then Err SizeWord
    else Ok b

-- the number at a place
abbrev pub number_in : List ℕ → Place → ℕ
number_in b place = if place.width == 2 then half_at b place.at else word_at b place.at

-- that number, or its fault
unfoldable pub word_in : List ℕ → Place → Result ℕ CodecFault
word_in b place = if is_bad b place then Err (Field place.at) else Ok (number_in b place)

-- x, where no word at these places is bad
abbrev pub read_as : {A : Type 0} → List ℕ → List Place → A → Result A CodecFault
read_as b [] x = Ok x
read_as b (place ∷ places) x = word_in b place >>= λ _. read_as b places x

-- words of one width and of any value
unfoldable pub run_in : List ℕ → ℕ → ℕ → ℕ → Result (Unit {0}) CodecFault
run_in b width at n = read_as b (any_run width at n) tt

-- ---- components

-- a type, or a fault at its place
abbrev pub known_type : ℕ → Option CompType → Result CompType CodecFault
known_type at None = Err (Field at)
known_type at (Some type) = Ok type

-- the type of the type word at a place
unfoldable pub comp_type_in : List ℕ → ℕ → Result CompType CodecFault
comp_type_in b at = word_in b (any_word at) >>= λ number. known_type at (type_numbered number)

-- the config of a component of this type
unfoldable pub config_in : List ℕ → CompType → Result Config CodecFault
config_in b type = do
  _ ← run_in b 4 28 2
  _ ← word_in b (any_word 36)
  _ ← word_in b (any_word 40)
  _ ← word_in b (any_word 44)
  _ ← word_in b (word_of b 48 (is_format_of type))
  _ ← run_in b 4 52 3
  Ok (record { periods_sink = word_at b 36; periods_source = word_at b 40; frame_fmt = word_at b 48 })

-- the words of a component's type
unfoldable pub words_in : List ℕ → CompType → Result CompWords CodecFault
words_in b type = read_as b (kind_places b type) (comp_words b type)

-- a component
unfoldable pub comp_in : List ℕ → Result Message CodecFault
comp_in b = do
  _ ← word_in b (any_word 8)
  type ← comp_type_in b 12
  _ ← word_in b (any_word 16)
  _ ← run_in b 4 20 2
  config ← config_in b type
  words ← words_in b type
  Ok (CompNew (word_at b 8) (word_at b 16) config.periods_sink config.periods_source config.frame_fmt words)

-- ---- streams

-- a frame format
unfoldable pub format_in : List ℕ → ℕ → Result Format CodecFault
format_in b at = read_as b (word_of b at is_frame_format ∷ []) (format_of_word (word_at b at))

-- stream_params
unfoldable pub stream_in : List ℕ → Result Stream CodecFault
stream_in b = do
  _ ← run_in b 4 24 8
  _ ← word_in b (word_of b 56 is_direction)
  format ← format_in b 60
  _ ← word_in b (any_word 64)
  _ ← word_in b (any_word 68)
  _ ← run_in b 2 72 1
  _ ← word_in b (half_of b 74 is_channels)
  _ ← run_in b 2 76 2
  _ ← run_in b 4 80 3
  _ ← run_in b 2 92 8
  Ok (record { direction = word_at b 56; params = record { rate = word_at b 68; channels = half_at b 74; format = format } })

-- PCM_PARAMS
unfoldable pub params_in : List ℕ → Result Message CodecFault
params_in b = do
  _ ← word_in b (any_word 8)
  _ ← run_in b 4 12 3
  stream ← stream_in b
  Ok (PcmParams (word_at b 8) stream.direction stream.params)

-- ---- controls

-- the words up to the type: the component's id
unfoldable pub target_in : List ℕ → ControlKind → Result ℕ CodecFault
target_in b kind = read_as b (any_words 8 2 ++ word_of b 16 (λ n. n == type_of kind) ∷ []) (word_at b 12)

-- the words after the type
unfoldable pub control_in : List ℕ → ControlKind → Result Control CodecFault
control_in b kind = do
  _ ← word_in b (word_of b 20 (takes_command kind))
  _ ← run_in b 4 24 8
  _ ← word_in b (word_of b 56 (takes_count kind))
  _ ← word_in b (word_of b 60 (takes_remaining kind (word_at b 56)))
  _ ← word_in b (any_word 64)
  _ ← run_in b 4 68 6
  Ok (record { command = word_at b 20; count = word_at b 56; remaining = word_at b 60; index = word_at b 64 })

-- the pair of this number: its value
unfoldable pub pair_in : List ℕ → ℕ → Result ℕ CodecFault
pair_in b number = word_in b (word_of b (92 + 8 * number) (λ c. c == number)) >>= λ _. word_in b (any_word (96 + 8 * number))

-- pairs
unfoldable pub values_read : List ℕ → Result (List ℕ) CodecFault
values_read b = read_as b (value_places b 0 92 (word_at b 56)) (values_in b)

-- bytes that count as one word
unfoldable pub bytes_in : List ℕ → ℕ → ℕ → Result (List ℕ) CodecFault
bytes_in b at n = read_as b (any_bytes at n ∷ []) (part b at n)

-- a part
unfoldable pub part_read : List ℕ → Result Part CodecFault
part_read b = do
  _ ← run_in b 4 92 8
  bytes ← bytes_in b 124 (word_at b 56)
  Ok (record { header = part b 92 32; remaining = word_at b 60; index = word_at b 64; bytes = bytes })

unfoldable pub set_value_in : List ℕ → Result Message CodecFault
set_value_in b = do
  id ← target_in b kinds.SetValue
  control ← control_in b kinds.SetValue
  values ← values_read b
  Ok (SetValue id control.command values)

unfoldable pub get_value_in : List ℕ → Result Message CodecFault
get_value_in b = do
  id ← target_in b kinds.GetValue
  control ← control_in b kinds.GetValue
  Ok (GetValue id control.command)

unfoldable pub set_data_in : List ℕ → Result Message CodecFault
set_data_in b = do
  id ← target_in b kinds.SetData
  _ ← control_in b kinds.SetData
  part ← part_read b
  Ok (SetData id part)

unfoldable pub get_data_in : List ℕ → Result Message CodecFault
get_data_in b = do
  id ← target_in b kinds.GetData
  control ← control_in b kinds.GetData
  Ok (GetData id control.index)

-- ---- messages

-- the message of a command
unfoldable pub command_in : List ℕ → CommandWord → Result Message CodecFault
command_in b commands.CompNew = comp_in b
command_in b commands.SetValue = set_value_in b
command_in b commands.GetValue = get_value_in b
command_in b commands.SetData = set_data_in b
command_in b commands.GetData = get_data_in b
command_in b commands.PcmParams = params_in b
command_in b commands.CompFree = read_as b (places_of b commands.CompFree) (message_of b commands.CompFree)
command_in b commands.Connect = read_as b (places_of b commands.Connect) (message_of b commands.Connect)
command_in b commands.PipeNew = read_as b (places_of b commands.PipeNew) (message_of b commands.PipeNew)
command_in b commands.PipeFree = read_as b (places_of b commands.PipeFree) (message_of b commands.PipeFree)
command_in b commands.PipeComplete = read_as b (places_of b commands.PipeComplete) (message_of b commands.PipeComplete)
command_in b commands.BufferNew = read_as b (places_of b commands.BufferNew) (message_of b commands.BufferNew)
command_in b commands.BufferFree = read_as b (places_of b commands.BufferFree) (message_of b commands.BufferFree)
command_in b commands.CtxSave = Ok CtxSave
command_in b commands.PcmFree = read_as b (places_of b commands.PcmFree) (message_of b commands.PcmFree)
command_in b commands.TrigStart = read_as b (places_of b commands.TrigStart) (message_of b commands.TrigStart)
command_in b commands.TrigStop = read_as b (places_of b commands.TrigStop) (message_of b commands.TrigStop)
command_in b commands.TrigPause = read_as b (places_of b commands.TrigPause) (message_of b commands.TrigPause)
command_in b commands.TrigRelease = read_as b (places_of b commands.TrigRelease) (message_of b commands.TrigRelease)

-- the message after a header
unfoldable pub numbered_in : List ℕ → Option CommandWord → Result Message CodecFault
numbered_in b None = Err (Command (word_at b 4))
numbered_in b (Some command) = command_in b command

-- the message that bytes are, step by step
abbrev pub framed_message_in : List ℕ → Result Message CodecFault
framed_message_in b = framed 8 b >>= λ frame. numbered_in frame (command_numbered (word_at frame 4))

-- ---- replies

-- the type of a body
unfoldable pub type_in : List ℕ → ℕ → Result ControlKind CodecFault
type_in b at = read_as b (word_of b at is_body_type ∷ []) (if word_at b at == DATA_SET then kinds.SetData else kinds.SetValue)

-- the words up to it
unfoldable pub kind_in : List ℕ → Result ControlKind CodecFault
kind_in b = do
  _ ← word_in b (any_word 8)
  _ ← word_in b (any_word 12)
  type_in b 16

-- a body of values, or of a part
unfoldable pub payload_in : List ℕ → ControlKind → Result Body CodecFault
payload_in b kinds.SetData = do
  part ← part_read b
  Ok (bodies.Part part)
payload_in b _ = do
  values ← values_read b
  Ok (bodies.Values values)

-- what a reply carries beside its error
unfoldable pub body_in : List ℕ → Result Body CodecFault
body_in b =
    if word_at b 0 == 12 then Ok bodies.Nothing
    else (kind_in b >>= λ kind. control_in b kind >>= λ _. payload_in b kind)

-- the reply that bytes are, step by step
abbrev pub framed_reply_in : List ℕ → Result Reply CodecFault
framed_reply_in b = do
  frame ← framed 12 b
  if word_at frame 4 == REPLY then (body_in frame >>= λ body. Ok (record { error = cast_signed w32 (word_at frame 8); body = body })) else Err (Command (word_at frame 4))
