-- Reading word by word gives the message, or the first fault.
use Rattle.std.proofs.Common.{◌≡◌, ℕ, Bool, true, false, cond, List, [], ◌∷◌, ◌++◌, length, Option, Some, None, Result, Ok, Err, refl, sym, ap, ◌∙◌, append-nil}
use Rattle.std.specs.Prelude.{nat_lt, nat_le, not, ◌&&◌, ◌==◌, is_some}
use Rattle.sof_base.specs.Slots.{word_at, part}
use Rattle.ipc3_model.specs.declared.command.CommandWord.{CommandWord}
use Rattle.ipc3_model.specs.declared.command.CommandWord.TheVariants as commands
use Rattle.ipc3_model.specs.declared.control_kind.ControlKind.{ControlKind}
use Rattle.ipc3_model.specs.declared.control_kind.ControlKind.TheVariants as kinds
use Rattle.ipc3_model.specs.declared.component_type.CompType.{CompType}
use Rattle.ipc3_model.specs.declared.message.Message.{Message}
use Rattle.ipc3_model.specs.declared.message.CompWords.{CompWords}
use Rattle.ipc3_model.specs.declared.message.Message.TheVariants.{CompNew, SetValue, GetValue, SetData, GetData}
use Rattle.ipc3_codec.specs.declared.component_reading.Config.{Config}
use Rattle.ipc3_codec.specs.declared.control_reading.Control.{Control}
use Rattle.ipc3_codec.specs.declared.stream_reading.Stream.{Stream}
use Rattle.ipc3_model.specs.declared.fault.CodecFault.{CodecFault}
use Rattle.ipc3_model.specs.declared.fault.CodecFault.TheVariants.{Short, SizeWord, Field}
use Rattle.ipc3_model.specs.Allowed.{is_direction, is_frame_format, is_channels, is_comp_type, is_format_of}
use Rattle.ipc3_model.specs.Commands.{command_numbered}
use Rattle.ipc3_model.specs.ComponentTypes.{type_numbered}
use Rattle.ipc3_model.specs.Places.{Place, any_bytes, any_word, any_words, any_run, word_of, half_of}
use Rattle.ipc3_model.specs.StreamWords.{stream_places, format_of_word, params_at}
use Rattle.ipc3_model.specs.ControlWords.{type_of, takes_command, takes_count, takes_remaining, payload_places, control_rest_places, control_places, values_in, part_in}
use Rattle.ipc3_model.specs.Messages.{is_sized, comp_places, places_of, config_places, kind_places, comp_words, typed_words, message_of, decoded_body, decoded}
use Rattle.ipc3_codec.specs.Reading.{◌>>=◌, framed, word_in, run_in, read_as, known_type, comp_type_in, config_in, words_in, comp_in, format_in, stream_in, params_in, target_in, control_in, values_read, bytes_in, part_read, set_value_in, get_value_in, set_data_in, get_data_in, command_in, numbered_in, framed_message_in}
use Rattle.ipc3_codec.proofs.WordByWord.{read_as-is, then_read, then_run, then_word}

-- the last block
pub last_read : {A B : Type 0} (b : List ℕ) (r : Result A CodecFault) (ps : List Place) (x : A) (y : B) (f : A → Result B CodecFault) → r ≡ read_as b ps x → f x ≡ Ok y → (r >>= f) ≡ read_as b ps y
last_read b r ps x y f is e = then_read b r ps [] x y f is e ∙ ap (λ (qs : List Place). read_as b qs y) (append-nil ps)

-- ---- components

abbrev config_at : List ℕ → Config
config_at b = record { periods_sink = word_at b 36; periods_source = word_at b 40; frame_fmt = word_at b 48 }

config_is : (b : List ℕ) (type : CompType) → config_in b type ≡ read_as b (config_places b type) (config_at b)
unfolding config_in
config_is b type =
    let q1 : List Place = any_words 52 3 in
    let q2 : List Place = word_of b 48 (is_format_of type) ∷ q1 in
    let q3 : List Place = any_word 44 ∷ q2 in
    let q4 : List Place = any_word 40 ∷ q3 in
    let q5 : List Place = any_word 36 ∷ q4 in
    let y = config_at b in
    then_run b 4 28 2 q5 y _
    (then_word b (any_word 36) q4 y _ (λ _.
    then_word b (any_word 40) q3 y _ (λ _.
    then_word b (any_word 44) q2 y _ (λ _.
    then_word b (word_of b 48 (is_format_of type)) q1 y _ (λ _.
    then_run b 4 52 3 [] y _ refl)))))

-- the type word is read as its type, or it is a fault
type_step : (within : Bool) (o : Option CompType) (n : ℕ) (f : ℕ → Result CompType CodecFault) → f n ≡ known_type 12 o → (cond (not (within && true)) (Err (Field 12)) (Ok n) >>= f) ≡ (cond (not (within && is_some o)) (Err (Field 12)) (Ok n) >>= λ (_ : ℕ). known_type 12 o)
type_step true (Some type) n f e = e
type_step true None n f e = e
type_step false o n f e = refl

type_known : (b : List ℕ) → comp_type_in b 12 ≡ (word_in b (word_of b 12 is_comp_type) >>= λ _. known_type 12 (type_numbered (word_at b 12)))
unfolding comp_type_in word_in
type_known b = type_step (nat_le 16 (word_at b 0)) (type_numbered (word_at b 12)) (word_at b 12) (λ (n : ℕ). known_type 12 (type_numbered n)) refl

no_type : (within : Bool) (o : Option CompType) (n : ℕ) (fault : CodecFault) → o ≡ None → cond (not (within && is_some o)) (Err fault) (Ok n) ≡ Err fault
no_type within (Some type) n fault e = absurd cc
no_type true None n fault e = refl
no_type false None n fault e = refl

type_refused : (b : List ℕ) → type_numbered (word_at b 12) ≡ None → word_in b (word_of b 12 is_comp_type) ≡ Err (Field 12)
unfolding word_in
type_refused b none = no_type (nat_le 16 (word_at b 0)) (type_numbered (word_at b 12)) (word_at b 12) (Field 12) none

abbrev comp_at : List ℕ → CompWords → Message
comp_at b words = CompNew (word_at b 8) (word_at b 16) (word_at b 36) (word_at b 40) (word_at b 48) words

-- a component after its type word
abbrev typed_in : List ℕ → CompType → Result Message CodecFault
typed_in b type = do
  _ ← word_in b (any_word 16)
  _ ← run_in b 4 20 2
  config ← config_in b type
  words ← words_in b type
  Ok (CompNew (word_at b 8) (word_at b 16) config.periods_sink config.periods_source config.frame_fmt words)

abbrev typed_places : List ℕ → CompType → List Place
typed_places b type = any_words 16 3 ++ (config_places b type ++ kind_places b type)

typed_is : (b : List ℕ) (type : CompType) → typed_in b type ≡ read_as b (typed_places b type) (comp_at b (comp_words b type))
unfolding words_in
typed_is b type =
    let words = comp_words b type in
    let q1 : List Place = kind_places b type in
    let q2 : List Place = config_places b type ++ q1 in
    let q3 : List Place = any_run 4 20 2 ++ q2 in
    let y = comp_at b words in
    then_word b (any_word 16) q3 y _ (λ _.
    then_run b 4 20 2 q2 y _
    (then_read b (config_in b type) (config_places b type) q1 (config_at b) y _ (config_is b type)
    (last_read b (words_in b type) q1 words y _ refl refl)))

comp_by : (b : List ℕ) (o : Option CompType) → type_numbered (word_at b 12) ≡ o → comp_in b ≡ read_as b (comp_places b o) (comp_at b (typed_words b o))
unfolding comp_in
comp_by b None none =
    let place : Place = word_of b 12 is_comp_type in
    let y = comp_at b (typed_words b None) in
    let refused : word_in b place ≡ Err (Field 12) = type_refused b none in
    let fault : comp_type_in b 12 ≡ Err (Field 12) = type_known b ∙ ap (λ (r : Result ℕ CodecFault). r >>= λ _. known_type 12 (type_numbered (word_at b 12))) refused in
    then_word b (any_word 8) (place ∷ []) y _ (λ _. ap (λ (r : Result CompType CodecFault). r >>= typed_in b) fault ∙ sym (ap (λ (r : Result ℕ CodecFault). r >>= λ _. Ok y) refused))
comp_by b (Some type) some =
    let place : Place = word_of b 12 is_comp_type in
    let y = comp_at b (comp_words b type) in
    let known : comp_type_in b 12 ≡ read_as b (place ∷ []) type = type_known b ∙ ap (λ (o : Option CompType). word_in b place >>= λ _. known_type 12 o) some in
    then_word b (any_word 8) (place ∷ typed_places b type) y _ (λ _. then_read b (comp_type_in b 12) (place ∷ []) (typed_places b type) type y (typed_in b) known (typed_is b type))

comp_is : (b : List ℕ) → comp_in b ≡ read_as b (places_of b commands.CompNew) (message_of b commands.CompNew)
comp_is b = comp_by b (type_numbered (word_at b 12)) refl

-- ---- streams

abbrev stream_at : List ℕ → Stream
stream_at b = record { direction = word_at b 56; params = params_at b }

stream_is : (b : List ℕ) → stream_in b ≡ read_as b (stream_places b) (stream_at b)
unfolding stream_in format_in
stream_is b =
    let q1 : List Place = any_run 2 92 8 in
    let q2 : List Place = any_run 4 80 3 ++ q1 in
    let q3 : List Place = any_run 2 76 2 ++ q2 in
    let q4 : List Place = half_of b 74 is_channels ∷ q3 in
    let q5 : List Place = any_run 2 72 1 ++ q4 in
    let q6 : List Place = any_word 68 ∷ q5 in
    let q7 : List Place = any_word 64 ∷ q6 in
    let q8 : List Place = word_of b 60 is_frame_format ∷ q7 in
    let q9 : List Place = word_of b 56 is_direction ∷ q8 in
    let y = stream_at b in
    then_run b 4 24 8 q9 y _
    (then_word b (word_of b 56 is_direction) q8 y _ (λ _.
    then_read b (format_in b 60) (word_of b 60 is_frame_format ∷ []) q7 (format_of_word (word_at b 60)) y _ refl
    (then_word b (any_word 64) q6 y _ (λ _.
    then_word b (any_word 68) q5 y _ (λ _.
    then_run b 2 72 1 q4 y _
    (then_word b (half_of b 74 is_channels) q3 y _ (λ _.
    then_run b 2 76 2 q2 y _
    (then_run b 4 80 3 q1 y _
    (then_run b 2 92 8 [] y _ refl)))))))))

params_is : (b : List ℕ) → params_in b ≡ read_as b (places_of b commands.PcmParams) (message_of b commands.PcmParams)
unfolding params_in
params_is b =
    let q1 : List Place = stream_places b in
    let q2 : List Place = any_run 4 12 3 ++ q1 in
    let y = message_of b commands.PcmParams in
    then_word b (any_word 8) q2 y _ (λ _.
    then_run b 4 12 3 q1 y _
    (last_read b (stream_in b) q1 (stream_at b) y _ (stream_is b) refl))

-- ---- controls

abbrev pub control_at : List ℕ → Control
control_at b = record { command = word_at b 20; count = word_at b 56; remaining = word_at b 60; index = word_at b 64 }

pub control_is : (b : List ℕ) (kind : ControlKind) → control_in b kind ≡ read_as b (control_rest_places b kind) (control_at b)
unfolding control_in
control_is b kind =
    let q1 : List Place = any_run 4 68 6 in
    let q2 : List Place = any_word 64 ∷ q1 in
    let q3 : List Place = word_of b 60 (takes_remaining kind (word_at b 56)) ∷ q2 in
    let q4 : List Place = word_of b 56 (takes_count kind) ∷ q3 in
    let q5 : List Place = any_run 4 24 8 ++ q4 in
    let y = control_at b in
    then_word b (word_of b 20 (takes_command kind)) q5 y _ (λ _.
    then_run b 4 24 8 q4 y _
    (then_word b (word_of b 56 (takes_count kind)) q3 y _ (λ _.
    then_word b (word_of b 60 (takes_remaining kind (word_at b 56))) q2 y _ (λ _.
    then_word b (any_word 64) q1 y _ (λ _.
    then_run b 4 68 6 [] y _ refl)))))

abbrev target_places : List ℕ → ControlKind → List Place
target_places b kind = any_words 8 2 ++ word_of b 16 (λ n. n == type_of kind) ∷ []

pub part_is : (b : List ℕ) → part_read b ≡ read_as b (payload_places b kinds.SetData) (part_in b)
unfolding part_read bytes_in
part_is b =
    let q1 : List Place = any_bytes 124 (word_at b 56) ∷ [] in
    then_run b 4 92 8 q1 (part_in b) _
    (last_read b (bytes_in b 124 (word_at b 56)) q1 (part b 124 (word_at b 56)) (part_in b) _ refl refl)

pub values_is : (b : List ℕ) → values_read b ≡ read_as b (payload_places b kinds.SetValue) (values_in b)
unfolding values_read
values_is b = refl

-- the words up to the type, those after it, and the payload
control_message : {A : Type 0} (b : List ℕ) (kind : ControlKind) (payload : Result A CodecFault) (x : A) (y : Message) (f : ℕ → Control → A → Message) → payload ≡ read_as b (payload_places b kind) x → f (word_at b 12) (control_at b) x ≡ y → (target_in b kind >>= λ id. control_in b kind >>= λ control. payload >>= λ x. Ok (f id control x)) ≡ read_as b (control_places b kind) y
unfolding target_in
control_message b kind payload x y f is same =
    let q1 : List Place = payload_places b kind in
    let q2 : List Place = control_rest_places b kind ++ q1 in
    then_read b (target_in b kind) (target_places b kind) q2 (word_at b 12) y _ refl
    (then_read b (control_in b kind) (control_rest_places b kind) q1 (control_at b) y _ (control_is b kind)
    (last_read b payload q1 x y _ is (ap Ok same)))

set_value_is : (b : List ℕ) → set_value_in b ≡ read_as b (places_of b commands.SetValue) (message_of b commands.SetValue)
unfolding set_value_in
set_value_is b = control_message b kinds.SetValue (values_read b) (values_in b) (message_of b commands.SetValue) (λ id control values. SetValue id control.command values) (values_is b) refl

set_data_is : (b : List ℕ) → set_data_in b ≡ read_as b (places_of b commands.SetData) (message_of b commands.SetData)
unfolding set_data_in
set_data_is b = control_message b kinds.SetData (part_read b) (part_in b) (message_of b commands.SetData) (λ id control part. SetData id part) (part_is b) refl

get_value_is : (b : List ℕ) → get_value_in b ≡ read_as b (places_of b commands.GetValue) (message_of b commands.GetValue)
unfolding get_value_in
get_value_is b =
    let unit : Unit {0} = tt in
    let done : Result (Unit {0}) CodecFault = Ok unit in
    control_message b kinds.GetValue done unit (message_of b commands.GetValue) (λ id control _. GetValue id control.command) refl refl

get_data_is : (b : List ℕ) → get_data_in b ≡ read_as b (places_of b commands.GetData) (message_of b commands.GetData)
unfolding get_data_in
get_data_is b =
    let unit : Unit {0} = tt in
    let done : Result (Unit {0}) CodecFault = Ok unit in
    control_message b kinds.GetData done unit (message_of b commands.GetData) (λ id control _. GetData id control.index) refl refl

-- ---- messages

command_is : (b : List ℕ) (c : CommandWord) → command_in b c ≡ read_as b (places_of b c) (message_of b c)
unfolding command_in
command_is b commands.CompNew = comp_is b
command_is b commands.SetValue = set_value_is b
command_is b commands.GetValue = get_value_is b
command_is b commands.SetData = set_data_is b
command_is b commands.GetData = get_data_is b
command_is b commands.PcmParams = params_is b
command_is b c = refl

numbered_is : (b : List ℕ) (o : Option CommandWord) → numbered_in b o ≡ decoded_body b o
unfolding numbered_in
numbered_is b None = refl
numbered_is b (Some c) = command_is b c ∙ read_as-is b (places_of b c) (message_of b c)

-- a header's faults, and what is after it
pub behind_header : {A : Type 0} (short sized : Bool) (b : List ℕ) (f : List ℕ → Result A CodecFault) (r : Result A CodecFault) → f b ≡ r → (cond short (Err Short) (cond (not sized) (Err SizeWord) (Ok b)) >>= f) ≡ cond short (Err Short) (cond (not sized) (Err SizeWord) r)
behind_header true sized b f r e = refl
behind_header false false b f r e = refl
behind_header false true b f r e = e

pub framed_message-is : (b : List ℕ) → framed_message_in b ≡ decoded b
unfolding framed decoded
framed_message-is b = behind_header (nat_lt (length b) 8) (is_sized 8 b) b (λ (frame : List ℕ). numbered_in frame (command_numbered (word_at frame 4))) (decoded_body b (command_numbered (word_at b 4))) (numbered_is b (command_numbered (word_at b 4)))
