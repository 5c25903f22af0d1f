-- The host's messages, after SOF's IPC3 (ABI 3): which words each has, and how bytes are read as one. All places are in bytes from 0.
use Rattle.std.specs.Prelude.{ℕ, ◌+◌, ◌*◌, Bool, ◌&&◌, not, List, [], ◌∷◌, ◌++◌, length, Option, Some, None, Result, Ok, Err, find, nat_lt, nat_le, if◌then◌else◌}
use Rattle.sof_base.specs.Cells.{written}
use Rattle.sof_base.specs.Slots.{Slot, Word, Size, slots_cells, word_at}
use Rattle.ipc3_model.specs.declared.command.CommandWord.{CommandWord}
use Rattle.ipc3_model.specs.declared.command.CommandWord.TheVariants as commands
use Rattle.ipc3_model.specs.declared.component_type.CompType.{CompType}
use Rattle.ipc3_model.specs.declared.component_type.CompType.TheVariants as types
use Rattle.ipc3_model.specs.declared.component_type.TheConstants.{BUFFER}
use Rattle.ipc3_model.specs.declared.control_kind.ControlKind.TheVariants as kinds
use Rattle.ipc3_model.specs.declared.control_kind.TheConstants.{CTRL_BINARY}
use Rattle.ipc3_model.specs.declared.message.Message.{Message}
use Rattle.ipc3_model.specs.declared.message.Message.TheVariants.{CompNew, CompFree, Connect, PipeNew, PipeFree, PipeComplete, BufferNew, BufferFree, CtxSave, SetValue, GetValue, SetData, GetData, PcmParams, PcmFree, TrigStart, TrigStop, TrigPause, TrigRelease}
use Rattle.ipc3_model.specs.declared.message.CompWords.{CompWords}
use Rattle.ipc3_model.specs.declared.message.CompWords.TheVariants.{Host, Dai, Volume, Mixer, Mux, Eq, Demux}
use Rattle.ipc3_model.specs.declared.fault.CodecFault.{CodecFault}
use Rattle.ipc3_model.specs.declared.fault.CodecFault.TheVariants.{Short, SizeWord, Command}
use Rattle.ipc3_model.specs.Commands.{command_number, command_numbered}
use Rattle.ipc3_model.specs.ComponentTypes.{type_number, type_numbered}
pub use Rattle.ipc3_model.specs.Allowed.{is_direction, is_frame_format, is_buffer_size, is_period_allowed, is_channels, is_comp_type, is_buffer_type, is_format_of}
use Rattle.ipc3_model.specs.Places.{Place, any_word, any_words, word_of, is_bad, field_fault}
use Rattle.ipc3_model.specs.StreamWords.{stream_slots, stream_places, params_at}
use Rattle.ipc3_model.specs.ControlWords.{control_slots, value_slots, part_slots, control_places, values_in, part_in}

-- ---- how a message is spelled: a `Word` carries something, a `Size` is written so and not looked at

-- the type of a component
abbrev pub comp_type : CompWords → CompType
comp_type (Host direction) = types.Host
comp_type (Dai direction index) = types.Dai
comp_type (Volume channels min_value max_value ramp initial_ramp) = types.Volume
comp_type Mixer = types.Mixer
comp_type Mux = types.Mux
comp_type Eq = types.EqIir
comp_type Demux = types.Demux

-- nine words that are written as 0
abbrev pub nine_zeros : List Slot
nine_zeros = Size 0 ∷ Size 0 ∷ Size 0 ∷ Size 0 ∷ Size 0 ∷ Size 0 ∷ Size 0 ∷ Size 0 ∷ Size 0 ∷ []

-- the words of a component's type: a host's direction, no_irq and dmac_config; a DAI's direction, index, type and a reserved word;
-- a volume's channels, least and greatest value and two words of its ramp; an equaliser's or a demux's size, type and seven reserved words
abbrev pub kind_slots : CompWords → List Slot
kind_slots (Host direction) = Word direction ∷ Size 0 ∷ Size 0 ∷ []
kind_slots (Dai direction index) = Word direction ∷ Word index ∷ Size 0 ∷ Size 0 ∷ []
kind_slots (Volume channels min_value max_value ramp initial_ramp) = Word channels ∷ Word min_value ∷ Word max_value ∷ Word ramp ∷ Word initial_ramp ∷ []
kind_slots Mixer = []
kind_slots Mux = []
kind_slots Eq = nine_zeros
kind_slots Demux = nine_zeros

-- a component's config, 36 bytes: its size and cmd, the period counts, a reserved word, the frame format, xrun_action and two reserved words
abbrev pub config_slots : ℕ → ℕ → ℕ → List Slot
config_slots periods_sink periods_source frame_fmt =
    Size 36 ∷ Size 0 ∷ Word periods_sink ∷ Word periods_source ∷ Size 0 ∷ Word frame_fmt ∷ Size 0 ∷ Size 0 ∷ Size 0 ∷ []

-- how many bytes the COMP_NEW of a type needs
abbrev pub comp_size : CompWords → ℕ
comp_size (Host direction) = 76
comp_size (Dai direction index) = 80
comp_size (Volume channels min_value max_value ramp initial_ramp) = 84
comp_size Mixer = 64
comp_size Mux = 64
comp_size Eq = 100
comp_size Demux = 100

-- how many bytes a message needs
abbrev pub size_of : Message → ℕ
size_of (CompNew id pipe periods_sink periods_source frame_fmt kind) = comp_size kind
size_of (CompFree id) = 12
size_of (Connect source sink) = 16
size_of (PipeNew id pipe sched period priority mips frames time_domain) = 48
size_of (PipeFree id) = 12
size_of (PipeComplete id) = 12
size_of (BufferNew id pipe size caps) = 44
size_of (BufferFree id) = 12
size_of CtxSave = 8
size_of (SetValue id command values) = 92 + 8 * length values
size_of (GetValue id command) = 92
size_of (SetData id part) = 124 + length part.bytes
size_of (GetData id index) = 92
size_of (PcmParams host direction params) = 108
size_of (PcmFree id) = 12
size_of (TrigStart id) = 12
size_of (TrigStop id) = 12
size_of (TrigPause id) = 12
size_of (TrigRelease id) = 12

-- its command
abbrev pub command_of : Message → CommandWord
command_of (CompNew id pipe periods_sink periods_source frame_fmt kind) = commands.CompNew
command_of (CompFree id) = commands.CompFree
command_of (Connect source sink) = commands.Connect
command_of (PipeNew id pipe sched period priority mips frames time_domain) = commands.PipeNew
command_of (PipeFree id) = commands.PipeFree
command_of (PipeComplete id) = commands.PipeComplete
command_of (BufferNew id pipe size caps) = commands.BufferNew
command_of (BufferFree id) = commands.BufferFree
command_of CtxSave = commands.CtxSave
command_of (SetValue id command values) = commands.SetValue
command_of (GetValue id command) = commands.GetValue
command_of (SetData id part) = commands.SetData
command_of (GetData id index) = commands.GetData
command_of (PcmParams host direction params) = commands.PcmParams
command_of (PcmFree id) = commands.PcmFree
command_of (TrigStart id) = commands.TrigStart
command_of (TrigStop id) = commands.TrigStop
command_of (TrigPause id) = commands.TrigPause
command_of (TrigRelease id) = commands.TrigRelease

-- the words after the header, in the order of the profile's table
abbrev pub body_slots : Message → List Slot
body_slots (CompNew id pipe periods_sink periods_source frame_fmt kind) =
    Word id ∷ Word (type_number (comp_type kind)) ∷ Word pipe ∷ Size 0 ∷ Size 0 ∷ (config_slots periods_sink periods_source frame_fmt ++ kind_slots kind)
body_slots (CompFree id) = Word id ∷ []
body_slots (Connect source sink) = Word source ∷ Word sink ∷ []
body_slots (PipeNew id pipe sched period priority mips frames time_domain) =
    Word id ∷ Word pipe ∷ Word sched ∷ Size 0 ∷ Word period ∷ Word priority ∷ Word mips ∷ Word frames ∷ Size 0 ∷ Word time_domain ∷ []
body_slots (PipeFree id) = Word id ∷ []
body_slots (PipeComplete id) = Word id ∷ []
body_slots (BufferNew id pipe size caps) =
    Word id ∷ Word BUFFER ∷ Word pipe ∷ Size 0 ∷ Size 0 ∷ Word size ∷ Word caps ∷ Size 0 ∷ Size 0 ∷ []
body_slots (BufferFree id) = Word id ∷ []
body_slots CtxSave = []
body_slots (SetValue id command values) =
    control_slots (Size 0) (Word id) kinds.SetValue (Word command) (Word (length values)) (Size 0) (Size 0) ++ value_slots 0 values
body_slots (GetValue id command) =
    control_slots (Size 0) (Word id) kinds.GetValue (Word command) (Size 0) (Size 0) (Size 0)
body_slots (SetData id part) =
    control_slots (Size 0) (Word id) kinds.SetData (Word CTRL_BINARY) (Word (length part.bytes)) (Word part.remaining) (Word part.index) ++ part_slots part
body_slots (GetData id index) =
    control_slots (Size 0) (Word id) kinds.GetData (Word CTRL_BINARY) (Size 0) (Size 0) (Word index)
body_slots (PcmParams host direction params) = Word host ∷ Size 0 ∷ Size 0 ∷ Size 0 ∷ stream_slots direction params
body_slots (PcmFree id) = Word id ∷ []
body_slots (TrigStart id) = Word id ∷ []
body_slots (TrigStop id) = Word id ∷ []
body_slots (TrigPause id) = Word id ∷ []
body_slots (TrigRelease id) = Word id ∷ []

-- all words of a message
abbrev pub message_slots : Message → List Slot
message_slots m = Size (size_of m) ∷ Word (command_number (command_of m)) ∷ body_slots m

-- the bytes that are sent
abbrev pub message_spelling : Message → List ℕ
message_spelling m = written (slots_cells (message_slots m))

-- ---- which messages are not refused

-- the size word is at least the header's size and at most 384 and the number of bytes
abbrev pub is_sized : ℕ → List ℕ → Bool
is_sized header b = nat_le header (word_at b 0) && nat_le (word_at b 0) 384 && nat_le (word_at b 0) (length b)

-- ---- the first fault

-- the words of the config of a component of this type
abbrev pub config_places : List ℕ → CompType → List Place
config_places b type = any_words 28 5 ++ word_of b 48 (is_format_of type) ∷ any_words 52 3

-- the words of its type, after the config
abbrev pub kind_places : List ℕ → CompType → List Place
kind_places b types.Host = word_of b 64 is_direction ∷ any_words 68 2
kind_places b types.Dai = word_of b 64 is_direction ∷ any_words 68 3
kind_places b types.Volume = word_of b 64 is_channels ∷ any_words 68 4
kind_places b types.Mixer = []
kind_places b types.Mux = []
kind_places b types.EqIir = any_words 64 9
kind_places b types.Demux = any_words 64 9

-- the words after the header of its COMP_NEW; the type word is the last where it is none
abbrev pub comp_places : List ℕ → Option CompType → List Place
comp_places b None = any_word 8 ∷ word_of b 12 is_comp_type ∷ []
comp_places b (Some type) = any_word 8 ∷ word_of b 12 is_comp_type ∷ (any_words 16 3 ++ (config_places b type ++ kind_places b type))

-- the words after the header of bytes with this command
abbrev pub places_of : List ℕ → CommandWord → List Place
places_of b commands.CompNew = comp_places b (type_numbered (word_at b 12))
places_of b commands.Connect = any_words 8 2
places_of b commands.PipeNew = any_words 8 4 ++ word_of b 24 is_period_allowed ∷ any_words 28 5
places_of b commands.BufferNew = any_word 8 ∷ word_of b 12 is_buffer_type ∷ (any_words 16 3 ++ word_of b 28 is_buffer_size ∷ any_words 32 3)
places_of b commands.CtxSave = []
places_of b commands.SetValue = control_places b kinds.SetValue
places_of b commands.GetValue = control_places b kinds.GetValue
places_of b commands.SetData = control_places b kinds.SetData
places_of b commands.GetData = control_places b kinds.GetData
places_of b commands.PcmParams = any_words 8 4 ++ stream_places b
places_of b _ = any_words 8 1

-- ---- the message that the words of bytes are

-- what the words after the config of this type are
abbrev pub comp_words : List ℕ → CompType → CompWords
comp_words b types.Host = Host (word_at b 64)
comp_words b types.Dai = Dai (word_at b 64) (word_at b 68)
comp_words b types.Volume = Volume (word_at b 64) (word_at b 68) (word_at b 72) (word_at b 76) (word_at b 80)
comp_words b types.Mixer = Mixer
comp_words b types.Mux = Mux
comp_words b types.EqIir = Eq
comp_words b types.Demux = Demux

-- of the type of a type word; where it is none the bytes are refused, and these words are not looked at
abbrev pub typed_words : List ℕ → Option CompType → CompWords
typed_words b None = Mixer
typed_words b (Some type) = comp_words b type

-- the message that bytes are, where they have this command
abbrev pub message_of : List ℕ → CommandWord → Message
message_of b commands.CompNew = CompNew (word_at b 8) (word_at b 16) (word_at b 36) (word_at b 40) (word_at b 48) (typed_words b (type_numbered (word_at b 12)))
message_of b commands.CompFree = CompFree (word_at b 8)
message_of b commands.Connect = Connect (word_at b 8) (word_at b 12)
message_of b commands.PipeNew = PipeNew (word_at b 8) (word_at b 12) (word_at b 16) (word_at b 24) (word_at b 28) (word_at b 32) (word_at b 36) (word_at b 44)
message_of b commands.PipeFree = PipeFree (word_at b 8)
message_of b commands.PipeComplete = PipeComplete (word_at b 8)
message_of b commands.BufferNew = BufferNew (word_at b 8) (word_at b 16) (word_at b 28) (word_at b 32)
message_of b commands.BufferFree = BufferFree (word_at b 8)
message_of b commands.CtxSave = CtxSave
message_of b commands.SetValue = SetValue (word_at b 12) (word_at b 20) (values_in b)
message_of b commands.GetValue = GetValue (word_at b 12) (word_at b 20)
message_of b commands.SetData = SetData (word_at b 12) (part_in b)
message_of b commands.GetData = GetData (word_at b 12) (word_at b 64)
message_of b commands.PcmParams = PcmParams (word_at b 8) (word_at b 56) (params_at b)
message_of b commands.PcmFree = PcmFree (word_at b 8)
message_of b commands.TrigStart = TrigStart (word_at b 8)
message_of b commands.TrigStop = TrigStop (word_at b 8)
message_of b commands.TrigPause = TrigPause (word_at b 8)
message_of b commands.TrigRelease = TrigRelease (word_at b 8)

-- a fault, or else a value
abbrev pub faultless : {A : Type 0} → Option CodecFault → A → Result A CodecFault
faultless None m = Ok m
faultless (Some f) m = Err f

-- bytes of a command: the first bad place, or the message
abbrev pub decoded_body : List ℕ → Option CommandWord → Result Message CodecFault
decoded_body b None = Err (Command (word_at b 4))
decoded_body b (Some command) = faultless (field_fault (find (is_bad b) (places_of b command))) (message_of b command)

-- bytes as a message: their first fault, or the message that they carry
unfoldable pub decoded : List ℕ → Result Message CodecFault
decoded b =
    if nat_lt (length b) 8 then Err Short
    else if not (is_sized 8 b) then Err SizeWord
    else decoded_body b (command_numbered (word_at b 4))
