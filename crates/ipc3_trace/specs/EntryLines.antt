-- What is said of a record, after the numbers and names of SOF's IPC3.
use Rattle.std.specs.Prelude.{ℕ, zero, suc, ◌+◌, ◌-◌, ◌/◌, List, [], ◌++◌, nat_le, ℤ, pos, codes, decimal, Result, Ok, Err, if◌then◌else◌}
use Rattle.std.specs.Int.{w32, cast_signed}
use Rattle.std.specs.Fmt.{signed_decimal}
use Rattle.std.specs.Prelude.{length}
use Rattle.sof_base.specs.Slots.{word_at}
use Rattle.ipc3_model.specs.declared.command.CommandWord.{CommandWord}
use Rattle.ipc3_model.specs.declared.command.CommandWord.TheVariants as commands
use Rattle.ipc3_model.specs.declared.message.Message.{Message}
use Rattle.ipc3_model.specs.declared.fault.CodecFault.{CodecFault}
use Rattle.ipc3_model.specs.FaultNumbers.{codec_fault_number}
use Rattle.ipc3_model.specs.Messages.{command_of, decoded}
use Rattle.ipc3_trace.specs.declared.entry.Entry.{Entry}
use Rattle.ipc3_trace.specs.declared.entry.Entry.TheVariants.{Boot, Cut, Request, Reply, Tick, Lost}

-- a command's name
abbrev pub command_name : CommandWord → List ℕ
command_name commands.CompNew = codes "COMP_NEW"
command_name commands.CompFree = codes "COMP_FREE"
command_name commands.Connect = codes "CONNECT"
command_name commands.PipeNew = codes "PIPE_NEW"
command_name commands.PipeFree = codes "PIPE_FREE"
command_name commands.PipeComplete = codes "PIPE_COMPLETE"
command_name commands.BufferNew = codes "BUFFER_NEW"
command_name commands.BufferFree = codes "BUFFER_FREE"
command_name commands.CtxSave = codes "CTX_SAVE"
command_name commands.SetValue = codes "SET_VALUE"
command_name commands.GetValue = codes "GET_VALUE"
command_name commands.SetData = codes "SET_DATA"
command_name commands.GetData = codes "GET_DATA"
command_name commands.PcmParams = codes "PCM_PARAMS"
command_name commands.PcmFree = codes "PCM_FREE"
command_name commands.TrigStart = codes "TRIG_START"
command_name commands.TrigStop = codes "TRIG_STOP"
command_name commands.TrigPause = codes "TRIG_PAUSE"
command_name commands.TrigRelease = codes "TRIG_RELEASE"

-- a word with its place, after a blank
abbrev pub word_said : List ℕ → ℕ → List ℕ
word_said bytes at = codes " " ++ decimal at ++ codes "=" ++ decimal (word_at bytes at)

-- n words from a place on
abbrev pub words_said : ℕ → List ℕ → ℕ → List ℕ
words_said zero bytes at = []
words_said (suc n) bytes at = word_said bytes at ++ words_said n bytes (at + 4)

-- how many whole words stand between the header of a message and its size
abbrev pub words_within : List ℕ → ℕ
words_within bytes = (word_at bytes 0 - 8) / 4

-- a message's name and its words, or the number of its fault
abbrev pub request_words : List ℕ → Result Message CodecFault → List ℕ
request_words bytes (Ok m) = codes "request " ++ command_name (command_of m) ++ words_said (words_within bytes) bytes 8
request_words bytes (Err fault) = codes "request bad " ++ decimal (codec_fault_number fault)

-- the error of a reply; one of fewer than 12 bytes has none, and 0 stands for it
abbrev pub reply_error : List ℕ → ℤ
reply_error reply = if nat_le 12 (length reply) then cast_signed w32 (word_at reply 8) else pos 0

-- the line of a record
abbrev pub entry_line : Entry → List ℕ
entry_line (Boot heap) = codes "boot " ++ decimal heap
entry_line Cut = codes "cut"
entry_line (Request message) = request_words message (decoded message)
entry_line (Reply reply) = codes "reply " ++ signed_decimal (reply_error reply)
entry_line Tick = codes "tick"
entry_line Lost = codes "lost"
