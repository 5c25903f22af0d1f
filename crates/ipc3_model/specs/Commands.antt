-- The command words of the messages: the global type in bits 28 to 31, the command in bits 16 to 27.
use Rattle.std.specs.Prelude.{ℕ, List, [], ◌∷◌, Option, find, ◌==◌}
use Rattle.ipc3_model.specs.declared.command.CommandWord.{CommandWord}
use Rattle.ipc3_model.specs.declared.command.CommandWord.TheVariants.{CompNew, CompFree, Connect, PipeNew, PipeFree, PipeComplete, BufferNew, BufferFree, CtxSave, SetValue, GetValue, SetData, GetData, PcmParams, PcmFree, TrigStart, TrigStop, TrigPause, TrigRelease}
use Rattle.ipc3_model.specs.declared.command.TheConstants.{COMP_NEW, COMP_FREE, CONNECT, PIPE_NEW, PIPE_FREE, PIPE_COMPLETE, BUFFER_NEW, BUFFER_FREE, CTX_SAVE, SET_VALUE, GET_VALUE, SET_DATA, GET_DATA, PCM_PARAMS, PCM_FREE, TRIG_START, TRIG_STOP, TRIG_PAUSE, TRIG_RELEASE}

-- the word of a command
abbrev pub command_number : CommandWord → ℕ
command_number CompNew = COMP_NEW
command_number CompFree = COMP_FREE
command_number Connect = CONNECT
command_number PipeNew = PIPE_NEW
command_number PipeFree = PIPE_FREE
command_number PipeComplete = PIPE_COMPLETE
command_number BufferNew = BUFFER_NEW
command_number BufferFree = BUFFER_FREE
command_number CtxSave = CTX_SAVE
command_number SetValue = SET_VALUE
command_number GetValue = GET_VALUE
command_number SetData = SET_DATA
command_number GetData = GET_DATA
command_number PcmParams = PCM_PARAMS
command_number PcmFree = PCM_FREE
command_number TrigStart = TRIG_START
command_number TrigStop = TRIG_STOP
command_number TrigPause = TRIG_PAUSE
command_number TrigRelease = TRIG_RELEASE

-- all commands
abbrev pub all_commands : List CommandWord
all_commands =
    CompNew ∷ CompFree ∷ Connect ∷ PipeNew ∷ PipeFree ∷ PipeComplete ∷ BufferNew ∷ BufferFree ∷ CtxSave ∷ SetValue
    ∷ GetValue ∷ SetData ∷ GetData ∷ PcmParams ∷ PcmFree ∷ TrigStart ∷ TrigStop ∷ TrigPause ∷ TrigRelease ∷ []

-- the command whose word this is
abbrev pub command_numbered : ℕ → Option CommandWord
command_numbered n = find (λ c. n == command_number c) all_commands
