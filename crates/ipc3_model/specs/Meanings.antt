-- Which messages bytes carry, and which fault of bytes is the first.
use Rattle.std.specs.Prelude.{◌≡◌, ℕ, ◌≤◌, true, not, List, length, take, Option, Some, None, find, nat_lt, if◌then◌else◌}
use Rattle.sof_base.specs.Cells.{Fits}
use Rattle.sof_base.specs.Slots.{slots_cells, AreSlots, word_at}
use Rattle.ipc3_model.specs.declared.command.CommandWord.{CommandWord}
use Rattle.ipc3_model.specs.declared.control_kind.ControlKind.TheVariants as kinds
use Rattle.ipc3_model.specs.declared.message.Message.{Message}
use Rattle.ipc3_model.specs.declared.message.Message.TheVariants.{CompNew, CompFree, Connect, PipeNew, PipeFree, PipeComplete, BufferNew, BufferFree, CtxSave, SetValue, GetValue, SetData, GetData, PcmParams, PcmFree, TrigStart, TrigStop, TrigPause, TrigRelease}
use Rattle.ipc3_model.specs.declared.message.CompWords.{CompWords}
use Rattle.ipc3_model.specs.declared.message.CompWords.TheVariants.{Host, Dai, Volume, Mixer, Mux, Eq, Demux}
use Rattle.ipc3_model.specs.declared.fault.CodecFault.{CodecFault}
use Rattle.ipc3_model.specs.declared.fault.CodecFault.TheVariants.{Short, SizeWord, Command}
use Rattle.ipc3_model.specs.Commands.{command_numbered}
use Rattle.ipc3_model.specs.Allowed.{is_direction, is_frame_format, is_buffer_size, is_period_allowed, is_channels}
use Rattle.ipc3_model.specs.Places.{is_bad, field_fault}
use Rattle.ipc3_model.specs.ControlWords.{takes_command, takes_count, takes_remaining}
use Rattle.ipc3_model.specs.Messages.{size_of, message_slots, is_sized, places_of}

-- a direction is one, and a DAI's frame format, and a volume's number of channels
abbrev pub IsKind : CompWords → ℕ → Type 0
IsKind (Host direction) frame_fmt = is_direction direction ≡ true
IsKind (Dai direction index) frame_fmt = (is_frame_format frame_fmt ≡ true) × (is_direction direction ≡ true)
IsKind (Volume channels min_value max_value ramp initial_ramp) frame_fmt = is_channels channels ≡ true
IsKind Mixer frame_fmt = Unit {0}
IsKind Mux frame_fmt = Unit {0}
IsKind Eq frame_fmt = Unit {0}
IsKind Demux frame_fmt = Unit {0}

-- no word of the message is refused
abbrev pub IsAllowed : Message → Type 0
IsAllowed (CompNew id pipe periods_sink periods_source frame_fmt kind) = IsKind kind frame_fmt
IsAllowed (CompFree id) = Unit {0}
IsAllowed (Connect source sink) = Unit {0}
IsAllowed (PipeNew id pipe sched period priority mips frames time_domain) = is_period_allowed period ≡ true
IsAllowed (PipeFree id) = Unit {0}
IsAllowed (PipeComplete id) = Unit {0}
IsAllowed (BufferNew id pipe size caps) = is_buffer_size size ≡ true
IsAllowed (BufferFree id) = Unit {0}
IsAllowed CtxSave = Unit {0}
IsAllowed (SetValue id command values) = (takes_command kinds.SetValue command ≡ true) × (takes_count kinds.SetValue (length values) ≡ true)
IsAllowed (GetValue id command) = takes_command kinds.GetValue command ≡ true
IsAllowed (SetData id part) =
    (length part.header ≡ 32) × (takes_count kinds.SetData (length part.bytes) ≡ true) × (takes_remaining kinds.SetData (length part.bytes) part.remaining ≡ true)
IsAllowed (GetData id index) = Unit {0}
IsAllowed (PcmParams host direction params) = (is_direction direction ≡ true) × (is_channels params.channels ≡ true)
IsAllowed (PcmFree id) = Unit {0}
IsAllowed (TrigStart id) = Unit {0}
IsAllowed (TrigStop id) = Unit {0}
IsAllowed (TrigPause id) = Unit {0}
IsAllowed (TrigRelease id) = Unit {0}

-- a message of the program that no decoder refuses
abbrev pub IsMessage : Message → Type 0
IsMessage m = AreSlots (message_slots m) × IsAllowed m

-- b carries m: its size word has room for m, and m's words stand at their places; all else is free
pub record Means (b : List ℕ) (m : Message) : Type 0 where
  pub header : 8 ≤ length b
  pub sized : is_sized 8 b ≡ true
  pub room : size_of m ≤ word_at b 0
  pub fits : Fits (take (size_of m) b) (slots_cells (message_slots m))
  pub allowed : IsAllowed m

-- the first fault after a header: the command word is unknown, or a place is bad
abbrev pub body_fault : List ℕ → Option CommandWord → Option CodecFault
body_fault b None = Some (Command (word_at b 4))
body_fault b (Some command) = field_fault (find (is_bad b) (places_of b command))

-- the first fault of bytes, where they are no message
unfoldable pub message_fault : List ℕ → Option CodecFault
message_fault b =
    if nat_lt (length b) 8 then Some Short
    else if not (is_sized 8 b) then Some SizeWord
    else body_fault b (command_numbered (word_at b 4))
