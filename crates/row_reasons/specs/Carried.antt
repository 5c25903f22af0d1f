-- What a message names and carries.
use Rattle.std.specs.Prelude.{ℕ, Bool, true, List, [], ◌∷◌, Option, Some, None, option_map, find, ◌==◌}
use Rattle.std.specs.List.{list_any}
use Rattle.sof_base.specs.declared.format.Params.{Params}
use Rattle.sof_base.specs.declared.part.Part.{Part}
use Rattle.stream_law.specs.declared.graph.Pipe.{Pipe}
use Rattle.stream_law.specs.declared.graph.Join.{Join}
use Rattle.stream_law.specs.declared.stream.Phase.{Phase}
use Rattle.stream_law.specs.State.{FwState}
use Rattle.stream_law.specs.Ways.{is_live_phase, is_running_phase}
use Rattle.ipc3_model.specs.declared.message.Message.{Message}
use Rattle.ipc3_model.specs.declared.message.Message.TheVariants as messages
use Rattle.mbox_link.specs.Step.{kind_of, comp_bytes, buffer_bytes, pipe_bytes, index_of, bytes_left, is_prepared, is_paused}

-- the ids of what a message makes, takes away, joins, sets or asks for
abbrev pub ids_of : Message → List ℕ
ids_of (messages.CompNew id pipe periods_sink periods_source frame_fmt kind) = id ∷ []
ids_of (messages.CompFree id) = id ∷ []
ids_of (messages.BufferNew id pipe size caps) = id ∷ []
ids_of (messages.BufferFree id) = id ∷ []
ids_of (messages.PipeNew id pipe sched period priority mips frames time_domain) = id ∷ []
ids_of (messages.PipeFree id) = id ∷ []
ids_of (messages.Connect source sink) = source ∷ sink ∷ []
ids_of (messages.PipeComplete id) = id ∷ []
ids_of (messages.SetValue id command values) = id ∷ []
ids_of (messages.GetValue id command) = id ∷ []
ids_of (messages.SetData id part) = id ∷ []
ids_of (messages.GetData id index) = id ∷ []
ids_of (messages.PcmParams host direction params) = host ∷ []
ids_of (messages.PcmFree id) = id ∷ []
ids_of (messages.TrigStart id) = id ∷ []
ids_of (messages.TrigStop id) = id ∷ []
ids_of (messages.TrigPause id) = id ∷ []
ids_of (messages.TrigRelease id) = id ∷ []
ids_of messages.CtxSave = []

-- an id is one of a message's
abbrev pub names : Message → ℕ → Bool
names m id = list_any (λ x. x == id) (ids_of m)

-- the pipeline of this id
abbrev pub pipe_at : FwState → ℕ → Option Pipe
pipe_at f id = find (λ p. p.id == id) f.graph.pipes

-- the index of the pipeline that a message makes or takes away, or that its component or buffer is of
abbrev pub pipe_index : FwState → Message → Option ℕ
pipe_index f (messages.CompNew id pipe periods_sink periods_source frame_fmt kind) = Some pipe
pipe_index f (messages.BufferNew id pipe size caps) = Some pipe
pipe_index f (messages.PipeNew id pipe sched period priority mips frames time_domain) = Some pipe
pipe_index f (messages.CompFree id) = index_of f.graph id
pipe_index f (messages.BufferFree id) = index_of f.graph id
pipe_index f (messages.PipeFree id) = option_map (λ p. p.index) (pipe_at f id)
pipe_index f m = None

-- how many bytes what a message makes takes, before they are rounded
abbrev pub bytes_for : Message → Option ℕ
bytes_for (messages.CompNew id pipe periods_sink periods_source frame_fmt kind) = Some (comp_bytes (kind_of kind frame_fmt))
bytes_for (messages.BufferNew id pipe size caps) = Some (buffer_bytes size)
bytes_for (messages.PipeNew id pipe sched period priority mips frames time_domain) = Some pipe_bytes
bytes_for m = None

-- the join that a message asks for
abbrev pub join_of : Message → Option Join
join_of (messages.Connect source sink) = Some (record { source = source; sink = sink })
join_of m = None

-- the command by which a message sets values or asks for them
abbrev pub command_of : Message → Option ℕ
command_of (messages.SetValue id command values) = Some command
command_of (messages.GetValue id command) = Some command
command_of m = None

-- the values that a message sets
abbrev pub values_of : Message → List ℕ
values_of (messages.SetValue id command values) = values
values_of m = []

-- the part of a blob that a message brings
abbrev pub part_of : Message → Option Part
part_of (messages.SetData id part) = Some part
part_of m = None

-- the number of the part that a message brings or asks for
abbrev pub part_number : Message → Option ℕ
part_number (messages.SetData id part) = Some part.index
part_number (messages.GetData id index) = Some index
part_number m = None

-- how many bytes of a blob come with a message and after it
abbrev pub bytes_coming : Message → Option ℕ
bytes_coming m = option_map bytes_left (part_of m)

-- the host of the stream that a message gives parameters, its direction, and the parameters
abbrev pub stream_of : Message → Option ℕ
stream_of (messages.PcmParams host direction params) = Some host
stream_of m = None

abbrev pub direction_of : Message → Option ℕ
direction_of (messages.PcmParams host direction params) = Some direction
direction_of m = None

abbrev pub params_of : Message → Option Params
params_of (messages.PcmParams host direction params) = Some params
params_of m = None

-- whether a stream in this phase takes a message; one that moves no stream is taken in each
abbrev pub leaves_from : Message → Phase → Bool
leaves_from (messages.PcmFree id) phase = is_prepared phase
leaves_from (messages.TrigStart id) phase = is_prepared phase
leaves_from (messages.TrigStop id) phase = is_live_phase phase
leaves_from (messages.TrigPause id) phase = is_running_phase phase
leaves_from (messages.TrigRelease id) phase = is_paused phase
leaves_from m phase = true
