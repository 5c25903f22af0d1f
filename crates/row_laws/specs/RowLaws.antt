-- The laws of the rows that public calls state.
use Rattle.std.specs.Prelude.{◌≡◌, ℕ, ◌<◌, List, length, true, Result, Ok, ℤ, slice_index}
use Rattle.sof_base.specs.declared.format.Params.{Params}
use Rattle.sof_base.specs.declared.part.Part.{Part}
use Rattle.sof_base.specs.Ports.{Io}
use Rattle.stream_law.specs.declared.graph.Kind.{Kind}
use Rattle.stream_law.specs.declared.graph.Setting.{Setting}
use Rattle.stream_law.specs.declared.stream.Phase.TheVariants.{Prepared, Running, Paused}
use Rattle.stream_law.specs.State.{FwState}
use Rattle.stream_law.specs.Ways.{is_live_phase, is_running_phase}
use Rattle.ipc3_model.specs.declared.message.Message.{Message}
use Rattle.ipc3_model.specs.declared.message.Message.TheVariants.{SetData}
use Rattle.ipc3_model.specs.Allowed.{is_buffer_size, is_period_allowed, is_channels}
use Rattle.ipc3_model.specs.Meanings.{IsAllowed}
use Rattle.mbox_link.specs.Step.{comp_new, comp_free, buffer_new, buffer_free, pipe_new, pipe_free, connect, pipe_complete, set_value, get_value, set_data, get_data, pcm_params, pcm_free, trigger, is_prepared, is_paused, row, step, fresh}
use Rattle.mbox_link.specs.Exchange.{ticked}
use Rattle.row_laws.specs.Kept.{FirmwareInvariant, IsSettingOf, IsRampOf}

-- A row that is done keeps what every state keeps. Where it is refused, the state stays as it was.
abbrev pub RowIsKept : (FwState → Result FwState ℤ) → Type 0
RowIsKept row = (f g : FwState) → FirmwareInvariant f → row f ≡ Ok g → FirmwareInvariant g

-- ---- one row each

abbrev pub CompNewKeeps : Type 0
CompNewKeeps = (id pipe : ℕ) (kind : Kind) (setting : Setting) (ramp : ℕ) → IsSettingOf kind setting → IsRampOf kind ramp →
    RowIsKept (λ f. comp_new f id pipe kind setting ramp)

abbrev pub CompFreeKeeps : Type 0
CompFreeKeeps = (id : ℕ) → RowIsKept (λ f. comp_free f id)

abbrev pub BufferNewKeeps : Type 0
BufferNewKeeps = (id pipe size : ℕ) → is_buffer_size size ≡ true → RowIsKept (λ f. buffer_new f id pipe size)

abbrev pub BufferFreeKeeps : Type 0
BufferFreeKeeps = (id : ℕ) → RowIsKept (λ f. buffer_free f id)

abbrev pub PipeNewKeeps : Type 0
PipeNewKeeps = (id index sched period : ℕ) → is_period_allowed period ≡ true → RowIsKept (λ f. pipe_new f id index sched period)

abbrev pub PipeFreeKeeps : Type 0
PipeFreeKeeps = (id : ℕ) → RowIsKept (λ f. pipe_free f id)

abbrev pub ConnectKeeps : Type 0
ConnectKeeps = (source sink : ℕ) → RowIsKept (λ f. connect f source sink)

abbrev pub PipeCompleteKeeps : Type 0
PipeCompleteKeeps = (id : ℕ) → RowIsKept (λ f. pipe_complete f id)

abbrev pub SetValueKeeps : Type 0
SetValueKeeps = (id command : ℕ) (values : List ℕ) → RowIsKept (λ f. set_value f id command values)

abbrev pub GetValueKeeps : Type 0
GetValueKeeps = (id command : ℕ) → RowIsKept (λ f. get_value f id command)

-- a part has 32 header bytes, and what it carries are bytes
pub record IsPart (part : Part) : Type 0 where
  pub long : length part.header ≡ 32
  pub header : (i : ℕ) → slice_index part.header i < 256
  pub bytes : (i : ℕ) → slice_index part.bytes i < 256

abbrev pub SetDataKeeps : Type 0
SetDataKeeps = (id : ℕ) (part : Part) → IsPart part → RowIsKept (λ f. set_data f id part)

abbrev pub GetDataKeeps : Type 0
GetDataKeeps = (id index : ℕ) → RowIsKept (λ f. get_data f id index)

abbrev pub PcmParamsKeeps : Type 0
PcmParamsKeeps = (host direction : ℕ) (params : Params) → is_channels params.channels ≡ true → RowIsKept (λ f. pcm_params f host direction params)

abbrev pub PcmFreeKeeps : Type 0
PcmFreeKeeps = (host : ℕ) → RowIsKept (λ f. pcm_free f host)

abbrev pub TrigStartKeeps : Type 0
TrigStartKeeps = (host : ℕ) → RowIsKept (λ f. trigger f host is_prepared Running)

abbrev pub TrigStopKeeps : Type 0
TrigStopKeeps = (host : ℕ) → RowIsKept (λ f. trigger f host is_live_phase Prepared)

abbrev pub TrigPauseKeeps : Type 0
TrigPauseKeeps = (host : ℕ) → RowIsKept (λ f. trigger f host is_running_phase Paused)

abbrev pub TrigReleaseKeeps : Type 0
TrigReleaseKeeps = (host : ℕ) → RowIsKept (λ f. trigger f host is_paused Running)

abbrev pub CtxSaveKeeps : Type 0
CtxSaveKeeps = RowIsKept (λ f. Ok f)

-- ---- all rows, and what else changes a state

-- what a message carries are bytes
abbrev pub HasBytes : Message → Type 0
HasBytes (SetData id part) = ((i : ℕ) → slice_index part.header i < 256) × ((i : ℕ) → slice_index part.bytes i < 256)
HasBytes m = Unit {0}

-- the row of a message none of whose words is refused
abbrev pub RowKeeps : Type 0
RowKeeps = (m : Message) → IsAllowed m → HasBytes m → RowIsKept (λ f. row f m)

-- the step of any bytes
abbrev pub StepKeeps : Type 0
StepKeeps = (f : FwState) (request : List ℕ) → ((i : ℕ) → slice_index request i < 256) → FirmwareInvariant f → FirmwareInvariant (step f request).0

-- a boot makes a state that is kept, whatever was before it
abbrev pub BootIsKept : Type 0
BootIsKept = (heap : ℕ) → FirmwareInvariant (fresh heap)

-- a tick, whatever its inputs give
abbrev pub TickIsKept : Type 0
TickIsKept = (f : FwState) (io : Io) → FirmwareInvariant f → FirmwareInvariant (ticked (f, io)).0
