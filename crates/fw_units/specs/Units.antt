-- What a unit is, and how a component, a buffer or a pipeline is seen in the firmware's state. A new component moves one channel, and a new
-- ring has frames of one sample, until a stream begins there.
use Rattle.std.specs.Prelude.{ℕ, ◌+◌, ◌*◌, List, [], ◌∷◌, ◌++◌, map, take, nat_le, Bool, true, false, ◌==◌, Option, None, if◌then◌else◌, ℤ, pos}
use Rattle.sof_base.specs.declared.format.Format.{Format}
use Rattle.fw_heap.specs.Pieces.{PieceState}
use Rattle.fw_ring.specs.RingState.{capacity_of}
use Rattle.eq_biquad.specs.EqState.{staged_of, numbers_of}
use Rattle.stream_law.specs.declared.graph.Kind.{Kind}
use Rattle.stream_law.specs.declared.graph.Kind.TheVariants as kinds
use Rattle.stream_law.specs.declared.graph.Setting.{Setting}
use Rattle.stream_law.specs.declared.graph.Setting.TheVariants as settings
use Rattle.stream_law.specs.declared.graph.Comp.{Comp}
use Rattle.stream_law.specs.declared.graph.Edge.{Edge}
use Rattle.stream_law.specs.declared.graph.Pipe.{Pipe}
use Rattle.stream_law.specs.declared.stream.StreamView.{StreamView}
use Rattle.stream_law.specs.State.{PieceView, RingView, Staging}
use Rattle.stream_law.specs.Placed.{placed}
use Rattle.fw_units.specs.declared.component.Unit.{Unit}
use Rattle.fw_units.specs.declared.component.Unit.TheVariants.{Host, Dai, Volume, Mixer, Mux, Eq, Demux, Buffer, Pipeline}
use Rattle.fw_units.specs.declared.component.Component.{Component}

-- ---- what a unit is

abbrev pub is_buffer : Unit → Bool
is_buffer (Buffer size ring source sink) = true
is_buffer unit = false

abbrev pub is_pipeline : Unit → Bool
is_pipeline (Pipeline sched period complete piece) = true
is_pipeline unit = false

abbrev pub is_host_unit : Unit → Bool
is_host_unit (Host capture phase params piece) = true
is_host_unit unit = false

-- a volume is past its ramp
abbrev pub is_past : Unit → Bool
is_past (Volume gains ramp from done frames piece) = nat_le frames done
is_past unit = false

-- the piece that it holds
abbrev pub piece_of : Unit → PieceState
piece_of (Host capture phase params piece) = piece
piece_of (Dai capture format piece) = piece
piece_of (Volume gains ramp from done frames piece) = piece
piece_of (Mixer piece) = piece
piece_of (Mux choice piece) = piece
piece_of (Eq eq next remaining) = eq.piece
piece_of (Demux masks piece) = piece
piece_of (Buffer size ring source sink) = ring.piece
piece_of (Pipeline sched period complete piece) = piece

-- ---- the graph

abbrev pub host_kind : Bool → Kind
host_kind true = kinds.HostCapture
host_kind false = kinds.HostPlay

abbrev pub dai_kind : Bool → Format → Kind
dai_kind true format = kinds.DaiCapture format
dai_kind false format = kinds.DaiPlay format

-- the kind of a component; buffers and pipelines have none
abbrev pub kind_by : Unit → Kind
kind_by (Host capture phase params piece) = host_kind capture
kind_by (Dai capture format piece) = dai_kind capture format
kind_by (Volume gains ramp from done frames piece) = kinds.Volume
kind_by (Mixer piece) = kinds.Mixer
kind_by (Mux choice piece) = kinds.Mux
kind_by (Eq eq next remaining) = kinds.Eq
kind_by (Demux masks piece) = kinds.Demux
kind_by (Buffer size ring source sink) = kinds.Mixer
kind_by (Pipeline sched period complete piece) = kinds.Mixer

abbrev pub setting_by : Unit → Setting
setting_by (Volume gains ramp from done frames piece) = settings.Gains gains
setting_by (Mux choice piece) = settings.Choice choice
setting_by (Eq eq next remaining) = settings.Blob eq.blob
setting_by (Demux masks piece) = settings.Masks masks
setting_by unit = settings.Nothing

-- the milliseconds of a volume's ramp
abbrev pub ramp_by : Unit → ℕ
ramp_by (Volume gains ramp from done frames piece) = ramp
ramp_by unit = 0

abbrev pub comp_by : Component → Comp
comp_by c = record { id = c.id; kind = kind_by c.unit; pipe = c.pipe; setting = setting_by c.unit; ramp = ramp_by c.unit }

abbrev pub size_by : Unit → ℕ
size_by (Buffer size ring source sink) = size
size_by unit = 0

abbrev pub source_by : Unit → Option ℕ
source_by (Buffer size ring source sink) = source
source_by unit = None

abbrev pub sink_by : Unit → Option ℕ
sink_by (Buffer size ring source sink) = sink
sink_by unit = None

abbrev pub edge_by : Component → Edge
edge_by c = record { buffer = c.id; pipe = c.pipe; size = size_by c.unit; source = source_by c.unit; sink = sink_by c.unit }

abbrev pub sched_by : Unit → ℕ
sched_by (Pipeline sched period complete piece) = sched
sched_by unit = 0

abbrev pub period_by : Unit → ℕ
period_by (Pipeline sched period complete piece) = period
period_by unit = 0

abbrev pub complete_by : Unit → Bool
complete_by (Pipeline sched period complete piece) = complete
complete_by unit = false

abbrev pub pipe_by : Component → Pipe
pipe_by c = record { id = c.id; index = c.pipe; sched = sched_by c.unit; period = period_by c.unit; complete = complete_by c.unit }

-- ---- streams, rings, histories, staged bytes and pieces

abbrev pub with_stream_by : ℕ → Unit → List StreamView → List StreamView
with_stream_by id (Host capture phase params piece) streams = record { host = id; phase = phase; params = params } ∷ streams
with_stream_by id unit streams = streams

abbrev pub streams_by : List Component → List StreamView
streams_by [] = []
streams_by (c ∷ cs) = with_stream_by c.id c.unit (streams_by cs)

abbrev pub unit_frames : Unit → List (List ℤ)
unit_frames (Buffer size ring source sink) = ring.frames
unit_frames unit = []

-- how many frames it has room for
abbrev pub capacity_by : Unit → ℕ
capacity_by (Buffer size ring source sink) = capacity_of ring
capacity_by unit = 0

abbrev pub ring_by : Component → RingView
ring_by c = record { buffer = c.id; frames = unit_frames c.unit }

-- an equaliser's numbers; of a volume the gains from which its ramp goes, and then how far it is
abbrev pub numbers_by : Unit → ℕ → List ℤ
numbers_by (Eq eq next remaining) channels = numbers_of eq channels
numbers_by (Volume gains ramp from done frames piece) channels = map pos from ++ pos done ∷ []
numbers_by unit channels = []

-- what is staged of a blob whose last part did not come yet: a header, and 260 bytes a part
abbrev pub with_staging_by : ℕ → Unit → List Staging → List Staging
with_staging_by id (Eq eq next remaining) staging =
    if remaining == 0 then staging
    else record { eq = id; bytes = take (32 + 260 * next) (staged_of eq); next = next; remaining = remaining } ∷ staging
with_staging_by id unit staging = staging

abbrev pub staging_by : List Component → List Staging
staging_by [] = []
staging_by (c ∷ cs) = with_staging_by c.id c.unit (staging_by cs)

abbrev pub piece_by : Component → PieceView
piece_by c = record { id = c.id; place = (piece_of c.unit).place; size = (piece_of c.unit).size }

abbrev pub pieces_by : List Component → List PieceView
pieces_by [] = []
pieces_by (c ∷ cs) = placed (λ p. p.id) (piece_by c) (pieces_by cs)
