-- The rows of COMP_NEW, BUFFER_NEW and PIPE_NEW.
use Rattle.std.specs.Prelude.{ℕ, ◌||◌, false, not, List, [], length, replicate, None, Result, Ok, Err, ℤ, nat_le, ◌==◌, if◌then◌else◌}
use Rattle.sof_base.specs.declared.format.Format.{Format}
use Rattle.sof_base.specs.declared.format.Format.TheVariants.{S16, S24, S32}
use Rattle.sof_base.specs.Ramps.{ramp_of}
use Rattle.stream_law.specs.declared.graph.Kind.{Kind}
use Rattle.stream_law.specs.declared.graph.Kind.TheVariants.{HostPlay, HostCapture, DaiPlay, DaiCapture, Volume, Mixer, Mux, Eq, Demux}
use Rattle.stream_law.specs.declared.graph.Setting.{Setting}
use Rattle.stream_law.specs.declared.graph.Setting.TheVariants.{Nothing, Gains, Choice, Blob, Masks}
use Rattle.stream_law.specs.declared.graph.Comp.{Comp}
use Rattle.stream_law.specs.declared.graph.Edge.{Edge}
use Rattle.stream_law.specs.declared.graph.Pipe.{Pipe}
use Rattle.stream_law.specs.declared.graph.Graph.{Graph}
use Rattle.stream_law.specs.declared.stream.StreamView.{StreamView}
use Rattle.stream_law.specs.declared.stream.Phase.TheVariants.{Idle}
use Rattle.stream_law.specs.State.{FwState}
use Rattle.stream_law.specs.Ways.{is_complete}
use Rattle.stream_law.specs.Placed.{placed}
use Rattle.ipc3_model.specs.declared.message.CompWords.{CompWords}
use Rattle.ipc3_model.specs.declared.message.CompWords.TheVariants as words
use Rattle.mbox_link.specs.ErrorNumbers.{no_memory, busy}
use Rattle.mbox_link.specs.NamedIds.{is_used, has_index}
use Rattle.stream_law.specs.Sizes.{comp_bytes, buffer_bytes, pipe_bytes}
use Rattle.mbox_link.specs.HeapPieces.{has_hole, heap_with_piece}

-- ---- COMP_NEW

-- a frame format's number: 0, 1, and 2 for the rest
abbrev pub sample_format : ℕ → Format
sample_format n = if n == 0 then S16 else if n == 1 then S24 else S32

abbrev pub kind_of : CompWords → ℕ → Kind
kind_of (words.Host direction) frame_fmt = if direction == 0 then HostPlay else HostCapture
kind_of (words.Dai direction index) frame_fmt = if direction == 0 then DaiPlay (sample_format frame_fmt) else DaiCapture (sample_format frame_fmt)
kind_of (words.Volume channels min_value max_value ramp initial_ramp) frame_fmt = Volume
kind_of words.Mixer frame_fmt = Mixer
kind_of words.Mux frame_fmt = Mux
kind_of words.Eq frame_fmt = Eq
kind_of words.Demux frame_fmt = Demux

-- what is set at a new component: each gain of a volume is 1, a mux chooses its first input, no blob is in force, and a demux lets
-- all channels through to each output
abbrev pub first_setting : CompWords → Setting
first_setting (words.Volume channels min_value max_value ramp initial_ramp) = Gains (replicate channels 65536)
first_setting words.Mux = Choice 0
first_setting words.Eq = Blob []
first_setting words.Demux = Masks (replicate 8 255)
first_setting kind = Nothing

-- the milliseconds of a new volume's ramp, 0 for another component
abbrev pub first_ramp : CompWords → ℕ
first_ramp (words.Volume channels min_value max_value ramp initial_ramp) = ramp_of ramp initial_ramp
first_ramp kind = 0

-- a host brings a stream without parameters
abbrev pub with_host_stream : ℕ → Kind → List StreamView → List StreamView
with_host_stream id HostPlay streams = placed (λ s. s.host) (record { host = id; phase = Idle; params = None }) streams
with_host_stream id HostCapture streams = placed (λ s. s.host) (record { host = id; phase = Idle; params = None }) streams
with_host_stream id kind streams = streams

abbrev pub with_comps : List Comp → Graph → Graph
with_comps comps g = record { comps = comps; edges = g.edges; pipes = g.pipes; joins = g.joins }

abbrev pub with_comp : ℕ → ℕ → Kind → Setting → ℕ → FwState → FwState
with_comp id pipe kind setting ramp f = record f {
  heap = heap_with_piece id (comp_bytes kind) f.heap;
  graph = with_comps (placed (λ c. c.id) (record { id = id; kind = kind; pipe = pipe; setting = setting; ramp = ramp }) f.graph.comps) f.graph;
  streams = with_host_stream id kind f.streams;
}

abbrev pub comp_new : FwState → ℕ → ℕ → Kind → Setting → ℕ → Result FwState ℤ
comp_new f id pipe kind setting ramp =
    if is_used f.graph id || is_complete f.graph pipe then Err busy
    else if nat_le 128 (length f.graph.comps) || not (has_hole f (comp_bytes kind)) then Err no_memory
    else Ok (with_comp id pipe kind setting ramp f)

-- ---- BUFFER_NEW: the buffer is joined to nothing, and its ring is empty

abbrev pub with_edges : List Edge → Graph → Graph
with_edges edges g = record { comps = g.comps; edges = edges; pipes = g.pipes; joins = g.joins }

abbrev pub with_buffer : ℕ → ℕ → ℕ → FwState → FwState
with_buffer id pipe size f = record f {
  heap = heap_with_piece id (buffer_bytes size) f.heap;
  graph = with_edges (placed (λ e. e.buffer) (record { buffer = id; pipe = pipe; size = size; source = None; sink = None }) f.graph.edges) f.graph;
  rings = placed (λ r. r.buffer) (record { buffer = id; frames = [] }) f.rings;
}

abbrev pub buffer_new : FwState → ℕ → ℕ → ℕ → Result FwState ℤ
buffer_new f id pipe size =
    if is_used f.graph id || is_complete f.graph pipe then Err busy
    else if nat_le 128 (length f.graph.edges) || not (has_hole f (buffer_bytes size)) then Err no_memory
    else Ok (with_buffer id pipe size f)

-- ---- PIPE_NEW: the pipeline is not complete

abbrev pub with_pipes : List Pipe → Graph → Graph
with_pipes pipes g = record { comps = g.comps; edges = g.edges; pipes = pipes; joins = g.joins }

abbrev pub with_pipe : ℕ → ℕ → ℕ → ℕ → FwState → FwState
with_pipe id index sched period f = record f {
  heap = heap_with_piece id pipe_bytes f.heap;
  graph = with_pipes (placed (λ p. p.id) (record { id = id; index = index; sched = sched; period = period; complete = false }) f.graph.pipes) f.graph;
}

abbrev pub pipe_new : FwState → ℕ → ℕ → ℕ → ℕ → Result FwState ℤ
pipe_new f id index sched period =
    if is_used f.graph id || has_index f.graph index then Err busy
    else if nat_le 32 (length f.graph.pipes) || not (has_hole f pipe_bytes) then Err no_memory
    else Ok (with_pipe id index sched period f)
