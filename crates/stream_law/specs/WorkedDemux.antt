-- A demux to two DAIs, and to a DAI and a capture, for worked rows.
use Rattle.std.specs.Prelude.{ℕ, zero, suc, ◌+◌, ◌%◌, List, [], ◌∷◌, ◌++◌, filter, true, Some, None}
use Rattle.sof_base.specs.declared.format.Format.TheVariants.{S16, S32}
use Rattle.sof_base.specs.Ports.{Io, OutputView}
use Rattle.stream_law.specs.declared.graph.Kind.{Kind}
use Rattle.stream_law.specs.declared.graph.Kind.TheVariants.{HostPlay, HostCapture, DaiPlay, Demux}
use Rattle.stream_law.specs.declared.graph.Setting.TheVariants.{Nothing, Masks}
use Rattle.stream_law.specs.declared.graph.Graph.{Graph}
use Rattle.stream_law.specs.declared.stream.Phase.TheVariants.{Running, Paused}
use Rattle.stream_law.specs.declared.stream.StreamView.{StreamView}
use Rattle.stream_law.specs.State.{View}
use Rattle.stream_law.specs.Ways.{components, buffers, on_way}
use Rattle.stream_law.specs.WorkedGraphs.{Machine, machine_of, machine_now, after_ticks, worked_stream, idle_stream, empty_ring, repeated, view_with}

-- a host into a demux of these masks, out of it by one edge to a DAI and by another to a component of this kind
abbrev pub demux_graph : Kind → List ℕ → Graph
demux_graph second masks = record {
  comps =
      record { id = 0; kind = HostPlay; pipe = 1; setting = Nothing; ramp = 0 } ∷ record { id = 2; kind = Demux; pipe = 1; setting = Masks masks; ramp = 0 }
      ∷ record { id = 4; kind = DaiPlay S32; pipe = 1; setting = Nothing; ramp = 0 } ∷ record { id = 6; kind = second; pipe = 1; setting = Nothing; ramp = 0 } ∷ [];
  edges =
      record { buffer = 1; pipe = 1; size = 768; source = Some 0; sink = Some 2 } ∷ record { buffer = 3; pipe = 1; size = 768; source = Some 2; sink = Some 4 }
      ∷ record { buffer = 5; pipe = 1; size = 768; source = Some 2; sink = Some 6 } ∷ [];
  pipes = record { id = 7; index = 1; sched = 4; period = 1000; complete = true } ∷ [];
  joins =
      record { source = 0; sink = 1 } ∷ record { source = 1; sink = 2 } ∷ record { source = 2; sink = 3 } ∷ record { source = 3; sink = 4 }
      ∷ record { source = 2; sink = 5 } ∷ record { source = 5; sink = 6 } ∷ [];
}

-- the same before its second buffer is joined to the second component
abbrev pub half_demux_graph : Kind → List ℕ → Graph
half_demux_graph second masks = record (demux_graph second masks) {
  edges =
      record { buffer = 1; pipe = 1; size = 768; source = Some 0; sink = Some 2 } ∷ record { buffer = 3; pipe = 1; size = 768; source = Some 2; sink = Some 4 }
      ∷ record { buffer = 5; pipe = 1; size = 768; source = Some 2; sink = None } ∷ [];
  joins =
      record { source = 0; sink = 1 } ∷ record { source = 1; sink = 2 } ∷ record { source = 2; sink = 3 } ∷ record { source = 3; sink = 4 }
      ∷ record { source = 2; sink = 5 } ∷ [];
}

-- those ids that are on the way of a host's stream
abbrev pub way_of : Graph → ℕ → List ℕ
way_of g host = filter (on_way g host) (components g ++ buffers g)

-- the eight masks of a demux that lets everything through
abbrev pub all_masks : List ℕ
all_masks = 255 ∷ 255 ∷ 255 ∷ 255 ∷ 255 ∷ 255 ∷ 255 ∷ 255 ∷ []

-- an input for the host, and an output each for the two ends
abbrev pub demux_ends : List ℕ → Io
demux_ends bytes = record { inputs = record { slot = 0; position = 0; left = bytes; ended = true } ∷ []; outputs = record { slot = 4; bytes = [] } ∷ record { slot = 6; bytes = [] } ∷ [] }

-- the outputs after a tick to two DAIs at 48000 frames a second of two channels, each by its mask, of samples 32767
abbrev pub demux_run : List OutputView
demux_run = (after_ticks 1 (machine_of (demux_graph (DaiPlay S32) (1 ∷ 2 ∷ 255 ∷ 255 ∷ 255 ∷ 255 ∷ 255 ∷ 255 ∷ [])) (worked_stream 0 Running 48000 2 S16 ∷ []) (empty_ring 1 ∷ empty_ring 3 ∷ empty_ring 5 ∷ []) (demux_ends (repeated 96 (255 ∷ 127 ∷ []))))).io.outputs

-- the streams of the graph with a capture: the host plays, and the capture's is as given
abbrev pub echo_view : StreamView → View
echo_view capture = view_with (demux_graph HostCapture all_masks) (worked_stream 0 Running 48000 2 S16 ∷ capture ∷ [])

-- the capture starts after three ticks, at 48000 frames a second of two channels
abbrev pub echo_started : List ℕ → Machine
echo_started bytes =
    let three = after_ticks 3 (machine_of (demux_graph HostCapture all_masks) (worked_stream 0 Running 48000 2 S16 ∷ idle_stream 6 ∷ []) (empty_ring 1 ∷ empty_ring 3 ∷ empty_ring 5 ∷ []) (demux_ends bytes)) in
    machine_now (echo_view (worked_stream 6 Running 48000 2 S16)) None three

-- it is paused after two ticks, for a tick
abbrev pub echo_paused : List ℕ → Machine
echo_paused bytes = after_ticks 1 (machine_now (echo_view (worked_stream 6 Paused 48000 2 S16)) None (after_ticks 2 (echo_started bytes)))

-- the bytes of n frames of two samples, which count up from k and begin anew after 249
abbrev pub rising_bytes : ℕ → ℕ → List ℕ
rising_bytes k zero = []
rising_bytes k (suc n) = k % 250 ∷ 0 ∷ k % 250 ∷ 1 ∷ rising_bytes (k + 1) n
