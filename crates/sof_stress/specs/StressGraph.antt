-- The topology of a stress: streams with a volume each, mixed into one equaliser and one DAI.
use Rattle.std.specs.Prelude.{ℕ, ◌+◌, ◌*◌, List, [], ◌∷◌, ◌++◌, pos, negsuc, map, codes, Some, None}
use Rattle.std.specs.List.{flat_map, range_with_len}
use Rattle.tplg_model.specs.declared.token_number.TheConstants.{BUFFER_SIZE, SCHED_PERIOD, COMP_FORMAT, PROCESS_TYPE}
use Rattle.tplg_model.specs.declared.block.Topology.{Topology}
use Rattle.tplg_build.specs.declared.source.WidgetKind.{WidgetKind}
use Rattle.tplg_build.specs.declared.source.WidgetKind.TheVariants as kind
use Rattle.tplg_build.specs.declared.source.SourceControl.{SourceControl}
use Rattle.tplg_build.specs.declared.source.SourceControl.TheVariants.{Volume, Blob}
use Rattle.tplg_build.specs.declared.source.SourceWidget.{SourceWidget}
use Rattle.tplg_build.specs.declared.source.SourceRoute.{SourceRoute}
use Rattle.tplg_build.specs.declared.source.PcmLimits.{PcmLimits}
use Rattle.tplg_build.specs.declared.source.SourcePcm.{SourcePcm}
use Rattle.tplg_build.specs.declared.source.TopologySource.{TopologySource}
use Rattle.tplg_build.specs.WidgetForm.{text_tuple}
use Rattle.tplg_build.specs.TopologyForm.{topology_stated}
use Rattle.sof_stress.specs.Draws.{numbered_name, host_name, volume_name}

-- ---- widgets

-- a widget of these names, in a pipeline, without tokens and controls
abbrev pub plain_widget : WidgetKind → List ℕ → List ℕ → ℕ → SourceWidget
plain_widget kind name sname index = record { kind = kind; name = name; sname = sname; index = index; numbers = []; texts = []; controls = [] }

-- with the number of one token
abbrev pub with_number : ℕ → ℕ → SourceWidget → SourceWidget
with_number token value w = record w { numbers = record { token = token; value = value } ∷ [] }

-- with the text of one token
abbrev pub with_text : ℕ → List ℕ → SourceWidget → SourceWidget
with_text token text w = record w { texts = text_tuple token text ∷ [] }

-- with one control
abbrev pub widget_with_control : SourceControl → SourceWidget → SourceWidget
widget_with_control control w = record w { controls = control ∷ [] }

-- a buffer of so many bytes
abbrev pub buffer : List ℕ → ℕ → ℕ → SourceWidget
buffer name bytes index = with_number BUFFER_SIZE bytes (plain_widget kind.Buffer name [] index)

-- a pipeline, scheduled by the widget of a stream's name, with a period in µs
abbrev pub scheduler : List ℕ → List ℕ → ℕ → ℕ → SourceWidget
scheduler name sched period index = with_number SCHED_PERIOD period (plain_widget kind.Scheduler name sched index)

-- a volume in a pipeline: two channels, 33 steps from -64 dB on, 2 dB each, the least of them silent
abbrev pub volume : List ℕ → ℕ → SourceWidget
volume name index = widget_with_control (Volume (codes "Master") 2 (pos 0) (pos 32) (negsuc 6399) 200 1) (plain_widget kind.Pga name [] index)

-- ---- routes

-- from each of these names to the next
abbrev pub along : List (List ℕ) → List SourceRoute
along (source ∷ sink ∷ names) = record { source = source; sink = sink } ∷ along (sink ∷ names)
along _ = []

-- ---- a stream

-- a host, a buffer, a volume, a buffer, and the pipeline of all five, whose period grows by 1000 µs from stream to stream
abbrev pub stream_widgets : ℕ → List SourceWidget
stream_widgets i =
    plain_widget kind.AifIn (host_name i) (numbered_name (codes "S") i) (i + 1)
    ∷ buffer (numbered_name (codes "A") i) 1536 (i + 1)
    ∷ volume (volume_name i) (i + 1)
    ∷ buffer (numbered_name (codes "C") i) 1536 (i + 1)
    ∷ scheduler (numbered_name (codes "PIPE") i) (host_name i) (1000 * (i + 1)) (i + 1)
    ∷ []

-- along the stream, to the mixer
abbrev pub stream_routes : ℕ → List SourceRoute
stream_routes i = along (host_name i ∷ numbered_name (codes "A") i ∷ volume_name i ∷ numbered_name (codes "C") i ∷ codes "MIX" ∷ [])

-- 16, 24 and 32 bits a sample, 8000 to 192000 frames a second, one to eight channels
abbrev pub host_limits : PcmLimits
host_limits = record { formats = 1092; rate_min = 8000; rate_max = 192000; channels_min = 1; channels_max = 8 }

abbrev pub stream_pcm : ℕ → SourcePcm
stream_pcm i = record { name = numbered_name (codes "PCM") i; id = i; limits = host_limits; playback = Some (numbered_name (codes "S") i); capture = None }

-- ---- what the streams are mixed into

-- its blob has at most 1024 bytes, and none at first
abbrev pub equaliser : SourceWidget
equaliser = widget_with_control (Blob (codes "Eq") 1024 []) (with_text PROCESS_TYPE (codes "EQIIR") (plain_widget kind.Effect (codes "EQ0") [] 100))

-- its samples have 32 bits
abbrev pub dai : SourceWidget
dai = with_text COMP_FORMAT (codes "s32le") (plain_widget kind.DaiOut (codes "DAI0") [] 100)

abbrev pub mixed_widgets : List SourceWidget
mixed_widgets =
    plain_widget kind.Mixer (codes "MIX") [] 100 ∷ buffer (codes "D0") 768 100 ∷ equaliser
    ∷ buffer (codes "D1") 768 100 ∷ dai ∷ scheduler (codes "PIPEM") (codes "DAI0") 1000 100 ∷ []

-- ---- all of it

-- over so many streams
abbrev pub stress_source : ℕ → TopologySource
stress_source streams = record {
  widgets = flat_map stream_widgets (range_with_len 0 streams) ++ mixed_widgets;
  routes = flat_map stream_routes (range_with_len 0 streams) ++ along (codes "MIX" ∷ codes "D0" ∷ codes "EQ0" ∷ codes "D1" ∷ codes "DAI0" ∷ []);
  pcms = map stream_pcm (range_with_len 0 streams);
}

unfoldable pub stress_topology : ℕ → Topology
stress_topology streams = topology_stated (stress_source streams)
