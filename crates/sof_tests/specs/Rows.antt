-- The thin graph as a topology, and what the written run says over it.
use Rattle.std.specs.Prelude.{ℕ, List, [], ◌∷◌, ◌++◌, codes, map, replicate}
use Rattle.std.specs.List.{concat}
use Rattle.stream_law.specs.Past.{Moment}
use Rattle.mbox_link.specs.CalmDevice.{calm}
use Rattle.tplg_plan.specs.declared.plans.Plan.{Plan}
use Rattle.tplg_model.specs.declared.tokens.TokenArray.{TokenArray}
use Rattle.tplg_model.specs.declared.tokens.TokenArray.TheVariants.{Number, Text}
use Rattle.tplg_model.specs.declared.widget.Widget.{Widget}
use Rattle.tplg_model.specs.declared.pcm.Caps.{Caps}
use Rattle.tplg_model.specs.declared.pcm.StreamRecord.{StreamRecord}
use Rattle.tplg_model.specs.declared.pcm.Pcm.{Pcm}
use Rattle.tplg_model.specs.declared.block.Body.{Body}
use Rattle.tplg_model.specs.declared.block.Body.TheVariants.{Widgets, Routes, Pcms}
use Rattle.tplg_model.specs.declared.block.Topology.{Topology}
use Rattle.tplg_model.specs.declared.block.Route.{Route}
use Rattle.tplg_model.specs.Spelling.{BlockValue}
use Rattle.tplg_graph.specs.PlanOf.{plan_of}
use Rattle.sof_script.specs.declared.script.Command.TheVariants.{Load, Show}
use Rattle.sof_script.specs.ScriptRead.{numbered_from}
use Rattle.sof_script.specs.declared.script.Numbered.{Numbered}
use Rattle.host_widgets.specs.declared.kept.Record.{Record}
use Rattle.sof_session.specs.Commands.{Known, first_known, next, command_rules}
use Rattle.sof_session.specs.Show.{shown_by}
use Rattle.sof_session.specs.Written.{boots_in}
use Rattle.run_desk.specs.Lines.{with_newline}
use Rattle.run_play.specs.LineParts.{spoken}

-- one number
abbrev pub number : ℕ → ℕ → TokenArray
number token value = Number (record { kind = 4; items = record { token = token; value = value } ∷ [] })

-- a widget of a name and a stream's name
abbrev pub widget : ℕ → List ℕ → List ℕ → List TokenArray → Widget
widget id name sname tokens = record { id = id; name = name; sname = sname; words = replicate 6 0; event_flags = 0; event_type = 0; tokens = tokens; controls = [] }

-- a block of these records
abbrev pub block : Body → BlockValue
block body = record { version = 0; vendor_type = 0; index = 1; body = body }

-- a route
abbrev pub route : List ℕ → List ℕ → Route
route sink source = record { sink = sink; control = []; source = source }

-- what a direction can do, and nothing
abbrev pub bare_caps : List ℕ → Caps
bare_caps name = record { name = name; formats = 0; rates = 0; rate_min = 0; rate_max = 0; channels_min = 0; channels_max = 0; periods_min = 0; periods_max = 0; period_size_min = 0; period_size_max = 0; buffer_size_min = 0; buffer_size_max = 0; sig_bits = 0 }

abbrev pub some_caps : List ℕ → Caps
some_caps name = record { name = name; formats = 1092; rates = 0; rate_min = 8000; rate_max = 192000; channels_min = 1; channels_max = 8; periods_min = 0; periods_max = 0; period_size_min = 0; period_size_max = 0; buffer_size_min = 0; buffer_size_max = 0; sig_bits = 0 }

-- a stream record of zeros
abbrev pub zero_stream : StreamRecord
zero_stream = record { name = []; format = 0; rate = 0; period_bytes = 0; buffer_bytes = 0; channels = 0 }

-- a PCM that plays
abbrev pub pcm : List ℕ → List ℕ → Pcm
pcm name play = record { name = name; dai_name = name; pcm_id = 0; dai_id = 0; playback = 1; capture = 0; compress = 0; streams = replicate 8 zero_stream; num_streams = 0; play = some_caps play; cap = bare_caps []; flag_mask = 0; flags = 0; private = [] }

-- a host, a buffer of 768 bytes, a DAI of s32, a pipeline of 1000 µs, two routes and a PCM
abbrev pub thin_topology : Topology
thin_topology = record {
  blocks =
      block (Widgets (widget 11 (codes "PCM0P") (codes "P0") [] ∷ []))
      ∷ block (Widgets (widget 16 (codes "B0") [] (number 100 768 ∷ []) ∷ []))
      ∷ block (Widgets (widget 14 (codes "DAI0") [] (Text (record { token = 402; bytes = codes "s32le" ++ replicate 39 0 } ∷ []) ∷ []) ∷ []))
      ∷ block (Widgets (widget 17 (codes "PIPE1") (codes "DAI0") (number 200 1000 ∷ []) ∷ []))
      ∷ block (Routes (route (codes "B0") (codes "PCM0P") ∷ route (codes "DAI0") (codes "B0") ∷ []))
      ∷ block (Pcms (pcm (codes "Main") (codes "P0") ∷ [])) ∷ [];
}

-- the lines of numbered commands, one after another, over a device that does nothing of its own accord
abbrev pub said_from : Plan → ℕ → Known Record → List Numbered → List (List ℕ)
said_from plan heap known [] = []
said_from plan heap known (numbered ∷ commands) =
    let c = next (command_rules plan heap) calm known numbered.command in
    spoken numbered.line (record { answer = c.answer; shown = shown_by numbered.command plan known.kept; written = [] }) ++ said_from plan heap c.known commands

-- their moments
abbrev pub moments_from : Plan → ℕ → Known Record → List Numbered → List Moment
moments_from plan heap known [] = []
moments_from plan heap known (numbered ∷ commands) = let c = next (command_rules plan heap) calm known numbered.command in c.moments ++ moments_from plan heap c.known commands

abbrev pub load_and_show : List Numbered
load_and_show = numbered_from 1 (Load ∷ Show ∷ [])

-- what a run of `load` and `show` says, with a heap of so many bytes
abbrev pub load_said : ℕ → List ℕ
load_said heap = concat (map with_newline (said_from (plan_of thin_topology) heap (first_known (command_rules (plan_of thin_topology) heap)) load_and_show))

-- how often the device is booted by it
abbrev pub boots_of : ℕ → ℕ
boots_of heap = boots_in (moments_from (plan_of thin_topology) heap (first_known (command_rules (plan_of thin_topology) heap)) load_and_show)
