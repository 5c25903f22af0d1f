-- What `check` says of the thin graph and of an empty file, a graph with a cycle, and two of which one has an echo edge.
use Rattle.std.specs.Prelude.{ℕ, List, [], ◌∷◌, ◌++◌, codes, map, replicate}
use Rattle.std.specs.List.{concat}
use Rattle.tplg_model.specs.declared.block.Body.TheVariants.{Widgets, Routes, Pcms}
use Rattle.tplg_model.specs.declared.tokens.TokenArray.{TokenArray}
use Rattle.tplg_model.specs.declared.tokens.TokenArray.TheVariants.{Text}
use Rattle.tplg_model.specs.declared.pcm.Pcm.{Pcm}
use Rattle.tplg_model.specs.declared.block.Topology.{Topology}
use Rattle.run_desk.specs.Lines.{with_newline}
use Rattle.run_tools.specs.Checking.{counts_of}
use Rattle.sof_tests.specs.Rows.{number, widget, block, route, bare_caps, some_caps, zero_stream, pcm}

-- no blocks
abbrev pub empty_topology : Topology
empty_topology = record { blocks = [] }

-- a volume that feeds itself through a buffer
abbrev pub cycle_topology : Topology
cycle_topology = record {
  blocks =
      block (Widgets (widget 4 (codes "VOL") [] [] ∷ []))
      ∷ block (Widgets (widget 16 (codes "BUF") [] (number 100 64 ∷ []) ∷ []))
      ∷ block (Widgets (widget 17 (codes "SCHED") (codes "VOL") (number 200 1000 ∷ []) ∷ []))
      ∷ block (Routes (route (codes "BUF") (codes "VOL") ∷ route (codes "VOL") (codes "BUF") ∷ [])) ∷ [];
}

-- a text of 44 bytes
abbrev pub text_token : ℕ → List ℕ → ℕ → TokenArray
text_token token text zeros = Text (record { token = token; bytes = text ++ replicate zeros 0 } ∷ [])

-- a PCM that captures
abbrev pub capture_pcm : List ℕ → List ℕ → Pcm
capture_pcm name cap = record { name = name; dai_name = name; pcm_id = 1; dai_id = 1; playback = 0; capture = 1; compress = 0; streams = replicate 8 zero_stream; num_streams = 0; play = bare_caps []; cap = some_caps cap; flag_mask = 0; flags = 0; private = [] }

-- a demux between a playback's host, a DAI and a capture's host: its edge into the capture is an echo edge
abbrev pub echo_topology : Topology
echo_topology = record {
  blocks =
      block (Widgets (widget 11 (codes "P") (codes "P0") [] ∷ []))
      ∷ block (Widgets (widget 16 (codes "B0") [] (number 100 768 ∷ []) ∷ []))
      ∷ block (Widgets (widget 18 (codes "DM") [] (text_token 900 (codes "DEMUX") 39 ∷ []) ∷ []))
      ∷ block (Widgets (widget 16 (codes "BX") [] (number 100 768 ∷ []) ∷ []))
      ∷ block (Widgets (widget 14 (codes "D") [] (text_token 402 (codes "s32le") 39 ∷ []) ∷ []))
      ∷ block (Widgets (widget 16 (codes "BY") [] (number 100 768 ∷ []) ∷ []))
      ∷ block (Widgets (widget 12 (codes "C") (codes "C0") [] ∷ []))
      ∷ block (Widgets (widget 17 (codes "S") (codes "D") (number 200 1000 ∷ []) ∷ []))
      ∷ block (Routes (
      route (codes "B0") (codes "P") ∷ route (codes "DM") (codes "B0") ∷ route (codes "BX") (codes "DM") ∷ route (codes "D") (codes "BX")
      ∷ route (codes "BY") (codes "DM") ∷ route (codes "C") (codes "BY") ∷ []))
      ∷ block (Pcms (pcm (codes "M") (codes "P0") ∷ []))
      ∷ block (Pcms (capture_pcm (codes "E") (codes "C0") ∷ [])) ∷ [];
}

-- the same without the DAI, which the demux then does not reach: its edge is no echo edge
abbrev pub crossing_topology : Topology
crossing_topology = record {
  blocks =
      block (Widgets (widget 11 (codes "P") (codes "P0") [] ∷ []))
      ∷ block (Widgets (widget 16 (codes "B0") [] (number 100 768 ∷ []) ∷ []))
      ∷ block (Widgets (widget 18 (codes "DM") [] (text_token 900 (codes "DEMUX") 39 ∷ []) ∷ []))
      ∷ block (Widgets (widget 16 (codes "BY") [] (number 100 768 ∷ []) ∷ []))
      ∷ block (Widgets (widget 12 (codes "C") (codes "C0") [] ∷ []))
      ∷ block (Widgets (widget 17 (codes "S") (codes "P") (number 200 1000 ∷ []) ∷ []))
      ∷ block (Routes (
      route (codes "B0") (codes "P") ∷ route (codes "DM") (codes "B0") ∷ route (codes "BY") (codes "DM") ∷ route (codes "C") (codes "BY") ∷ []))
      ∷ block (Pcms (pcm (codes "M") (codes "P0") ∷ []))
      ∷ block (Pcms (capture_pcm (codes "E") (codes "C0") ∷ [])) ∷ [];
}

-- the lines of a right topology, joined
abbrev pub counts_said : Topology → List ℕ
counts_said t = concat (map with_newline (counts_of t))
