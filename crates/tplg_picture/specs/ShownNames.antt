-- The names that a picture shows beside those of widgets: a PCM's at each host, and a control's at each component that has a live one.
use Rattle.std.specs.Prelude.{ℕ, List, [], map, Bool, Option, find, get_or, if◌then◌else◌}
use Rattle.std.specs.List.{flat_map}
use Rattle.std.specs.Option.{option_map_or}
use Rattle.std.specs.Str.{bytes_eq}
use Rattle.tplg_model.specs.declared.block.Block.{Block}
use Rattle.tplg_model.specs.declared.block.Topology.{Topology}
use Rattle.tplg_model.specs.declared.control.Control.{Control}
use Rattle.tplg_model.specs.declared.control.Control.TheVariants.{Mixer, Enum, Bytes}
use Rattle.tplg_model.specs.declared.pcm.Pcm.{Pcm}
use Rattle.tplg_widgets.specs.EntryValue.{EntryValue}
use Rattle.tplg_widgets.specs.Entries.{entries_of, interpreted}
use Rattle.tplg_widgets.specs.PcmList.{pcms_in}
use Rattle.tplg_picture.specs.declared.shown.ShownPcm.{ShownPcm}
use Rattle.tplg_picture.specs.declared.shown.Shown.{Shown}

-- ---- PCMs

-- a PCM's id and name, and the names of its two streams
abbrev pub shown_pcm : Pcm → ShownPcm
shown_pcm p = record { id = p.pcm_id; name = p.name; play = p.play.name; capture = p.cap.name }

abbrev pub shown_pcms_in : Block → List ShownPcm
shown_pcms_in b = map shown_pcm (pcms_in b.body)

-- in file order
abbrev pub shown_pcms_of : Topology → List ShownPcm
shown_pcms_of t = flat_map shown_pcms_in t.blocks

-- the name of the stream of a direction
abbrev pub stream_name : Bool → ShownPcm → List ℕ
stream_name capture p = if capture then p.capture else p.play

-- the stream of a direction has this name
abbrev pub has_stream : Bool → List ℕ → ShownPcm → Bool
has_stream capture name p = bytes_eq name (stream_name capture p)

-- the first PCM whose stream of a direction has this name
abbrev pub shown_pcm_with : List ShownPcm → Bool → List ℕ → Option ShownPcm
shown_pcm_with pcms capture name = find (has_stream capture name) pcms

-- ---- controls

abbrev pub control_name : Control → List ℕ
control_name (Mixer head min max platform_max invert num_channels channels private) = head.name
control_name (Enum head num_channels channels items mask count texts values private) = head.name
control_name (Bytes head max mask base num_regs ext_ops private) = head.name

-- the name of a widget's live control; no bytes where it has none
abbrev pub live_name : EntryValue → List ℕ
live_name e = option_map_or control_name e.control []

-- by the ids of components
abbrev pub live_names_of : Topology → List (List ℕ)
live_names_of t = map live_name (interpreted (entries_of t))

-- ---- both

abbrev pub shown_of : Topology → Shown
shown_of t = record { pcms = shown_pcms_of t; controls = live_names_of t }

-- the name of the live control of the component of an id; no bytes where there is none
abbrev pub live_name_at : Shown → ℕ → List ℕ
live_name_at shown id = get_or shown.controls id []
