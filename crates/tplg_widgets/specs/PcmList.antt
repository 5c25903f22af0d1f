-- The PCMs of a topology in file order, by what each can do.
use Rattle.std.specs.Prelude.{ℕ, List, [], map, Bool, Option, find, if◌then◌else◌}
use Rattle.std.specs.Option.{option_map}
use Rattle.std.specs.List.{flat_map}
use Rattle.std.specs.Str.{bytes_eq}
use Rattle.tplg_model.specs.declared.pcm.Caps.{Caps}
use Rattle.tplg_model.specs.declared.pcm.Pcm.{Pcm}
use Rattle.tplg_model.specs.declared.block.Block.{Block}
use Rattle.tplg_model.specs.declared.block.Body.{Body}
use Rattle.tplg_model.specs.declared.block.Body.TheVariants.{Pcms}
use Rattle.tplg_model.specs.declared.block.Topology.{Topology}
use Rattle.tplg_widgets.specs.declared.pcm_caps.PcmCaps.{PcmCaps}

-- the caps of playback and of capture
abbrev pub both_caps : Pcm → PcmCaps
both_caps p = record { play = p.play; capture = p.cap }

-- a block's PCMs
abbrev pub pcms_in : Body → List Pcm
pcms_in (Pcms ps) = ps
pcms_in _ = []

abbrev pub caps_in : Block → List PcmCaps
caps_in b = map both_caps (pcms_in b.body)

-- the PCMs in file order
abbrev pub pcms_of : Topology → List PcmCaps
pcms_of t = flat_map caps_in t.blocks

-- the caps of a direction
abbrev pub caps_of_side : Bool → PcmCaps → Caps
caps_of_side capture p = if capture then p.capture else p.play

-- the caps of a direction have this name
abbrev pub is_side_of : Bool → List ℕ → PcmCaps → Bool
is_side_of capture name p = bytes_eq name (caps_of_side capture p).name

-- the caps of the first PCM whose caps of this direction have this name
abbrev pub caps_named : List PcmCaps → Bool → List ℕ → Option Caps
caps_named pcms capture name = option_map (caps_of_side capture) (find (is_side_of capture name) pcms)
