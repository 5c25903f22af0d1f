-- Which sources are within the limits of the builder: the bytes of each of their blocks fit their word.
use Rattle.std.specs.Prelude.{Bool, true, ◌&&◌, nat_le, length}
use Rattle.std.specs.List.{list_all}
use Rattle.tplg_build.specs.declared.source.SourceControl.{SourceControl}
use Rattle.tplg_build.specs.declared.source.SourceControl.TheVariants.{Volume, Choice, Blob}
use Rattle.tplg_build.specs.declared.source.SourceWidget.{SourceWidget}
use Rattle.tplg_build.specs.declared.source.TopologySource.{TopologySource}

-- a blob is of at most 4 million bytes
abbrev pub is_small_control : SourceControl → Bool
is_small_control (Volume name channels min max tlv_min tlv_step tlv_mute) = true
is_small_control (Choice name items) = true
is_small_control (Blob name max blob) = nat_le (length blob) 4000000

-- a widget has at most a million tokens with numbers, a million with texts, and 1000 small controls
unfoldable pub is_small_widget : SourceWidget → Bool
is_small_widget w = ((nat_le (length w.numbers) 1000000 && nat_le (length w.texts) 1000000) && nat_le (length w.controls) 1000) && list_all is_small_control w.controls

-- there are small widgets, which a word can number, and at most 32 million routes
unfoldable pub is_small_source : TopologySource → Bool
is_small_source s = (list_all is_small_widget s.widgets && nat_le (length s.widgets) 4294967295) && nat_le (length s.routes) 32000000
