-- The topology that a source states: the blocks of its widgets, of its routes and of its PCMs, in this order.
use Rattle.std.specs.Prelude.{ℕ, List, [], ◌∷◌, ◌++◌, map}
use Rattle.tplg_model.specs.declared.block.Body.{Body}
use Rattle.tplg_model.specs.declared.block.Body.TheVariants.{Widgets, Routes, Pcms}
use Rattle.tplg_model.specs.declared.block.Topology.{Topology}
use Rattle.tplg_model.specs.Spelling.{BlockValue}
use Rattle.tplg_build.specs.declared.source.TopologySource.{TopologySource}
use Rattle.tplg_build.specs.declared.source.SourceWidget.{SourceWidget}
use Rattle.tplg_build.specs.declared.source.SourceRoute.{SourceRoute}
use Rattle.tplg_build.specs.declared.source.SourcePcm.{SourcePcm}
use Rattle.tplg_build.specs.WidgetForm.{one_of_all, widget_of}
use Rattle.tplg_build.specs.PcmForm.{route_of, pcm_of}

-- a block's version and its vendor's type are 0
abbrev pub block_of : ℕ → Body → BlockValue
block_of index body = record { version = 0; vendor_type = 0; index = index; body = body }

-- each widget is a block of one record, with its index
abbrev pub widget_block : SourceWidget → BlockValue
widget_block w = block_of w.index (Widgets (widget_of w ∷ []))

-- all routes are one block with index 0, where there is a route
abbrev pub route_blocks : List SourceRoute → List BlockValue
route_blocks rs = one_of_all (λ some. block_of 0 (Routes (map route_of some))) rs

-- each PCM is a block of one record, with index 0
abbrev pub pcm_block : SourcePcm → BlockValue
pcm_block p = block_of 0 (Pcms (pcm_of p ∷ []))

abbrev pub topology_stated : TopologySource → Topology
topology_stated s = record { blocks = map widget_block s.widgets ++ (route_blocks s.routes ++ map pcm_block s.pcms) }
