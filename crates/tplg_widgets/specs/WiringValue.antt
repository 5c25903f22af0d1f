-- What the rules and the plan are read off: the widgets, the PCMs, what the routes' ends name, and the real routes.
use Rattle.std.specs.Prelude.{List}
use Rattle.stream_law.specs.declared.graph.Join.{Join}
use Rattle.tplg_model.specs.declared.block.Topology.{Topology}
use Rattle.tplg_widgets.specs.EntryValue.{EntryValue}
use Rattle.tplg_widgets.specs.declared.pcm_caps.PcmCaps.{PcmCaps}
use Rattle.tplg_widgets.specs.declared.route_end.Ends.{Ends}
use Rattle.tplg_widgets.specs.Entries.{entries_of}
use Rattle.tplg_widgets.specs.Ends.{ends_in}
use Rattle.tplg_widgets.specs.PcmList.{pcms_of}
use Rattle.tplg_widgets.specs.Ends.{joins_of}

pub record WiringValue : Type 0 where
  pub widgets : List EntryValue
  pub pcms : List PcmCaps
  pub ends : List Ends
  pub joins : List Join

-- a topology's
abbrev pub wiring_of : Topology → WiringValue
wiring_of t = record { widgets = entries_of t; pcms = pcms_of t; ends = ends_in t; joins = joins_of t }
