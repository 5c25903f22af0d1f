-- Which topology a table is the source of, and which entry of it is the first at fault.
use Rattle.std.specs.Prelude.{◌≡◌, ℕ, List, ◌∷◌, ◌++◌, length, Option, Some, None, IsSome}
use Rattle.toml.specs.Data.{Data, Members}
use Rattle.tplg_model.specs.declared.block.Topology.{Topology}
use Rattle.tplg_build.specs.declared.source.TopologySource.{TopologySource}
use Rattle.tplg_build.specs.TopologyForm.{topology_stated}
use Rattle.tplg_compile.specs.declared.source_fault.List.{List as SourceList}
use Rattle.tplg_compile.specs.declared.source_fault.List.TheVariants.{Top, Widget, Route, Pcm}
use Rattle.tplg_compile.specs.ValueForm.{in_table, each}
use Rattle.tplg_compile.specs.DocumentLists.{Lists, lists_of}
use Rattle.tplg_compile.specs.Entries.{stated_widget, stated_route, stated_pcm}

-- each entry states a widget, a route or a PCM, and the topology is the one that these state
pub record IsSourceOf (table : Members) (t : Topology) : Type 0 where
  pub lists : Lists
  pub source : TopologySource
  pub has_lists : lists_of table ≡ Some lists
  pub widgets : each (in_table stated_widget) lists.widgets ≡ Some source.widgets
  pub routes : each (in_table stated_route) lists.routes ≡ Some source.routes
  pub pcms : each (in_table stated_pcm) lists.pcms ≡ Some source.pcms
  pub built : t ≡ topology_stated source

-- all entries before this place are something, and the one there is nothing
pub record IsFirstMisfit {A : Type 0} (read : Data → Option A) (entries : List Data) (place : ℕ) : Type 0 where
  pub before : List Data
  pub entry : Data
  pub behind : List Data
  pub whole : entries ≡ before ++ entry ∷ behind
  pub count : place ≡ length before
  pub fit : IsSome (each read before)
  pub misfit : read entry ≡ None

-- the first entry at fault, in the order of widgets, routes and PCMs, stands in this list at this place
abbrev pub IsShapeFault : Members → SourceList → ℕ → Type 0
IsShapeFault table Top place = (lists_of table ≡ None) × (place ≡ 0)
IsShapeFault table Widget place = (lists : Lists) × ((lists_of table ≡ Some lists) × IsFirstMisfit (in_table stated_widget) lists.widgets place)
IsShapeFault table Route place =
    (lists : Lists) × ((lists_of table ≡ Some lists)
    × (IsSome (each (in_table stated_widget) lists.widgets) × IsFirstMisfit (in_table stated_route) lists.routes place))
IsShapeFault table Pcm place =
    (lists : Lists) × ((lists_of table ≡ Some lists)
    × (IsSome (each (in_table stated_widget) lists.widgets)
    × (IsSome (each (in_table stated_route) lists.routes) × IsFirstMisfit (in_table stated_pcm) lists.pcms place)))
