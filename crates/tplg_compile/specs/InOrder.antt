-- Reading a table from its first entry to its last, with the first fault that is met.
use Rattle.std.specs.Prelude.{ℕ, ◌+◌, List, [], ◌∷◌, if◌then◌else◌, Option, Some, None, Result, Ok, Err}
use Rattle.std.specs.Str.{is_utf8}
use Rattle.toml.specs.Data.{Data, Members}
use Rattle.toml.specs.Parse.{parse_document}
use Rattle.tplg_model.specs.declared.block.Topology.{Topology}
use Rattle.tplg_build.specs.declared.source.TopologySource.{TopologySource}
use Rattle.tplg_build.specs.TopologyForm.{topology_stated}
use Rattle.tplg_rules.specs.RuleTest.{ruling_of}
use Rattle.tplg_compile.specs.declared.source_fault.List.{List as SourceList}
use Rattle.tplg_compile.specs.declared.source_fault.List.TheVariants.{Top, Widget, Route, Pcm}
use Rattle.tplg_compile.specs.declared.source_fault.SourceFault.{SourceFault}
use Rattle.tplg_compile.specs.declared.source_fault.SourceFault.TheVariants.{Syntax, Shape, Rule, OutOfMemory}
use Rattle.tplg_compile.specs.declared.entry_fault.EntryFault.{EntryFault}
use Rattle.tplg_compile.specs.declared.entry_fault.EntryFault.TheVariants.{Misfit, OutOfMemory as NoRoom}
use Rattle.tplg_compile.specs.Results.{◌>>=◌, or_fault}
use Rattle.tplg_compile.specs.ValueForm.{in_table}
use Rattle.tplg_compile.specs.DocumentLists.{lists_of}
use Rattle.tplg_compile.specs.Entries.{stated_widget, stated_route, stated_pcm}

-- the fault of an entry at a place of a list; want of memory stays what it is
abbrev pub entry_fault_at : EntryFault → SourceList → ℕ → SourceFault
entry_fault_at Misfit list place = Shape list place
entry_fault_at NoRoom list place = OutOfMemory

-- what the entries of a list are, from a place on, or the first of them that is nothing
unfoldable pub entries_read : {A : Type 0} → SourceList → (Data → Option A) → ℕ → List Data → Result (List A) SourceFault
entries_read list read place [] = Ok []
entries_read list read place (d ∷ ds) = do
  first ← or_fault (Shape list place) (read d)
  more ← entries_read list read (place + 1) ds
  Ok (first ∷ more)

-- what a table states, or its first fault in the order of widgets, routes and PCMs
unfoldable pub source_of : Members → Result TopologySource SourceFault
source_of table = do
  lists ← or_fault (Shape Top 0) (lists_of table)
  widgets ← entries_read Widget (in_table stated_widget) 0 lists.widgets
  routes ← entries_read Route (in_table stated_route) 0 lists.routes
  pcms ← entries_read Pcm (in_table stated_pcm) 0 lists.pcms
  Ok (record { widgets = widgets; routes = routes; pcms = pcms })

-- ---- of bytes

-- the table that bytes are
abbrev pub table_of : List ℕ → Option Members
table_of text = if is_utf8 text then parse_document text else None

-- a topology keeps all rules, or the first that it breaks is its fault
abbrev pub checked_by_rules : Topology → Option (ℕ × ℕ) → Result Topology SourceFault
checked_by_rules t None = Ok t
checked_by_rules t (Some (rule, item)) = Err (Rule rule item)

-- the topology that bytes are the source of, or what is wrong with them
unfoldable pub compiled_of : List ℕ → Result Topology SourceFault
compiled_of text = do
  table ← or_fault Syntax (table_of text)
  source ← source_of table
  checked_by_rules (topology_stated source) (ruling_of (topology_stated source))
